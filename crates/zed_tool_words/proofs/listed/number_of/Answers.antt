use Rattle.zed_tool_words.proofs.Numbers.{no_number_read, number_read}
use Rattle.zed_tool_words.proofs.listed.number_of.Goals as goal

pub returns-in-Ok : goal.returns-in-Ok
returns-in-Ok c = number_read 16 c.args.word.now c.in-Ok.number c.in-Ok.ensures.value.0.0 c.in-Ok.ensures.value.0.1

pub returns-in-Err : goal.returns-in-Err
returns-in-Err c = no_number_read 16 c.args.word.now c.in-Err.ensures.value.0
