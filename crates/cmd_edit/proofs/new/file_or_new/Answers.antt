use Rattle.zed_types.specs.Limits.{largest_body}
use Rattle.zed_files.specs.Texts.{text_in}
use Rattle.zed_export.specs.Fresh.{fresh_world}
use Rattle.zed_world.specs.Writing.{written}
use Rattle.cmd_edit.specs.Fresh.{name_or_none}
use Rattle.cmd_edit.proofs.Lacking.{made_so}
use Rattle.cmd_edit.proofs.new.file_or_new.Goals as goal

pub returns-in-None : goal.returns-in-None
returns-in-None c =
    rw c.in-None.is (made_so c.args.world (written largest_body (fresh_world (name_or_none (text_in c.args.name)))) c.made.result c.first.result c.made.ensures.result c.first.ensures)
