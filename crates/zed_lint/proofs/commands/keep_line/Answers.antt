use Rattle.zed_lint.specs.Commands.{line_words, words_set}
use Rattle.zed_lint.proofs.Along.{ends, goes_on, stops}
use Rattle.zed_lint.proofs.commands.keep_line.Goals as goal

pub loop-left-preserved : goal.loop-left-preserved
loop-left-preserved c =
    goes_on (words_set) c.args.program.now c.loop-left.left c.loop-left.next _ c.in-Some.reading c.loop-left.words.items _ _ c.loop-left-test.true c.in-Some.is c.loop-left.invariant c.in_ok-next-in-Some.ensures.ok c.in_ok-next-in-Some.ensures.next

pub returns-in-None : goal.returns-in-None
unfolding line_words
returns-in-None c =
    stops (words_set) c.args.program.now c.loop-left.left c.loop-left.next c.loop-left.words.items _ c.in-None.is c.loop-left.invariant

pub returns : goal.returns
unfolding line_words
returns c =
    ends (words_set) c.args.program.now c.loop-left.left c.loop-left.next c.loop-left.words.items _ c.loop-left-test.false c.loop-left.invariant
