use Rattle.std.proofs.Common.{◌≡◌, true, false, arith}
use Rattle.zed_oop_syntax.specs.Command.{is_then, there}
use Rattle.zed_oop_syntax.specs.Text.{upper}
use Rattle.zed_oop_syntax.proofs.CommandLemmas.{then_moves, then_passed, then_read}
use Rattle.zed_oop_syntax.proofs.commands.next_word.Goals as goal

pub returns-then-not-says-clause-result : goal.returns-then-not-says-clause-result
returns-then-not-says-clause-result c =
    let none : is_then c.args.program.now c.loop-word.from ≡ false = then_read c.args.program.now (upper c.written_at-end.result.0.now) c.loop-word.from c.says.result false c.written_at-end.ensures.result c.says.ensures.result c.if-not-says.true in
    (c.loop-word.from, (c.loop-word.invariant.so_far c.loop-word.from (there c.loop-word.from none), c.written_at-end.ensures.result, c.written_at-end.ensures.ends.0))

pub loop-word-smaller : goal.loop-word-smaller
loop-word-smaller c =
    let said : is_then c.args.program.now c.loop-word.from ≡ true = then_read c.args.program.now (upper c.written_at-end.result.0.now) c.loop-word.from c.says.result true c.written_at-end.ensures.result c.says.ensures.result c.if-not-says.false in
    let moves = then_moves c.args.program.now c.loop-word.from said in
    let end = c.written_at-end.ensures.ends.0 in
    let within = c.written_at-end.ensures.within.1 in
    omega arith

pub loop-word-preserved : goal.loop-word-preserved
loop-word-preserved c =
    let said : is_then c.args.program.now c.loop-word.from ≡ true = then_read c.args.program.now (upper c.written_at-end.result.0.now) c.loop-word.from c.says.result true c.written_at-end.ensures.result c.says.ensures.result c.if-not-says.false in
    let after = c.written_at-end.ensures.ends.1 in
    let within = c.written_at-end.ensures.within.1 in
    record {
      so_far = λ e rest. c.loop-word.invariant.so_far e (then_passed c.args.program.now c.loop-word.from c.written_at-end.result.1 e said c.written_at-end.ensures.ends.0 rest);
      within = (let b = c.loop-word.invariant.within in omega arith);
      after = omega arith;
    }
