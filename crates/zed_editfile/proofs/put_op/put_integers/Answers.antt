use Rattle.std.proofs.Common.{arith, take, length-take}
use Rattle.zed_editfile.proofs.Lengths.{length_integer, length_integers}
use Rattle.zed_editfile.proofs.put_op.put_integers.Goals as goal

pub put_integer-requires : goal.put_integer-requires
put_integer-requires c =
    let ns = c.args.numbers.now in
    let i = c.loop-number.number-index in
    rw length_integer (omega (arith, c.requires, c.loop-number.invariant.1, c.loop-number.invariant.2, length_integers ns, length_integers (take i ns), length-take i ns, c.loop-number-test.true))
