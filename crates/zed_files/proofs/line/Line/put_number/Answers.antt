use Rattle.std.proofs.Common.{length, arith, ap}
use Rattle.zed_files.proofs.Digits.{few_digits}
use Rattle.zed_files.proofs.line.Line.put_number.Goals as goal

pub put_number-requires : goal.put_number-requires
put_number-requires c =
    let few = few_digits c.args.number (omega (arith, c.ranges.number.fits)) in
    let same = ap length c.self.view_is in
    omega (arith, few, same, c.requires, c.self.invariant)

pub returns-clause-short : goal.returns-clause-short
returns-clause-short c = few_digits c.args.number (omega (arith, c.ranges.number.fits))
