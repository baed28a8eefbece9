use Rattle.std.proofs.Common.{arith}
use Rattle.zed_editfile.proofs.Cuts.{framed}
use Rattle.zed_editfile.proofs.reading.split_record.Goals as goal

pub returns-else-rest-len-clause-some : goal.returns-else-rest-len-clause-some
returns-else-rest-len-clause-some c =
    let h = rw c.in-Some.is at c.in_ok-length_of.ensures.some in
    framed c.args.bytes.now c.split_at.result.1.now c.split_at-in-Some.result.0.now c.split_at-in-Some.result.1.now c.in-Some.len (λ i. omega (arith, c.type_inv.bytes i)) h c.split_at.ensures.back c.if-rest-len.false c.split_at-in-Some.ensures.front c.split_at-in-Some.ensures.back
