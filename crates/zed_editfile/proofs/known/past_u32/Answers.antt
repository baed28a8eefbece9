use Rattle.std.proofs.Common.{◌≡◌, ◌<◌, ◌≤◌, ◌^◌, ◌∙◌, arith, rules, drop, length}
use Rattle.byteorder.specs.Endian.{little_number}
use Rattle.zed_editfile.proofs.Passing.{number_there, number_other}
use Rattle.zed_editfile.proofs.known.past_u32.Goals as goal

pub returns-then-read_u32-n : goal.returns-then-read_u32-n
returns-then-read_u32-n c =
    let bytes = c.args.bytes.now in
    let back : c.split_at.result.1.now ≡ drop 4 bytes = search rules in
    let long : 4 ≤ length bytes = omega arith in
    let is : little_number 4 bytes ≡ c.args.n = search rules in
    rw back (number_there 4 c.args.n bytes (λ i. (c.type_inv.bytes i).fits) long is)

pub returns-else-read_u32-n : goal.returns-else-read_u32-n
returns-else-read_u32-n c =
    let fits : c.args.n < 256 ^ 4 = omega arith in
    let is : c.read_u32.result ≡ little_number 4 c.args.bytes.now = search rules in
    number_other 4 c.args.n c.args.bytes.now fits (λ same. c.if-read_u32-n.false (is ∙ same))
