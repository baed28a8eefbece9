use Rattle.std.proofs.Common.{◌≡◌, ◌<◌, ◌≤◌, ◌^◌, ◌∙◌, arith, rules, drop, length}
use Rattle.byteorder.specs.Endian.{little_number}
use Rattle.zed_editfile.proofs.Passing.{number_there, number_other}
use Rattle.zed_editfile.proofs.known.past_time.Goals as goal

pub returns-then-read_u48-time : goal.returns-then-read_u48-time
returns-then-read_u48-time c =
    let bytes = c.args.bytes.now in
    let back : c.split_at.result.1.now ≡ drop 6 bytes = search rules in
    let long : 6 ≤ length bytes = omega arith in
    let is : little_number 6 bytes ≡ c.args.time = search rules in
    rw back (number_there 6 c.args.time bytes (λ i. (c.type_inv.bytes i).fits) long is)

pub returns-else-read_u48-time : goal.returns-else-read_u48-time
returns-else-read_u48-time c =
    let fits : c.args.time < 256 ^ 6 = omega arith in
    let is : c.read_u48.result ≡ little_number 6 c.args.bytes.now = search rules in
    number_other 6 c.args.time c.args.bytes.now fits (λ same. c.if-read_u48-time.false (is ∙ same))
