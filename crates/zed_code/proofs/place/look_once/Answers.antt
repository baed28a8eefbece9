use Rattle.std.proofs.Common.{rules, ◌<◌, length, ap, arith}
use Rattle.zed_code.specs.Blocks.{lists}
use Rattle.zed_code.proofs.Joins.{length-at, length-lists}
use Rattle.zed_code.proofs.Hinting.{full-some}
use Rattle.zed_code.proofs.place.look_once.Goals as goal

pub look-requires : goal.look-requires
look-requires c =
    let ls = lists c.args.blocks.now in
    let some : 0 < length c.args.blocks.now = search rules in
    let first = full-some ls 0 (omega (arith, some, length-lists c.args.blocks.now)) c.requires in
    let n = ap length c.runs_at.ensures in
    omega (arith, first, n)

pub returns-then-not-is_empty : goal.returns-then-not-is_empty
returns-then-not-is_empty c =
    let ls = lists c.args.blocks.now in
    let some : 0 < length c.args.blocks.now = search rules in
    let there : 0 < length ls = omega (arith, some, length-lists c.args.blocks.now) in
    let first = full-some ls 0 there c.requires in
    record { visits = (1, c.look.ensures.visits, omega (arith, first, length-at ls 0 there), λ _. omega arith) }
