use Rattle.std.proofs.Common.{rules, ◌≡◌, take, get_or}
use Rattle.zed_code.specs.Blocks.{lists, joined}
use Rattle.zed_code.proofs.Entries.{some-place}
use Rattle.zed_code.proofs.Hinting.{none-later}
use Rattle.zed_code.proofs.hints.start_of.Goals as goal

pub bounds-places-block : goal.bounds-places-block
bounds-places-block c = (c.requires (c.in-Some.near, c.in-Some.block) c.in-Some.ensures).within

pub offset_bounds-places-block : goal.offset_bounds-places-block
offset_bounds-places-block c =
    let l = (c.requires (c.in-Some.near, c.in-Some.block) c.in-Some.ensures).within in search rules

pub returns-then-place-blocks-clause-none : goal.returns-then-place-blocks-clause-none
returns-then-place-blocks-clause-none c =
    let h = c.requires (c.in-Some.near, c.in-Some.block) c.in-Some.ensures in
    let p = get_or c.args.places.now c.in-Some.block 0 in
    let s : c.in-Some.near.name.stamp ≡ c.args.id.name.stamp = search rules in
    none-later c.in-Some.near.name.stamp c.args.id.name.stamp c.in-Some.near.name.index c.args.id.name.index (joined (take p (lists c.args.blocks.now))) s c.if-near-id.true (h.none p (some-place c.args.places.now c.in-Some.block 0 h.within))
