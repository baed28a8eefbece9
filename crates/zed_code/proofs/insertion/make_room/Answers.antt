use Rattle.std.proofs.Common.{List, sym, ap, ◌∙◌, subst, arith}
use Rattle.zed_code.specs.declared.run.Run.{Run}
use Rattle.zed_code.specs.Blocks.{lists, before_spot}
use Rattle.zed_code.specs.Halving.{IsSameText}
use Rattle.zed_code.specs.Targets.{IsTarget}
use Rattle.zed_code.proofs.Joins.{length-lists}
use Rattle.zed_code.proofs.Hinting.{target-moved}
use Rattle.zed_code.proofs.insertion.make_room.Goals as goal

pub reserve_at-requires : goal.reserve_at-requires
reserve_at-requires c =
    let within = c.requires.within in
    let place = within.place in
    let here = c.in_ok-at.ensures.ok.within 0 (omega arith) (record { block = within.block; place = omega (arith, place) }) in
    omega (arith, here.block, length-lists c.split_full.new.blocks.items)

pub returns-in_err-reserve_at-clause-same : goal.returns-in_err-reserve_at-clause-same
returns-in_err-reserve_at-clause-same c =
    let P : List (List Run) → Type 0 =
    λ ls. IsSameText (lists c.args.blocks.now.items) ls c.args.places.now.items c.split_full.new.places.items in
    subst P (sym c.reserve_at.ensures.kept) c.split_full.ensures.same

pub returns-clause-same : goal.returns-clause-same
returns-clause-same c =
    let P : List (List Run) → Type 0 =
    λ ls. IsSameText (lists c.args.blocks.now.items) ls c.args.places.now.items c.split_full.new.places.items in
    subst P (sym c.reserve_at.ensures.kept) c.split_full.ensures.same

pub returns-clause-aim : goal.returns-clause-aim
returns-clause-aim c =
    let P : List (List Run) → Type 0 = λ ls. IsTarget (record { at = c.in_ok-at.at; cut = c.args.aim.cut }) ls in
    subst P (sym c.reserve_at.ensures.kept) (target-moved c.args.aim (lists c.args.blocks.now.items) (lists c.split_full.new.blocks.items) c.in_ok-at.at c.requires c.in_ok-at.ensures.ok c.split_full.ensures.same.runs)

pub returns-clause-moved : goal.returns-clause-moved
returns-clause-moved c = ap (before_spot c.in_ok-at.at) c.reserve_at.ensures.kept ∙ c.in_ok-at.ensures.ok.place
