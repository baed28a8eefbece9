use Rattle.std.proofs.Common.{rules, ◌≡◌, ◌<◌, ◌+◌, List, length, vec_len, set, sym, ap, ◌∙◌, subst, arith}
use Rattle.std.specs.List.{insert}
use Rattle.zed_code.specs.declared.run.Run.{Run}
use Rattle.zed_code.specs.declared.block.Spot.{Spot}
use Rattle.zed_code.specs.Blocks.{lists, list_at}
use Rattle.zed_code.specs.Halving.{IsSameText, IsMoved}
use Rattle.zed_code.specs.Visits.{greatest}
use Rattle.zed_code.proofs.Joins.{length-lists, list_at-is}
use Rattle.zed_code.proofs.Rooms.{lists-kept}
use Rattle.zed_code.proofs.Halves.{same-kept, split-same, split-moved}
use Rattle.zed_code.proofs.blocks.split.Goals as goal

pub returns-in_err-reserve-clause-same : goal.returns-in_err-reserve-clause-same
returns-in_err-reserve-clause-same c =
    same-kept (lists c.args.blocks.now.items) c.args.places.now.items c.reserve.new.self.items c.reserve.ensures.items

pub returns-in_err-reserve-2-clause-same : goal.returns-in_err-reserve-2-clause-same
returns-in_err-reserve-2-clause-same c =
    let P : List (List Run) → Type 0 =
    λ ls. IsSameText (lists c.args.blocks.now.items) ls c.args.places.now.items c.reserve.new.self.items in
    subst P (sym (ap lists c.reserve-2.ensures.items)) (same-kept (lists c.args.blocks.now.items) c.args.places.now.items c.reserve.new.self.items c.reserve.ensures.items)

pub halve-requires : goal.halve-requires
halve-requires c =
    let k = c.reserve-2.ensures.items in
    let n = length-lists c.args.blocks.now.items in
    let m = ap length k in
    let is : list_at c.args.at.block (lists c.reserve-2.new.self.items) ≡ c.index_mut.result.now.runs.items = list_at-is c.reserve-2.new.self.items c.args.at.block c.index_mut.result.now (omega (arith, n, m, c.requires.within.block)) c.index_mut.ensures.value in
    let same : list_at c.args.at.block (lists c.args.blocks.now.items) ≡ c.index_mut.result.now.runs.items =
    ap (λ bs. list_at c.args.at.block (lists bs)) (sym k) ∙ is in
    omega (arith, ap length same, c.requires.long)

pub returns-in_err-behind-clause-same : goal.returns-in_err-behind-clause-same
returns-in_err-behind-clause-same c =
    let k = c.reserve-2.ensures.items in
    let n = length-lists c.args.blocks.now.items in
    let m = ap length k in
    let l : c.args.at.block < length c.reserve-2.new.self.items = omega (arith, n, m, c.requires.within.block) in
    let same = lists-kept c.reserve-2.new.self.items c.args.at.block c.index_mut.result.now c.halve.new.block l c.index_mut.ensures.value c.in_err-behind.ensures.err ∙ ap lists k in
    let P : List (List Run) → Type 0 =
    λ ls. IsSameText (lists c.args.blocks.now.items) ls c.args.places.now.items c.reserve.new.self.items in
    subst P (sym same) (same-kept (lists c.args.blocks.now.items) c.args.places.now.items c.reserve.new.self.items c.reserve.ensures.items)

pub returns-clause-same : goal.returns-clause-same
returns-clause-same c =
    let old = c.args.blocks.now.items in
    let made : c.insert.new.self.items ≡ insert (set c.reserve-2.new.self.items c.args.at.block c.halve.new.block) (c.args.at.block + 1) c.in_ok-behind.behind = search rules in
    let small : length old < greatest = let v : length old ≡ vec_len c.args.blocks.now = search rules in omega (arith, v, c.args.blocks.now.ok.0, c.args.blocks.now.ok.1, c.args.blocks.now.small) in
    split-same old c.reserve-2.new.self.items c.insert.new.self.items c.args.at c.index_mut.result.now c.halve.new.block c.in_ok-behind.behind c.reserve-2.ensures.items c.requires.within c.index_mut.ensures.value c.in_ok-behind.ensures.ok made
    c.args.places.now.items c.reserve.new.self.items c.add_place.new.places.items small c.in_ok-behind.ensures.front c.in_ok-behind.ensures.back c.reserve.ensures.items c.add_place.ensures

pub returns-clause-ok : goal.returns-clause-ok
returns-clause-ok c =
    let old = c.args.blocks.now.items in
    let made : c.insert.new.self.items ≡ insert (set c.reserve-2.new.self.items c.args.at.block c.halve.new.block) (c.args.at.block + 1) c.in_ok-behind.behind = search rules in
    let read : c.runs_at-half.result.now ≡ list_at c.args.at.block (lists (set c.reserve-2.new.self.items c.args.at.block c.halve.new.block)) = rw (← c.deref.ensures.value) c.runs_at-half.ensures in
    let P : Spot → Type 0 = λ to. IsMoved (lists old) (lists c.insert.new.self.items) c.args.at to in
    subst P (sym c.halved_spot.ensures) (split-moved old c.reserve-2.new.self.items c.insert.new.self.items c.args.at c.index_mut.result.now c.halve.new.block c.in_ok-behind.behind c.reserve-2.ensures.items c.requires.within c.index_mut.ensures.value c.in_ok-behind.ensures.ok made c.runs_at-half.result.now read)
