use Rattle.std.proofs.Common.{rules, ◌≡◌, List, true, length, take, set, vec_len, sym, ap, ◌∙◌, subst, arith}
use Rattle.std.specs.List.{AllByRecursion, list_any}
use Rattle.zed_code.specs.declared.run.Run.{Run}
use Rattle.zed_code.specs.Blocks.{lists, HasRoom}
use Rattle.zed_code.specs.Kept.{IsSound, AllInOrder, NoneFrom}
use Rattle.zed_code.specs.Runs.{kill_runs, reaches, touched}
use Rattle.zed_code.proofs.Joins.{list_at-is}
use Rattle.zed_code.proofs.Killing.{length-kill_runs}
use Rattle.zed_code.proofs.Puts.{lists-set}
use Rattle.zed_code.proofs.Rooms.{room-at, room-first, room-behind}
use Rattle.zed_code.proofs.cut.cut_block.Goals as goal

pub cut_in-requires-clause-each : goal.cut_in-requires-clause-each
cut_in-requires-clause-each c =
    let bs = c.args.blocks.now.items in
    let is = list_at-is bs c.args.block c.index_mut.result.now c.requires.block c.index_mut.ensures.value in
    let P : List Run → Type 0 = λ rs. AllByRecursion IsSound rs in
    subst P is c.requires.each

pub cut_in-requires-clause-ordered : goal.cut_in-requires-clause-ordered
cut_in-requires-clause-ordered c =
    let bs = c.args.blocks.now.items in
    let is = list_at-is bs c.args.block c.index_mut.result.now c.requires.block c.index_mut.ensures.value in
    let P : List Run → Type 0 = λ rs. AllInOrder rs in
    subst P is c.requires.ordered

pub cut_in-requires-clause-within : goal.cut_in-requires-clause-within
cut_in-requires-clause-within c =
    let bs = c.args.blocks.now.items in
    let is = ap length (list_at-is bs c.args.block c.index_mut.result.now c.requires.block c.index_mut.ensures.value) in
    omega (arith, is, c.requires.within)

pub cut_in-requires-clause-none : goal.cut_in-requires-clause-none
cut_in-requires-clause-none c =
    let bs = c.args.blocks.now.items in
    let is = list_at-is bs c.args.block c.index_mut.result.now c.requires.block c.index_mut.ensures.value in
    let P : List Run → Type 0 = λ rs. NoneFrom c.args.range.stamp c.args.range.first (take c.args.start rs) in
    subst P is c.requires.none

pub cut_in-requires-clause-room : goal.cut_in-requires-clause-room
cut_in-requires-clause-room c =
    let bs = c.args.blocks.now.items in
    let is = list_at-is bs c.args.block c.index_mut.result.now c.requires.block c.index_mut.ensures.value in
    let P : List Run → Type 0 = λ rs. AllInOrder rs in
    let most = length-kill_runs c.args.range c.index_mut.result.now.runs.items (subst P is c.requires.ordered) in
    let room : HasRoom c.index_mut.result.now = room-at bs c.args.block c.index_mut.result.now c.requires.block c.index_mut.ensures.value (room-first bs c.args.block c.requires.room) in
    let n : length c.index_mut.result.now.runs.items ≡ vec_len c.index_mut.result.now.runs = search rules in
    omega (arith, most, room, n)

pub returns-clause-runs : goal.returns-clause-runs
returns-clause-runs c =
    let bs = c.args.blocks.now.items in
    let is = list_at-is bs c.args.block c.index_mut.result.now c.requires.block c.index_mut.ensures.value in
    lists-set bs c.args.block (record { runs = c.cut_in.new.runs; id = c.index_mut.result.now.id })
    ∙ ap (set (lists bs) c.args.block) (c.cut_in.ensures.runs ∙ ap (kill_runs c.args.range) (sym is))

pub returns-clause-room : goal.returns-clause-room
returns-clause-room c =
    room-behind c.args.blocks.now.items c.args.block (record { runs = c.cut_in.new.runs; id = c.index_mut.result.now.id }) c.requires.room

pub returns-clause-end : goal.returns-clause-end
returns-clause-end c =
    let bs = c.args.blocks.now.items in
    let is = list_at-is bs c.args.block c.index_mut.result.now c.requires.block c.index_mut.ensures.value in
    let P : List Run → Type 0 = λ rs. list_any (reaches c.args.range) rs ≡ true in
    λ e. subst P (sym is) (c.cut_in.ensures.end e)

pub returns-clause-visits : goal.returns-clause-visits
returns-clause-visits c =
    let bs = c.args.blocks.now.items in
    let is = ap length (list_at-is bs c.args.block c.index_mut.result.now c.requires.block c.index_mut.ensures.value) in
    let k = c.cut_in.ensures.visits in
    (k.0, k.1, omega (arith, is, k.2))

pub returns-clause-looks : goal.returns-clause-looks
returns-clause-looks c =
    let bs = c.args.blocks.now.items in
    let is = ap (touched c.args.range) (list_at-is bs c.args.block c.index_mut.result.now c.requires.block c.index_mut.ensures.value) in
    omega (arith, is, c.cut_in.ensures.looks)
