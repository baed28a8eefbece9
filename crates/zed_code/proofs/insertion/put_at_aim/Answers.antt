use Rattle.std.proofs.Common.{List, length, drop, set, sym, ap, ◌∙◌, subst, arith}
use Rattle.std.specs.List.{AllByRecursion}
use Rattle.zed_code.specs.declared.run.Run.{Run}
use Rattle.zed_code.specs.Blocks.{lists}
use Rattle.zed_code.specs.Targets.{IsCut, cut_bytes}
use Rattle.zed_code.specs.Kept.{IsSound}
use Rattle.zed_code.specs.Runs.{put_in}
use Rattle.zed_code.proofs.Joins.{length-lists, list_at-is}
use Rattle.zed_code.proofs.Hinting.{each-at, cut-inside, cut-there}
use Rattle.zed_code.proofs.Puts.{lists-set}
use Rattle.zed_code.proofs.Rooms.{room-at}
use Rattle.zed_code.proofs.insertion.put_at_aim.Goals as goal

pub put_in-requires-clause-each : goal.put_in-requires-clause-each
put_in-requires-clause-each c =
    let bs = c.args.blocks.now.items in
    let n = length-lists bs in
    let is = list_at-is bs c.args.aim.at.block c.index_mut.result.now (omega (arith, n, c.requires.aim.within.block)) c.index_mut.ensures.value in
    let P : List Run → Type 0 = λ rs. AllByRecursion IsSound rs in
    subst P is (each-at IsSound (lists bs) c.args.aim.at.block c.requires.each)

pub put_in-requires-clause-place : goal.put_in-requires-clause-place
put_in-requires-clause-place c =
    let bs = c.args.blocks.now.items in
    let n = length-lists bs in
    let is = ap length (list_at-is bs c.args.aim.at.block c.index_mut.result.now (omega (arith, n, c.requires.aim.within.block)) c.index_mut.ensures.value) in
    omega (arith, is, c.requires.aim.within.place)

pub put_in-requires-clause-cut : goal.put_in-requires-clause-cut
put_in-requires-clause-cut c r rs e =
    let bs = c.args.blocks.now.items in
    let n = length-lists bs in
    let is = list_at-is bs c.args.aim.at.block c.index_mut.result.now (omega (arith, n, c.requires.aim.within.block)) c.index_mut.ensures.value in
    cut-inside c.args.aim (lists bs) r rs c.requires.aim (ap (drop c.args.aim.at.place) is ∙ e)

pub put_in-requires-clause-there : goal.put_in-requires-clause-there
put_in-requires-clause-there c =
    let bs = c.args.blocks.now.items in
    let n = length-lists bs in
    let is = list_at-is bs c.args.aim.at.block c.index_mut.result.now (omega (arith, n, c.requires.aim.within.block)) c.index_mut.ensures.value in
    let P : List Run → Type 0 = λ rs. IsCut c.args.aim.cut (drop c.args.aim.at.place rs) in
    subst P is (cut-there c.args.aim (lists bs) c.requires.aim)

pub put_in-requires-clause-room : goal.put_in-requires-clause-room
put_in-requires-clause-room c =
    let bs = c.args.blocks.now.items in
    let n = length-lists bs in
    room-at bs c.args.aim.at.block c.index_mut.result.now (omega (arith, n, c.requires.aim.within.block)) c.index_mut.ensures.value c.requires.room

pub returns-clause-runs : goal.returns-clause-runs
returns-clause-runs c =
    let bs = c.args.blocks.now.items in
    let n = length-lists bs in
    let is = list_at-is bs c.args.aim.at.block c.index_mut.result.now (omega (arith, n, c.requires.aim.within.block)) c.index_mut.ensures.value in
    lists-set bs c.args.aim.at.block (record { runs = c.put_in.new.runs; id = c.index_mut.result.now.id })
    ∙ ap (set (lists bs) c.args.aim.at.block) (c.put_in.ensures.runs ∙ ap (put_in c.args.aim.at.place (cut_bytes c.args.aim.cut) c.args.run) (sym is))
