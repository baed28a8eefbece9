use Rattle.std.proofs.Common.{◌+◌, ◌∷◌, length, get_or, sym, ap, ◌∙◌, subst, arith}
use Rattle.zed_code.specs.declared.run.Run.{Run}
use Rattle.zed_code.specs.declared.same.Cursor.{Cursor}
use Rattle.zed_code.specs.Blocks.{lists}
use Rattle.zed_code.specs.Cursors.{rest, IsPlace}
use Rattle.zed_code.proofs.Joins.{length-lists}
use Rattle.zed_code.proofs.Rests.{none, element, reads, read-is, rest-step, place-step}
use Rattle.zed_code.proofs.same.next.Goals as goal

pub name-requires : goal.name-requires
name-requires c =
    let ls = lists c.args.blocks.now in
    let h = reads c.args.store.now ls c.args.at c.runs_at-runs.result.now (omega (arith, c.requires.within, length-lists c.args.blocks.now)) c.requires.place c.requires.each c.runs_at-runs.ensures in
    let is = h.is in
    omega (arith, is.numbered, h.byte)

pub overflow_add-element : goal.overflow_add-element
overflow_add-element c =
    let ls = lists c.args.blocks.now in
    let h = reads c.args.store.now ls c.args.at c.runs_at-runs.result.now (omega (arith, c.requires.within, length-lists c.args.blocks.now)) c.requires.place c.requires.each c.runs_at-runs.ensures in
    let is = h.is in
    omega (arith, is.within, h.byte)

pub bounds-store-run : goal.bounds-store-run
bounds-store-run c =
    let ls = lists c.args.blocks.now in
    let h = reads c.args.store.now ls c.args.at c.runs_at-runs.result.now (omega (arith, c.requires.within, length-lists c.args.blocks.now)) c.requires.place c.requires.each c.runs_at-runs.ensures in
    let is = h.is in
    omega (arith, is.within, h.byte)

pub returns-clause-rest : goal.returns-clause-rest
returns-clause-rest c =
    let store = c.args.store.now in
    let ls = lists c.args.blocks.now in
    let at = c.args.at in
    let r : Run = get_or c.runs_at-runs.result.now at.run none in
    let h = reads store ls at c.runs_at-runs.result.now (omega (arith, c.requires.within, length-lists c.args.blocks.now)) c.requires.place c.requires.each c.runs_at-runs.ensures in
    let is = h.is in
    let v = get_or store (r.start + at.byte) 0 in
    let n = ap length c.runs_at-runs.ensures in
    rest-step store ls at r v (length c.runs_at-runs.result.now) h (read-is store (r.start + at.byte) (omega (arith, is.within, h.byte))) n
    ∙ ap (λ k. element r.stamp (r.first + at.byte) v r.alive ∷ rest store ls k) (sym c.behind.ensures)
    ∙ ap (λ i. record { id = i; byte = v; alive = r.alive } ∷ rest store ls c.behind.result) (sym c.name.ensures)

pub returns-clause-place : goal.returns-clause-place
returns-clause-place c =
    let store = c.args.store.now in
    let ls = lists c.args.blocks.now in
    let at = c.args.at in
    let r : Run = get_or c.runs_at-runs.result.now at.run none in
    let h = reads store ls at c.runs_at-runs.result.now (omega (arith, c.requires.within, length-lists c.args.blocks.now)) c.requires.place c.requires.each c.runs_at-runs.ensures in
    let n = ap length c.runs_at-runs.ensures in
    let P : Cursor → Type 0 = λ k. IsPlace k ls in
    subst P (sym c.behind.ensures) (place-step store ls at r (length c.runs_at-runs.result.now) h c.requires.full c.requires.each c.requires.place n)
