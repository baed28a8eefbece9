use Rattle.std.proofs.Common.{◌≡◌, ◌∙◌, Err, None, [], ap, inl, sym}
use Rattle.std.proofs.lemmas.Result.{err_from_is_err_and}
use Rattle.cmd_take.specs.declared.base.Presence.TheVariants.{Optional}
use Rattle.cmd_take.specs.Base.{BaseAsks, BaseReads, beside}
use Rattle.cmd_take.specs.Opening.{WritesOver}
use Rattle.cmd_take.specs.Steps.{AsksNoMore, Ends, OrMemory}
use Rattle.cmd_take.proofs.OpenSteps.{leads_by, other_led, own_led}
use Rattle.cmd_take.proofs.open.Open.drawn.Goals as goal

pub returns-in_err-name-clause-leads : goal.returns-in_err-name-clause-leads
returns-in_err-name-clause-leads c =
    let p = err_from_is_err_and c.from_residual.result c.from_residual.ensures.1 in
    rw p.1 (inl (ap (λ x. Err x) p.2))

pub returns-then-eq-clause-leads : goal.returns-then-eq-clause-leads
returns-then-eq-clause-leads c =
    let s = c.args.self.now in
    let d = c.args.document in
    leads_by s.until s.forcing s.file.now s.world.now [] (BaseAsks Optional (beside s.world.now) s.file.now d.world (λ b. AsksNoMore)) AsksNoMore
    (OrMemory (BaseReads Optional (beside s.world.now) s.file.now d.world (λ b. Ends (WritesOver s.world.now (d.world, d.edits) c.args.text.items c.args.found b))))
    (OrMemory (Ends (WritesOver s.world.now (d.world, d.edits) c.args.text.items c.args.found None))) c.alone.result
    (own_led (d.world, d.edits) s.file.now s.world.now c.args.text.items c.args.found _ (c.as_str.ensures.value ∙ c.in_ok-name.ensures) (sym c.eq.ensures ∙ c.if-eq.true))
    c.alone.ensures.leads

pub returns-else-eq-clause-leads : goal.returns-else-eq-clause-leads
returns-else-eq-clause-leads c =
    let s = c.args.self.now in
    let d = c.args.document in (
      c.requires,
      other_led (d.world, d.edits) s.file.now s.world.now c.args.text.items c.args.found _ c.in_ok-name.ensures (rw c.as_str.ensures.value at (sym c.eq.ensures ∙ c.if-eq.false)),
    )
