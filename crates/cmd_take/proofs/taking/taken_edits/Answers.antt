use Rattle.std.proofs.Common.{◌≡◌, ◌∙◌, Err, ap, inr}
use Rattle.cmd_take.specs.Stops.{take_stop}
use Rattle.cmd_take.proofs.Drawing.{taken_is, taken_not}
use Rattle.cmd_take.proofs.taking.taken_edits.Goals as goal

pub returns-in-Err : goal.returns-in-Err
returns-in-Err c = record {
  taken = inr (taken_not c.args.document.now c.args.base.now c.args.world.now c.args.replica c.in-Err.error c.take_stop.result c.requires.file c.requires.base c.in-Err.ensures.err c.take_stop.ensures);
  fit = tt;
  base_joins = tt;
  file_joins = tt;
  refused = λ x is.
      let first : c.in-Err.error ≡ x = (let both = c.in-Err.ensures.refused x is in cc) in
      ap (λ y. Err y) (c.take_stop.ensures ∙ ap take_stop first);
}

pub returns-in-Ok : goal.returns-in-Ok
returns-in-Ok c = record {
  taken =
      taken_is c.args.document.now c.args.base.now c.args.world.now c.args.replica c.in-Ok.edits.items c.in-Ok.ensures.taken;
  fit = c.in-Ok.ensures.taken.lead.fit;
  base_joins = c.in-Ok.ensures.taken.lead.joins;
  file_joins = c.in-Ok.ensures.joins;
  refused = λ x is. absurd (let no = c.in-Ok.ensures.refused x is in cc);
}
