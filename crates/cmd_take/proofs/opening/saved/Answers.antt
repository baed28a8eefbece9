use Rattle.std.proofs.Common.{◌∙◌, Err, ap, sym}
use Rattle.cmd_take.specs.Opening.{export_told}
use Rattle.cmd_take.specs.Stops.{drawing_stop}
use Rattle.cmd_take.proofs.Comparing.{limit_none, limit_told, saved_not, saved_so}
use Rattle.cmd_take.proofs.opening.saved.Goals as goal

pub returns-in-Ok : goal.returns-in-Ok
returns-in-Ok c =
    let is = saved_so c.args.document.now c.in-Ok.text c.requires c.in-Ok.ensures.result in
    record {
      exported = sym (ap export_told is);
      back = (is, c.in-Ok.ensures.back);
      limits = λ e limit. absurd (limit_none c.args.document.now c.in-Ok.text e c.requires limit c.in-Ok.ensures.result);
    }

pub returns-in-Err : goal.returns-in-Err
returns-in-Err c =
    let told = c.drawing_stop.ensures ∙ ap drawing_stop c.export_stop.ensures in
    record {
      exported = saved_not c.args.document.now c.in-Err.error c.drawing_stop.result c.requires c.in-Err.ensures.result told;
      back = tt;
      limits = λ e limit. ap (λ y. Err y) (told ∙ limit_told c.args.document.now c.in-Err.error e c.requires limit c.in-Err.ensures.result);
    }
