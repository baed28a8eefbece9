use Rattle.std.proofs.Common.{◌≡◌, ◌∙◌, ap}
use Rattle.zed_refusal.specs.Stops.{document_stop}
use Rattle.cmd_take.specs.Stops.{drawing_stop}
use Rattle.cmd_take.proofs.Drawing.{merge_clashes, merge_joined}
use Rattle.cmd_take.proofs.taking.join_base.Goals as goal

pub returns-in-Ok : goal.returns-in-Ok
returns-in-Ok c = record {
  ok = merge_joined c.args.document.now c.args.base.now c.merge.new.self c.requires.sound c.requires.world c.in-Ok.ensures.result c.in-Ok.ensures.edits;
  err = tt;
  sound = c.in-Ok.ensures.sound;
  world = c.in-Ok.ensures.world;
}

pub returns-in-Err : goal.returns-in-Err
returns-in-Err c =
    let told : c.drawing_stop.result ≡ drawing_stop (document_stop c.in-Err.error) =
    c.drawing_stop.ensures ∙ ap drawing_stop c.document_stop.ensures in
    record {
      ok = tt;
      err = merge_clashes c.args.document.now c.args.base.now c.in-Err.error c.drawing_stop.result c.requires.sound c.requires.world c.in-Err.ensures.result told;
      sound = tt;
      world = tt;
    }
