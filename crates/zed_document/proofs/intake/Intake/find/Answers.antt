use Rattle.std.proofs.Common.{◌≡◌, Bool, true, false, cond, List, [], ◌∷◌, Option, Some, None, subst}
use Rattle.std.specs.Prelude.{IfSome}
use denote.Ref.{Bor}
use Rattle.std.specs.Prelude.{Contains}
use Rattle.std.proofs.Common.{ap}
use Rattle.zed_document.specs.Replica.{Replica}
use Rattle.zed_op.specs.Set.{IsRising, with_edit}
use Rattle.zed_history.proofs.Clashing.{edit_with-stands}
use Rattle.zed_types.specs.declared.stamp.Stamp.{Stamp}
use Rattle.zed_types.specs.Stamp.{same_stamp}
use Rattle.zed_op.specs.declared.op.Edit.{Edit}
use Rattle.zed_op.specs.Fit.{Fits}
use Rattle.zed_op.specs.Set.{AllFit}
use Rattle.zed_history.specs.Finding.{edit_with}
use Rattle.zed_document.proofs.intake.Intake.find.Goals as goal

fit_found : (s : Stamp) (es : List Edit) (f : Edit) → AllFit es → edit_with s es ≡ Some f → Fits f
fit_found s [] f fit h = absurd cc
fit_found s (x ∷ xs) f fit h = go (same_stamp x.stamp s) h (fit_found s xs f fit.1)
  where
    go : (b : Bool) → cond b (Some x) (edit_with s xs) ≡ Some f → (edit_with s xs ≡ Some f → Fits f) → Fits f
    go true h more = let q : x ≡ f = cc in subst Fits q fit.0
    go false h more = more h

fits_there : (s : Stamp) (es : List Edit) (r : Option (Bor Edit)) → AllFit es → IfSome r (λ f. edit_with s es ≡ Some f.now)
    → IfSome r (λ f. Fits f.now)
fits_there s es None fit h = tt
fits_there s es (Some x) fit h = fit_found s es x.now fit h

pub returns-clause-fits : goal.returns-clause-fits
returns-clause-fits c = fits_there c.args.stamp c.self.inside.log c.find.result c.self.invariant.fit c.find.ensures.some

known_there : (s : Stamp) (es : List Edit) (r : Option (Bor Edit)) → ((f : Edit) → Contains es f → with_edit f es ≡ es)
    → IfSome r (λ f. edit_with s es ≡ Some f.now)
    → IfSome r (λ f. with_edit f.now es ≡ es)
known_there s es None joins h = tt
known_there s es (Some x) joins h = (joins x.now (edit_with-stands s es x.now h).0)

pub returns-clause-known : goal.returns-clause-known
returns-clause-known c =
    let v : c.self.inside.log ≡ c.args.self.now.edits = ap (λ (r : Replica). r.edits) c.self.view_is in
    let P : List Edit → Type 0 = λ es. IfSome c.find.result (λ f. with_edit f.now es ≡ es) in
    subst P v (known_there c.args.stamp c.self.inside.log c.find.result (λ f k. c.edit_joins_a_set.ensures.there f c.self.inside.log c.self.invariant.rising k) c.find.ensures.some)
