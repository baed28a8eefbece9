-- How many edits wait and are done, and that those done fit.
use Rattle.std.proofs.Common.{◌≡◌, ◌≤◌, ◌+◌, Bool, true, false, cond, not, List, [], ◌∷◌, ◌++◌, length, refl, arith}
use Rattle.std.proofs.lemmas.List.Filters.{length-filter_both}
use mathlib.Core.Logic.{inl}
use Rattle.zed_types.specs.Stamp.{before, same_stamp}
use Rattle.zed_op.specs.declared.op.Edit.{Edit}
use Rattle.zed_op.specs.declared.thing.Thing.{Thing}
use Rattle.zed_op.specs.Fit.{Fits}
use Rattle.zed_op.specs.Set.{AllFit, with_edit}
use Rattle.zed_op.proofs.Sets.{Member-all}
use Rattle.zed_inbox.specs.Waiting.{names, naming, not_naming}
use Rattle.zed_delivery.specs.declared.body.Body.{Body}
use Rattle.zed_delivery.specs.Steps.{IsInHand}

pub one_longer : (e : Edit) (es : List Edit) → length (with_edit e es) ≤ length es + 1
one_longer e [] = omega arith
one_longer e (f ∷ es) = go (before e.stamp f.stamp) (same_stamp e.stamp f.stamp) (one_longer e es)
  where
    go : (a b : Bool) → length (with_edit e es) ≤ length es + 1
        → length (cond a (e ∷ f ∷ es) (cond b (f ∷ es) (f ∷ with_edit e es))) ≤ length (f ∷ es) + 1
    go true b h = omega arith
    go false true h = omega arith
    go false false h = omega (arith, h)

pub as_many : (x : Thing) (es : List Edit) → length (naming x es) + length (not_naming x es) ≡ length es
as_many x es = length-filter_both (names x) (λ e. not (names x e)) (λ e. refl) es

fit_last : (e : Edit) (es : List Edit) → Fits e → AllFit es → AllFit (es ++ e ∷ [])
fit_last e [] f a = (f, tt)
fit_last e (d ∷ es) f a = (a.0, fit_last e es f a.1)

pub fit_one_more : (e : Edit) (b : Body) (done : List Edit) → IsInHand e b → AllFit done → AllFit (done ++ e ∷ [])
fit_one_more e b done h a = fit_last e done (Member-all Fits h.0 h.3.2.fit e (h.3.2.hand_in e (inl refl))) a
