-- When a replay needs memory: where one of its steps does.
use Rattle.std.proofs.Common.{◌≡◌, ◌≢◌, ◌||◌, Bool, true, false, cond, List, [], ◌∷◌, refl, ap, sym, subst}
use Rattle.std.specs.List.{list_any}
use mathlib.Core.Logic.{inl, inr}
use Rattle.zed_op.specs.declared.op.Edit.{Edit}
use Rattle.zed_op.specs.Growth.{may_grow}
use Rattle.zed_edit.specs.declared.plain.Plain.{Plain}
use Rattle.zed_edit.specs.Replay.{MayGrow, MayGrowBy, can, held_on, step}

some-first : (e : Edit) (es : List Edit) → e ∷ es ≢ []
some-first e es h = absurd (cc)

-- where the step of the first edit does
pub grows_here : (p : Plain) (e : Edit) (es : List Edit) → MayGrow p e → MayGrowBy p (e ∷ es)
grows_here p e es (inl h) = inl (ap (λ b. b || list_any (λ f. may_grow f.op) es) h)
grows_here p e es (inr h) =
    inr (subst (λ b. cond b (held_on (step p e) es) (e ∷ held_on (step p e) es) ≢ []) (sym h) (some-first e (held_on (step p e) es)))

-- or that of a later one
pub grows_later : (p : Plain) (e : Edit) (es : List Edit) → MayGrowBy (step p e) es → MayGrowBy p (e ∷ es)
grows_later p e es (inl h) = inl (either (may_grow e.op) h)
  where
    either : (b : Bool) → list_any (λ f. may_grow f.op) es ≡ true → (b || list_any (λ f. may_grow f.op) es) ≡ true
    either true k = refl
    either false k = k
grows_later p e es (inr h) = inr (either (can p e) h)
  where
    either : (b : Bool) → held_on (step p e) es ≢ [] → cond b (held_on (step p e) es) (e ∷ held_on (step p e) es) ≢ []
    either true k = k
    either false k = some-first e (held_on (step p e) es)
