-- The edits up to a stamp.
use Rattle.std.proofs.Common.{◌≡◌, ◌∙◌, Bool, true, false, cond, List, [], ◌∷◌, ◌++◌, Some, ap, append-nil, refl, sym}
use Rattle.std.specs.Prelude.{filter, not}
use Rattle.std.specs.List.{AllByRecursion}
use Rattle.std.proofs.lemmas.List.Elements.{filter-append}
use Rattle.zed_types.specs.declared.stamp.Stamp.{Stamp}
use Rattle.zed_types.specs.Stamp.{before}
use Rattle.zed_op.specs.declared.op.Edit.{Edit}
use Rattle.zed_op.specs.Fit.{Fits}
use Rattle.zed_op.specs.Set.{AllFit, IsRising}
use Rattle.cmd_take.specs.Opening.{up_to}

-- whether an edit is of a stamp or of an earlier one
abbrev is_early : Stamp → Edit → Bool
is_early last e = not (before last e.stamp)

-- one edit more of those looked at
pub one_looked : (last : Stamp) (fs gs : List Edit) (f : Edit) (old now : List Edit) → gs ≡ fs ++ f ∷ [] → old ≡ up_to (Some last) fs
    → now ≡ cond (before last f.stamp) old (old ++ f ∷ []) → now ≡ up_to (Some last) gs
one_looked last fs gs f old now is was put = go (before last f.stamp) refl put ∙ sym split
  where
    split : up_to (Some last) gs ≡ up_to (Some last) fs ++ up_to (Some last) (f ∷ [])
    split = ap (up_to (Some last)) is ∙ filter-append (λ (g : Edit). not (before last g.stamp)) fs (f ∷ [])

    go : (b : Bool) → before last f.stamp ≡ b → now ≡ cond b old (old ++ f ∷ []) → now ≡ up_to (Some last) fs ++ up_to (Some last) (f ∷ [])
    go false h q = q ∙ ap (λ es. es ++ f ∷ []) was ∙ sym (rw h refl)
    go true h q = q ∙ was ∙ sym (rw h (append-nil (up_to (Some last) fs)))

-- what holds of all holds of some of them
all_of : (P : Edit → Type 0) (p : Edit → Bool) (es : List Edit) → AllByRecursion P es → AllByRecursion P (filter p es)
all_of P p [] all = tt
all_of P p (e ∷ es) all = go (p e) (all_of P p es all.1)
  where
    go : (b : Bool) → AllByRecursion P (filter p es) → AllByRecursion P (cond b (e ∷ filter p es) (filter p es))
    go true rest = (all.0, rest)
    go false rest = rest

rising_of : (p : Edit → Bool) (es : List Edit) → IsRising es → IsRising (filter p es)
rising_of p [] rising = tt
rising_of p (e ∷ es) rising = go (p e) (rising_of p es rising.1)
  where
    later : AllByRecursion (λ f. before e.stamp f.stamp ≡ true) (filter p es)
    later = all_of (λ f. before e.stamp f.stamp ≡ true) p es rising.0

    go : (b : Bool) → IsRising (filter p es) → IsRising (cond b (e ∷ filter p es) (filter p es))
    go true rest = (later, rest)
    go false rest = rest

pub early_fit : (last : Stamp) (es : List Edit) → AllFit es → AllFit (up_to (Some last) es)
early_fit last es fit = all_of Fits (is_early last) es fit

pub early_rising : (last : Stamp) (es : List Edit) → IsRising es → IsRising (up_to (Some last) es)
early_rising last es rising = rising_of (is_early last) es rising
