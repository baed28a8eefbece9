-- Edits that can be done one after the other.
use Rattle.std.proofs.Common.{◌≡◌, true, false, List, [], ◌∷◌, ◌++◌, ap, sym, ◌∙◌, append-nil, append_assoc}
use Rattle.std.specs.List.{AllByRecursion}
use Rattle.zed_types.specs.declared.stamp.Stamp.{Stamp}
use Rattle.zed_types.specs.Stamp.{before, same_stamp}
use Rattle.zed_types.proofs.StampOrder.{before_differs_after}
use Rattle.zed_op.specs.declared.op.Edit.{Edit}
use Rattle.zed_op.specs.Set.{AllFit, IsRising, union}
use Rattle.zed_edit.specs.declared.plain.Plain.{Plain}
use Rattle.zed_edit.specs.Replay.{can, replay, step}
use Rattle.zed_history.specs.Finding.{AllBelow}
use Rattle.zed_laws.specs.Laws.{OneMoreIsOneStep}
use Rattle.zed_delivery.specs.Taking.{IsApart}
use Rattle.zed_document.specs.Held.{held_stamps}
use Rattle.zed_document.specs.Stretches.{CanFollow}
use Rattle.zed_document.proofs.Authored.{last-edit}
use Rattle.zed_document.proofs.Passed.{do_op-passed}

module _ (P : Edit → Type 0) where
  front : (xs ys : List Edit) → AllByRecursion P (xs ++ ys) → AllByRecursion P xs
  front [] ys h = tt
  front (x ∷ xs) ys h = (h.0, front xs ys h.1)

  end : (xs ys : List Edit) → AllByRecursion P (xs ++ ys) → AllByRecursion P ys
  end [] ys h = h
  end (x ∷ xs) ys h = end xs ys h.1

-- they fit
pub follow-fit : (es fs : List Edit) → CanFollow es fs → AllFit fs
follow-fit es [] h = tt
follow-fit es (f ∷ fs) h = let n = h.0 in (n.1, follow-fit (es ++ f ∷ []) fs h.1)

-- an edit that comes before all that come after some comes before those that follow these
later : (f : Edit) (es gs : List Edit) → ((s : Stamp) → AllBelow s es → before f.stamp s ≡ true) → CanFollow es gs
    → AllByRecursion (λ g. before f.stamp g.stamp ≡ true) gs
later f es [] low h = tt
later f es (g ∷ gs) low h =
    let n = h.0 in
    (low g.stamp n.0, later f (es ++ g ∷ []) gs (λ s below. low s (front (λ e. before e.stamp s ≡ true) es (g ∷ []) below)) h.1)

-- their stamps rise
pub follow-rising : (es fs : List Edit) → CanFollow es fs → IsRising fs
follow-rising es [] h = tt
follow-rising es (f ∷ fs) h = (
  later f (es ++ f ∷ []) fs (λ s below. (end (λ e. before e.stamp s ≡ true) es (f ∷ []) below).0) h.1,
  follow-rising (es ++ f ∷ []) fs h.1,
)

-- a set with them has them at its end
pub follow-joined : (es fs : List Edit) → CanFollow es fs → union es fs ≡ es ++ fs
follow-joined es [] h = sym (append-nil es)
follow-joined es (f ∷ fs) h =
    let n = h.0 in
    ap (λ xs. union xs fs) (last-edit f es n.0) ∙ follow-joined (es ++ f ∷ []) fs h.1 ∙ append_assoc es (f ∷ []) fs

-- none of them has the stamp of an edit before them
pub follow-apart : (es fs : List Edit) → CanFollow es fs → AllByRecursion (λ f. IsApart f es) fs
follow-apart es [] h = tt
follow-apart es (f ∷ fs) h = (apart es h.0.0, each fs (follow-apart (es ++ f ∷ []) fs h.1))
  where
    apart : (gs : List Edit) → AllBelow f.stamp gs → IsApart f gs
    apart [] below = tt
    apart (g ∷ gs) below = (before_differs_after g.stamp f.stamp below.0, apart gs below.1)

    each : (gs : List Edit) → AllByRecursion (λ g. IsApart g (es ++ f ∷ [])) gs → AllByRecursion (λ g. IsApart g es) gs
    each [] all = tt
    each (g ∷ gs) all = (front (λ x. same_stamp g.stamp x.stamp ≡ false) es (f ∷ []) all.0, each gs all.1)

-- none of them is held, and those held before stay so
pub follow-held : OneMoreIsOneStep → (es fs : List Edit) → CanFollow es fs → held_stamps (es ++ fs) ≡ held_stamps es
follow-held one es [] h = ap held_stamps (append-nil es)
follow-held one es (f ∷ fs) h =
    let can_do : can (replay es) f ≡ true = h.0.2 in
    let step_held : (step (replay es) f).held ≡ (replay es).held = rw can_do (do_op-passed f.stamp f.op (replay es)) in
    ap held_stamps (sym (append_assoc es (f ∷ []) fs)) ∙ follow-held one (es ++ f ∷ []) fs h.1 ∙ ap (λ (p : Plain). p.held) (one es f) ∙ step_held
