-- An edit that is held leaves the others as they would be.
use Rattle.std.proofs.Common.{◌≡◌, Bool, true, false, cond, List, [], ◌∷◌, ◌++◌, refl, ap, ◌∙◌, sym}
use Rattle.std.specs.List.{AllByRecursion}
use Rattle.zed_types.specs.Stamp.{before}
use Rattle.zed_types.proofs.StampOrder.{before_asym, before_differs_after}
use Rattle.zed_op.specs.declared.op.Edit.{Edit}
use Rattle.zed_op.specs.Set.{with_edit}
use Rattle.zed_edit.specs.declared.plain.Plain.{Plain}
use Rattle.zed_edit.specs.Document.{empty_document}
use Rattle.zed_edit.specs.Replay.{can, hold, step, replay, taken_on, taken, held_on, held}
use Rattle.zed_laws.proofs.LateInsertion.{rising-low, rising-high}
use Rattle.zed_laws.proofs.ReplaySteps.{taken_on-append, held_on-append}
use Rattle.zed_laws.proofs.SameThings.{has-hold, taken_by_what_is_made, held_by_what_is_made}
use Rattle.zed_laws.proofs.TakenAlone.{taken_make_all}
use Rattle.zed_laws.specs.HeldAlone.{HeldChangesNothing, HeldTakesNothing, HeldIsOneMore}

taken-passed : (p : Plain) (e : Edit) (high : List Edit) → can p e ≡ false → taken_on p (e ∷ high) ≡ taken_on p high
taken-passed p e high c = rw c (taken_by_what_is_made (hold p e) p high (λ x. has-hold p e x))

held-passed : (p : Plain) (e : Edit) (high : List Edit) → can p e ≡ false → held_on p (e ∷ high) ≡ e ∷ held_on p high
held-passed p e high c = rw c (ap (λ es. e ∷ es) (held_by_what_is_made (hold p e) p high (λ x. has-hold p e x)))

pub held_takes_nothing : HeldTakesNothing
held_takes_nothing e low high c =
    taken_on-append empty_document low (e ∷ high)
    ∙ ap (λ es. taken low ++ es) (taken-passed (replay low) e high c)
    ∙ sym (taken_on-append empty_document low high)

pub held_changes_nothing : HeldChangesNothing
held_changes_nothing e low high c =
    let with_e = taken_make_all (low ++ e ∷ high) in
    let without = taken_make_all (low ++ high) in
    let same = sym with_e.0 ∙ ap replay (held_takes_nothing e low high c) ∙ without.0 in
    (ap (λ (p : Plain). p.header) same, ap (λ (p : Plain). p.boards) same, ap (λ (p : Plain). p.texts) same)

-- what holds of all edits holds of those held
pub held-all : (P : Edit → Type 0) (p : Plain) (es : List Edit) → AllByRecursion P es → AllByRecursion P (held_on p es)
held-all P p [] h = tt
held-all P p (e ∷ es) h = go (can p e) (held-all P (step p e) es h.1)
  where
    go : (b : Bool) → AllByRecursion P (held_on (step p e) es)
        → AllByRecursion P (cond b (held_on (step p e) es) (e ∷ held_on (step p e) es))
    go true more = more
    go false more = (h.0, more)

between : (e : Edit) (low high : List Edit) → AllByRecursion (λ f. before f.stamp e.stamp ≡ true) low
    → AllByRecursion (λ f. before e.stamp f.stamp ≡ true) high
    → with_edit e (low ++ high) ≡ low ++ e ∷ high
between e [] [] a b = refl
between e [] (f ∷ high) a b = rw b.0 refl
between e (f ∷ low) high a b =
    let later = before_asym f.stamp e.stamp a.0 in
    let other = before_differs_after f.stamp e.stamp a.0 in
    rw (later, other) (ap (λ es. f ∷ es) (between e low high a.1 b))

pub held_is_one_more : HeldIsOneMore
held_is_one_more e low high r c =
    let rest = held_on (replay low) high in
    let below = held-all (λ f. before f.stamp e.stamp ≡ true) empty_document low (rising-low e low high r) in
    let above = held-all (λ f. before e.stamp f.stamp ≡ true) (replay low) high (rising-high e low high r) in
    held_on-append empty_document low (e ∷ high)
    ∙ ap (λ es. held low ++ es) (held-passed (replay low) e high c)
    ∙ sym (between e (held low) rest below above)
    ∙ ap (with_edit e) (sym (held_on-append empty_document low high))
