-- Two edits, one after the other.
use Rattle.std.proofs.Common.{◌≡◌, ◌∙◌, ◌<◌, length, List, Result, Ok, Err, ℕ, refl, ap, sym, subst, inl, inr}
use Rattle.std.specs.Prelude.{◌⊎◌, ⊤, Bool, OnErr}
use Rattle.zed_op.specs.declared.op.Op.{Op}
use Rattle.zed_op.specs.declared.op.Edit.{Edit}
use Rattle.zed_document.specs.declared.error.DocumentError.{DocumentError}
use Rattle.zed_document.specs.declared.error.DocumentError.TheVariants as document
use Rattle.zed_document.specs.Counts.{Counts}
use Rattle.zed_document.specs.Replica.{Replica}
use Rattle.zed_action.specs.declared.error.ActionError.{ActionError}
use Rattle.zed_action.specs.Deeds.{Authors, Ends, Made, told as answered, with_edits}
use Rattle.zed_action.specs.Refusals.{memory, refusal_of}
use Rattle.cmd_set.specs.declared.deed.Deed.{Deed}
use Rattle.cmd_set.specs.declared.deed.Deed.TheVariants.{One, Two}
use Rattle.zed_op.specs.Set.{with_edit}
use Rattle.zed_document.specs.Authoring.{authored}
use Rattle.cmd_set.specs.Granting.{Does, Leaves, LeavesDeed, Performs}

-- documents are told apart by what their calls see of them
abbrev seen : ℕ → List Edit → Bool → Counts → Replica
seen w es b c = record { world = w; edits = es; is_stale = b; counts = c }

authors_same : (d o : Replica) (replica : ℕ) (op : Op) (made : Made)
    → d.edits ≡ o.edits → d.is_stale ≡ o.is_stale → Authors d replica op made → Authors o replica op made
authors_same d o replica op made edits stale h =
    let first : Authors (seen o.world d.edits o.is_stale o.counts) replica op made =
    subst (λ b. Authors (seen o.world d.edits b o.counts) replica op made) stale h in
    subst (λ es. Authors (seen o.world es o.is_stale o.counts) replica op made) edits first

-- the first was made
pub both_end : (d e : Replica) (replica : ℕ) (o n : Op) (result : Result ⊤ ActionError) (new : List Edit)
    → Authors d replica o (Ok e.edits) → e.is_stale ≡ d.is_stale → Ends (Authors e replica n) result new
    → Ends (Performs d replica (Two o n)) result new
both_end d e replica o n (Ok u) new first stale second =
    inl (e.edits, first, authors_same e (with_edits e.edits d) replica n (Ok new) refl stale second)
both_end d e replica o n (Err x) new first stale second = elim second [
  | inl lacks ↦ inl lacks
  | inr is ↦ inr (inl (e.edits, first, authors_same e (with_edits e.edits d) replica n (Err x) refl stale is))
]

-- or not
pub first_refused : (d : Replica) (replica : ℕ) (o n : Op) (x : ActionError) → (x ≡ memory) ⊎ Authors d replica o (Err x)
    → (x ≡ memory) ⊎ Performs d replica (Two o n) (Err x)
first_refused d replica o n x why = elim why [ inl lacks ↦ inl lacks | inr is ↦ inr (inr (x, is, refl)) ]

-- there was nothing to perform
pub not_found : (d : Replica) (replica : ℕ) (told : Result Deed DocumentError) (e : DocumentError) (x : ActionError) (kept : List ℕ)
    → x ≡ refusal_of e
    → ((e ≡ document.Memory) × (0 < length kept)) ⊎ (told ≡ Err e) → (x ≡ memory) ⊎ Does d replica told (Err x)
not_found d replica told e x kept is why = elim why [
  | inl lacks ↦ inl (is ∙ ap refusal_of lacks.0)
  | inr same ↦ inr (subst (λ t. Does d replica t (Err x)) (sym same) (ap (λ y. Err y) is))
]

-- there was
pub found_ends : (d : Replica) (replica : ℕ) (told : Result Deed DocumentError) (deed : Deed) (result : Result ⊤ ActionError) (new : List Edit)
    → told ≡ Ok deed
    → Ends (Performs d replica deed) result new → Ends (Does d replica told) result new
found_ends d replica told deed (Ok u) new same is = subst (λ t. Does d replica t (Ok new)) (sym same) is
found_ends d replica told deed (Err x) new same why =
    elim why [ inl lacks ↦ inl lacks | inr is ↦ inr (subst (λ t. Does d replica t (Err x)) (sym same) is) ]

-- ---- what is left

abbrev these : List Edit → Made
these es = Ok es

answered_is : (es made : List Edit) (answer : Result Edit DocumentError) → these es ≡ answered made answer → es ≡ made
answered_is es made (Ok e) same = cc
answered_is es made (Err e) same = absurd (let no : these es ≡ Err (refusal_of e) = same in cc)

-- an edit was made
made_is : (d : Replica) (replica : ℕ) (o : Op) (es : List Edit) → Authors d replica o (Ok es)
    → es ≡ with_edit (authored d.edits replica o) d.edits
made_is d replica o es made = answered_is es (with_edit (authored d.edits replica o) d.edits) made.0 made.2

-- the second was refused
pub second_leaves : (d e : Replica) (replica : ℕ) (o n : Op) (result : Result ⊤ ActionError) (new : List Edit)
    → Authors d replica o (Ok e.edits)
    → OnErr result (new ≡ e.edits) → OnErr result (Leaves d replica (Two o n) new)
second_leaves d e replica o n (Ok u) new first kept = kept
second_leaves d e replica o n (Err x) new first kept = inr (kept ∙ made_is d replica o e.edits first)

-- nothing was made
pub leaves_all : (d : Replica) (replica : ℕ) (told : Result Deed DocumentError) → LeavesDeed d replica told d.edits
leaves_all d replica (Err e) = refl
leaves_all d replica (Ok (One o)) = refl
leaves_all d replica (Ok (Two o n)) = inl refl

-- a deed was refused
pub deed_leaves : (d : Replica) (replica : ℕ) (told : Result Deed DocumentError) (deed : Deed) (result : Result ⊤ ActionError) (new : List Edit)
    → told ≡ Ok deed
    → OnErr result (Leaves d replica deed new) → OnErr result (LeavesDeed d replica told new)
deed_leaves d replica told deed (Ok u) new same kept = kept
deed_leaves d replica told deed (Err x) new same kept = subst (λ t. LeavesDeed d replica t new) (sym same) kept
