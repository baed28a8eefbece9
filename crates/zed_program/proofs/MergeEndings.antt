-- How a command ends that writes an edit file after its reads.
use Rattle.zed_files.specs.declared.refusal.Refusal.{Refusal}
use Rattle.std.proofs.Common.{◌≡◌, ◌≤◌, ◌∙◌, ℕ, Option, Some, Result, Ok, Err, subst, inl, inr}
use Rattle.std.specs.Prelude.{⊤}
use Rattle.zed_host.specs.HostContents.{HostContents}
use Rattle.zed_host.specs.Counting.{Rose}
use Rattle.zed_host.proofs.Counts.{rose_before, rose_later}
use Rattle.zed_files.specs.Effects.{Effect, Ends, HalfDone, after}

-- ---- a command that writes an edit file after its reads

-- it is written, or the host fails at that
pub written_ends : (Comes : Type 0 → Result Effect Refusal → Type 0) (result : Result ⊤ Refusal) (old middle now : ℕ) (t : HostContents) (x : Effect) (new : Option HostContents)
    → ((p q : Type 0) (r : Result Effect Refusal) → (p → q) → Comes p r → Comes q r)
    → old ≤ middle → middle ≤ now → Comes (Rose old middle) (Ok x) → Ends (Rose middle now) (λ r. r ≡ Ok x) t result new
    → Ends (Rose old now) (Comes (Rose old now)) t result new
written_ends Comes (Ok u) old middle now t x new so up more comes (y, is, at) =
    let same : y ≡ x = cc in
    (x, so (Rose old middle) (Rose old now) (Ok x) (rose_before old middle now more) comes, subst (λ e. new ≡ Some (after e t)) same at)
written_ends Comes (Err e) old middle now t x new so up more comes (u, how, at) = (
  u,
  elim how [
    | inl before ↦ inl (before.0, elim before.1 [ inl memory ↦ inl memory | inr other ↦ absurd (cc) ])
    | inr half ↦ (
        let same : half.2.0 ≡ x = (let is = half.2.1 in cc) in
        inr (rose_later old middle now up half.0, half.1, (x, so (Rose old middle) (Rose old now) (Ok x) (rose_before old middle now more) comes, subst (λ y. HalfDone y t u) same half.2.2)))
  ],
  at,
)

-- ---- a document that was had, or refused
