-- How a command ends.
use Rattle.zed_op.specs.declared.op.Edit.{Edit}
use Rattle.zed_files.specs.declared.refusal.Refusal.{Refusal}
use Rattle.zed_files.specs.declared.refusal.Refusal.TheVariants.{File, Memory}
use Rattle.std.proofs.Common.{◌≡◌, ◌≤◌, ℕ, false, List, Option, Some, Result, Ok, Err, MatchResult, OnErr, OnOk, codes, is_err, refl, inl, inr}
use Rattle.std.specs.Prelude.{⊤, IfSome, ◌⊎◌}
use Rattle.std.specs.Str.{bytes_eq}
use Rattle.zed_host.specs.Counting.{Counts, Rose}
use Rattle.zed_host.specs.HostContents.{HalfPrinted, HalfWritten, HostContents, StillTells, with_file}
use Rattle.zed_host.proofs.Counts.{rose_before, rose_later}
use Rattle.zed_host.proofs.ReadFiles.{reads_so}
use Rattle.zed_files.specs.Collected.{Collects}
use Rattle.zed_files.specs.Effects.{Effect, Ends, HalfDone, Writes, after}

-- what files come to
pub collected_so : (p q : Type 0) (t : HostContents) (names : List (List ℕ)) (set : Result (List Edit) Refusal) → (p → q)
    → Collects p t names set
    → Collects q t names set
collected_so p q t names set so collects =
    let stream = collects.1 in
    (collects.0, (stream.0, reads_so p q t names stream.0 so stream.1, stream.2), collects.2)

-- half of a file
pub half_file : (out bytes line : List ℕ) (t : HostContents) (middle new : Option HostContents) → middle ≡ Some t
    → IfSome middle (λ t. StillTells (HalfWritten out bytes t) new) → StillTells (HalfDone (Writes out bytes line) t) new
half_file out bytes line t middle new at half = let h = rw at at half in (h.0, inl h.1, h.2)

-- the file, and half of the line
pub half_line : (out bytes line : List ℕ) (t : HostContents) (middle new : Option HostContents) → bytes_eq out (codes "stdout") ≡ false
    → middle ≡ Some (with_file out bytes t)
    → IfSome middle (λ t. StillTells (HalfPrinted line t) new) → StillTells (HalfDone (Writes out bytes line) t) new
half_line out bytes line t middle new other at half = let h = rw at at half in (h.0, inr (other, h.1), h.2)

-- the effect, or the host failed at it
pub effect_ends : (Comes : Type 0 → Result Effect Refusal → Type 0) (result : Result ⊤ Refusal) (old middle now : ℕ) (t : HostContents) (x : Effect) (new : Option HostContents)
    → ((p q : Type 0) (r : Result Effect Refusal) → (p → q) → Comes p r → Comes q r)
    → old ≤ middle → middle ≤ now → Comes (Rose old middle) (Ok x) → OnOk result (new ≡ Some (after x t))
    → OnErr result (StillTells (HalfDone x t) new)
    → MatchResult result (λ _. ⊤) (λ e. e ≡ File) → Counts (is_err result) middle now
    → Ends (Rose old now) (Comes (Rose old now)) t result new
effect_ends Comes (Ok u) old middle now t x new so up more comes done half file count =
    (x, so (Rose old middle) (Rose old now) (Ok x) (rose_before old middle now more) comes, done)
effect_ends Comes (Err e) old middle now t x new so up more comes done half file count =
    (half.0, inr (rose_later old middle now up count, file, (x, so (Rose old middle) (Rose old now) (Ok x) (rose_before old middle now more) comes, half.1)), half.2)

-- refused before it, with what came first
pub refused_ends : (failed : Type 0) (Comes : Result Effect Refusal → Type 0) (t : HostContents) (e : Refusal) (new : Option HostContents)
    → new ≡ Some t
    → (e ≡ Memory) ⊎ Comes (Err e) → Ends failed Comes t (Err e) new
refused_ends failed Comes t e new at why = (t, inl (refl, why), at)
