-- Bytes are one edit file at most.
use Rattle.std.proofs.Common.{◌≡◌, ◌≢◌, ◌⊎◌, ◌∙◌, ◌<◌, ◌^◌, ◌++◌, ℕ, List, [], Some, None, Result, Ok, Err, refl, sym, ap, subst}
use mathlib.Core.Logic.{inl, inr}
use Rattle.std.specs.Prelude.{OnOk}
use Rattle.zed_op.specs.declared.op.Edit.{Edit}
use Rattle.zed_editfile.specs.declared.error.EditFileError.{EditFileError}
use Rattle.zed_editfile.specs.declared.error.EditFileError.TheVariants.{Memory}
use Rattle.zed_editfile.specs.Laws.{ReadsOneWay, TextsAreRead}
use Rattle.zed_editfile.specs.Stream.{AreRecords, Feeds, IsTextOf, Progress, Reads, ending, ending_by, verdict_of}
use Rattle.zed_system.specs.Loss.{IsEditFile, IsFaulty, IsNoFile}

-- no fault is not that one
no_fault : None ≢ Some Memory
no_fault e = absurd cc

-- where a reader is at the end of an edit file
abbrev at_end : ℕ → ℕ → Progress
at_end version world = record { asked = None; world = Some world; version = version; rest = []; fault = None }

-- an edit file is read as its edits
is_read : TextsAreRead → (world : ℕ) (es : List Edit) (bytes : List ℕ) → (file : IsEditFile world es bytes) → Reads bytes es (at_end file.text.version world)
is_read texts world es bytes file = texts None world es bytes file.number refl file.records file.text

-- and by each reader that has memory
pub read_whole : ReadsOneWay → TextsAreRead → (world : ℕ) (es found : List Edit) (bytes : List ℕ) (p : Progress)
    → (file : IsEditFile world es bytes) → p.asked ≡ None → p.fault ≢ Some Memory → Reads bytes found p
    → (found ≡ es) × (p ≡ at_end file.text.version world)
read_whole one texts world es found bytes p file asked calm reads =
    one bytes found es p (at_end file.text.version world) asked calm no_fault reads (is_read texts world es bytes file)

-- two edit files of the same bytes are one
pub one_file : ReadsOneWay → TextsAreRead → (m n : ℕ) (es fs : List Edit) (bytes : List ℕ)
    → IsEditFile m es bytes → IsEditFile n fs bytes → (m ≡ n) × (es ≡ fs)
one_file one texts m n es fs bytes file other =
    let k = read_whole one texts n fs es bytes (at_end file.text.version m) other refl no_fault (is_read texts m es bytes file) in
    let worlds : Some m ≡ Some n = ap (λ (p : Progress). p.world) k.1 in
    let same : m ≡ n = cc in (same, k.0)

-- what a reader has of all bytes
pub all_read : (bytes : List ℕ) (before after : List Edit) (p q : Progress) → before ≡ [] → Reads [] [] p → Feeds bytes before after p q
    → Reads bytes after q
all_read bytes before after p q none begins feeds =
    subst (λ es. Reads bytes es q) (sym (feeds.gained ∙ ap (λ es. es ++ feeds.edits) none)) (feeds.reads [] [] begins)

-- what a reader answers at the end is no want of memory, so it had none
calm_at : (q : Progress) (end : Result (Unit {0}) EditFileError) → end ≡ verdict_of (ending q) → end ≢ Err Memory → q.fault ≢ Some Memory
calm_at q end is calm lack =
    calm (is ∙ ap (λ fault. verdict_of (ending_by fault q.world q.rest)) lack)

fault_is_other : (end : Result (Unit {0}) EditFileError) → IsFaulty end → end ≢ Err Memory
fault_is_other end (e, other, is) lack = let same : e ≡ Memory = cc in other same

ok_is_other : (end : Result (Unit {0}) EditFileError) → end ≡ Ok tt → end ≢ Err Memory
ok_is_other end is lack = absurd cc

-- a reader that found a fault, or no world, found no edit file
pub no_file : ReadsOneWay → TextsAreRead → (bytes : List ℕ) (found : List Edit) (q : Progress) (end : Result (Unit {0}) EditFileError)
    → q.asked ≡ None → end ≡ verdict_of (ending q) → Reads bytes found q
    → IsFaulty end ⊎ ((end ≡ Ok tt) × (q.world ≡ None)) → IsNoFile bytes
no_file one texts bytes found q end asked is reads (inl faulty) world es file =
    let k = read_whole one texts world es found bytes q file asked (calm_at q end is (fault_is_other end faulty)) reads in
    let well : end ≡ Ok tt = is ∙ ap (λ p. verdict_of (ending p)) k.1 in
    let fault = faulty.2 in absurd cc
no_file one texts bytes found q end asked is reads (inr ended) world es file =
    let k = read_whole one texts world es found bytes q file asked (calm_at q end is (ok_is_other end ended.0)) reads in
    let there : q.world ≡ Some world = ap (λ (p : Progress). p.world) k.1 in
    let none = ended.1 in absurd cc

-- the number of a world that a reader told has eight bytes
fits_at : (bytes : List ℕ) (found : List Edit) (q : Progress) (n : ℕ) → Reads bytes found q → q.world ≡ Some n → n < 2 ^ 64
fits_at bytes found q n (inl head) there = let none = head.world in absurd cc
fits_at bytes found q n (inr records) there =
    let is = records.world in
    let same : records.number ≡ n = cc in subst (λ k. k < 2 ^ 64) same records.fits

-- what a reader tells of a file that ended well
abbrev pub Whole : Progress → Type 0
Whole q =
    (bytes : List ℕ) (found : List Edit) → Reads bytes found q
    → (world : ℕ) × (q.world ≡ Some world) × AreRecords found × IsTextOf world found bytes

-- a reader that ended well found an edit file
pub file_there : (bytes : List ℕ) (found : List Edit) (q : Progress) (end : Result (Unit {0}) EditFileError) (n : ℕ)
    → Reads bytes found q → OnOk end (Whole q) → (end ≡ Ok tt) × (q.world ≡ Some n) → IsEditFile n found bytes
file_there bytes found q end n reads whole (well, there) =
    let k = (subst (λ r. OnOk r (Whole q)) well whole) bytes found reads in
    let is = k.1 in
    let same : k.0 ≡ n = cc in
    record {
      number = fits_at bytes found q n reads there;
      records = k.2;
      text = subst (λ w. IsTextOf w found bytes) same k.3;
    }
