-- Where files are there.
use Rattle.std.proofs.Common.{◌≡◌, ◌∙◌, ℕ, true, is_some, List, [], ◌∷◌, Option, Some, None, Result, Ok, Err, ap, inl, inr, refl, subst, sym}
use Rattle.zed_op.specs.declared.op.Edit.{Edit}
use Rattle.zed_files.specs.declared.refusal.Refusal.{Refusal}
use Rattle.zed_files.specs.declared.refusal.Refusal.TheVariants.{Clash, File, NoWorld}
use Rattle.zed_files.specs.Collected.{Collects, FirstIsThere, IsCollected, set_unless}
use Rattle.zed_files.specs.Files.{IsStream, Stream}
use Rattle.zed_host.specs.HostContents.{AreRead, HostContents, IsRead, file_in}

-- a set came of files of which none was refused
not_refused : (refusal : Option Refusal) (es set : List Edit) → Ok set ≡ set_unless refusal es → refusal ≡ None
not_refused None es set is = refl
not_refused (Some e) es set is = absurd (let no : Ok set ≡ Err e = is in cc)

unrefused : (s : Stream) (set : List Edit) → IsCollected s (Ok set) → s.refusal ≡ None
unrefused s set is = elim is [
  | inl clash ↦ absurd (let no : Ok set ≡ Err (Clash clash.0) = clash.2 in cc)
  | inr all ↦ not_refused s.refusal s.edits set all.1
]

-- a file that was read is there
read_there : (failed : Type 0) (t : HostContents) (name : List ℕ) (read : Option (List ℕ)) (rest : List (Option (List ℕ))) (s : Stream)
    → s.refusal ≡ None → IsRead failed t name read
    → IsStream None (read ∷ rest) s → is_some (file_in t name) ≡ true
read_there failed t name None rest s none one is = absurd (let no : Some File ≡ None = sym (ap (λ s. s.refusal) is) ∙ none in cc)
read_there failed t name (Some bytes) rest s none one is = elim one [
  | inl found ↦ ap is_some (sym found)
  | inr lost ↦ absurd (let no : Some bytes ≡ None = lost.1 in cc)
]

first_there : (failed : Type 0) (t : HostContents) (names : List (List ℕ)) (reads : List (Option (List ℕ))) (s : Stream) → s.refusal ≡ None
    → AreRead failed t names reads → IsStream None reads s → FirstIsThere t names
first_there failed t [] reads s none read is =
    let end : IsStream None [] s = subst (λ r. IsStream None r s) read is in
    absurd (let no : Some NoWorld ≡ None = sym (ap (λ s. s.refusal) end) ∙ none in cc)
first_there failed t (name ∷ names) reads s none read is =
    read_there failed t name read.0 read.1 s none read.2 (subst (λ r. IsStream None r s) read.4 is)

-- the first of the files of which a set came is there
pub collected_there : (failed : Type 0) (t : HostContents) (names : List (List ℕ)) (set : List Edit) → Collects failed t names (Ok set)
    → FirstIsThere t names
collected_there failed t names set is =
    let reads = is.1 in first_there failed t names reads.0 is.0 (unrefused is.0 set is.2) reads.1 reads.2
