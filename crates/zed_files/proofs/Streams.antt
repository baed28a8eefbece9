-- How files come to a stream of edits.
use Rattle.std.proofs.Common.{◌≡◌, ◌∙◌, ℕ, zero, suc, true, is_some, arith, List, [], ◌∷◌, ◌++◌, Option, Some, None, Result, Ok, Err, refl, ap, sym, subst, append_assoc, append-nil, add-one, drop, drop-cons, drop_of_length-le, get_or, length, ◌+◌, ◌<◌, ◌≤◌}
use Rattle.std.specs.Borrow.{Bor}
use Rattle.zed_files.specs.declared.refusal.Refusal.{Refusal}
use Rattle.zed_files.specs.Collected.{Collects, FirstIsThere, IsStreamIn, set_unless}
use Rattle.zed_files.specs.Texts.{texts_of}
use Rattle.zed_host.specs.HostContents.{AreRead, HostContents, IsRead, file_in}
use Rattle.zed_files.specs.declared.refusal.Refusal.TheVariants.{File}
use mathlib.Core.Logic.{inl, inr}
use Rattle.zed_op.specs.declared.op.Edit.{Edit}
use Rattle.zed_op.specs.Set.{Agrees, AllFit, set_of}
use Rattle.zed_editfile.specs.declared.error.EditFileError.{EditFileError}
use Rattle.zed_link.proofs.Readings.{records_fit}
use Rattle.zed_files.specs.Files.{IsFile, IsStream, ReadsFile, Stream, edits_then, end_of, stream_after}
use Rattle.zed_files.specs.Refusals.{file_refusal}

-- one file more was read whole
pub next_file : (P : Stream → Type 0) (asked : Option ℕ) (bytes : List ℕ) (files all : List (Option (List ℕ))) (es more : List Edit) (world : ℕ)
    → all ≡ Some bytes ∷ files → ((s : Stream) → IsStream asked all s → P (stream_after es s)) → IsFile asked bytes more (Ok world)
    → (s : Stream) → IsStream (Some world) files s → P (stream_after (es ++ more) s)
next_file P asked bytes files all es more world first read file s rest =
    let here : IsStream asked (Some bytes ∷ files) (stream_after more s) = inr (more, world, s, file, rest, refl) in
    subst (λ all. P (edits_then all s.refusal)) (sym (append_assoc es more s.edits))
    (read (stream_after more s) (subst (λ files. IsStream asked files (stream_after more s)) (sym first) here))

-- a file was refused
pub last_file : (P : Stream → Type 0) (asked : Option ℕ) (bytes : List ℕ) (files all : List (Option (List ℕ))) (es more : List Edit) (e : EditFileError)
    → all ≡ Some bytes ∷ files → ((s : Stream) → IsStream asked all s → P (stream_after es s)) → IsFile asked bytes more (Err e)
    → P (edits_then (es ++ more) (Some (file_refusal e)))
last_file P asked bytes files all es more e first read file =
    let here : IsStream asked (Some bytes ∷ files) (edits_then more (Some (file_refusal e))) = inl (e, file, refl) in
    read (edits_then more (Some (file_refusal e))) (subst (λ files. IsStream asked files (edits_then more (Some (file_refusal e)))) (sym first) here)

-- a file that was read to its end, by what is wrong with it
pub whole_file : (asked : Option ℕ) (bytes : List ℕ) (es : List Edit) (fault : Option EditFileError) (world : Option ℕ) → fault ≡ None
    → ReadsFile asked bytes es fault world
    → (n : ℕ) × (world ≡ Some n) × IsFile asked bytes es (Ok n)
whole_file asked bytes es fault world none file = subst (λ f. ReadsFile asked bytes es f world) none file

pub faulty_file : (asked : Option ℕ) (bytes : List ℕ) (es : List Edit) (fault : Option EditFileError) (world : Option ℕ) (e : EditFileError)
    → fault ≡ Some e → ReadsFile asked bytes es fault world
    → IsFile asked bytes es (Err e)
faulty_file asked bytes es fault world e is file = subst (λ f. ReadsFile asked bytes es f world) is file

-- the edits of a file fit
pub file_fits : (asked : Option ℕ) (bytes : List ℕ) (es : List Edit) (end : Result ℕ EditFileError) → IsFile asked bytes es end → AllFit es
file_fits asked bytes es end file =
    elim file.reads [
      | inl head ↦ subst AllFit (sym head.none) tt
      | inr records ↦ records_fit es records.good
    ]

pub fit_append : (es more : List Edit) → AllFit es → AllFit more → AllFit (es ++ more)
fit_append [] more h k = k
fit_append (e ∷ es) more h k = (h.0, fit_append es more h.1 k)

-- the next of the files was read
pub next_read : (failed : Type 0) (t : HostContents) (names : List (Bor (List ℕ))) (i : ℕ) (d : Bor (List ℕ)) (read : Option (List ℕ)) (rest : List (Option (List ℕ)))
    → i < length names → IsRead failed t (get_or names i d).now read → AreRead failed t (texts_of (drop (i + 1) names)) rest
    → AreRead failed t (texts_of (drop i names)) (read ∷ rest)
next_read failed t names i d read rest lt one others =
    subst (λ ns. AreRead failed t (texts_of ns) (read ∷ rest)) (sym (drop-cons names i d lt))
    (read, rest, one, subst (λ n. AreRead failed t (texts_of (drop n names)) rest) (add-one i) others, refl)

-- the first file is there, if the next one is, and the first where that isn't the next one
pub first_there : (t : HostContents) (names : List (Bor (List ℕ))) (i : ℕ) (d : Bor (List ℕ)) → i < length names
    → is_some (file_in t (get_or names i d).now) ≡ true
    → (0 < i → FirstIsThere t (texts_of names)) → FirstIsThere t (texts_of names)
first_there t [] i d lt there before = absurd (omega (arith, lt))
first_there t (name ∷ names) zero d lt there before = there
first_there t (name ∷ names) (suc i) d lt there before = before (omega arith)

-- no file is left
pub none_left : (failed : Type 0) (t : HostContents) (names : List (Bor (List ℕ))) (i : ℕ) → length names ≤ i
    → AreRead failed t (texts_of (drop i names)) []
none_left failed t names i le = subst (λ ns. AreRead failed t (texts_of ns) []) (sym (drop_of_length-le names le)) refl

-- a file was not read
pub unread_file : (P : Stream → Type 0) (asked : Option ℕ) (rest : List (Option (List ℕ))) (es : List Edit) (refusal : Refusal)
    → refusal ≡ File → ((s : Stream) → IsStream asked (None ∷ rest) s → P (stream_after es s)) → P (edits_then es (Some refusal))
unread_file P asked rest es refusal is read =
    subst (λ e. P (edits_then es (Some e))) (sym is)
    (subst (λ all. P (edits_then all (Some File))) (append-nil es) (read (edits_then [] (Some File)) refl))

-- the files were all read
pub all_read : (P : Stream → Type 0) (asked : Option ℕ) (all : List (Option (List ℕ))) (es : List Edit) (refusal : Option Refusal)
    → all ≡ [] → ((s : Stream) → IsStream asked all s → P (stream_after es s)) → refusal ≡ end_of asked → P (edits_then es refusal)
all_read P asked all es refusal none read end =
    let here : IsStream asked all (edits_then [] refusal) =
    subst (λ files. IsStream asked files (edits_then [] refusal)) (sym none) (ap (edits_then []) end) in
    subst (λ all. P (edits_then all refusal)) (append-nil es) (read (edits_then [] refusal) here)

-- what comes first is the refusal of a file
pub file_first : (failed : Type 0) (t : HostContents) (names : List (List ℕ)) (es : List Edit) (refusal : Option Refusal) (e : Refusal)
    → IsStreamIn failed t names (edits_then es refusal) → Agrees es
    → refusal ≡ Some e → Collects failed t names (Err e)
file_first failed t names es refusal e reads agrees is = (edits_then es refusal, reads, inr (agrees, sym (ap (λ r. set_unless r es) is)))

-- the set of all edits
pub all_collected : (failed : Type 0) (t : HostContents) (names : List (List ℕ)) (es set : List Edit) (refusal : Option Refusal)
    → IsStreamIn failed t names (edits_then es refusal) → Agrees es
    → refusal ≡ None → set ≡ set_of es → Collects failed t names (Ok set)
all_collected failed t names es set refusal reads agrees is made =
    (edits_then es refusal, reads, inr (agrees, ap (λ x. Ok x) made ∙ sym (ap (λ r. set_unless r es) is)))
