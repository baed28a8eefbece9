-- How `compare` ends: its status is 0 or 1, and it tells of a file that can't be had only if it was given one.
use Rattle.std.proofs.Common.{◌≡◌, ℕ, Bool, true, false, List, [], ◌∷◌, Option, Some, None, Result, Ok, Err, refl, subst, sym, inl, inr}
use Rattle.std.specs.Prelude.{◌⊎◌, ◌||◌}
use Rattle.zed_op.specs.declared.op.Edit.{Edit}
use Rattle.zed_editfile.specs.declared.error.EditFileError.{EditFileError}
use Rattle.zed_editfile.specs.declared.error.EditFileError.TheVariants as fault
use Rattle.zed_driver.specs.declared.command.Stop.{Stop}
use Rattle.zed_driver.specs.declared.command.Stop.TheVariants.{Memory, File, Refused}
use Rattle.zed_driver.specs.declared.input.Input.{Input}
use Rattle.zed_driver.specs.declared.input.Input.TheVariants.{Bytes, Missing, Failed}
use Rattle.zed_driver.specs.Driven.{some_lacks}
use Rattle.zed_driver.specs.Effects.{Effect, prints}
use Rattle.zed_driver.specs.Reading.{Answer, files_of}
use Rattle.zed_driver.specs.Reads.{lacks}
use Rattle.zed_refusal.specs.declared.reason.Reason.{Reason}
use Rattle.zed_refusal.specs.Stops.{file_stop}
use Rattle.zed_files.specs.Rewrites.{Opens, opened_at}
use Rattle.cmd_compare.specs.declared.comparing.Strictness.{Strictness}
use Rattle.cmd_compare.specs.declared.comparing.Strictness.TheVariants.{Lenient, Strict}
use Rattle.cmd_compare.specs.Compares.{CompareComes, IsCompared, IsPrinted, IsRefused, goes_on, status_of}

abbrev IsStatus : ℕ → Type 0
IsStatus n = (n ≡ 0) ⊎ (n ≡ 1)

abbrev did : Effect → Result Effect (Stop Reason)
did x = Ok x

same_did : (x y : Effect) → did x ≡ did y → x ≡ y
same_did x y is = cc

not_both : {P : Type 0} (x : Effect) (e : Stop Reason) → did x ≡ Err e → P
not_both x e is = absurd (cc)

-- ---- its status

told_status : (strictness : Strictness) (more : Bool) → IsStatus (status_of strictness more)
told_status Lenient more = inl refl
told_status Strict true = inr refl
told_status Strict false = inl refl

printed_status : (strictness : Strictness) (es fs : List Edit) (x : Effect) → IsPrinted strictness es fs (Ok x) → IsStatus x.status
printed_status strictness es fs x (agree, (text, silent, is)) =
    let same = same_did x (prints text (status_of strictness (goes_on text))) is in
    subst (λ y. IsStatus y.status) (sym same) (told_status strictness (goes_on text))

compared_status : (strictness : Strictness) (es fs : List Edit) (x : Effect) → IsCompared strictness es fs (Ok x) → IsStatus x.status
compared_status strictness es fs x (inl c) = not_both x (Refused _) c.2
compared_status strictness es fs x (inr (inl printed)) = printed_status strictness es fs x printed
compared_status strictness es fs x (inr (inr is)) = not_both x Memory is

pub compare_status : (strictness : Strictness) (files : List Input) (x : Effect) → CompareComes strictness files (Ok x) → IsStatus x.status
compare_status strictness [] x comes = absurd comes
compare_status strictness (i ∷ []) x comes = not_both x comes.0 comes.1
compare_status strictness (i ∷ j ∷ []) x (f, opens, inl refused) = not_both x refused.0 refused.1
compare_status strictness (i ∷ j ∷ []) x (f, opens, inr (g, also, compared)) = compared_status strictness f.1 g.1 x compared
compare_status strictness (i ∷ j ∷ k ∷ files) x comes = absurd comes

-- ---- files that can't be had

abbrev stopped : {X : Type 0} → Stop Reason → Result X (Stop Reason)
stopped e = Err e

same_stop : {X : Type 0} (a b : Stop Reason) → stopped {X = X} a ≡ stopped {X = X} b → a ≡ b
same_stop a b is = cc

fault_is_no_file : (e : EditFileError) → File ≡ file_stop e → ⊥
fault_is_no_file fault.Memory is = cc
fault_is_no_file fault.Magic is = cc
fault_is_no_file fault.NewVersion is = cc
fault_is_no_file fault.OtherWorld is = cc
fault_is_no_file fault.RecordLength is = cc
fault_is_no_file (fault.BadEdit cause) is = cc
fault_is_no_file fault.CutShort is = cc

read_is_no_file : (es : List Edit) (end : Result ℕ EditFileError) → stopped File ≡ opened_at end es → ⊥
read_is_no_file es (Ok world) is = cc
read_is_no_file es (Err e) is = fault_is_no_file e (same_stop File (file_stop e) is)

-- the bytes of a file are refused for another reason
opens_not : (asked : Option ℕ) (bytes : List ℕ) → Opens asked bytes (Err File) → ⊥
opens_not asked bytes (es, end, reads, inl clash) = cc
opens_not asked bytes (es, end, reads, inr opened) = read_is_no_file es end opened.1

refused_lacks : (asked : Option ℕ) (name : List ℕ) (i : Input) (e : Stop Reason) (rs : List Answer) → File ≡ e → IsRefused asked i e
    → some_lacks (record { name = name; file = i } ∷ rs) ≡ true
refused_lacks asked name (Bytes bytes) e rs is (inl opens) = absurd (opens_not asked bytes (subst (λ s. Opens asked bytes (Err s)) (sym is) opens))
refused_lacks asked name (Bytes bytes) e rs is (inr lack) = absurd (cc)
refused_lacks asked name Missing e rs is refused = refl
refused_lacks asked name Failed e rs is refused = refl

compared_is_no_file : (strictness : Strictness) (es fs : List Edit) → IsCompared strictness es fs (Err File) → ⊥
compared_is_no_file strictness es fs (inl clash) = cc
compared_is_no_file strictness es fs (inr (inl printed)) = cc
compared_is_no_file strictness es fs (inr (inr is)) = cc

-- or a later one can't be had
later : (lack rest : Bool) → rest ≡ true → (lack || rest) ≡ true
later true rest is = refl
later false rest is = is

pub compare_lacks : (strictness : Strictness) (rs : List Answer) → CompareComes strictness (files_of rs) (Err File) → some_lacks rs ≡ true
compare_lacks strictness [] comes = absurd comes
compare_lacks strictness (r ∷ []) (e, is, refused) = refused_lacks None r.name r.file e [] (same_stop File e is) refused
compare_lacks strictness (r ∷ q ∷ []) (f, opens, inl (e, is, refused)) =
    later (lacks r.file) (some_lacks (q ∷ [])) (refused_lacks (Some f.0) q.name q.file e [] (same_stop File e is) refused)
compare_lacks strictness (r ∷ q ∷ []) (f, opens, inr (g, also, compared)) = absurd (compared_is_no_file strictness f.1 g.1 compared)
compare_lacks strictness (r ∷ q ∷ p ∷ rs) comes = absurd comes
