-- Which faults of a screen and of a source of keys a run tells.
use Rattle.zed_files.specs.declared.refusal.Refusal.{Refusal}
use Rattle.zed_files.specs.declared.refusal.Refusal.TheVariants.{Memory}
use Rattle.std.proofs.Common.{◌≡◌, ◌∙◌, ℕ, List, Bool, false, inl, inr, refl, subst, sym}
use Rattle.zed_words.specs.declared.words.ParseError.{ParseError}
use Rattle.zed_words.specs.declared.words.ParseError.TheVariants as parse
use Rattle.zed_program.specs.Outcome.{SaysWhy}
use Rattle.zed_host.specs.Calls.{Call}
use Rattle.zed_files.specs.Lines.{line_of}
use Rattle.zed_files.proofs.OffStage.{uncounted}
use Rattle.zed_program.specs.Asked.{ComplainsOf}
use Rattle.zed_program.specs.Faults.{TellsFault}

-- memory was lacking for the words
pub memory_told : {H : Type 0} (called : H → Call → H → Type 0) (is_fault : Refusal → Bool) (old new : H) (count : ℕ)
    → is_fault Memory ≡ false
    → ComplainsOf called (line_of Memory) old new → TellsFault called is_fault 1 new count count
memory_told called is_fault old new count off is = inr (refl, (Memory, old, is, uncounted (is_fault Memory) count count off refl))

-- the words asked for nothing, or memory was lacking for them
pub words_told : {H : Type 0} (called : H → Call → H → Type 0) (is_fault : Refusal → Bool) (error : ParseError) (status : ℕ) (text : List ℕ) (old new : H) (count : ℕ)
    → is_fault Memory ≡ false
    → SaysWhy error status text → ComplainsOf called text old new → TellsFault called is_fault status new count count
words_told called is_fault parse.Memory status text old new count off says is =
    subst (λ n. TellsFault called is_fault n new count count) (sym says.0) (memory_told called is_fault old new count off (subst (λ line. ComplainsOf called line old new) says.1 is))
words_told called is_fault (parse.Refused s) status text old new count off says is = inl (λ one. (let no : 2 ≡ 1 = sym says.0 ∙ one in cc), refl)
