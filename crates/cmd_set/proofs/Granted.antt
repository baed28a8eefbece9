-- What an edit file comes to by a wish.
use Rattle.zed_action.specs.declared.error.ActionError.{ActionError}
use Rattle.std.proofs.Common.{◌≡◌, ◌∙◌, ℕ, false, List, Option, Some, None, Result, Ok, Err, MatchResult, refl, ap, subst, inl, inr}
use Rattle.std.specs.Prelude.{◌⊎◌}
use Rattle.zed_op.specs.declared.op.Edit.{Edit}
use Rattle.zed_document.specs.Replica.{Replica}
use Rattle.zed_action.specs.Deeds.{Made}
use Rattle.zed_action.specs.Refusals.{memory as no_memory}
use Rattle.zed_driver.specs.declared.command.Stop.{Stop}
use Rattle.zed_driver.specs.declared.command.Stop.TheVariants.{Memory}
use Rattle.zed_files.specs.Opened.{FileEdits}
use Rattle.zed_set_words.specs.declared.bad.BadWord.{BadWord as WrongWord}
use Rattle.zed_set_words.specs.declared.wishes.Wish.{Wish}
use Rattle.cmd_set.specs.Granting.{Sets, WishMayTake}
use Rattle.cmd_set.specs.declared.reason.SetReason.{SetReason}
use Rattle.cmd_set.specs.declared.reason.SetReason.TheVariants.{BadWord}
use Rattle.cmd_set.specs.Setting.{DoesWish, IsDone, MayTakeOn, MayTakeFor, first_refusal, set_stop}

-- the wish was done
pub wish_done : (replica : ℕ) (w : Wish) (d : Replica) (es : List Edit) → d.is_stale ≡ false → Sets d replica w (Ok es)
    → IsDone replica w (d.world, d.edits) (Ok es)
wish_done replica w d es sound sets = (d, (refl, refl, sound), (Ok es, sets, refl))

-- the wish was refused
pub wish_refused : (replica : ℕ) (w : Wish) (d : Replica) (e : ActionError) (told : Stop SetReason) → d.is_stale ≡ false
    → told ≡ set_stop e → (e ≡ no_memory) ⊎ Sets d replica w (Err e) → (e ≡ no_memory → WishMayTake d replica w)
    → ((told ≡ Memory) × MayTakeOn replica w (d.world, d.edits)) ⊎ IsDone replica w (d.world, d.edits) (Err told)
wish_refused replica w d e told sound is why takes = elim why [
  | inl lacks ↦ inl (is ∙ ap set_stop lacks, (d, (refl, refl, sound), takes lacks))
  | inr sets ↦ inr (d, (refl, refl, sound), (Err e, sets, ap (λ x. Err x) is))
]

abbrev said : Wish → Result Wish WrongWord
said w = Ok w

abbrev unsaid : WrongWord → Result Wish WrongWord
unsaid bad = Err bad

-- the words wish this
pub does_wish : {X : Type 0} (replica : ℕ) (w : Wish) (words : Result Wish WrongWord) (f : FileEdits) (es : List Edit) (result : Result X (Stop SetReason))
    → said w ≡ words
    → MatchResult result (λ _. IsDone replica w f (Ok es)) (λ e. ((e ≡ Memory) × MayTakeOn replica w f) ⊎ IsDone replica w f (Err e))
    → MatchResult result (λ _. DoesWish replica words f (Ok es)) (λ e. ((e ≡ Memory) × MayTakeFor replica words f) ⊎ DoesWish replica words f (Err e))
does_wish replica w words f es result is done =
    subst (λ s. MatchResult result (λ _. DoesWish replica s f (Ok es)) (λ e. ((e ≡ Memory) × MayTakeFor replica s f) ⊎ DoesWish replica s f (Err e))) is done

abbrev refused : WrongWord → Option SetReason
refused bad = Some (BadWord bad)

-- where words wish nothing, the command is refused before
pub wishes_nothing : {X : Type 0} (replica : ℕ) (bad : WrongWord) (words : Result Wish WrongWord) → unsaid bad ≡ words
    → first_refusal replica words ≡ None
    → X
wishes_nothing replica bad words is none =
    let no : refused bad ≡ None = ap (first_refusal replica) is ∙ none in absurd cc
