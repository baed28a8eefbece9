-- Setting a program.
use Rattle.std.proofs.Common.{◌≡◌, ◌∙◌, ◌≢◌, ℕ, zero, suc, true, false, List, [], ◌∷◌, Option, Some, None, Result, Ok, Err, ap, arith, refl, subst, sym, inl, inr}
use Rattle.std.specs.Prelude.{◌⊎◌, is_some}
use Rattle.zed_op.specs.declared.op.Edit.{Edit}
use Rattle.zed_world.specs.Contents.{Contents}
use Rattle.zed_edit.specs.Replay.{replay}
use Rattle.zed_document.specs.Replica.{Replica}
use Rattle.zed_driver.specs.declared.command.Stop.TheVariants.{Memory}
use Rattle.zed_driver.specs.declared.input.Input.{Input}
use Rattle.zed_driver.specs.Effects.{Effect}
use Rattle.zed_export.specs.declared.error.ExportError.{ExportError}
use Rattle.zed_export.specs.declared.error.ExportError.TheVariants as export
use Rattle.zed_export.specs.Limits.{Answers, exported, refusal_of, unless_over, unless_stale}
use Rattle.zed_export.specs.World.{world_of}
use Rattle.zed_plaintext.specs.declared.error.BadText.{BadText as Place}
use Rattle.zed_plaintext.specs.declared.error.TextError.{TextError}
use Rattle.zed_plaintext.specs.declared.error.TextError.TheVariants as bad_text
use Rattle.zed_plaintext.specs.Reading.{program_in}
use Rattle.zed_refusal.specs.Stops.{export_stop}
use Rattle.cmd_program.specs.declared.error.ReprogramError.{ReprogramError}
use Rattle.cmd_program.specs.declared.error.ReprogramError.TheVariants as reprogram
use Rattle.cmd_program.specs.Worlds.{IsReprogrammed}
use Rattle.zed_files.specs.Gathers.{BeginsWithBytes}
use Rattle.zed_files.specs.Opened.{FileEdits}
use Rattle.cmd_log.proofs.Exported.{exported_so, refused_so}
use Rattle.cmd_take.specs.Files.{OfFile, OpensAs}
use Rattle.cmd_take.specs.Opening.{export_told}
use Rattle.cmd_take.specs.Steps.{Asks, AsksNoMore, Gives, IsLed, OrMemory, Reads}
use Rattle.cmd_take.specs.Stops.{DrawingStop, drawing_stop, no_author}
use Rattle.cmd_take.specs.Taking.{Draws, given}
use Rattle.cmd_take.proofs.Steps.{step_refused, step_then}
use Rattle.cmd_take.proofs.TakeSteps.{authored}
use Rattle.cmd_program.specs.declared.stage.Stage.{Stage}
use Rattle.cmd_program.specs.declared.stage.Stage.TheVariants.{Begun, Read, Done}
use Rattle.cmd_program.specs.Setting.{FileSets, IsChanged, IsShown, IsSpelled, ProgramComes, ProgramWants, Reprograms, Sets, reprogram_stop, reprogram_told, text_stop, text_told}
use Rattle.cmd_program.specs.Stages.{ComesNow, WantsNow, next_of}

-- ---- the world with the program

pub shown : (es : List Edit) (w : Contents) → (w ≡ world_of (replay es)) × (refusal_of 32767 (replay es) ≡ None) → IsShown es (Ok w)
shown es w is =
    let whole : exported 32767 (replay es) ≡ Ok (world_of (replay es)) = ap (λ o. unless_over o (world_of (replay es))) is.1 in
    ap (λ v. Ok v) is.0 ∙ sym (ap export_told whole)

not_shown : (es : List Edit) (e : ExportError) (told : DrawingStop) → (e ≡ export.Memory) ⊎ (refusal_of 32767 (replay es) ≡ Some e)
    → told ≡ drawing_stop (export_stop e)
    → (told ≡ Memory) ⊎ IsShown es (Err told)
not_shown es e told why is = elim why [
  | inl lack ↦ inl (is ∙ ap (λ x. drawing_stop (export_stop x)) lack)
  | inr over ↦ inr (
      let none : exported 32767 (replay es) ≡ Err e = ap (λ o. unless_over o (world_of (replay es))) over in
      ap (λ x. Err x) is ∙ sym (ap export_told none))
]

-- a world that gets no program
pub reprograms_not : (w : Contents) (board stat : ℕ) (program : List ℕ) (x : ReprogramError) (e : DrawingStop)
    → (x ≡ reprogram.Memory) ⊎ IsReprogrammed w board stat program (Err x)
    → e ≡ reprogram_stop x → (e ≡ Memory) ⊎ Reprograms w board stat program (Err e)
reprograms_not w board stat program x e why is = elim why [
  | inl lack ↦ inl (is ∙ ap reprogram_stop lack)
  | inr refused ↦ inr (Err x, refused, ap (λ y. Err y) is)
]

-- ---- the text

pub spelled_so : (text program : List ℕ) → program_in text ≡ Ok program → IsSpelled text (Ok program)
spelled_so text program is = sym (ap text_told is)

pub spelled_not : (text : List ℕ) (e : TextError) (told : DrawingStop)
    → (e ≡ bad_text.Memory) ⊎ ((bad : Place) × (e ≡ bad_text.Bad bad) × (program_in text ≡ Err bad))
    → told ≡ text_stop e
    → (told ≡ Memory) ⊎ IsSpelled text (Err told)
spelled_not text e told why same = elim why [
  | inl lack ↦ inl (same ∙ ap text_stop lack)
  | inr is ↦ inr (ap (λ x. Err x) (same ∙ ap text_stop is.1) ∙ sym (ap text_told is.2))
]

-- ---- the world of FILE

-- an export that was refused
pub changed_not : (board stat : ℕ) (program : List ℕ) (d : Replica) (e : ExportError) (told : DrawingStop) → d.is_stale ≡ false
    → Answers {X = Contents} (λ x. x) (unless_stale d (exported 32767)) (Err e)
    → told ≡ drawing_stop (export_stop e)
    → (told ≡ Memory) ⊎ IsChanged d.edits board stat program (Err told)
changed_not board stat program d e told sound is same =
    step_refused (IsShown d.edits) (λ w. Reprograms w board stat program) told (not_shown d.edits e told (refused_so 32767 d e sound is) same)

pub changed_then : {X : Type 0} (board stat : ℕ) (program : List ℕ) (d : Replica) (w : Contents) (view : X → Contents) (answer : Result X DrawingStop)
    → d.is_stale ≡ false
    → Answers {X = Contents} (λ x. x) (unless_stale d (exported 32767)) (Ok w)
    → Gives view (Reprograms w board stat program) answer → Gives view (IsChanged d.edits board stat program) answer
changed_then board stat program d w view answer sound is gives =
    step_then (IsShown d.edits) (λ w. Reprograms w board stat program) view w answer (shown d.edits w (exported_so 32767 d w sound is)) gives

-- ---- what is done with FILE

pub sets_not : (file : List ℕ) (replica board stat : ℕ) (program : List ℕ) (f : FileEdits) (e : DrawingStop)
    → (e ≡ Memory) ⊎ IsChanged f.1 board stat program (Err e) → (e ≡ Memory) ⊎ Sets file replica board stat program f (Err e)
unfolding Sets
sets_not file replica board stat program f e why =
    step_refused (IsChanged f.1 board stat program) (λ w. Draws file file replica (given f None w)) e why

pub sets_then : (file : List ℕ) (replica board stat : ℕ) (program : List ℕ) (f : FileEdits) (w : Contents) (answer : Result Effect DrawingStop)
    → IsChanged f.1 board stat program (Ok w) → Gives (λ x. x) (Draws file file replica (given f None w)) answer
    → Gives (λ x. x) (Sets file replica board stat program f) answer
unfolding Sets
sets_then file replica board stat program f w answer is gives =
    step_then (IsChanged f.1 board stat program) (λ w. Draws file file replica (given f None w)) (λ x. x) w answer is gives

-- ---- the files

-- TEXT was read
pub read_led : (file : List ℕ) (replica board stat : ℕ) (text : List ℕ) (i : Input) (program : List ℕ) → replica ≢ 0
    → BeginsWithBytes (i ∷ []) → OfFile IsSpelled i (Ok program)
    → IsLed (i ∷ []) (ProgramWants file replica text) (ProgramComes file replica board stat)
    (λ rest name. Asks file (OpensAs None) (λ f. AsksNoMore) rest name) (λ rest r. OrMemory (FileSets file replica board stat program) rest r)
read_led file replica board stat text i program some there is = record {
  wants = λ rest name asks. (some, (program, is, asks));
  comes = λ rest r comes.
      authored replica (Reads (OfFile IsSpelled) (FileSets file replica board stat)) i rest r some there (elim comes [
        | inl lack ↦ inl lack
        | inr next ↦ inr (Ok program, is, next)
      ]);
}

-- it is refused, or memory is lacking for it
pub read_not : (file : List ℕ) (replica board stat : ℕ) (i : Input) (e : DrawingStop) → replica ≢ 0
    → (e ≡ Memory → BeginsWithBytes (i ∷ [])) → (e ≡ Memory) ⊎ OfFile IsSpelled i (Err e)
    → ProgramComes file replica board stat (i ∷ []) (Err e)
read_not file replica board stat i e some there why = elim why [
  | inl lack ↦ inr (some, inl (ap (λ x. Err x) lack, there lack))
  | inr made ↦ inr (some, inr (Err e, made, (refl, refl)))
]

-- FILE was read, and got the program
pub set_led : (file : List ℕ) (replica board stat : ℕ) (i : Input) (program : List ℕ) (f : FileEdits) (x : Effect) → OpensAs None i (Ok f)
    → Sets file replica board stat program f (Ok x)
    → IsLed (i ∷ []) (λ rest name. Asks file (OpensAs None) (λ f. AsksNoMore) rest name) (λ rest r. OrMemory (FileSets file replica board stat program) rest r)
    (λ rest name. ⊥) (λ rest r. (rest ≡ []) × (r ≡ Ok x))
set_led file replica board stat i program f x opens sets = record {
  wants = λ rest name none. absurd none;
  comes = λ rest r done. inr (Ok f, opens, (done.0, subst (Sets file replica board stat program f) (sym done.1) sets));
}

-- it got none
pub set_not : (file : List ℕ) (replica board stat : ℕ) (i : Input) (program : List ℕ) (f : FileEdits) (e : DrawingStop) → OpensAs None i (Ok f)
    → (e ≡ Memory) ⊎ Sets file replica board stat program f (Err e)
    → OrMemory (FileSets file replica board stat program) (i ∷ []) (Err e)
set_not file replica board stat i program f e opens why = elim why [
  | inl lack ↦ inl (ap (λ x. Err x) lack)
  | inr sets ↦ inr (Ok f, opens, (refl, sets))
]

-- ---- the stages

abbrev named : List ℕ → Option (List ℕ)
named name = Some name

some_same : (a b : List ℕ) → named a ≡ named b → b ≡ a
some_same a b is = cc

no_replica : (file : List ℕ) (replica : ℕ) (text : List ℕ) → next_of file replica text Begun ≡ None → replica ≡ 0
no_replica file zero text is = refl
no_replica file (suc n) text is = absurd (let no : named text ≡ None = is in cc)

-- where TEXT is asked for, there is an author
pub some_replica : (file : List ℕ) (replica : ℕ) (text : List ℕ) → is_some (next_of file replica text Begun) ≡ true → replica ≢ 0
some_replica file zero text is = absurd (let no : false ≡ true = is in cc)
some_replica file (suc n) text is = λ none. absurd (let no : suc n ≡ 0 = none in grind arith)

-- the next file is asked for
pub next_is_wanted : (file : List ℕ) (replica : ℕ) (text : List ℕ) (stage : Stage) (name : List ℕ)
    → next_of file replica text stage ≡ Some name
    → WantsNow file replica text stage [] name
next_is_wanted file zero text Begun name is = absurd (let no : None ≡ named name = is in cc)
next_is_wanted file (suc n) text Begun name is =
    (λ none. absurd (let no : suc n ≡ 0 = none in grind arith), some_same text name is)
next_is_wanted file zero text (Read program) name is = some_same file name is
next_is_wanted file (suc n) text (Read program) name is = some_same file name is
next_is_wanted file zero text (Done x) name is = absurd (let no : None ≡ named name = is in cc)
next_is_wanted file (suc n) text (Done x) name is = absurd (let no : None ≡ named name = is in cc)

-- TEXT is asked for first, where there is an author
pub first_is_wanted : (file : List ℕ) (replica : ℕ) (text : List ℕ) (stage : Stage) → stage ≡ Begun → replica ≢ 0
    → WantsNow file replica text stage [] text
first_is_wanted file replica text stage is some =
    subst (λ s. WantsNow file replica text s [] text) (sym is) (some, refl)

-- a stage that asks for a file isn't the last
pub asks_yet : (file : List ℕ) (replica : ℕ) (text : List ℕ) (at stage : Stage) (name : List ℕ) → at ≡ stage
    → next_of file replica text at ≡ Some name → next_of file replica text stage ≡ None
    → ⊥
asks_yet file replica text at stage name is some none =
    let no : Some name ≡ None = sym some ∙ ap (next_of file replica text) is ∙ none in cc

-- it is refused at once
pub none_for_no_author : (file : List ℕ) (replica board stat : ℕ) (text : List ℕ) (stage : Stage) → Begun ≡ stage
    → next_of file replica text stage ≡ None
    → ComesNow file replica board stat stage [] (Err no_author)
none_for_no_author file replica board stat text stage is none =
    subst (λ s. ComesNow file replica board stat s [] (Err no_author)) is
    (inl (no_replica file replica text (ap (next_of file replica text) is ∙ none), refl, refl))

-- it comes to its effect
pub ends_done : (file : List ℕ) (replica board stat : ℕ) (stage : Stage) (x : Effect) → Done x ≡ stage
    → ComesNow file replica board stat stage [] (Ok x)
ends_done file replica board stat stage x is = subst (λ s. ComesNow file replica board stat s [] (Ok x)) is (refl, refl)
