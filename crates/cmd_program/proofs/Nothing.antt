-- What is printed of a stat and set again changes nothing.
use Rattle.std.proofs.Common.{◌≡◌, ◌∙◌, ◌<◌, ℕ, true, List, [], length, ap, refl, subst, sym, inl, inr, Option, Some, None, Result, Ok, Err}
use Rattle.std.specs.Prelude.{◌==◌, slice_get}
use Rattle.std.specs.List.{AllByRecursion}
use Rattle.std.proofs.lemmas.Bool.{eq-eqb}
use Rattle.zed_world.specs.Contents.{Contents}
use Rattle.zed_world.specs.Laws.{ReadIsNormal}
use Rattle.zed_world.specs.Normal.{HasNormalParts, IsNormal}
use Rattle.zed_world.specs.Writing.{HasText}
use Rattle.zed_world.specs.declared.board.BoardData.{BoardData}
use Rattle.zed_world.specs.declared.stat.StatData.{StatData}
use Rattle.zed_op.specs.declared.op.Edit.{Edit}
use Rattle.zed_edit.specs.declared.plain.Plain.{Plain}
use Rattle.zed_edit.specs.Numbers.{alive_boards}
use Rattle.zed_edit.specs.Replay.{replay}
use Rattle.zed_export.specs.declared.error.ExportError.{ExportError}
use Rattle.zed_export.specs.Limits.{boards_refusal, count_refusal, exported, or_else, refusal_of, title_refusal, unless_over}
use Rattle.zed_export.specs.World.{exported_boards, world_of}
use Rattle.zed_export.proofs.Within.{neither, none_over}
use Rattle.zed_driver.specs.declared.command.Stop.{Stop}
use Rattle.zed_refusal.specs.declared.reason.Reason.{Reason}
use Rattle.zed_plaintext.specs.Laws.{PrintedIsRead}
use Rattle.zed_plaintext.specs.Reading.{program_in}
use Rattle.zed_plaintext.specs.Text.{text_of}
use Rattle.cmd_program.specs.declared.error.ReprogramError.{ReprogramError}
use Rattle.cmd_program.specs.Codes.{program_of}
use Rattle.cmd_program.specs.OwnLaws.{OwnProgramStays}
use Rattle.cmd_program.specs.Worlds.{IsReprogrammed}
use Rattle.zed_take.specs.Taken.{Shows}
use Rattle.cmd_log.specs.Listed as telling
use Rattle.cmd_take.specs.Base.{edits_of_base}
use Rattle.zed_driver.specs.Effects.{Effect, Output, effect}
use Rattle.cmd_take.specs.Opening.{export_told}
use Rattle.cmd_take.specs.Stops.{take_stop}
use Rattle.cmd_take.specs.Steps.{Steps}
use Rattle.cmd_take.specs.Taking.{Draws, IsJoined, IsTaken, drawn, given, grown, taken_line}
use Rattle.cmd_take.proofs.Steps.{step_was}
use Rattle.cmd_program.specs.Printed.{printed, text_of_stat, text_on}
use Rattle.cmd_program.specs.Setting.{IsChanged, IsShown, Reprograms, Sets, reprogram_told}

abbrev told_none : List Edit → List Output → Effect
told_none es files = effect files (Some (taken_line [] (length es))) 0

abbrev nothing : List Edit → Effect
nothing es = told_none es []

-- ---- what is printed

-- of a world over no limit
printed_within : (o : Option ExportError) (told : Result (List ℕ) (Stop Reason)) (text : List ℕ) → telling.unless_over o told ≡ Ok text
    → (o ≡ None) × (told ≡ Ok text)
printed_within None told text is = (refl, is)
printed_within (Some e) told text is = absurd (cc)

printed_text : (es : List Edit) (board stat : ℕ) (b : BoardData) (s : StatData) (text : List ℕ)
    → slice_get (world_of (replay es)).boards board ≡ Some b
    → slice_get b.stats stat ≡ Some s → printed board stat es ≡ Ok text
    → (refusal_of 32767 (replay es) ≡ None) × (text ≡ text_of (program_of b.stats s.code))
printed_text es board stat b s text at here is =
    let both = printed_within (refusal_of 32767 (replay es)) (text_on (slice_get (world_of (replay es)).boards board) stat) text is in
    let on_board : text_on (Some b) stat ≡ Ok text = subst (λ o. text_on o stat ≡ Ok text) at both.1 in
    let on_stat : text_of_stat b (Some s) ≡ Ok text = subst (λ o. text_of_stat b o ≡ Ok text) here on_board in
    let same : text_of (program_of b.stats s.code) ≡ text = cc in
    (both.0, sym same)

has_text : (p : Plain) → refusal_of 32767 p ≡ None → HasText 32767 (world_of p)
has_text p is =
    let behind =
    neither (title_refusal p) (or_else (count_refusal (length (alive_boards p))) (boards_refusal 32767 0 (exported_boards p))) is in
    let boards = neither (count_refusal (length (alive_boards p))) (boards_refusal 32767 0 (exported_boards p)) behind.1 in
    none_over 32767 0 (exported_boards p) boards.1

-- ---- the world that is taken

shown_world : (es : List Edit) (w : Contents) → refusal_of 32767 (replay es) ≡ None → IsShown es (Ok w) → w ≡ world_of (replay es)
shown_world es w within is =
    let whole : exported 32767 (replay es) ≡ Ok (world_of (replay es)) = ap (λ o. unless_over o (world_of (replay es))) within in
    let told : Ok w ≡ export_told (Ok (world_of (replay es))) = is ∙ ap export_told whole in
    cc

reprogrammed_world : (w v : Contents) (board stat : ℕ) (program : List ℕ)
    → ((r : Result Contents ReprogramError) → IsReprogrammed w board stat program r → r ≡ Ok w)
    → Reprograms w board stat program (Ok v) → v ≡ w
reprogrammed_world w v board stat program stays is =
    let told : Ok v ≡ reprogram_told (Ok w) = is.2 ∙ ap reprogram_told (stays is.0 is.1) in
    cc

changed_world : OwnProgramStays → (es : List Edit) (board stat : ℕ) (b : BoardData) (s : StatData) (w : Contents)
    → HasNormalParts (world_of (replay es)) → refusal_of 32767 (replay es) ≡ None
    → slice_get (world_of (replay es)).boards board ≡ Some b → slice_get b.stats stat ≡ Some s
    → IsChanged es board stat (program_of b.stats s.code) (Ok w)
    → w ≡ world_of (replay es)
changed_world stays es board stat b s w normal within at here is =
    let program = program_of b.stats s.code in
    let was = step_was (IsShown es) (λ v. Reprograms v board stat program) w is in
    let shown = shown_world es was.0 within was.1 in
    let gives : Reprograms (world_of (replay es)) board stat program (Ok w) =
    subst (λ v. Reprograms v board stat program (Ok w)) shown was.2 in
    reprogrammed_world (world_of (replay es)) w board stat program (λ r a. stays (world_of (replay es)) board stat b s r normal (has_text (replay es) within) at here a) gives

-- ---- what is taken

none_taken : (es new : List Edit) (w : Contents) (replica : ℕ) → Shows es w → IsTaken es es w replica (Ok new) → new ≡ []
unfolding IsTaken
none_taken es new w replica shows is = elim is [
  | inl taken ↦
      let same : new ≡ taken.0 = let e : Ok new ≡ Ok taken.0 = taken.2 in cc in
      same ∙ taken.1.nothing shows
  | inr refused ↦ absurd (let e : Ok new ≡ Err (take_stop refused.0) = refused.2 in cc)
]

grown_none : (file : List ℕ) (number : ℕ) (es : List Edit) → grown file number (length es) es ≡ []
grown_none file number es = let same : (length es == length es) ≡ true = eq-eqb (length es) (length es) refl in rw same refl

draws_nothing : (file : List ℕ) (replica number : ℕ) (es : List Edit) (w : Contents) (x : Effect) → Shows es w
    → Draws file file replica (given (number, es) None w) (Ok x)
    → x ≡ nothing es
unfolding Draws IsJoined
draws_nothing file replica number es w x shows is =
    let g = given (number, es) None w in
    let joined = step_was (IsJoined es None) (λ all. Steps (IsTaken all (edits_of_base None es) w replica) (λ new r. r ≡ Ok (drawn file file g all new))) x is in
    let all_is : joined.0 ≡ es = let e : Ok joined.0 ≡ Ok es = joined.1 in cc in
    let drawing : Steps (IsTaken es es w replica) (λ new r. r ≡ Ok (drawn file file g es new)) (Ok x) =
    subst (λ all. Steps (IsTaken all es w replica) (λ new r. r ≡ Ok (drawn file file g all new)) (Ok x)) all_is joined.2 in
    let taken = step_was (IsTaken es es w replica) (λ new r. r ≡ Ok (drawn file file g es new)) x drawing in
    let none : taken.0 ≡ [] = none_taken es taken.0 w replica shows taken.1 in
    let same : x ≡ drawn file file g es taken.0 = let e : Ok x ≡ Ok (drawn file file g es taken.0) = taken.2 in cc in
    let files : drawn file file g es [] ≡ nothing es = ap (told_none es) (grown_none file number es) in
    same ∙ ap (λ new. drawn file file g es new) none ∙ files

-- ---- both

pub sets_nothing : PrintedIsRead → OwnProgramStays → ReadIsNormal → (es : List Edit) (board stat : ℕ) (b : BoardData) (s : StatData)
    → IsNormal (world_of (replay es))
    → slice_get (world_of (replay es)).boards board ≡ Some b → slice_get b.stats stat ≡ Some s
    → AllByRecursion (λ c. c < 256) (program_of b.stats s.code)
    → (text program : List ℕ) → printed board stat es ≡ Ok text → program_in text ≡ Ok program
    → (file : List ℕ) (replica number : ℕ) (x : Effect)
    → Sets file replica board stat program (number, es) (Ok x) → x ≡ nothing es
unfolding Sets
sets_nothing reads stays normal es board stat b s can at here bytes text program prints spells file replica number x is =
    let own = program_of b.stats s.code in
    let both = printed_text es board stat b s text at here prints in
    let again : Ok program ≡ Ok own = sym spells ∙ ap program_in both.1 ∙ reads own bytes in
    let same : program ≡ own = cc in
    let was = step_was (IsChanged es board stat program) (λ w. Draws file file replica (given (number, es) None w)) x is in
    let changed : IsChanged es board stat own (Ok was.0) = subst (λ p. IsChanged es board stat p (Ok was.0)) same was.1 in
    let whole = changed_world stays es board stat b s was.0 (normal can.file (world_of (replay es)) can.read) both.0 at here changed in
    let shows : Shows es was.0 =
    ap (λ o. unless_over o (world_of (replay es))) both.0 ∙ ap (λ w. Ok w) (sym whole) in
    draws_nothing file replica number es was.0 x shows was.2
