-- Where an action may want memory.
use Rattle.std.proofs.Common.{◌≡◌, ◌∙◌, ℕ, zero, suc, List, Option, Some, None, Result, Ok, Err, ap, sym, subst}
use mathlib.Core.Logic.{◌⊎◌, inl, inr}
use Rattle.zed_types.specs.declared.names.StatId.{StatId}
use Rattle.zed_types.specs.declared.names.TextId.{TextId}
use Rattle.zed_edit.specs.declared.plain.Plain.{Plain}
use Rattle.zed_edit.specs.Numbers.{board_numbered, stat_numbered}
use Rattle.zed_edit.specs.Replay.{replay}
use Rattle.zed_document.specs.declared.error.DocumentError.{DocumentError}
use Rattle.zed_document.specs.declared.error.DocumentError.TheVariants as document
use Rattle.zed_document.specs.Reading.{text_of}
use Rattle.zed_document.specs.Replica.{Replica}
use Rattle.zed_action.specs.declared.action.Action.{Action}
use Rattle.zed_action.specs.declared.action.Action.TheVariants as action
use Rattle.zed_action.specs.declared.deed.Deed.{Deed}
use Rattle.zed_action.specs.declared.error.ActionError.{ActionError}
use Rattle.zed_action.specs.declared.error.ActionError.TheVariants.{BadAction}
use Rattle.zed_action.specs.Deeds.{◌>>=◌, ActionMayTake, AnyMayTake, DeedMayTake, WordsMayTake, board_in, deed_of, deletion_of, found, insertion_of, stat_in, target_in}
use Rattle.zed_action.specs.Refusals.{memory}
use Rattle.zed_action.specs.Words.{KeepsBytes, Word, action_of}

abbrev pub Answer : Type 0 → Type 0
Answer X = Result X DocumentError

abbrev pub lacking : {X : Type 0} → Answer X
lacking = Err document.Memory

abbrev refused : {X : Type 0} → DocumentError → Answer X
refused e = Err e

abbrev done : {X : Type 0} → X → Answer X
done x = Ok x

abbrev not_there : {X : Type 0} → Answer X
not_there = Err document.NoSuch

abbrev out_of_range : {X : Type 0} → Answer X
out_of_range = Err document.OutOfRange

-- a look-up that doesn't want memory
abbrev pub IsCalm : {X : Type 0} → Answer X → Type 0
IsCalm r = r ≡ lacking → ⊥

pub done_calm : {X : Type 0} (x : X) → IsCalm (done x)
done_calm x same = let bad : done x ≡ lacking = same in absurd cc

not_there_calm : {X : Type 0} → IsCalm {X = X} not_there
not_there_calm {X = X} same = let bad : not_there {X = X} ≡ lacking = same in absurd cc

out_calm : {X : Type 0} → IsCalm {X = X} out_of_range
out_calm {X = X} same = let bad : out_of_range {X = X} ≡ lacking = same in absurd cc

pub found_calm : {X : Type 0} (o : Option X) → IsCalm (found o)
found_calm None = not_there_calm
found_calm (Some x) = done_calm x

pub then_calm : {X Y : Type 0} (r : Answer X) (f : X → Answer Y) → IsCalm r → ((x : X) → IsCalm (f x)) → IsCalm (r >>= f)
then_calm {X = X} {Y = Y} (Ok x) f first next = next x
then_calm {X = X} {Y = Y} (Err e) f first next = λ same.
    let bad : refused {X = Y} e ≡ lacking = same in
    let is : e ≡ document.Memory = cc in
    first (ap (λ (z : DocumentError). refused {X = X} z) is)

pub board_calm : (p : Plain) (b : ℕ) → IsCalm (board_in p b)
board_calm p b = found_calm (board_numbered p b)

pub stat_calm : (p : Plain) (b s : ℕ) → IsCalm (stat_in p b s)
stat_calm p b s = then_calm (board_in p b) _ (board_calm p b) (λ board. found_calm (stat_numbered p board s))

target_calm : (p : Plain) (n : ℕ) → IsCalm (target_in p n)
target_calm p zero = done_calm None
target_calm p (suc n) = then_calm (board_in p (suc n)) _ (board_calm p (suc n)) (λ board. done_calm (Some board))

insertion_calm : (s : StatId) (t : Option TextId) (position : ℕ) (bytes : List ℕ) → IsCalm (insertion_of s t position bytes)
insertion_calm s (Some t) position bytes = done_calm _
insertion_calm s None zero bytes = done_calm _
insertion_calm s None (suc n) bytes = out_calm

deletion_calm : (t : Option TextId) (from to : ℕ) → IsCalm (deletion_of t from to)
deletion_calm None from to = not_there_calm
deletion_calm (Some t) from to = done_calm _

deed_calm : (p : Plain) (a : Action) → IsCalm (deed_of p a)
deed_calm p (action.BoardAdd name) = done_calm _
deed_calm p (action.BoardRemove b) = then_calm (board_in p b) _ (board_calm p b) (λ board. done_calm _)
deed_calm p (action.BoardName b name) = then_calm (board_in p b) _ (board_calm p b) (λ board. done_calm _)
deed_calm p (action.Exit b side to) =
    then_calm (board_in p b) _ (board_calm p b) (λ board. then_calm (target_in p to) _ (target_calm p to) (λ t. done_calm _))
deed_calm p (action.Rank b rank) = then_calm (board_in p b) _ (board_calm p b) (λ board. done_calm _)
deed_calm p (action.Cells b cells tile) = then_calm (board_in p b) _ (board_calm p b) (λ board. done_calm _)
deed_calm p (action.StatAdd b x y cycle) = then_calm (board_in p b) _ (board_calm p b) (λ board. done_calm _)
deed_calm p (action.StatRemove b s) = then_calm (stat_in p b s) _ (stat_calm p b s) (λ it. done_calm _)
deed_calm p (action.Insert b s position bytes) =
    then_calm (stat_in p b s) _ (stat_calm p b s) (λ it. insertion_calm it (text_of p it) position bytes)
deed_calm p (action.Delete b s from to) = then_calm (stat_in p b s) _ (stat_calm p b s) (λ it. deletion_calm (text_of p it) from to)

-- words that can't be read for want of memory keep bytes
pub parse_wants : (d : Replica) (replica : ℕ) (words : List Word) (e : ActionError)
    → e ≡ memory → ((e ≡ memory) × KeepsBytes (action_of words)) ⊎ ((e ≡ BadAction) × (action_of words ≡ None))
    → WordsMayTake d replica words
parse_wants d replica words e lack why =
    elim why [
      | inl keeps ↦ inl keeps.1
      | inr bad ↦ let no : BadAction ≡ memory = sym bad.0 ∙ lack in absurd cc
    ]

-- the things of an action are found without memory
pub deed_wants : (d : Replica) (replica : ℕ) (words : List Word) (a : Action) (e : DocumentError)
    → e ≡ document.Memory → deed_of (replay d.edits) a ≡ Err e → WordsMayTake d replica words
deed_wants d replica words a e lack is = absurd (deed_calm (replay d.edits) a (is ∙ ap (λ (z : DocumentError). Err z) lack))

-- and then it may take some by what it does
pub perform_wants : (d : Replica) (replica : ℕ) (words : List Word) (a : Action) (deed : Deed)
    → action_of words ≡ Some a → Ok deed ≡ deed_of (replay d.edits) a → DeedMayTake d replica deed → WordsMayTake d replica words
perform_wants d replica words a deed says comes takes =
    inr (subst (ActionMayTake d replica) (sym says) (subst (AnyMayTake d replica) comes takes))

-- what is told as want of memory is that
pub is_lack : {X : Type 0} (r : Result X ActionError) (e : ActionError) → r ≡ Err e → r ≡ Err memory → e ≡ memory
is_lack r e is lack = cc
