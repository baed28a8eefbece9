-- How `undo` goes on by its files.
use Rattle.std.proofs.Common.{◌≡◌, ◌≢◌, ◌∙◌, ℕ, zero, suc, Bool, true, false, List, [], ◌∷◌, Option, Some, None, Result, Ok, Err, ap, arith, refl, subst, sym, inl, inr}
use Rattle.std.specs.Prelude.{◌⊎◌, MatchResult, is_some}
use Rattle.zed_driver.specs.declared.command.Stop.TheVariants.{Memory}
use Rattle.zed_driver.specs.declared.input.Input.{Input}
use Rattle.zed_driver.specs.Effects.{Effect}
use Rattle.zed_document.specs.Replica.{Replica}
use Rattle.zed_files.specs.Gathers.{BeginsWithBytes}
use Rattle.zed_files.specs.Opened.{FileEdits}
use Rattle.cmd_take.specs.Files.{OpensAs}
use Rattle.cmd_take.specs.Steps.{Ends, Gives, IsLed, OrMemory, Reads}
use Rattle.cmd_take.specs.Stops.{DrawingStop, no_author}
use Rattle.cmd_take.proofs.TakeSteps.{authored}
use Rattle.zed_undo.specs.Choosing.{Wanted}
use Rattle.cmd_undo.specs.declared.manner.Manner.{Manner}
use Rattle.cmd_undo.specs.declared.stage.Stage.{Stage}
use Rattle.cmd_undo.specs.declared.stage.Stage.TheVariants.{Begun, Opened, Newer, Done}
use Rattle.cmd_undo.specs.Stages.{ComesNow, Leads, NewAsks, WantsNow, file_of, new_of, next_of, old_of}
use Rattle.cmd_undo.specs.Undoing.{Chosen, NewUndoes, OldAsks, OldUndoes, Pulled, UndoComes, UndoWants, Undoes, UndoesChosen, Wish, WishAsks, WishUndoes, between}

-- ---- what is undone

abbrev pub is_pulled : Wish → Bool
is_pulled (Chosen c) = false
is_pulled (Pulled new old) = true

pulled_asks : (wish : Wish) (f : FileEdits) (rest : List Input) (name : List ℕ) → is_pulled wish ≡ true → NewAsks wish f rest name
    → WishAsks wish f rest name
pulled_asks (Chosen c) f rest name is asks = absurd (let no : false ≡ true = is in cc)
pulled_asks (Pulled new old) f rest name is asks = asks

pulled_undoes : (file : List ℕ) (manner : Manner) (replica : ℕ) (wish : Wish) (f : FileEdits) (rest : List Input) (r : Result Effect DrawingStop)
    → is_pulled wish ≡ true → NewUndoes file manner replica f rest r → WishUndoes file manner replica wish f rest r
pulled_undoes file manner replica (Chosen c) f rest r is undoes = absurd (let no : false ≡ true = is in cc)
pulled_undoes file manner replica (Pulled new old) f rest r is undoes = undoes

chosen_undoes : (file : List ℕ) (manner : Manner) (replica : ℕ) (wish : Wish) (c : Wanted) (f : FileEdits) (rest : List Input) (r : Result Effect DrawingStop)
    → wish ≡ Chosen c → Ends (UndoesChosen file manner replica c f) rest r
    → WishUndoes file manner replica wish f rest r
chosen_undoes file manner replica wish c f rest r is undoes =
    subst (λ s. WishUndoes file manner replica s f rest r) (sym is) undoes

-- ---- FILE

-- it was read, and NEW is next
pub pulled_led : (file : List ℕ) (manner : Manner) (replica : ℕ) (wish : Wish) (i : Input) (f : FileEdits) → replica ≢ 0
    → BeginsWithBytes (i ∷ []) → OpensAs None i (Ok f) → is_pulled wish ≡ true
    → IsLed (i ∷ []) (UndoWants file replica wish) (UndoComes file manner replica wish)
    (λ rest name. NewAsks wish f rest name) (λ rest r. OrMemory (NewUndoes file manner replica f) rest r)
pulled_led file manner replica wish i f some there opens is = record {
  wants = λ rest name asks. (some, (f, opens, pulled_asks wish f rest name is asks));
  comes = λ rest r comes.
      authored replica (Reads (OpensAs None) (WishUndoes file manner replica wish)) i rest r some there (elim comes [
        | inl lack ↦ inl lack
        | inr next ↦ inr (Ok f, opens, pulled_undoes file manner replica wish f rest r is next)
      ]);
}

-- it was read, and what is chosen of it was undone
pub chosen_led : (file : List ℕ) (manner : Manner) (replica : ℕ) (wish : Wish) (i : Input) (f : FileEdits) (c : Wanted) (x : Effect) → replica ≢ 0
    → BeginsWithBytes (i ∷ []) → OpensAs None i (Ok f) → wish ≡ Chosen c → UndoesChosen file manner replica c f (Ok x)
    → IsLed (i ∷ []) (UndoWants file replica wish) (UndoComes file manner replica wish) (λ rest name. ⊥) (λ rest r. (rest ≡ []) × (r ≡ Ok x))
chosen_led file manner replica wish i f c x some there opens is undoes = record {
  wants = λ rest name none. absurd none;
  comes = λ rest r done.
      authored replica (Reads (OpensAs None) (WishUndoes file manner replica wish)) i rest r some there
      (inr (Ok f, opens, chosen_undoes file manner replica wish c f rest r is (done.0, subst (UndoesChosen file manner replica c f) (sym done.1) undoes)));
}

-- nothing was done with it
pub chosen_not_led : (file : List ℕ) (manner : Manner) (replica : ℕ) (wish : Wish) (i : Input) (f : FileEdits) (c : Wanted) (e : DrawingStop) → replica ≢ 0
    → BeginsWithBytes (i ∷ []) → OpensAs None i (Ok f) → wish ≡ Chosen c → (e ≡ Memory) ⊎ UndoesChosen file manner replica c f (Err e)
    → UndoComes file manner replica wish (i ∷ []) (Err e)
chosen_not_led file manner replica wish i f c e some there opens is why =
    authored replica (Reads (OpensAs None) (WishUndoes file manner replica wish)) i [] (Err e) some there (elim why [
      | inl lack ↦ inl (ap (λ x. Err x) lack)
      | inr undoes ↦ inr (Ok f, opens, chosen_undoes file manner replica wish c f [] (Err e) is (refl, undoes))
    ])

-- ---- OLD

-- it was read, and the edits between were undone
pub between_led : (file : List ℕ) (manner : Manner) (replica : ℕ) (old : List ℕ) (i : Input) (f n o : FileEdits) (x : Effect) → OpensAs (Some f.0) i (Ok o)
    → Undoes file manner replica (between n o f.1) f (Ok x)
    → IsLed (i ∷ []) (λ rest name. OldAsks old f rest name) (λ rest r. OrMemory (OldUndoes file manner replica f n) rest r)
    (λ rest name. ⊥) (λ rest r. (rest ≡ []) × (r ≡ Ok x))
between_led file manner replica old i f n o x opens undoes = record {
  wants = λ rest name none. absurd none;
  comes = λ rest r done. inr (Ok o, opens, (done.0, subst (Undoes file manner replica (between n o f.1) f) (sym done.1) undoes));
}

-- nothing was done with it
pub between_not_led : (file : List ℕ) (manner : Manner) (replica : ℕ) (i : Input) (f n o : FileEdits) (e : DrawingStop) → OpensAs (Some f.0) i (Ok o)
    → (e ≡ Memory) ⊎ Undoes file manner replica (between n o f.1) f (Err e)
    → OrMemory (OldUndoes file manner replica f n) (i ∷ []) (Err e)
between_not_led file manner replica i f n o e opens why = elim why [
  | inl lack ↦ inl (ap (λ x. Err x) lack)
  | inr undoes ↦ inr (Ok o, opens, (refl, undoes))
]

-- what both come to
pub old_comes : (file : List ℕ) (manner : Manner) (replica : ℕ) (wish : Wish) (i : Input) (d m : Replica) (o : FileEdits) (r : Result Effect DrawingStop)
    → OpensAs (Some d.world) i (Ok o) → Gives (λ x. x) (Undoes file manner replica (between (file_of m) o d.edits) (file_of d)) r
    → MatchResult r (λ x. Leads file manner replica wish (Newer d m) i (Ok (Done x))) (λ e. Leads file manner replica wish (Newer d m) i (Err e))
old_comes file manner replica wish i d m o (Ok x) opens gives = (tt, between_led file manner replica (old_of wish) i (file_of d) (file_of m) o x opens gives)
old_comes file manner replica wish i d m o (Err e) opens gives = between_not_led file manner replica i (file_of d) (file_of m) o e opens gives

-- ---- the stages

abbrev named : List ℕ → Option (List ℕ)
named name = Some name

some_same : (a b : List ℕ) → named a ≡ named b → b ≡ a
some_same a b is = cc

no_replica : (file : List ℕ) (replica : ℕ) (wish : Wish) → next_of file replica wish Begun ≡ None → replica ≡ 0
no_replica file zero wish is = refl
no_replica file (suc n) wish is = absurd (let no : named file ≡ None = is in cc)

-- an author's FILE is asked for first
pub file_is_next : (file : List ℕ) (replica : ℕ) (wish : Wish) → replica ≢ 0 → next_of file replica wish Begun ≡ Some file
file_is_next file zero wish some = absurd (some refl)
file_is_next file (suc n) wish some = refl

-- where FILE is asked for, there is an author
pub some_replica : (file : List ℕ) (replica : ℕ) (wish : Wish) → is_some (next_of file replica wish Begun) ≡ true → replica ≢ 0
some_replica file zero wish is = absurd (let no : false ≡ true = is in cc)
some_replica file (suc n) wish is = λ none. absurd (let no : suc n ≡ 0 = none in grind arith)

-- the next file is asked for
pub next_is_wanted : (file : List ℕ) (replica : ℕ) (wish : Wish) (stage : Stage) (name : List ℕ) → next_of file replica wish stage ≡ Some name
    → WantsNow file replica wish stage [] name
next_is_wanted file zero wish Begun name is = absurd (let no : None ≡ named name = is in cc)
next_is_wanted file (suc n) wish Begun name is = (λ none. absurd (let no : suc n ≡ 0 = none in grind arith), some_same file name is)
next_is_wanted file zero wish (Opened d) name is = some_same (new_of wish) name is
next_is_wanted file (suc n) wish (Opened d) name is = some_same (new_of wish) name is
next_is_wanted file zero wish (Newer d m) name is = some_same (old_of wish) name is
next_is_wanted file (suc n) wish (Newer d m) name is = some_same (old_of wish) name is
next_is_wanted file zero wish (Done x) name is = absurd (let no : None ≡ named name = is in cc)
next_is_wanted file (suc n) wish (Done x) name is = absurd (let no : None ≡ named name = is in cc)

-- a stage that asks for a file isn't the last
pub asks_yet : (file : List ℕ) (replica : ℕ) (wish : Wish) (at stage : Stage) (name : List ℕ) → at ≡ stage
    → next_of file replica wish at ≡ Some name → next_of file replica wish stage ≡ None
    → ⊥
asks_yet file replica wish at stage name is some none =
    let no : Some name ≡ None = sym some ∙ ap (next_of file replica wish) is ∙ none in cc

-- it is refused at once
pub none_for_no_author : (file : List ℕ) (manner : Manner) (replica : ℕ) (wish : Wish) (stage : Stage) → Begun ≡ stage
    → next_of file replica wish stage ≡ None
    → ComesNow file manner replica wish stage [] (Err no_author)
none_for_no_author file manner replica wish stage is none =
    subst (λ s. ComesNow file manner replica wish s [] (Err no_author)) is
    (inl (no_replica file replica wish (ap (next_of file replica wish) is ∙ none), refl, refl))

-- it comes to its effect
pub ends_done : (file : List ℕ) (manner : Manner) (replica : ℕ) (wish : Wish) (stage : Stage) (x : Effect) → Done x ≡ stage
    → ComesNow file manner replica wish stage [] (Ok x)
ends_done file manner replica wish stage x is = subst (λ s. ComesNow file manner replica wish s [] (Ok x)) is (refl, refl)
