-- How `take` goes on by its files.
use Rattle.std.proofs.Common.{◌≡◌, ◌≢◌, ◌∙◌, ℕ, true, false, zero, suc, List, [], ◌∷◌, Option, Some, None, Result, Ok, Err, ap, arith, refl, subst, sym, inl, inr}
use Rattle.std.specs.Prelude.{◌⊎◌, is_some, string_bytes}
use Rattle.std.specs.Str.{bytes_eq}
use Rattle.zed_op.specs.declared.op.Edit.{Edit}
use Rattle.zed_world.specs.Contents.{Contents}
use Rattle.zed_driver.specs.declared.command.Stop.TheVariants.{Memory}
use Rattle.zed_driver.specs.declared.input.Input.{Input}
use Rattle.zed_driver.specs.Effects.{Effect}
use Rattle.zed_driver.specs.Reading.{Wanting}
use Rattle.zed_files.specs.Gathers.{BeginsWithBytes}
use Rattle.zed_files.specs.Opened.{FileEdits}
use Rattle.cmd_take.specs.declared.base.Presence.{Presence}
use Rattle.cmd_take.specs.declared.opening.Forcing.{Forcing}
use Rattle.cmd_take.specs.declared.stages.TakeStage.{TakeStage}
use Rattle.cmd_take.specs.declared.stages.TakeStage.TheVariants.{Begun, Opened, Based, Done}
use Rattle.cmd_take.specs.Base.{BaseOf, BaseReads, base_word, presence_of}
use Rattle.cmd_take.specs.Files.{OpensAs, ReadsAs}
use Rattle.cmd_take.specs.Steps.{Asks, AsksNoMore, Authored, Coming, Ends, IsLed, OrMemory, Reads}
use Rattle.cmd_take.specs.Stops.{DrawingStop, no_author}
use Rattle.cmd_take.specs.TakeStages.{TakeComesNow, TakeWantsNow, take_next}
use Rattle.cmd_take.specs.Taking.{BaseTakes, FileTakes, TakeBaseAsks, TakeComes, TakeWants, Takes, WorldAsks, WorldTakes, given}
use Rattle.cmd_take.proofs.Files.{other_asks, other_reads, own_asks, own_reads, there_too}
use Rattle.cmd_take.proofs.Steps.{read_led, reads_on}

-- ---- FILE

-- what an author's command comes to where its first file is there
pub authored : (replica : ℕ) (Comes : Coming) (i : Input) (rest : List Input) (r : Result Effect DrawingStop) → replica ≢ 0
    → BeginsWithBytes (i ∷ [])
    → OrMemory Comes (i ∷ rest) r → Authored replica Comes (i ∷ rest) r
authored replica Comes i rest r some there is = elim is [
  | inl lack ↦ inr (some, inl (lack, there_too i rest there))
  | inr comes ↦ inr (some, inr comes)
]

-- it is refused for its first file, or lacks memory for it
pub authored_not : (replica : ℕ) (Made : Input → Result FileEdits DrawingStop → Type 0) (Next : FileEdits → Coming) (i : Input) (e : DrawingStop) → replica ≢ 0
    → (e ≡ Memory → BeginsWithBytes (i ∷ []))
    → (e ≡ Memory) ⊎ Made i (Err e) → Authored replica (Reads Made Next) (i ∷ []) (Err e)
authored_not replica Made Next i e some there why = elim why [
  | inl lack ↦ inr (some, inl (ap (λ x. Err x) lack, there lack))
  | inr made ↦ inr (some, inr (Err e, made, (refl, refl)))
]

-- what follows where FILE was read
opened_led : (base : Option (List ℕ)) (file : List ℕ) (replica : ℕ) (forcing : Forcing) (world : List ℕ) (i : Input) (f : FileEdits) (WantsNow : Wanting) (ComesNow : Coming)
    → replica ≢ 0 → BeginsWithBytes (i ∷ []) → OpensAs None i (Ok f)
    → ((rest : List Input) (name : List ℕ) → WantsNow rest name → TakeBaseAsks (presence_of base) (base_word base world) file world f rest name)
    → ((rest : List Input) (r : Result Effect DrawingStop) → ComesNow rest r → OrMemory (BaseTakes (presence_of base) (base_word base world) file replica forcing f) rest r)
    → IsLed (i ∷ []) (TakeWants base file replica world) (TakeComes base forcing file replica world) WantsNow ComesNow
opened_led base file replica forcing world i f WantsNow ComesNow some there opens wants comes = record {
  wants = λ rest name is. (some, (f, opens, wants rest name is));
  comes = λ rest r is.
      authored replica (FileTakes (presence_of base) (base_word base world) file replica forcing) i rest r some there
      (elim (comes rest r is) [
        | inl lack ↦ inl lack
        | inr next ↦ inr (reads_on (OpensAs None) (BaseTakes (presence_of base) (base_word base world) file replica forcing) i f rest r opens next)
      ]);
}

-- FILE was read, and has a base of this name, or is its own
pub opened_beside : (base : Option (List ℕ)) (file : List ℕ) (replica : ℕ) (forcing : Forcing) (world : List ℕ) (i : Input) (f : FileEdits) (n : List ℕ)
    → replica ≢ 0 → BeginsWithBytes (i ∷ []) → OpensAs None i (Ok f) → n ≡ base_word base world → bytes_eq n file ≡ false
    → IsLed (i ∷ []) (TakeWants base file replica world) (TakeComes base forcing file replica world)
    (λ rest name. Asks n (BaseOf (presence_of base) f.0) (λ o. WorldAsks world) rest name)
    (λ rest r. OrMemory (Reads (BaseOf (presence_of base) f.0) (WorldTakes n file replica forcing f)) rest r)
opened_beside base file replica forcing world i f n some there opens named other =
    subst (λ m. bytes_eq m file ≡ false
    → IsLed (i ∷ []) (TakeWants base file replica world) (TakeComes base forcing file replica world)
    (λ rest name. Asks m (BaseOf (presence_of base) f.0) (λ o. WorldAsks world) rest name)
    (λ rest r. OrMemory (Reads (BaseOf (presence_of base) f.0) (WorldTakes m file replica forcing f)) rest r)) (sym named)
    (λ other. opened_led base file replica forcing world i f _ _ some there opens
    (λ rest name is. other_asks (presence_of base) (base_word base world) file f.0 (λ o. WorldAsks world) rest name other is)
    (λ rest r is. elim is [
      | inl lack ↦ inl lack
      | inr next ↦ inr (other_reads (presence_of base) (base_word base world) file f.0 (WorldTakes (base_word base world) file replica forcing f) rest r other next)
    ])) other

pub opened_alone : (base : Option (List ℕ)) (file : List ℕ) (replica : ℕ) (forcing : Forcing) (world : List ℕ) (i : Input) (f : FileEdits) (n : List ℕ)
    → replica ≢ 0 → BeginsWithBytes (i ∷ []) → OpensAs None i (Ok f) → n ≡ base_word base world → bytes_eq n file ≡ true
    → IsLed (i ∷ []) (TakeWants base file replica world) (TakeComes base forcing file replica world)
    (λ rest name. WorldAsks world rest name)
    (λ rest r. OrMemory (WorldTakes n file replica forcing f None) rest r)
opened_alone base file replica forcing world i f n some there opens named own =
    subst (λ m. bytes_eq m file ≡ true
    → IsLed (i ∷ []) (TakeWants base file replica world) (TakeComes base forcing file replica world)
    (λ rest name. WorldAsks world rest name)
    (λ rest r. OrMemory (WorldTakes m file replica forcing f None) rest r)) (sym named)
    (λ own. opened_led base file replica forcing world i f _ _ some there opens
    (λ rest name is. own_asks (presence_of base) (base_word base world) file f.0 (λ o. WorldAsks world) rest name own is)
    (λ rest r is. elim is [
      | inl lack ↦ inl lack
      | inr next ↦ inr (own_reads (presence_of base) (base_word base world) file f.0 (WorldTakes (base_word base world) file replica forcing f) rest r own next)
    ])) own

-- ---- the base

-- it was read
pub based_on : (presence : Presence) (file : List ℕ) (replica : ℕ) (forcing : Forcing) (world : List ℕ) (i : Input) (f : FileEdits) (n : List ℕ) (b : Option (List Edit))
    → BaseOf presence f.0 i (Ok b)
    → IsLed (i ∷ []) (λ rest name. Asks n (BaseOf presence f.0) (λ o. WorldAsks world) rest name)
    (λ rest r. OrMemory (Reads (BaseOf presence f.0) (WorldTakes n file replica forcing f)) rest r)
    (λ rest name. WorldAsks world rest name)
    (λ rest r. OrMemory (WorldTakes n file replica forcing f b) rest r)
based_on presence file replica forcing world i f n b is =
    read_led n (BaseOf presence f.0) (λ o. WorldAsks world) (WorldTakes n file replica forcing f) i b is

-- ---- WORLD

-- it was read, and this was done with it
pub drawn_on : (base file : List ℕ) (replica : ℕ) (forcing : Forcing) (world : List ℕ) (i : Input) (f : FileEdits) (b : Option (List Edit)) (w : Contents) (x : Effect)
    → ReadsAs i (Ok w) → Takes base file replica forcing (given f b w) (Ok x)
    → IsLed (i ∷ []) (λ rest name. WorldAsks world rest name) (λ rest r. OrMemory (WorldTakes base file replica forcing f b) rest r)
    (λ rest name. ⊥) (λ rest r. (rest ≡ []) × (r ≡ Ok x))
drawn_on base file replica forcing world i f b w x is draws = record {
  wants = λ rest name none. absurd none;
  comes = λ rest r done.
      inr (Ok w, is, (done.0, subst (Takes base file replica forcing (given f b w)) (sym done.1) draws));
}

-- nothing was done with it
pub drawn_not : (base file : List ℕ) (replica : ℕ) (forcing : Forcing) (i : Input) (f : FileEdits) (b : Option (List Edit)) (w : Contents) (e : DrawingStop)
    → ReadsAs i (Ok w) → (e ≡ Memory) ⊎ Takes base file replica forcing (given f b w) (Err e)
    → OrMemory (WorldTakes base file replica forcing f b) (i ∷ []) (Err e)
drawn_not base file replica forcing i f b w e is why = elim why [
  | inl lack ↦ inl (ap (λ x. Err x) lack)
  | inr draws ↦ inr (Ok w, is, (refl, draws))
]

-- ---- the stages

abbrev named : List ℕ → Option (List ℕ)
named name = Some name

some_same : (a b : List ℕ) → named a ≡ named b → b ≡ a
some_same a b is = cc

no_replica : (file : List ℕ) (replica : ℕ) (world : List ℕ) → take_next file replica world Begun ≡ None → replica ≡ 0
no_replica file zero world is = refl
no_replica file (suc n) world is = absurd (let no : named file ≡ None = is in cc)

-- an author's FILE is asked for first
pub file_is_next : (file : List ℕ) (replica : ℕ) (world : List ℕ) → replica ≢ 0 → take_next file replica world Begun ≡ Some file
file_is_next file zero world some = absurd (some refl)
file_is_next file (suc n) world some = refl

-- where FILE is asked for, there is an author
pub some_replica : (file : List ℕ) (replica : ℕ) (world : List ℕ) → is_some (take_next file replica world Begun) ≡ true → replica ≢ 0
some_replica file zero world is = absurd (let no : false ≡ true = is in cc)
some_replica file (suc n) world is = λ none. absurd (let no : suc n ≡ 0 = none in grind arith)

-- the next file is asked for
pub next_is_wanted : (base : Option (List ℕ)) (file : List ℕ) (replica : ℕ) (world : List ℕ) (stage : TakeStage) (name : List ℕ)
    → take_next file replica world stage ≡ Some name
    → TakeWantsNow base file replica world stage [] name
next_is_wanted base file zero world Begun name is = absurd (let no : None ≡ named name = is in cc)
next_is_wanted base file (suc n) world Begun name is =
    (λ none. absurd (let no : suc n ≡ 0 = none in grind arith), some_same file name is)
next_is_wanted base file zero world (Opened d own) name is = some_same (string_bytes own) name is
next_is_wanted base file (suc n) world (Opened d own) name is = some_same (string_bytes own) name is
next_is_wanted base file zero world (Based d b own) name is = some_same world name is
next_is_wanted base file (suc n) world (Based d b own) name is = some_same world name is
next_is_wanted base file zero world (Done x) name is = absurd (let no : None ≡ named name = is in cc)
next_is_wanted base file (suc n) world (Done x) name is = absurd (let no : None ≡ named name = is in cc)

-- a stage that asks for a file isn't the last
pub asks_yet : (file : List ℕ) (replica : ℕ) (world : List ℕ) (at stage : TakeStage) (name : List ℕ) → at ≡ stage
    → take_next file replica world at ≡ Some name → take_next file replica world stage ≡ None
    → ⊥
asks_yet file replica world at stage name is some none =
    let no : Some name ≡ None = sym some ∙ ap (take_next file replica world) is ∙ none in cc

-- it is refused at once
pub none_for_no_author : (base : Option (List ℕ)) (file : List ℕ) (replica : ℕ) (forcing : Forcing) (world : List ℕ) (stage : TakeStage) → Begun ≡ stage
    → take_next file replica world stage ≡ None
    → TakeComesNow base forcing file replica world stage [] (Err no_author)
none_for_no_author base file replica forcing world stage is none =
    subst (λ s. TakeComesNow base forcing file replica world s [] (Err no_author)) is (inl (no_replica file replica world (ap (take_next file replica world) is ∙ none), refl, refl))

-- it comes to its effect
pub ends_done : (base : Option (List ℕ)) (file : List ℕ) (replica : ℕ) (forcing : Forcing) (world : List ℕ) (stage : TakeStage) (x : Effect) → Done x ≡ stage
    → TakeComesNow base forcing file replica world stage [] (Ok x)
ends_done base file replica forcing world stage x is =
    subst (λ s. TakeComesNow base forcing file replica world s [] (Ok x)) is (refl, refl)
