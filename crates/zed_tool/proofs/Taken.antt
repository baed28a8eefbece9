-- What `take` comes to where its files spell lists of edits.
use Rattle.zed_editfile.specs.declared.error.EditFileError.{EditFileError}
use Rattle.zed_editfile.specs.declared.error.EditFileError.TheVariants as file
use Rattle.zed_types.specs.declared.stamp.Stamp.{Stamp}
use Rattle.zed_op.specs.declared.op.Edit.{Edit}
use Rattle.std.proofs.Common.{◌≡◌, ◌∙◌, ◌==◌, ◌<◌, ◌^◌, ℕ, Bool, true, false, List, [], ◌∷◌, ◌++◌, Option, Some, None, Result, Ok, Err, refl, ap, ap₂, sym, subst, arith, inl, inr, ◌≢◌}
use Rattle.std.specs.Prelude.{◌⊎◌, not, Contains}
use Rattle.std.specs.Str.{bytes_eq}
use Rattle.std.proofs.lemmas.List.Elements.{Contains-append_left, Contains-append_right}
use Rattle.std.proofs.lemmas.Bool.{ne_eqb}
use Rattle.zed_op.specs.Set.{Agrees, set_of, union}
use Rattle.zed_op.proofs.SetLaws.{set_has_its_edits}
use Rattle.zed_history.specs.Clash.{Agree}
use Rattle.zed_world.specs.Contents.{Contents}
use Rattle.zed_editfile.specs.Stream.{AreRecords, IsTextOf, Progress, Reads, ending, is_other}
use Rattle.zed_document.specs.Delivery.{IsFirstClash}
use Rattle.zed_files.specs.Files.{IsFile, IsTextIn, end_by}
use Rattle.zed_files.specs.Opened.{FileEdits}
use Rattle.zed_files.specs.Rewrites.{opened_at}
use Rattle.zed_host.specs.HostContents.{HostContents, file_in}
use Rattle.zed_driver.specs.declared.command.Stop.TheVariants.{Memory}
use Rattle.zed_driver.specs.Driven.{ComesIn}
use Rattle.zed_driver.specs.Effects.{Effect}
use Rattle.cmd_take.specs.Base.{HasEdits, base_word}
use Rattle.cmd_take.specs.Files.{IsOpened, world_told}
use Rattle.cmd_take.specs.Steps.{Then}
use Rattle.cmd_take.specs.Stops.{DrawingStop, drawing_told, take_stop}
use Rattle.cmd_take.specs.declared.opening.Forcing.{Forcing}
use Rattle.cmd_take.specs.Taking.{IsJoined, IsTaken, TakeComes, TakeWants, Takes, given, took}
use Rattle.zed_tool_words.specs.declared.asked.Forcing.{Forcing as ForcingWord}
use Rattle.zed_tool.specs.Commands.{forcing_of}
use Rattle.cmd_take.proofs.Calm.{OfBases, OfBytes, OfWorld, take_calmly}
use Rattle.zed_tool.specs.Answers.{drawing_failure, memory}
use Rattle.zed_tool.specs.Calm.{Ending, HasStatus, Leaves, left_by}
use Rattle.zed_tool.specs.Taking.{AsksToTake, TakesSet}

-- the text of a list of edits, in either version, reads as that list, to its end
abbrev pub WrittenIsRead : Type 0
WrittenIsRead =
    (n : ℕ) (es found : List Edit) (bytes : List ℕ) (p : Progress) → n < 2 ^ 64 → AreRecords es → IsTextOf n es bytes → is_other p.asked n ≡ false → Reads bytes found p → p.fault ≢ Some file.Memory
    → (found ≡ es) × (ending p ≡ None) × (p.world ≡ Some n)

-- by the laws of edit files: bytes are read in one way, and the text of edits as those edits
pub written_is_read : ((bytes : List ℕ) (es fs : List Edit) (p q : Progress) → p.asked ≡ q.asked → p.fault ≢ Some file.Memory → q.fault ≢ Some file.Memory → Reads bytes es p → Reads bytes fs q → (es ≡ fs) × (p ≡ q))
    → ((asked : Option ℕ) (n : ℕ) (es : List Edit) (bytes : List ℕ) → n < 2 ^ 64 → is_other asked n ≡ false → AreRecords es → (text : IsTextOf n es bytes) → Reads bytes es (record { asked = asked; world = Some n; version = text.version; rest = []; fault = None }))
    → WrittenIsRead
written_is_read one whole n es found bytes p small good text own reads sound =
    let there = whole p.asked n es bytes small own good text in
    let same = one bytes found es p (record { asked = p.asked; world = Some n; version = text.version; rest = []; fault = None }) refl sound (λ bad. let no : None ≡ Some file.Memory = bad in cc) reads there in
    (same.0, ap ending same.1, ap (λ (q : Progress). q.world) same.1)

file_is : WrittenIsRead → (asked : Option ℕ) (n : ℕ) (es found : List Edit) (bytes : List ℕ) (end : Result ℕ EditFileError) → n < 2 ^ 64
    → AreRecords es → IsTextOf n es bytes → is_other asked n ≡ false
    → IsFile asked bytes found end → (found ≡ es) × (end ≡ Ok n)
file_is law asked n es found bytes end small good text own file =
    let read = law n es found bytes file.progress small good text (ap (λ a. is_other a n) file.asks ∙ own) file.reads file.sound in
    (read.0, file.ends ∙ ap₂ end_by read.1 read.2)

records_left : (es fs : List Edit) → AreRecords (es ++ fs) → AreRecords es
records_left [] fs h = tt
records_left (e ∷ es) fs h = (h.0, records_left es fs h.1)

records_right : (es fs : List Edit) → AreRecords (es ++ fs) → AreRecords fs
records_right [] fs h = h
records_right (e ∷ es) fs h = records_right es fs h.1

same_world : (n : ℕ) → is_other (Some n) n ≡ false
same_world n = go (n == n) refl
  where
    go : (b : Bool) → (n == n) ≡ b → not b ≡ false
    go true t = refl
    go false t = let bad = ne_eqb n n in absurd (grind arith)

no_clash : (es : List Edit) (c : Stamp) → Agrees es → IsFirstClash es c → ⊥
no_clash es c agrees clash =
    let other = clash.clashes in
    let left : Contains es other.0 =
    subst (λ l. Contains l other.0) (sym clash.whole) (Contains-append_left clash.before (clash.edit ∷ clash.after) other.0 other.1) in
    let here : Contains (clash.edit ∷ clash.after) clash.edit = (0, omega arith, refl) in
    let right : Contains es clash.edit = subst (λ l. Contains l clash.edit) (sym clash.whole) (Contains-append_right clash.before (clash.edit ∷ clash.after) clash.edit here) in
    other.3 (agrees other.0 clash.edit left right other.2)

agree_left : (es fs : List Edit) → Agrees (es ++ fs) → Agrees es
agree_left es fs a e f m n s = a e f (Contains-append_left es fs e m) (Contains-append_left es fs f n) s

agree_right : (es fs : List Edit) → Agrees (es ++ fs) → Agrees fs
agree_right es fs a e f m n s = a e f (Contains-append_right es fs e m) (Contains-append_right es fs f n) s

sets_agree : (es fs : List Edit) → Agrees (es ++ fs) → Agree (set_of es) (set_of fs)
sets_agree es fs a e f m n s =
    a e f (Contains-append_left es fs e ((set_has_its_edits es (agree_left es fs a) e).0 m))
    (Contains-append_right es fs f ((set_has_its_edits fs (agree_right es fs a) f).0 n)) s

-- a step that went well, and what followed it
then_ok : {X Y : Type 0} (N : X → Result Y DrawingStop → Type 0) (m : Result X DrawingStop) (x : X) (r : Result Y DrawingStop) → m ≡ Ok x
    → Then m N r
    → N x r
then_ok N m x r is after = subst (λ m. Then m N r) is after

-- one that was refused
then_err : {X Y : Type 0} (N : X → Result Y DrawingStop → Type 0) (m : Result X DrawingStop) (e : DrawingStop) (r : Result Y DrawingStop)
    → m ≡ Err e → Then m N r
    → r ≡ Err e
then_err N m e r is after = subst (λ m. Then m N r) is after

-- bytes that spell edits open as their set
bytes_opened : WrittenIsRead → (asked : Option ℕ) (n : ℕ) (es : List Edit) (bytes : List ℕ) (m : Result FileEdits DrawingStop) → n < 2 ^ 64
    → AreRecords es → Agrees es
    → is_other asked n ≡ false → IsTextOf n es bytes → IsOpened asked bytes m → m ≡ Ok (n, set_of es)
bytes_opened law asked n es bytes m small good agrees own text opened =
    let file = opened.1 in
    let found = file.0 in
    let is = file_is law asked n es found bytes file.1 small good text own file.2 in
    let told : opened.0 ≡ Ok (n, set_of es) = elim file.3 [
      | inl clash ↦ absurd (no_clash found clash.0 (subst Agrees (sym is.0) agrees) clash.1)
      | inr whole ↦ whole.1 ∙ ap₂ opened_at is.1 is.0
    ] in
    opened.2 ∙ ap drawing_told told

-- a file that spells edits is there
text_there : (n : ℕ) (es : List Edit) (file : Option (List ℕ)) → IsTextIn n es file → (bytes : List ℕ) × (file ≡ Some bytes) × IsTextOf n es bytes
text_there n es None text = absurd text
text_there n es (Some bytes) text = (bytes, refl, text)

-- what is done with it
abbrev TakesBoth : List ℕ → List ℕ → Forcing → ℕ → ℕ → List Edit → List Edit → Contents → Result Effect DrawingStop → Type 0
TakesBoth name file forcing replica number own based shown r =
    (k : _) × IsTaken (union own based) based shown replica k
    × Then k (λ new r. r ≡ took name file forcing (given (number, own) (Some based) shown) (union own based) new) r

takes_both : (name file : List ℕ) (forcing : Forcing) (replica number : ℕ) (own based : List Edit) (shown : Contents) (r : Result Effect DrawingStop)
    → Agree own based
    → Takes name file replica forcing (given (number, own) (Some based) shown) r → TakesBoth name file forcing replica number own based shown r
unfolding Takes IsJoined
takes_both name file forcing replica number own based shown r agree draws =
    let joined : draws.0 ≡ Ok (union own based) = elim draws.1 [
      | inl both ↦ both.1
      | inr clash ↦ absurd (let at = clash.1.clashes in at.6 (agree at.0 at.1 at.2 at.3 (at.4 ∙ sym at.5)))
    ] in
    then_ok _ draws.0 (union own based) r joined draws.2

taken_set : (name file : List ℕ) (t : HostContents) (forcing : ForcingWord) (replica number : ℕ) (own based : List Edit) (shown : Contents) (x : Result Effect DrawingStop) (status : ℕ) (new : Option HostContents)
    → TakesBoth name file (forcing_of forcing) replica number own based shown x → HasStatus (left_by (drawing_failure file) t x) t status new
    → TakesSet name file t forcing replica number own based shown status new
unfolding IsTaken
taken_set name file t forcing replica number own based shown x status new draws has = elim draws.1 [
  | inl taken ↦ (
      let is = then_ok _ draws.0 taken.0 x taken.2 draws.2 in
      inl (taken.0, taken.1, subst (λ x. HasStatus (left_by (drawing_failure file) t x) t status new) is has))
  | inr none ↦ (
      let is = then_err _ draws.0 (take_stop none.0) x none.2 draws.2 in
      inr (inl (none.0, none.1, subst (λ x. HasStatus (left_by (drawing_failure file) t x) t status new) is has)))
]

-- the set of what the bytes of the three files spell is drawn
draws_of : WrittenIsRead
    → (words : List (List ℕ)) (t : HostContents) (name file : List ℕ) (forcing : ForcingWord) (replica number : ℕ) (own based : List Edit) (shown : Contents) (x : Result Effect DrawingStop)
    → (asks : AsksToTake words t name file forcing replica number own based shown) (first second : List ℕ) → IsTextOf number own first → IsTextOf number based second
    → OfBytes name file replica (forcing_of forcing) first second asks.bytes x
    → TakesBoth name file (forcing_of forcing) replica number (set_of own) (set_of based) shown x
draws_of law words t name file forcing replica number own based shown x asks first second text base_text is =
    let one = bytes_opened law None number own first is.0 asks.is_number (records_left own based asks.records) (agree_left own based asks.agree) refl text is.1 in
    let bases = then_ok (OfBases name file replica (forcing_of forcing) second asks.bytes) is.0 (number, set_of own) x one is.2 in
    let based_on = bases.1 in
    let two = then_ok HasEdits based_on.0 (number, set_of based) bases.0
    (bytes_opened law (Some number) number based second based_on.0 asks.is_number (records_right own based asks.records) (agree_right own based asks.agree) (same_world number) base_text based_on.1)
    based_on.2 in
    let last = then_ok (OfWorld name file replica (forcing_of forcing) asks.bytes (number, set_of own)) bases.0 (Some (set_of based)) x two bases.2 in
    let three : last.0 ≡ Ok shown = last.1 ∙ ap world_told asks.reads in
    let draws = then_ok (λ w. Takes name file replica (forcing_of forcing) (given (number, set_of own) (Some (set_of based)) w)) last.0 shown x three last.2 in
    takes_both name file (forcing_of forcing) replica number (set_of own) (set_of based) shown x (sets_agree own based asks.agree) draws

-- where memory suffices, that is what `take` comes to
takes_set : WrittenIsRead
    → (words : List (List ℕ)) (t : HostContents) (name file : List ℕ) (forcing : ForcingWord) (replica number : ℕ) (own based : List Edit) (shown : Contents) (x : Result Effect DrawingStop)
    → (asks : AsksToTake words t name file forcing replica number own based shown)
    → ComesIn ⊥ t (TakeWants asks.base file replica asks.world) (TakeComes asks.base (forcing_of forcing) file replica asks.world) x
    → (x ≡ Err Memory) ⊎ TakesBoth name file (forcing_of forcing) replica number (set_of own) (set_of based) shown x
takes_set law words t name file forcing replica number own based shown x asks comes =
    let first = text_there number own (file_in t file) asks.spelled in
    let second = text_there number based (file_in t name) asks.base_spelled in
    let word = asks.is_base in
    elim (take_calmly t asks.base file replica (forcing_of forcing) asks.world first.0 second.0 asks.bytes x asks.is_author (subst (λ n. bytes_eq n file ≡ false) word asks.other) first.1 (subst (λ n. file_in t n ≡ Some second.0) word second.1) asks.there comes) [
      | inl lack ↦ inl lack
      | inr all ↦ inr (draws_of law words t name file forcing replica number own based shown x asks first.0 second.0 first.2 second.2 (subst (λ n. OfBytes n file replica (forcing_of forcing) first.0 second.0 asks.bytes x) (sym word) all))
    ]

-- how `take` ends where its host didn't fail, whatever the devices of a playtest are
abbrev EndsTaking : HostContents → Option (List ℕ) → Forcing → List ℕ → ℕ → List ℕ → ℕ → Option HostContents → Type 0
EndsTaking t base forcing file replica world status new =
    ((ending : Ending) × Leaves (left_by (drawing_failure file) t) (ComesIn ⊥ t (TakeWants base file replica world) (TakeComes base forcing file replica world)) ending
    × HasStatus ending t status new)
    ⊎ HasStatus (Err memory) t status new

-- and `run` ends so
pub run_takes : WrittenIsRead
    → (words : List (List ℕ)) (t : HostContents) (name file : List ℕ) (forcing : ForcingWord) (replica number : ℕ) (own based : List Edit) (shown : Contents) (status : ℕ)
    (new : Option HostContents) → (asks : AsksToTake words t name file forcing replica number own based shown)
    → EndsTaking t asks.base (forcing_of forcing) file replica asks.world status new
    → TakesSet name file t forcing replica number (set_of own) (set_of based) shown status new
run_takes law words t name file forcing replica number own based shown status new asks ended = elim ended [
  | inl done ↦ (
      let comes = done.1 in
      let x = comes.0 in
      let has : HasStatus (left_by (drawing_failure file) t x) t status new = subst (λ r. HasStatus r t status new) comes.2 done.2 in
      elim (takes_set law words t name file forcing replica number own based shown x asks comes.1) [
        | inl lack ↦ inr (inr (subst (λ x. HasStatus (left_by (drawing_failure file) t x) t status new) lack has))
        | inr draws ↦ taken_set name file t forcing replica number (set_of own) (set_of based) shown x status new draws has
      ])
  | inr lacks ↦ inr (inr lacks)
]
