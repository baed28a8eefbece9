-- What `take` comes to in a host that doesn't fail and holds its three files.
use Rattle.std.proofs.Common.{◌≡◌, ◌≢◌, ◌∙◌, ◌||◌, ℕ, Bool, true, false, List, [], ◌∷◌, Option, Some, None, Result, Ok, Err, ap, refl, subst, sym, inl, inr}
use Rattle.std.specs.Prelude.{◌⊎◌, MatchBool}
use Rattle.std.specs.Str.{bytes_eq}
use Rattle.zed_op.specs.declared.op.Edit.{Edit}
use Rattle.zed_world.specs.Contents.{Contents}
use Rattle.zed_host.specs.HostContents.{HostContents, file_in}
use Rattle.zed_driver.specs.declared.command.Stop.TheVariants.{Memory}
use Rattle.zed_driver.specs.declared.input.Input.{Input}
use Rattle.zed_driver.specs.declared.input.Input.TheVariants.{Bytes, Missing, Failed}
use Rattle.zed_driver.specs.Driven.{AreHeld, ComesIn, some_fails}
use Rattle.zed_driver.specs.Effects.{Effect}
use Rattle.zed_driver.specs.Reading.{Answer, AsksEach, files_of}
use Rattle.zed_driver.specs.Reads.{IsHeld, fails}
use Rattle.zed_files.specs.Opened.{FileEdits}
use Rattle.cmd_take.specs.declared.base.Presence.{Presence}
use Rattle.cmd_take.specs.declared.base.Presence.TheVariants.{Needed, Optional}
use Rattle.cmd_take.specs.declared.opening.Forcing.{Forcing}
use Rattle.cmd_take.specs.Base.{BaseAsks, BaseOf, HasEdits, base_word, presence_of}
use Rattle.cmd_take.specs.Files.{IsOpened, IsWorld, OpensAs, ReadsAs}
use Rattle.cmd_take.specs.Steps.{Asks, Coming, Ends, GoesOn, Reads, Steps}
use Rattle.cmd_take.specs.Stops.{DrawingStop}
use Rattle.cmd_take.specs.Taking.{BaseTakes, FileTakes, TakeComes, TakeWants, Takes, WorldAsks, WorldTakes, given}

-- ---- what was read

abbrev there : List ℕ → Option (List ℕ)
there bytes = Some bytes

-- a file that is there, where the device didn't fail
held_bytes : (t : HostContents) (name bytes : List ℕ) (i : Input) → file_in t name ≡ Some bytes → IsHeld t name i → (fails i ≡ true → ⊥)
    → i ≡ Bytes bytes
held_bytes t name bytes (Bytes read) at held calm =
    let both : there read ≡ there bytes = sym held ∙ at in
    let same : read ≡ bytes = cc in
    ap (λ b. Bytes b) same
held_bytes t name bytes Missing at held calm = absurd (let no : None ≡ there bytes = sym held ∙ at in cc)
held_bytes t name bytes Failed at held calm = absurd (calm refl)

-- an answer of such a host
answer_bytes : (t : HostContents) (name bytes : List ℕ) (r : Answer) → file_in t name ≡ Some bytes → r.name ≡ name → IsHeld t r.name r.file
    → (fails r.file ≡ true → ⊥)
    → r.file ≡ Bytes bytes
answer_bytes t name bytes r at is held calm =
    held_bytes t name bytes r.file at (subst (λ n. IsHeld t n r.file) is held) calm

-- of several answers, none of which failed, neither the first did nor another
first_calm : (a b : Bool) → ((a || b) ≡ true → ⊥) → (a ≡ true → ⊥)
first_calm true b calm is = calm refl
first_calm false b calm is = absurd (let no : false ≡ true = is in cc)

rest_calm : (a b : Bool) → ((a || b) ≡ true → ⊥) → (b ≡ true → ⊥)
rest_calm true b calm is = calm refl
rest_calm false b calm is = calm is

-- what a file that is there was made into
made_of : {X : Type 0} (Made : Input → Result X DrawingStop → Type 0) (Next : X → Coming) (i : Input) (bytes : List ℕ) (files : List Input) (x : Result Effect DrawingStop)
    → i ≡ Bytes bytes → Reads Made Next (i ∷ files) x
    → (m : Result X DrawingStop) × Made (Bytes bytes) m × GoesOn m Next files x
made_of Made Next i bytes files x is reads = subst (λ at. Reads Made Next (at ∷ files) x) is reads

-- a base that is there may be missing or not
base_is : (presence : Presence) (number : ℕ) (bytes : List ℕ) (m : Result (Option (List Edit)) DrawingStop) → BaseOf presence number (Bytes bytes) m
    → Steps (IsOpened (Some number) bytes) HasEdits m
base_is Needed number bytes m is = is
base_is Optional number bytes m is = is

-- ---- what follows

-- what is done with WORLD
abbrev pub OfWorld : List ℕ → List ℕ → ℕ → Forcing → List ℕ → FileEdits → Option (List Edit) → Result Effect DrawingStop → Type 0
OfWorld name file replica forcing world f b x = Steps (IsWorld world) (λ w. Takes name file replica forcing (given f b w)) x

-- what is done with the base and WORLD
abbrev pub OfBases : List ℕ → List ℕ → ℕ → Forcing → List ℕ → List ℕ → FileEdits → Result Effect DrawingStop → Type 0
OfBases name file replica forcing base world f x =
    Steps (λ m. Steps (IsOpened (Some f.0) base) HasEdits m) (OfWorld name file replica forcing world f) x

-- what is done with FILE, the base and WORLD, by their bytes
abbrev pub OfBytes : List ℕ → List ℕ → ℕ → Forcing → List ℕ → List ℕ → List ℕ → Result Effect DrawingStop → Type 0
OfBytes name file replica forcing own base world x = Steps (IsOpened None own) (OfBases name file replica forcing base world) x

world_last : (name file : List ℕ) (replica : ℕ) (forcing : Forcing) (world : List ℕ) (f : FileEdits) (b : Option (List Edit)) (m : Result Contents DrawingStop) (files : List Input) (x : Result Effect DrawingStop)
    → IsWorld world m → GoesOn m (λ w. Ends (Takes name file replica forcing (given f b w))) files x → OfWorld name file replica forcing world f b x
world_last name file replica forcing world f b (Ok w) files x is goes = (Ok w, is, goes.1)
world_last name file replica forcing world f b (Err e) files x is goes = (Err e, is, goes.1)

abbrev WantsWorld : HostContents → List ℕ → List Answer → Type 0
WantsWorld t world [] = Unit {0}
WantsWorld t world (r ∷ rs) = (r.name ≡ world) × IsHeld t r.name r.file × (fails r.file ≡ true → ⊥)

of_world : (t : HostContents) (name file : List ℕ) (replica : ℕ) (forcing : Forcing) (world bytes : List ℕ) (f : FileEdits) (b : Option (List Edit)) (rs : List Answer) (x : Result Effect DrawingStop)
    → file_in t world ≡ Some bytes → WantsWorld t world rs
    → WorldTakes name file replica forcing f b (files_of rs) x → OfWorld name file replica forcing bytes f b x
of_world t name file replica forcing world bytes f b [] x at wants takes = absurd takes
of_world t name file replica forcing world bytes f b (r ∷ rs) x at wants takes =
    let made = made_of ReadsAs (λ w. Ends (Takes name file replica forcing (given f b w))) r.file bytes (files_of rs) x (answer_bytes t world bytes r at wants.0 wants.1 wants.2) takes in
    world_last name file replica forcing bytes f b made.0 (files_of rs) x made.1 made.2

abbrev WantsBase : HostContents → List ℕ → List ℕ → List Answer → Type 0
WantsBase t name world [] = Unit {0}
WantsBase t name world (r ∷ rs) = (r.name ≡ name) × IsHeld t r.name r.file × (fails r.file ≡ true → ⊥) × WantsWorld t world rs

base_last : (t : HostContents) (name file : List ℕ) (replica : ℕ) (forcing : Forcing) (base world bytes : List ℕ) (f : FileEdits) (m : Result (Option (List Edit)) DrawingStop) (rs : List Answer) (x : Result Effect DrawingStop)
    → file_in t world ≡ Some bytes → WantsWorld t world rs → Steps (IsOpened (Some f.0) base) HasEdits m
    → GoesOn m (WorldTakes name file replica forcing f) (files_of rs) x
    → OfBases name file replica forcing base bytes f x
base_last t name file replica forcing base world bytes f (Ok b) rs x at wants is goes =
    (Ok b, is, of_world t name file replica forcing world bytes f b rs x at wants goes)
base_last t name file replica forcing base world bytes f (Err e) rs x at wants is goes = (Err e, is, goes.1)

of_bases : (t : HostContents) (presence : Presence) (name file : List ℕ) (replica : ℕ) (forcing : Forcing) (base world bytes : List ℕ) (f : FileEdits) (rs : List Answer) (x : Result Effect DrawingStop)
    → file_in t name ≡ Some base → file_in t world ≡ Some bytes → WantsBase t name world rs
    → Reads (BaseOf presence f.0) (WorldTakes name file replica forcing f) (files_of rs) x
    → OfBases name file replica forcing base bytes f x
of_bases t presence name file replica forcing base world bytes f [] x at there wants takes = absurd takes
of_bases t presence name file replica forcing base world bytes f (r ∷ rs) x at there wants takes =
    let made = made_of (BaseOf presence f.0) (WorldTakes name file replica forcing f) r.file base (files_of rs) x (answer_bytes t name base r at wants.0 wants.1 wants.2) takes in
    base_last t name file replica forcing base world bytes f made.0 rs x there wants.3 (base_is presence f.0 base made.0 made.1) made.2

file_last : (t : HostContents) (presence : Presence) (name file : List ℕ) (replica : ℕ) (forcing : Forcing) (own base world bytes : List ℕ) (m : Result FileEdits DrawingStop) (rs : List Answer) (x : Result Effect DrawingStop)
    → bytes_eq name file ≡ false → file_in t name ≡ Some base → file_in t world ≡ Some bytes → WantsBase t name world rs → IsOpened None own m
    → GoesOn m (BaseTakes presence name file replica forcing) (files_of rs) x → OfBytes name file replica forcing own base bytes x
file_last t presence name file replica forcing own base world bytes (Ok f) rs x other at there wants is goes =
    let takes = subst (λ b. MatchBool b (WorldTakes name file replica forcing f None (files_of rs) x) (Reads (BaseOf presence f.0) (WorldTakes name file replica forcing f) (files_of rs) x)) other goes in
    (Ok f, is, of_bases t presence name file replica forcing base world bytes f rs x at there wants takes)
file_last t presence name file replica forcing own base world bytes (Err e) rs x other at there wants is goes = (Err e, is, goes.1)

-- ---- what was asked for

base_asked : (presence : Presence) (name file world : List ℕ) (number : ℕ) (files : List Input) (wanted : List ℕ) → bytes_eq name file ≡ false
    → BaseAsks presence name file number (λ b. WorldAsks world) files wanted
    → Asks name (BaseOf presence number) (λ b. WorldAsks world) files wanted
base_asked presence name file world number files wanted other asks =
    subst (λ b. MatchBool b (WorldAsks world files wanted) (Asks name (BaseOf presence number) (λ b. WorldAsks world) files wanted)) other asks

wants_world : (t : HostContents) (base : Option (List ℕ)) (file : List ℕ) (replica : ℕ) (world : List ℕ) (i j : Input) (rs : List Answer)
    → bytes_eq (base_word base world) file ≡ false → AsksEach (TakeWants base file replica world) (i ∷ j ∷ []) rs → AreHeld t rs
    → (some_fails rs ≡ true → ⊥)
    → WantsWorld t world rs
wants_world t base file replica world i j [] other asks held calm = tt
wants_world t base file replica world i j (r ∷ rs) other asks held calm =
    let next = asks.0.1 in
    let last = base_asked (presence_of base) (base_word base world) file world next.0.0 (j ∷ []) r.name other next.2 in
    (last.2, held.0, first_calm (fails r.file) (some_fails rs) calm)

wants_base : (t : HostContents) (base : Option (List ℕ)) (file : List ℕ) (replica : ℕ) (world : List ℕ) (i : Input) (rs : List Answer)
    → bytes_eq (base_word base world) file ≡ false → AsksEach (TakeWants base file replica world) (i ∷ []) rs → AreHeld t rs
    → (some_fails rs ≡ true → ⊥)
    → WantsBase t (base_word base world) world rs
wants_base t base file replica world i [] other asks held calm = tt
wants_base t base file replica world i (r ∷ rs) other asks held calm =
    let next = asks.0.1 in
    let is = base_asked (presence_of base) (base_word base world) file world next.0.0 [] r.name other next.2 in (
      is,
      held.0,
      first_calm (fails r.file) (some_fails rs) calm,
      wants_world t base file replica world i r.file rs other asks.1 held.1 (rest_calm (fails r.file) (some_fails rs) calm),
    )

-- ---- the whole

takes_calmly : (t : HostContents) (base : Option (List ℕ)) (file : List ℕ) (replica : ℕ) (forcing : Forcing) (world own old bytes : List ℕ) (rs : List Answer) (x : Result Effect DrawingStop)
    → bytes_eq (base_word base world) file ≡ false → file_in t file ≡ Some own → file_in t (base_word base world) ≡ Some old
    → file_in t world ≡ Some bytes
    → AsksEach (TakeWants base file replica world) [] rs → AreHeld t rs → (some_fails rs ≡ true → ⊥)
    → FileTakes (presence_of base) (base_word base world) file replica forcing (files_of rs) x
    → OfBytes (base_word base world) file replica forcing own old bytes x
takes_calmly t base file replica forcing world own old bytes [] x other at base_at there asks held calm takes = absurd takes
takes_calmly t base file replica forcing world own old bytes (r ∷ rs) x other at base_at there asks held calm takes =
    let is = answer_bytes t file own r at asks.0.1 held.0 (first_calm (fails r.file) (some_fails rs) calm) in
    let made = made_of (OpensAs None) (BaseTakes (presence_of base) (base_word base world) file replica forcing) r.file own (files_of rs) x is takes in
    file_last t (presence_of base) (base_word base world) file replica forcing own old world bytes made.0 rs x other base_at there
    (wants_base t base file replica world r.file rs other asks.1 held.1 (rest_calm (fails r.file) (some_fails rs) calm)) made.1 made.2

-- in a host that didn't fail and holds its three files, `take` comes to what is done with their bytes; or memory is lacking
pub take_calmly : (t : HostContents) (base : Option (List ℕ)) (file : List ℕ) (replica : ℕ) (forcing : Forcing) (world own old bytes : List ℕ) (x : Result Effect DrawingStop)
    → replica ≢ 0 → bytes_eq (base_word base world) file ≡ false
    → file_in t file ≡ Some own → file_in t (base_word base world) ≡ Some old → file_in t world ≡ Some bytes
    → ComesIn ⊥ t (TakeWants base file replica world) (TakeComes base forcing file replica world) x
    → (x ≡ Err Memory) ⊎ OfBytes (base_word base world) file replica forcing own old bytes x
take_calmly t base file replica forcing world own old bytes x some other at base_at there comes = elim comes.2 [
  | inl none ↦ absurd (some none.0)
  | inr author ↦ elim author.1 [
    | inl lack ↦ inl lack.0
    | inr takes ↦ inr (takes_calmly t base file replica forcing world own old bytes comes.0 x other at base_at there comes.1.0 comes.1.1 comes.1.2 takes)
  ]
]
