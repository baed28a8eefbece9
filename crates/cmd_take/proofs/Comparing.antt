-- Worlds compared by their texts.
use Rattle.zed_op.specs.declared.op.Edit.{Edit}
use Rattle.zed_edit.specs.declared.plain.Plain.{Plain}
use Rattle.zed_export.specs.declared.error.ExportError.{ExportError}
use Rattle.zed_world.specs.declared.error.WorldError.{WorldError}
use Rattle.cmd_take.specs.declared.reason.DrawingReason.TheVariants.{NotTaken}
use Rattle.zed_driver.specs.declared.command.Stop.TheVariants.{Memory, Refused}
use Rattle.std.specs.Global.{Vec}
use Rattle.std.proofs.Common.{◌≡◌, ◌∙◌, ℕ, false, List, Option, Some, None, Result, Ok, Err, ap, refl, subst, sym, inl, inr}
use Rattle.std.specs.Prelude.{◌⊎◌}
use Rattle.zed_world.specs.Contents.{Contents}
use Rattle.zed_world.specs.declared.error.WorldError.TheVariants as worlds
use Rattle.zed_world.specs.Writing.{HasText, unless_refused, world_text, written}
use Rattle.zed_edit.specs.Replay.{replay}
use Rattle.zed_document.specs.Replica.{Replica}
use Rattle.zed_export.specs.Limits.{Answers, exported, refusal_of, saved, unless_over, unless_stale}
use Rattle.zed_export.specs.World.{exported_boards, world_of}
use Rattle.zed_export.proofs.Within.{boards_within, none_over}
use Rattle.zed_refusal.specs.Stops.{export_stop}
use Rattle.zed_take.specs.Taken.{Shows}
use Rattle.cmd_take.specs.Opening.{IsExported, IsSame, IsSaved, export_told}
use Rattle.cmd_take.specs.Stops.{DrawingStop, drawing_stop}

abbrev shown_as : Contents → Result Contents ExportError
shown_as w = Ok w

-- what was saved is within the limit, and is the text of its world
pub record Stands (p : Plain) (bytes : List ℕ) : Type 0 where
  pub within : refusal_of 32767 p ≡ None
  pub text : bytes ≡ world_text (world_of p)
  pub shown : exported 32767 p ≡ Ok (world_of p)

stands : (p : Plain) (bytes : List ℕ) → saved 32767 p ≡ Ok bytes → Stands p bytes
stands p bytes is = go (refusal_of 32767 p) refl is
  where
    go : (o : Option ExportError) → refusal_of 32767 p ≡ o → unless_over o (world_text (world_of p)) ≡ Ok bytes → Stands p bytes
    go None none is = record {
      within = none;
      text = (let same : world_text (world_of p) ≡ bytes = cc in sym same);
      shown = ap (λ o. unless_over o (world_of p)) none;
    }
    go (Some e) some is = absurd (let no : Err e ≡ Ok bytes = is in cc)

-- the edits show one world at most
shows_one : (es : List Edit) (bytes : List ℕ) (w : Contents) → IsSaved es bytes → Shows es w → world_of (replay es) ≡ w
shows_one es bytes w is shows =
    let both : shown_as (world_of (replay es)) ≡ shown_as w = sym (stands (replay es) bytes is.0).shown ∙ shows in cc

-- a world that has no text isn't what edits show that can be saved
pub no_text_tells : (es : List Edit) (bytes : List ℕ) (w : Contents) → IsSaved es bytes → (HasText 32767 w → ⊥) → Shows es w → ⊥
no_text_tells es bytes w is none shows =
    let p = replay es in
    none (subst (HasText 32767) (shows_one es bytes w is shows) (none_over 32767 0 (exported_boards p) (boards_within 32767 p (stands p bytes is.0).within)))

-- ---- what is answered of a world

pub same_world : (es : List Edit) (w : Contents) → Shows es w → IsSame w (exported 32767 (replay es)) (Ok tt)
same_world es w shows = subst (λ r. IsSame w r (Ok tt)) (sym shows) (inl (refl, refl))

pub other_world : (es : List Edit) (bytes : List ℕ) (w : Contents) → IsSaved es bytes → (Shows es w → ⊥)
    → IsSame w (exported 32767 (replay es)) (Err (Refused NotTaken))
other_world es bytes w is other =
    let shown = (stands (replay es) bytes is.0).shown in
    subst (λ r. IsSame w r (Err (Refused NotTaken))) (sym shown) (inr (λ same. other (shown ∙ ap (λ v. Ok v) same), refl))

-- where the edits can't be exported, they can't be saved
pub unsaved : (es : List Edit) (w : Contents) (e : DrawingStop) → IsExported es (Err e) → IsSame w (exported 32767 (replay es)) (Err e)
unsaved es w e is = go (refusal_of 32767 (replay es)) is
  where
    go : (o : Option ExportError) → Err e ≡ export_told (unless_over o (world_text (world_of (replay es))))
        → IsSame w (unless_over o (world_of (replay es))) (Err e)
    go None nothing = absurd (cc)
    go (Some x) why = let same : e ≡ drawing_stop (export_stop x) = cc in ap (λ y. Err y) same

pub unsaved_gives : (es : List Edit) (w : Contents) (e : DrawingStop) → (e ≡ Memory) ⊎ IsExported es (Err e)
    → (e ≡ Memory) ⊎ IsSame w (exported 32767 (replay es)) (Err e)
unsaved_gives es w e why = elim why [ inl lack ↦ inl lack | inr is ↦ inr (unsaved es w e is) ]

abbrev as_text : List ℕ → Result (List ℕ) WorldError
as_text bytes = Ok bytes

-- a world that is refused for another reason than want of memory has no text
pub over_has_none : (w : Contents) (e : WorldError) → (e ≡ worlds.Memory → ⊥) → (e ≡ worlds.Memory) ⊎ (written 32767 w ≡ Err e)
    → HasText 32767 w
    → ⊥
unfolding written
over_has_none w e other why none = elim why [
  | inl lack ↦ other lack
  | inr over ↦ (let no : as_text (world_text w) ≡ Err e = sym (ap (λ o. unless_refused o (world_text w)) none) ∙ over in cc)
]

-- ---- limits that are told for sure

-- what is saved, by its bytes
abbrev pub Saves : Result (List ℕ) ExportError → Result (Vec ℕ) ExportError → Type 0
Saves s r = Answers {X = Vec ℕ} (λ file. file.items) s r

limit_is : (s : Result (List ℕ) ExportError) (x : ExportError) (e : DrawingStop) → Err e ≡ export_told s → Saves s (Err x)
    → drawing_stop (export_stop x) ≡ e
limit_is (Ok y) x e nothing is = absurd (cc)
limit_is (Err z) x e why is =
    let same : x ≡ z = cc in let told : e ≡ drawing_stop (export_stop z) = cc in ap (λ v. drawing_stop (export_stop v)) same ∙ sym told

limit_isnt : (s : Result (List ℕ) ExportError) (file : Vec ℕ) (e : DrawingStop) → Err e ≡ export_told s → Saves s (Ok file) → ⊥
limit_isnt (Ok y) file e nothing is = cc
limit_isnt (Err z) file e why is = cc

-- the first limit refuses the save
pub limit_told : (d : Replica) (x : ExportError) (e : DrawingStop) → d.is_stale ≡ false → IsExported d.edits (Err e)
    → Saves (unless_stale d (saved 32767)) (Err x)
    → drawing_stop (export_stop x) ≡ e
limit_told d x e sound why is = limit_is (saved 32767 (replay d.edits)) x e why (rw sound at is)

-- and without one it isn't refused so
pub limit_none : (d : Replica) (file : Vec ℕ) (e : DrawingStop) → d.is_stale ≡ false → IsExported d.edits (Err e)
    → Saves (unless_stale d (saved 32767)) (Ok file)
    → ⊥
limit_none d file e sound why is = limit_isnt (saved 32767 (replay d.edits)) file e why (rw sound at is)

-- ---- what was saved

pub saved_so : (d : Replica) (file : Vec ℕ) → d.is_stale ≡ false → Saves (unless_stale d (saved 32767)) (Ok file)
    → saved 32767 (replay d.edits) ≡ Ok file.items
saved_so d file sound is = go (saved 32767 (replay d.edits)) (rw sound at is)
  where
    go : (s : Result (List ℕ) ExportError) → Saves s (Ok file) → s ≡ Ok file.items
    go (Ok bytes) same = ap (λ x. Ok x) (sym same)
    go (Err e) same = absurd (cc)

pub saved_not : (d : Replica) (x : ExportError) (told : DrawingStop) → d.is_stale ≡ false
    → Saves (unless_stale d (saved 32767)) (Err x) → told ≡ drawing_stop (export_stop x)
    → (told ≡ Memory) ⊎ IsExported d.edits (Err told)
saved_not d x told sound is same = go (saved 32767 (replay d.edits)) (rw sound at is)
  where
    go : (s : Result (List ℕ) ExportError) → Saves s (Err x) → (told ≡ Memory) ⊎ (Err told ≡ export_told s)
    go (Ok bytes) lack = inl (same ∙ ap (λ e. drawing_stop (export_stop e)) lack)
    go (Err e) refused = let first : x ≡ e = cc in inr (ap (λ y. Err y) (same ∙ ap (λ y. drawing_stop (export_stop y)) first))
