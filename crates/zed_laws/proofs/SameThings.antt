-- What is made stays made, and decides alone which edits are taken.
use Rattle.std.proofs.Common.{◌≡◌, Bool, true, false, cond, ◌||◌, [], ◌∷◌, Option, Some, None, Result, Ok, Err, refl, ap, ◌∙◌, sym}
use Rattle.std.specs.List.{list_all}
use Rattle.std.specs.Option.{is_some}
use mathlib.Core.Path.{fun_ext}
use Rattle.zed_types.specs.declared.stamp.Stamp.{Stamp}
use Rattle.zed_types.specs.declared.names.TextId.{TextId}
use Rattle.zed_types.specs.declared.names.ElemId.{ElemId}
use Rattle.zed_types.specs.Names.{same_text}
use Rattle.zed_world.specs.Contents.{Contents}
use Rattle.zed_world.specs.Reading.{world_at}
use Rattle.zed_world.specs.declared.error.WorldError.{WorldError}
use Rattle.zed_op.specs.declared.op.Op.{Op}
use Rattle.zed_op.specs.declared.op.Op.TheVariants.{Genesis}
use Rattle.zed_op.specs.declared.op.Edit.{Edit}
use Rattle.zed_edit.specs.declared.plain.Text.{Text}
use Rattle.zed_edit.specs.declared.plain.Plain.{Plain as Document}
use Rattle.zed_op.specs.declared.thing.Thing.{Thing}
use Rattle.zed_op.specs.declared.thing.Thing.TheVariants.{Board as board, Stat as stat, Text as text, Element as element}
use Rattle.zed_edit.specs.Document.{find_text, has}
use Rattle.zed_op.specs.Names.{names_of}
use Rattle.zed_edit.specs.Replay.{can, do_edit, hold, step, taken_on, held_on}
use Rattle.zed_laws.specs.Laws.{MadeStaysMade, MadeOutlastsEdits, MadeTheSame, TakenByWhatIsMade, HeldByWhatIsMade, MadeByWhatIsMade}
use Rattle.zed_laws.proofs.MadeThings.{find-any, has_in, makes, opened, grown, has-do_op}

pub has-hold : (p : Document) (e : Edit) (x : Thing) → has (hold p e) x ≡ has p x
has-hold p e (board b) = refl
has-hold p e (stat s) = refl
has-hold p e (text t) = refl
has-hold p e (element t a) = refl

-- a byte that is there is in a text that is there
pub text_of_byte : (p : Document) (t : TextId) (a : ElemId) → has p (element t a) ≡ true → has p (text t) ≡ true
text_of_byte p t a h = sym (find-any (λ x. same_text x.id t) p.texts) ∙ go (find_text t p.texts) h
  where
    go : (o : Option Text) → has_in o a ≡ true → is_some o ≡ true
    go (Some x) k = refl
    go None k = absurd (cc)

or_kept_right : (b : Bool) → (b || true) ≡ true
or_kept_right true = refl
or_kept_right false = refl

opened-keeps : (p : Document) (s : Stamp) (r : Result Contents WorldError) (x : Thing) → has p x ≡ true → opened (has p) s r x ≡ true
opened-keeps p s (Err e) x h = h
opened-keeps p s (Ok w) (board b) h = rw h
opened-keeps p s (Ok w) (stat y) h = rw h
opened-keeps p s (Ok w) (text t) h = rw h
opened-keeps p s (Ok w) (element t a) h = rw (text_of_byte p t a h) h

grown-keeps : (p : Document) (s : Stamp) (op : Op) (x : Thing) → has p x ≡ true → grown (has p) s op x ≡ true
grown-keeps p s (Genesis bytes) x h = opened-keeps p s (world_at bytes) x h
grown-keeps p s op x h = ap (λ b. makes s op x || b) h ∙ or_kept_right (makes s op x)

pub made_stays_made : MadeStaysMade
made_stays_made p e x h = go (can p e) refl
  where
    go : (b : Bool) → can p e ≡ b → has (cond b (do_edit p e) (hold p e)) x ≡ true
    go true c = has-do_op e.stamp e.op p x c ∙ grown-keeps p e.stamp e.op x h
    go false c = has-hold p e x ∙ h

pub made_outlasts_edits : MadeOutlastsEdits
made_outlasts_edits p [] x h = h
made_outlasts_edits p (e ∷ es) x h = made_outlasts_edits (step p e) es x (made_stays_made p e x h)

-- a step of two documents in which the same things were made
pub can-same : (p q : Document) (e : Edit) → MadeTheSame p q → can p e ≡ can q e
can-same p q e h = ap (λ made. list_all made (names_of e.op)) (fun_ext h)

step-same : (p q : Document) (e : Edit) → MadeTheSame p q → MadeTheSame (step p e) (step q e)
step-same p q e h x = go (can p e) refl (can q e) refl
  where
    go : (b : Bool) → can p e ≡ b → (c : Bool) → can q e ≡ c
        → has (cond b (do_edit p e) (hold p e)) x ≡ has (cond c (do_edit q e) (hold q e)) x
    go true b true c =
        has-do_op e.stamp e.op p x b ∙ ap (λ made. grown made e.stamp e.op x) (fun_ext h) ∙ sym (has-do_op e.stamp e.op q x c)
    go true b false c = let k = can-same p q e h in absurd (cc)
    go false b true c = let k = can-same p q e h in absurd (cc)
    go false b false c = has-hold p e x ∙ h x ∙ sym (has-hold q e x)

pub made_by_what_is_made : MadeByWhatIsMade
made_by_what_is_made p q [] h = h
made_by_what_is_made p q (e ∷ es) h = made_by_what_is_made (step p e) (step q e) es (step-same p q e h)

pub taken_by_what_is_made : TakenByWhatIsMade
taken_by_what_is_made p q [] h = refl
taken_by_what_is_made p q (e ∷ es) h =
    ap (λ b. cond b (e ∷ taken_on (step p e) es) (taken_on (step p e) es)) (can-same p q e h)
    ∙ ap (λ rest. cond (can q e) (e ∷ rest) rest) (taken_by_what_is_made (step p e) (step q e) es (step-same p q e h))

pub held_by_what_is_made : HeldByWhatIsMade
held_by_what_is_made p q [] h = refl
held_by_what_is_made p q (e ∷ es) h =
    ap (λ b. cond b (held_on (step p e) es) (e ∷ held_on (step p e) es)) (can-same p q e h)
    ∙ ap (λ rest. cond (can q e) rest (e ∷ rest)) (held_by_what_is_made (step p e) (step q e) es (step-same p q e h))
