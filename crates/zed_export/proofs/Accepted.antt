-- What replicas that accepted the same edits answer.
use Rattle.std.proofs.Common.{◌≡◌, ◌∙◌, ℕ, Bool, true, false, List, ◌++◌, Option, Some, None, Result, Ok, Err, refl, sym, ap, subst, inl, inr}
use Rattle.std.specs.Global.{Vec}
use Rattle.std.specs.Prelude.{◌↔◌, Contains, IfErr, IfOk, IsOkAnd, IsTrue}
use Rattle.std.proofs.lemmas.List.Elements.{Contains-append_left, Contains-append_right, Contains-append_cases}
use Rattle.zed_world.specs.Contents.{Contents}
use Rattle.zed_world.specs.Reading.{world_at}
use Rattle.zed_op.specs.declared.op.Edit.{Edit}
use Rattle.zed_op.specs.Set.{Agrees, IsRising, union}
use Rattle.zed_op.specs.SetLaws.{HaveTheSame, RisingIsItsEdits, UnionKeepsRising, UnionAgrees, UnionHasBoth, UnionCommutes, UnionAssociates, UnionOfItsOwn}
use Rattle.zed_edit.specs.declared.plain.Plain.{Plain}
use Rattle.zed_edit.specs.Replay.{replay, held}
use Rattle.zed_document.specs.declared.error.DocumentError.{DocumentError}
use Rattle.zed_document.specs.declared.error.DocumentError.TheVariants as document
use Rattle.zed_document.specs.Laws.{EditsDecide}
use Rattle.zed_history.specs.Clash.{Agree}
use Rattle.zed_document.specs.Reading.{AnswersSame}
use Rattle.zed_document.specs.Replica.{Replica}
use Rattle.zed_document.specs.Same.{AreSame}
use Rattle.zed_export.specs.declared.error.ExportError.{ExportError}
use Rattle.zed_export.specs.Headline.{AreAlike, HaveAcceptedTheSame, HoldsOneAuthors, IsOneAuthors, MergingAssociates, MergingCommutes, MergingItself, MergingRepeats}
use Rattle.zed_export.specs.Limits.{Answers, exported, refusal_of, unless_over, unless_stale}
use Rattle.zed_export.specs.World.{world_of}

-- the edits that they list are equal
pub same_edits : RisingIsItsEdits → (d o : Replica) → HaveAcceptedTheSame d o → IsRising d.edits → IsRising o.edits → d.edits ≡ o.edits
same_edits known d o h r q = known d.edits o.edits r q h.edits

pub one_authors : RisingIsItsEdits → (es fs : List Edit) → IsRising es → fs ≡ es → IsOneAuthors es (replay fs)
one_authors known es fs r same made rising has = ap replay (same ∙ known es made r rising (λ e. ((has e).1, (has e).0)))

pub holds_one_authors : RisingIsItsEdits → (es : List Edit) → IsRising es → HoldsOneAuthors es
holds_one_authors known es r made rising has = ap held (known es made r rising (λ e. ((has e).1, (has e).0)))

told_same : (r : Result Bool DocumentError) (P : Type 0) → P → IsOkAnd r (λ b. IsTrue b ↔ P) → r ≡ Ok true
told_same (Ok true) P p h = refl
told_same (Ok false) P p h = absurd (let bad = h.1 p in cc)
told_same (Err e) P p h = absurd h

pub same_answer : EditsDecide → (d o : Replica) (r : Result Bool DocumentError) → HaveAcceptedTheSame d o → d.edits ≡ o.edits
    → AnswersSame d o r
    → r ≡ Ok true
same_answer decide d o r h is answer = told_same r (AreSame d o) (decide d o h.world is) (rw (h.sound, h.other_sound) at answer)

-- answers that want of memory alone keeps from one value are alike
pub alike : {X Y : Type 0} (view : X → Y) (y : Result Y ExportError) (a b : Result X ExportError) → Answers view y a → Answers view y b
    → AreAlike view a b
alike view (Ok y) (Ok x) (Ok z) h k = inr (inr (h ∙ sym k))
alike view (Ok y) (Ok x) (Err e) h k = inr (inl (ap (λ f. Err f) k))
alike view (Ok y) (Err e) b h k = inl (ap (λ f. Err f) h)
alike {X} view (Err e) (Ok x) b h k = absurd (let ok : Result X ExportError = Ok x in let bad : ok ≡ Err e = h in cc)
alike view (Err e) (Err f) b h k = inr (inr (k ∙ sym h))

given : {Y : Type 0} (d : Replica) (gives : Plain → Result Y ExportError) → d.is_stale ≡ false
    → unless_stale d gives ≡ gives (replay d.edits)
given d gives sound = rw sound refl

-- a document that isn't stale answers what its edits come to
pub answers_by : {X Y : Type 0} (view : X → Y) (gives : Plain → Result Y ExportError) (d : Replica) (es : List Edit) (a : Result X ExportError)
    → d.is_stale ≡ false → d.edits ≡ es → Answers view (unless_stale d gives) a → Answers view (gives (replay es)) a
answers_by view gives d es a sound is h = subst (λ y. Answers view y a) (given d gives sound ∙ ap (λ fs. gives (replay fs)) is) h

-- the exported world is that of the edits
pub exported_is : (d : Replica) (limit : ℕ) (w : Result Contents ExportError) → d.is_stale ≡ false
    → Answers (λ x. x) (unless_stale d (exported limit)) w
    → IfOk w (λ x. x ≡ world_of (replay d.edits))
exported_is d limit w sound h =
    go (refusal_of limit (replay d.edits)) w (subst (λ y. Answers (λ x. x) y w) (given d (exported limit) sound) h)
  where
    go : (o : Option ExportError) (v : Result Contents ExportError) → Answers (λ x. x) (unless_over o (world_of (replay d.edits))) v
        → IfOk v (λ x. x ≡ world_of (replay d.edits))
    go None (Ok x) k = k
    go None (Err e) k = tt
    go (Some e) (Ok x) k = absurd (let ok : Result Contents ExportError = Ok x in let bad : ok ≡ Err e = k in cc)
    go (Some e) (Err f) k = tt

-- so the saved file reads back as it
pub read_back : (d : Replica) (limit : ℕ) (w : Result Contents ExportError) (file : Result (Vec ℕ) ExportError) → d.is_stale ≡ false
    → Answers (λ x. x) (unless_stale d (exported limit)) w
    → IfOk file (λ f. world_at f.items ≡ Ok (world_of (replay d.edits))) → IfOk file (λ f. IfOk w (λ x. world_at f.items ≡ Ok x))
read_back d limit w (Err e) sound h back = tt
read_back d limit w (Ok f) sound h back = go w (exported_is d limit w sound h)
  where
    go : (v : Result Contents ExportError) → IfOk v (λ x. x ≡ world_of (replay d.edits)) → IfOk v (λ x. world_at f.items ≡ Ok x)
    go (Err e) k = tt
    go (Ok x) k = back ∙ ap (λ y. Ok y) (sym k)

-- what a document shows is its one author's
pub shows_one_authors : RisingIsItsEdits → (d : Replica) (es : List Edit) (v : Result Plain DocumentError) → IsRising es → d.edits ≡ es
    → d.is_stale ≡ false
    → ((v ≡ Err document.Stale) ↔ (d.is_stale ≡ true)) → IfErr v (λ e. e ≡ document.Stale) → IfOk v (λ p. p ≡ replay d.edits)
    → IsOkAnd v (IsOneAuthors es)
shows_one_authors known d es (Ok p) r is sound stale only shows =
    λ made rising has. shows ∙ one_authors known es d.edits r is made rising has
shows_one_authors known d es (Err e) r is sound stale only shows =
    let is_stale = stale.0 (ap (λ x. Err x) only) in absurd (let bad : false ≡ true = sym sound ∙ is_stale in cc)

-- ---- merging

same_lists : (es fs : List Edit) → es ≡ fs → HaveTheSame es fs
same_lists es fs is e = (λ m. subst (λ xs. Contains xs e) is m, λ m. subst (λ xs. Contains xs e) (sym is) m)

pub commutes : UnionAgrees → UnionCommutes → MergingCommutes
commutes agrees turned d o one other a b =
    let both = turned d.edits o.edits a.rising a.other_rising (agrees d.edits o.edits a.rising a.other_rising a.agree) in
    record {
      world = a.world ∙ a.one_world ∙ sym b.world;
      sound = a.sound;
      other_sound = b.sound;
      edits = same_lists one.edits other.edits (a.edits ∙ both ∙ sym b.edits);
    }

pub associates : UnionKeepsRising → UnionAgrees → UnionHasBoth → UnionAssociates → MergingAssociates
associates rises agrees members assoc a b c ab bc first last f g h k =
    let joined : List Edit = union b.edits c.edits in
    let both : HaveTheSame joined (b.edits ++ c.edits) = members b.edits c.edits (agrees b.edits c.edits h.rising h.other_rising h.agree) in
    let with_first : Agrees (a.edits ++ joined) =
    agrees a.edits joined f.rising (rises b.edits c.edits h.rising) (subst (Agree a.edits) h.edits k.agree) in
    let in_joined : (e : Edit) → Contains (a.edits ++ (b.edits ++ c.edits)) e → Contains (a.edits ++ joined) e =
    λ e m. elim (Contains-append_cases a.edits (b.edits ++ c.edits) e m) [
      | inl n ↦ Contains-append_left a.edits joined e n
      | inr n ↦ Contains-append_right a.edits joined e ((both e).1 n)
    ] in
    let all : Agrees (a.edits ++ (b.edits ++ c.edits)) = λ e x m n s. with_first e x (in_joined e m) (in_joined x n) s in
    let law = assoc a.edits b.edits c.edits f.rising all in
    let one : first.edits ≡ union (union a.edits b.edits) c.edits = g.edits ∙ ap (λ es. union es c.edits) f.edits in
    let other : last.edits ≡ union a.edits joined = k.edits ∙ ap (union a.edits) h.edits in
    record {
      world = g.world ∙ f.world ∙ sym k.world;
      sound = g.sound;
      other_sound = k.sound;
      edits = same_lists first.edits last.edits (one ∙ law ∙ sym other);
    }

pub repeats : UnionAgrees → UnionHasBoth → UnionOfItsOwn → MergingRepeats
repeats agrees members own d o one again a b =
    let both : HaveTheSame (union d.edits o.edits) (d.edits ++ o.edits) =
    members d.edits o.edits (agrees d.edits o.edits a.rising a.other_rising a.agree) in
    let there : (e : Edit) → Contains o.edits e → Contains one.edits e =
    λ e m. subst (λ es. Contains es e) (sym a.edits) ((both e).1 (Contains-append_right d.edits o.edits e m)) in
    record {
      world = b.world;
      sound = b.sound;
      other_sound = a.sound;
      edits = same_lists again.edits one.edits (b.edits ∙ own one.edits o.edits b.rising there);
    }

pub itself : UnionOfItsOwn → MergingItself
itself own d one sound a = record {
  world = a.world;
  sound = a.sound;
  other_sound = sound;
  edits = same_lists one.edits d.edits (a.edits ∙ own d.edits d.edits a.rising (λ e m. m));
}
