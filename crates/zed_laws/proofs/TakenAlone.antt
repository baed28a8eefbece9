-- The edits taken make by themselves all that the replay shows, and a late edit takes nothing from those behind it.
use Rattle.std.proofs.Common.{◌≡◌, Bool, true, false, cond, List, [], ◌∷◌, ◌++◌, map, Result, Ok, Err, refl, ap, ◌∙◌, sym, subst, arith}
use Rattle.std.specs.List.{AllByRecursion, list_all, Contains}
use Rattle.std.proofs.lemmas.Bool.{and_parts, and_from}
use mathlib.Core.Path.{fun_ext}
use mathlib.Core.Logic.{◌⊎◌, inl, inr}
use Rattle.zed_types.specs.declared.stamp.Stamp.{Stamp}
use Rattle.zed_types.specs.Stamp.{before, genesis_stamp}
use Rattle.zed_world.specs.Contents.{Contents}
use Rattle.zed_world.specs.Reading.{world_at}
use Rattle.zed_world.specs.declared.error.WorldError.{WorldError}
use Rattle.zed_op.specs.declared.op.Op.{Op}
use Rattle.zed_op.specs.declared.op.Op.TheVariants.{Genesis}
use Rattle.zed_op.specs.declared.op.Edit.{Edit}
use Rattle.zed_edit.specs.declared.plain.Plain.{Plain as Document}
use Rattle.zed_op.specs.declared.thing.Thing.{Thing}
use Rattle.zed_op.specs.declared.thing.Thing.TheVariants.{Board as board, Stat as stat, Text as text, Element as element}
use Rattle.zed_edit.specs.Document.{empty_document, has}
use Rattle.zed_op.specs.Names.{names_of, stamp_of}
use Rattle.zed_op.specs.Fit.{Fits, is_author_stamp, is_stamp, is_own_stamp}
use Rattle.zed_op.specs.Set.{AllFit}
use Rattle.zed_edit.specs.Replay.{can, open_world, do_op, do_edit, hold, step, replay_on, replay, taken_on, taken, held_on, held}
use Rattle.zed_laws.specs.Laws.{TakenMakeAll, LateEditHoldsNone, LateEditHoldsNoOther}
use Rattle.zed_types.proofs.StampOrder.{same_stamp-true}
use Rattle.zed_types.proofs.Facts.{or_more}
use Rattle.zed_laws.proofs.ReplaySteps.{held_on-append, held_are_remembered}
use Rattle.zed_laws.proofs.MadeThings.{makes, grown, has-do_op}
use Rattle.zed_op.proofs.Sets.{Member, Member-from, Member-to}
use Rattle.zed_laws.proofs.SameThings.{has-hold, made_stays_made}
use Rattle.zed_op.proofs.FitParts.{fit_is_each_part}
use Rattle.zed_laws.proofs.LateInsertion.{rising-high}
use Rattle.zed_laws.proofs.DoneEdits.{all_done, AllCan, AllCan-none_held, AllCan-tail, replay_on-all_done}

-- a document that remembers other stamps
abbrev remembering : Document → List Stamp → Document
remembering p stamps = record p { held = stamps }

has-remembering : (p : Document) (stamps : List Stamp) (x : Thing) → has (remembering p stamps) x ≡ has p x
has-remembering p stamps (board b) = refl
has-remembering p stamps (stat s) = refl
has-remembering p stamps (text t) = refl
has-remembering p stamps (element t a) = refl

can-remembering : (p : Document) (stamps : List Stamp) (e : Edit) → can (remembering p stamps) e ≡ can p e
can-remembering p stamps e = ap (λ made. list_all made (names_of e.op)) (fun_ext (has-remembering p stamps))

opened-remembering : (s : Stamp) (r : Result Contents WorldError) (p : Document) (stamps : List Stamp)
    → open_world s r (remembering p stamps) ≡ remembering (open_world s r p) stamps
opened-remembering s (Ok w) p stamps = refl
opened-remembering s (Err e) p stamps = refl

do_op-remembering : (s : Stamp) (op : Op) (p : Document) (stamps : List Stamp)
    → do_op s op (remembering p stamps) ≡ remembering (do_op s op p) stamps
do_op-remembering s (Genesis bytes) p stamps = opened-remembering s (world_at bytes) p stamps
do_op-remembering s _ p stamps = refl

taken_make : (p : Document) (stamps : List Stamp) (es : List Edit)
    → replay_on (remembering p stamps) (taken_on p es) ≡ remembering (replay_on p es) stamps
taken_make p stamps [] = refl
taken_make p stamps (e ∷ es) = go (can p e) refl (taken_make (do_edit p e) stamps es) (taken_make (hold p e) stamps es)
  where
    go : (b : Bool) → can p e ≡ b
        → replay_on (remembering (do_edit p e) stamps) (taken_on (do_edit p e) es) ≡ remembering (replay_on (do_edit p e) es) stamps
        → replay_on (remembering (hold p e) stamps) (taken_on (hold p e) es) ≡ remembering (replay_on (hold p e) es) stamps
        → replay_on (remembering p stamps) (cond b (e ∷ taken_on (cond b (do_edit p e) (hold p e)) es) (taken_on (cond b (do_edit p e) (hold p e)) es))
        ≡ remembering (replay_on (cond b (do_edit p e) (hold p e)) es) stamps
    go true c done passed =
        let k = can-remembering p stamps e ∙ c in
        let l : step (remembering p stamps) e ≡ remembering (do_edit p e) stamps = rw k (do_op-remembering e.stamp e.op p stamps) in
        ap (λ q. replay_on q (taken_on (do_edit p e) es)) l ∙ done
    go false c done passed = passed

no_stamps : (es : List Edit) → map (λ e. e.stamp) es ≡ [] → es ≡ []
no_stamps [] h = refl
no_stamps (e ∷ es) h = absurd (cc)

pub taken_make_all : TakenMakeAll
taken_make_all es = (same, no_stamps (held (taken es)) (held_are_remembered (taken es) ∙ ap (λ p. p.held) same))
  where
    same : replay (taken es) ≡ remembering (replay es) []
    same = taken_make empty_document [] es

-- an edit that opens no world
abbrev pub OpensNone : Op → Type 0
OpensNone (Genesis bytes) = ⊥
OpensNone _ = Unit {0}

-- what the one document has, the other has too
abbrev HasMore : Document → Document → Type 0
HasMore p q = (x : Thing) → has p x ≡ true → has q x ≡ true

pub all_more : (f g : Thing → Bool) → ((x : Thing) → f x ≡ true → g x ≡ true) → (ts : List Thing) → list_all f ts ≡ true
    → list_all g ts ≡ true
all_more f g m [] h = refl
all_more f g m (t ∷ ts) h =
    let k = and_parts (f t) (list_all f ts) h in
    and_from (g t) (list_all g ts) (m t k.0) (all_more f g m ts k.1)

grown_more : (p q : Document) (s : Stamp) (op : Op) (x : Thing) → OpensNone op → HasMore p q → grown (has p) s op x ≡ true
    → grown (has q) s op x ≡ true
grown_more p q s (Genesis bytes) x o m h = absurd o
grown_more p q s op x o m h = or_more (makes s op x) (has p x) (has q x) (m x) h

do_edit_more : (p q : Document) (e : Edit) → OpensNone e.op → HasMore p q → can p e ≡ true → can q e ≡ true
    → HasMore (do_edit p e) (do_edit q e)
do_edit_more p q e o m c d x h =
    has-do_op e.stamp e.op q x d ∙ grown_more p q e.stamp e.op x o m (sym (has-do_op e.stamp e.op p x c) ∙ h)

AllCan-more : (p q : Document) (es : List Edit) → AllByRecursion (λ e. OpensNone e.op) es → HasMore p q → AllCan p es → AllCan q es
AllCan-more p q [] o m c = tt
AllCan-more p q (e ∷ es) o m c =
    let d : can q e ≡ true = all_more (has p) (has q) m (names_of e.op) c.0 in
    (d, AllCan-more (do_edit p e) (do_edit q e) es o.1 (do_edit_more p q e o.0 m c.0 d) c.1)

none_held-AllCan : (p : Document) (es : List Edit) → AllCan p es → held_on p es ≡ []
none_held-AllCan p [] c = refl
none_held-AllCan p (e ∷ es) c = rw c.0 (none_held-AllCan (do_edit p e) es c.1)

-- no edit that fits is before the one that makes the world
author_behind : (s : Stamp) → is_author_stamp s ≡ true → before s genesis_stamp ≡ false
author_behind s h = grind (arith, h)

own_behind : (op : Op) (s : Stamp) → is_own_stamp op s ≡ true → before s genesis_stamp ≡ false
own_behind (Genesis bytes) s h = ap (λ r. before r genesis_stamp) (same_stamp-true s genesis_stamp h)
own_behind _ s h = author_behind s h

pub good_own : (e : Edit) → Fits e → is_own_stamp e.op e.stamp ≡ true
good_own e f =
    let k = (fit_is_each_part e).0 f in
    let l = and_parts (is_own_stamp e.op e.stamp) (list_all (λ x. is_stamp (stamp_of x)) (names_of e.op)) k.0 in
    l.0

pub opens_none : (op : Op) (r s : Stamp) → is_own_stamp op r ≡ true → before s r ≡ true → before s genesis_stamp ≡ false → OpensNone op
opens_none (Genesis bytes) r s o b n =
    let e = same_stamp-true r genesis_stamp o in
    let c = rw e at b in
    absurd (cc)
opens_none _ r s o b n = tt

all_open_none : (s : Stamp) (es : List Edit) → before s genesis_stamp ≡ false → AllFit es → AllByRecursion (λ e. before s e.stamp ≡ true) es
    → AllByRecursion (λ e. OpensNone e.op) es
all_open_none s [] n f b = tt
all_open_none s (e ∷ es) n f b = (opens_none e.op e.stamp s (good_own e f.0) b.0 n, all_open_none s es n f.1 b.1)

AllCan-front : (p : Document) (low high : List Edit) → AllCan p (low ++ high) → AllCan p low
AllCan-front p [] high c = tt
AllCan-front p (e ∷ low) high c = (c.0, AllCan-front (do_edit p e) low high c.1)

AllCan-append : (p : Document) (low high : List Edit) → AllCan p low → AllCan (all_done p low) high → AllCan p (low ++ high)
AllCan-append p [] high c d = d
AllCan-append p (e ∷ low) high c d = (c.0, AllCan-append (do_edit p e) low high c.1 d)

done_more : (p : Document) (e : Edit) → can p e ≡ true → HasMore p (do_edit p e)
done_more p e c x h = let k = made_stays_made p e x h in rw c at k

pub late_edit_holds_none : LateEditHoldsNone
late_edit_holds_none e low high r f h c =
    let p : Document = all_done empty_document low in
    let whole : AllCan empty_document (low ++ high) = AllCan-none_held empty_document (low ++ high) h in
    let front : AllCan empty_document low = AllCan-front empty_document low high whole in
    let c' : can p e ≡ true = ap (λ q. can q e) (sym (replay_on-all_done empty_document low front)) ∙ c in
    let opens = all_open_none e.stamp high (own_behind e.op e.stamp (good_own e f.0)) f.1 (rising-high e low high r) in
    let behind : AllCan (do_edit p e) high =
    AllCan-more p (do_edit p e) high opens (done_more p e c') (AllCan-tail empty_document low high whole) in
    none_held-AllCan empty_document (low ++ e ∷ high) (AllCan-append empty_document low (e ∷ high) front (c', behind))

-- a document that has more holds no edit that the other does not
held_fewer : (p q : Document) (es : List Edit) → AllByRecursion (λ e. OpensNone e.op) es → HasMore p q → (f : Edit)
    → Member f (held_on q es)
    → Member f (held_on p es)
held_fewer p q [] o m f h = h
held_fewer p q (e ∷ es) o m f h =
    go (can p e) refl (can q e) refl (λ c d k. held_fewer (do_edit p e) (do_edit q e) es o.1 (do_edit_more p q e o.0 m c d) f k)
    (λ d k. held_fewer (hold p e) (do_edit q e) es o.1 (done d) f k)
    (λ k. held_fewer (hold p e) (hold q e) es o.1 passed f k)
  where
    passed : HasMore (hold p e) (hold q e)
    passed x k = has-hold q e x ∙ m x (sym (has-hold p e x) ∙ k)

    done : can q e ≡ true → HasMore (hold p e) (do_edit q e)
    done d x k = done_more q e d x (m x (sym (has-hold p e x) ∙ k))

    go : (b : Bool) → can p e ≡ b → (c : Bool) → can q e ≡ c
        → (can p e ≡ true → can q e ≡ true → Member f (held_on (do_edit q e) es) → Member f (held_on (do_edit p e) es))
        → (can q e ≡ true → Member f (held_on (do_edit q e) es) → Member f (held_on (hold p e) es))
        → (Member f (held_on (hold q e) es) → Member f (held_on (hold p e) es))
        → Member f (held_on p (e ∷ es))
    go true b true c both right none = let k = rw c at h in rw b (both b c k)
    go true b false c both right none = let d = all_more (has p) (has q) m (names_of e.op) b in absurd (cc)
    go false b true c both right none = let k = rw c at h in rw b (inr (right c k))
    go false b false c both right none =
        let k = rw c at h in
        rw b (elim k [ inl i ↦ inl i | inr l ↦ inr (none l) ])

Member-append : (f : Edit) (xs ys : List Edit) → Member f (xs ++ ys) → Member f xs ⊎ Member f ys
Member-append f [] ys h = inr h
Member-append f (x ∷ xs) ys h =
    elim h [ inl i ↦ inl (inl i) | inr k ↦ elim (Member-append f xs ys k) [ inl l ↦ inl (inr l) | inr l ↦ inr l ] ]

Member-left : (f : Edit) (xs ys : List Edit) → Member f xs → Member f (xs ++ ys)
Member-left f [] ys h = absurd h
Member-left f (x ∷ xs) ys h = elim h [ inl i ↦ inl i | inr k ↦ inr (Member-left f xs ys k) ]

Member-right : (f : Edit) (xs ys : List Edit) → Member f ys → Member f (xs ++ ys)
Member-right f [] ys h = h
Member-right f (x ∷ xs) ys h = inr (Member-right f xs ys h)

held_with : (p : Document) (e f : Edit) (high : List Edit) → AllByRecursion (λ g. OpensNone g.op) high → Member f (held_on p (e ∷ high))
    → (f ≡ e) ⊎ Member f (held_on p high)
held_with p e f high o h = go (can p e) refl
  where
    go : (b : Bool) → can p e ≡ b → (f ≡ e) ⊎ Member f (held_on p high)
    go true b = let k = rw b at h in inr (held_fewer p (do_edit p e) high o (done_more p e b) f k)
    go false b =
        let k = rw b at h in
        elim k [
          | inl i ↦ inl (sym i)
          | inr l ↦ inr (held_fewer p (hold p e) high o (λ x n. has-hold p e x ∙ n) f l)
        ]

pub late_edit_holds_no_other : LateEditHoldsNoOther
late_edit_holds_no_other e f low high r g h =
    let p : Document = replay_on empty_document low in
    let opens = all_open_none e.stamp high (own_behind e.op e.stamp (good_own e g.0)) g.1 (rising-high e low high r) in
    let k : Member f (held_on empty_document low ++ held_on p (e ∷ high)) =
    subst (Member f) (held_on-append empty_document low (e ∷ high)) (Member-from f (held (low ++ e ∷ high)) h) in
    let back : Member f (held_on empty_document low ++ held_on p high) → Contains (held (low ++ high)) f =
    λ m. Member-to f (held (low ++ high)) (subst (Member f) (sym (held_on-append empty_document low high)) m) in
    elim (Member-append f (held_on empty_document low) (held_on p (e ∷ high)) k) [
      | inl m ↦ inr (back (Member-left f (held_on empty_document low) (held_on p high) m))
      | inr m ↦ elim (held_with p e f high opens m) [
        | inl i ↦ inl i
        | inr n ↦ inr (back (Member-right f (held_on empty_document low) (held_on p high) n))
      ]
    ]
