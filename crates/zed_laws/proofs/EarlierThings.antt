-- What later edits don't make.
use Rattle.std.proofs.Common.{◌≡◌, ℕ, ◌+◌, Bool, true, false, cond, ◌&&◌, ◌||◌, List, [], ◌∷◌, ◌++◌, refl, ap, ◌∙◌, arith}
use Rattle.std.specs.List.{AllByRecursion, list_all, list_any}
use Rattle.std.proofs.lemmas.Bool.{and_parts}
use Rattle.zed_types.specs.declared.stamp.Stamp.{Stamp}
use Rattle.zed_types.specs.declared.names.ElemId.{ElemId}
use Rattle.zed_types.specs.Stamp.{before, same_stamp, genesis_stamp}
use Rattle.zed_types.specs.Names.{same_text, same_element}
use Rattle.zed_types.specs.Text.{run_from}
use Rattle.zed_op.specs.declared.op.Op.{Op}
use Rattle.zed_op.specs.declared.op.Op.TheVariants.{Genesis, BoardAdd, StatAdd, TextAdd, TextInsert}
use Rattle.zed_op.specs.declared.op.Edit.{Edit}
use Rattle.zed_op.specs.declared.thing.Thing.{Thing}
use Rattle.zed_op.specs.declared.thing.Thing.TheVariants.{Board as board, Stat as stat, Text as text, Element as element}
use Rattle.zed_op.specs.Names.{names_of, stamp_of}
use Rattle.zed_op.specs.Fit.{is_stamp, is_own_stamp}
use Rattle.zed_op.specs.Set.{AllFit}
use Rattle.zed_op.proofs.FitParts.{fit_is_each_part}
use Rattle.zed_types.proofs.StampOrder.{before_differs_after}
use Rattle.zed_edit.specs.declared.plain.Plain.{Plain as Document}
use Rattle.zed_edit.specs.Document.{empty_document, has}
use Rattle.zed_edit.specs.Replay.{can, do_edit, hold, step, replay_on, replay}
use Rattle.zed_laws.proofs.SameThings.{has-hold}
use Rattle.zed_laws.proofs.ReplaySteps.{replay_on-append}
use Rattle.zed_laws.proofs.MadeThings.{makes, grown, has-do_op}
use Rattle.zed_laws.proofs.LateInsertion.{rising-high}
use Rattle.zed_laws.proofs.TakenAlone.{OpensNone, good_own, opens_none}
use Rattle.zed_laws.specs.Settled.{EarlierIsMadeBefore, EarlierDecide}

-- an insertion makes no byte with an earlier stamp
none-in : (a : ElemId) (s : Stamp) (n : ℕ) (bytes : List ℕ) → same_stamp s a.name.stamp ≡ false
    → list_any (λ x. same_element x.id a) (run_from s n bytes) ≡ false
none-in a s n [] h = refl
none-in a s n (b ∷ bytes) h = rw h (none-in a s (n + 1) bytes h)

and_none : (b : Bool) → (b && false) ≡ false
and_none true = refl
and_none false = refl

makes-none : (s : Stamp) (op : Op) (x : Thing) → same_stamp s (stamp_of x) ≡ false → makes s op x ≡ false
makes-none s (BoardAdd name) (board b) h = rw h refl
makes-none s (BoardAdd name) (stat y) h = rw h refl
makes-none s (StatAdd b fields) (stat y) h = rw h refl
makes-none s TextAdd (text t) h = rw h refl
makes-none s (TextInsert u after bytes) (element t a) h = rw (none-in a s 0 bytes h) (and_none (same_text u t))
makes-none s _ _ h = refl

grown-none : (made : Thing → Bool) (s : Stamp) (op : Op) (x : Thing) → OpensNone op → same_stamp s (stamp_of x) ≡ false
    → grown made s op x ≡ made x
grown-none made s (Genesis bytes) x o h = absurd o
grown-none made s op x o h = ap (λ b. b || made x) (makes-none s op x h)

has-step : (p : Document) (e : Edit) (x : Thing) → OpensNone e.op → same_stamp e.stamp (stamp_of x) ≡ false → has (step p e) x ≡ has p x
has-step p e x o h = go (can p e) refl
  where
    go : (b : Bool) → can p e ≡ b → has (cond b (do_edit p e) (hold p e)) x ≡ has p x
    go true c = has-do_op e.stamp e.op p x c ∙ grown-none (has p) e.stamp e.op x o h
    go false c = has-hold p e x

earlier_made : (p : Document) (x : Thing) (high : List Edit) → before (stamp_of x) genesis_stamp ≡ false
    → AllByRecursion (λ f. before (stamp_of x) f.stamp ≡ true) high → AllFit high
    → has (replay_on p high) x ≡ has p x
earlier_made p x [] n b f = refl
earlier_made p x (e ∷ high) n b f =
    earlier_made (step p e) x high n b.1 f.1
    ∙ has-step p e x (opens_none e.op e.stamp (stamp_of x) (good_own e f.0) b.0 n) (before_differs_after (stamp_of x) e.stamp b.0)

pub earlier_is_made_before : EarlierIsMadeBefore
earlier_is_made_before x low high n b f =
    ap (λ p. has p x) (replay_on-append empty_document low high) ∙ earlier_made (replay low) x high n b f

later-too : (r s : Stamp) (high : List Edit) → before r s ≡ true → AllByRecursion (λ f. before s f.stamp ≡ true) high
    → AllByRecursion (λ f. before r f.stamp ≡ true) high
later-too r s [] h b = tt
later-too r s (f ∷ high) h b = (grind (arith, h, b.0), later-too r s high h b.1)

stamp-behind : (s : Stamp) → is_stamp s ≡ true → before s genesis_stamp ≡ false
stamp-behind s h = grind (arith, h)

all-same : (f g : Thing → Bool) (ts : List Thing) (s : Stamp) → list_all (λ t. is_stamp (stamp_of t)) ts ≡ true
    → list_all (λ t. before (stamp_of t) s) ts ≡ true
    → ((t : Thing) → is_stamp (stamp_of t) ≡ true → before (stamp_of t) s ≡ true → f t ≡ g t)
    → list_all f ts ≡ list_all g ts
all-same f g [] s h b k = refl
all-same f g (t ∷ ts) s h b k =
    let i = and_parts (is_stamp (stamp_of t)) (list_all (λ u. is_stamp (stamp_of u)) ts) h in
    let j = and_parts (before (stamp_of t) s) (list_all (λ u. before (stamp_of u) s) ts) b in
    rw (k t i.0 j.0, all-same f g ts s i.1 j.1 k) refl

pub earlier_decide : EarlierDecide
earlier_decide e low high r f =
    let parts = (fit_is_each_part e).0 f.0 in
    let named = (and_parts (is_own_stamp e.op e.stamp) (list_all (λ x. is_stamp (stamp_of x)) (names_of e.op)) parts.0).1 in
    all-same (has (replay (low ++ high))) (has (replay low)) (names_of e.op) e.stamp named parts.2
    (λ t i b. earlier_is_made_before t low high (stamp-behind (stamp_of t) i) (later-too (stamp_of t) e.stamp high b (rising-high e low high r)) f.1)
