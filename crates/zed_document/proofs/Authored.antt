-- An edit that an author makes is taken, and what its making answers.
use Rattle.std.proofs.Common.{◌≡◌, ℕ, ◌<◌, Bool, true, false, List, [], ◌∷◌, ◌++◌, Result, refl, ap, sym, ◌∙◌, append-nil, arith}
use Rattle.zed_types.specs.declared.stamp.Stamp.{Stamp}
use Rattle.zed_types.specs.Stamp.{same_stamp, genesis_stamp}
use Rattle.zed_op.specs.declared.op.Op.{Op}
use Rattle.zed_op.specs.declared.op.Op.TheVariants.{Genesis}
use Rattle.zed_op.specs.declared.op.Edit.{Edit}
use Rattle.zed_edit.specs.declared.plain.Plain.{Plain}
use Rattle.zed_edit.specs.Document.{empty_document}
use Rattle.zed_op.specs.Fit.{Fits, is_author_stamp, is_own_stamp}
use Rattle.zed_op.specs.Names.{names_of}
use Rattle.zed_edit.specs.Replay.{replay, replay_on, step, can, has_all}
use Rattle.zed_op.specs.Set.{AllFit, with_edit}
use Rattle.zed_op.specs.SetLaws.{EditKeepsFit}
use Rattle.zed_laws.specs.Laws.{OneMoreIsOneStep}
use Rattle.zed_op.specs.Verdict.{is_genesis, FitIsEachPart}
use Rattle.std.proofs.lemmas.Bool.{and_parts}
use Rattle.zed_history.specs.Clock.{greatest_time, next_time}
use Rattle.zed_history.specs.Finding.{AllBelow}
use Rattle.zed_document.specs.declared.error.DocumentError.{DocumentError}
use Rattle.zed_document.specs.Held.{held_stamps, is_among}
use Rattle.zed_document.specs.Authoring.{IsLate, authored}
use Rattle.zed_types.proofs.StampOrder.{same_stamp-true}
use Rattle.zed_document.proofs.Passed.{do_op-passed, passed-below, below-not_among}
use Rattle.zed_history.proofs.Spots.{with_edit-between}
use Rattle.zed_history.proofs.Times.{later-all}

-- the stamp of the world is no author's
not-author : (s : Stamp) → same_stamp s genesis_stamp ≡ true → is_author_stamp s ≡ false
not-author s h = rw (same_stamp-true s genesis_stamp h) refl

-- an edit with the stamp of the world makes the world, which can always be done
world-can : (op : Op) (s : Stamp) → is_own_stamp op s ≡ true → same_stamp s genesis_stamp ≡ true → (p : Plain)
    → has_all p (names_of op) ≡ true
world-can (Genesis bytes) s o h p = refl
world-can _ s o h p = absurd (let n = not-author s h in cc)

among-push : (g s : Stamp) (ts : List Stamp) → is_among ts g ≡ false → same_stamp s g ≡ false → is_among (ts ++ s ∷ []) g ≡ false
among-push g s [] a h = rw h refl
among-push g s (t ∷ ts) a h = go (same_stamp t g) refl (λ k. among-push g s ts k h)
  where
    go : (b : Bool) → same_stamp t g ≡ b → (is_among ts g ≡ false → is_among (ts ++ s ∷ []) g ≡ false)
        → is_among ((t ∷ ts) ++ s ∷ []) g ≡ false
    go true b more = absurd (let k = rw b at a in cc)
    go false b more = rw b (more (rw b at a))

world-step : FitIsEachPart → (p : Plain) (e : Edit) → Fits e → is_among p.held genesis_stamp ≡ false
    → is_among (step p e).held genesis_stamp ≡ false
world-step parts p e f a = go (can p e) refl (same_stamp e.stamp genesis_stamp) refl
  where
    go : (b : Bool) → can p e ≡ b → (w : Bool) → same_stamp e.stamp genesis_stamp ≡ w → is_among (step p e).held genesis_stamp ≡ false
    go true b w h = rw b (rw (do_op-passed e.stamp e.op p) a)
    go false b true h =
        let own = (and_parts (is_own_stamp e.op e.stamp) _ ((parts e).0 f).0).0 in
        let c = world-can e.op e.stamp own h p in
        absurd (cc)
    go false b false h = rw b (among-push genesis_stamp e.stamp p.held a h)

-- the stamp of the world is never that of an edit which is held
world-never_held : FitIsEachPart → (es : List Edit) (p : Plain) → AllFit es → is_among p.held genesis_stamp ≡ false
    → is_among (replay_on p es).held genesis_stamp ≡ false
world-never_held parts [] p f a = a
world-never_held parts (e ∷ es) p f a = world-never_held parts es (step p e) f.1 (world-step parts p e f.0 a)

world-stamp : (op : Op) (s : Stamp) → is_genesis op ≡ true → is_own_stamp op s ≡ true → s ≡ genesis_stamp
world-stamp (Genesis bytes) s g o = same_stamp-true s genesis_stamp o
world-stamp _ s g o = absurd (cc)

pub last-edit : (e : Edit) (es : List Edit) → AllBelow e.stamp es → with_edit e es ≡ es ++ e ∷ []
last-edit e es b = ap (with_edit e) (sym (append-nil es)) ∙ with_edit-between e es [] b tt

taken-last : OneMoreIsOneStep → (e : Edit) (es : List Edit) → AllBelow e.stamp es → can (replay es) e ≡ true
    → is_among (held_stamps (with_edit e es)) e.stamp ≡ false
taken-last one e es b c =
    let q : replay (with_edit e es) ≡ step (replay es) e = ap replay (last-edit e es b) ∙ one es e in
    let d : (step (replay es) e).held ≡ (replay es).held = rw c (do_op-passed e.stamp e.op (replay es)) in
    ap (λ (p : Plain). is_among p.held e.stamp) q
    ∙ ap (λ ts. is_among ts e.stamp) d
    ∙ below-not_among e.stamp (replay es).held (passed-below e.stamp empty_document es tt b)

pub taken-late : FitIsEachPart → OneMoreIsOneStep → EditKeepsFit → (e : Edit) (es : List Edit) → AllFit es → Fits e → IsLate es e
    → can (replay es) e ≡ true
    → is_among (held_stamps (with_edit e es)) e.stamp ≡ false
taken-late parts one keeps e es fit f late c = go (is_genesis e.op) refl
  where
    go : (b : Bool) → is_genesis e.op ≡ b → is_among (held_stamps (with_edit e es)) e.stamp ≡ false
    go false g = taken-last one e es (late g) c
    go true g =
        let own = (and_parts (is_own_stamp e.op e.stamp) _ ((parts e).0 f).0).0 in
        ap (λ s. is_among (held_stamps (with_edit e es)) s) (world-stamp e.op e.stamp g own)
        ∙ world-never_held parts (with_edit e es) empty_document (keeps e es f fit) refl

abbrev Made : Type 0
Made = Result Edit DocumentError

-- an edit at the next time is later than all
pub authored-late : (es : List Edit) (replica : ℕ) (op : Op) → IsLate es (authored es replica op)
authored-late es replica op = λ g. later-all (authored es replica op).stamp es (rw g (greatest-next es))
  where
    greatest-next : (fs : List Edit) → greatest_time fs < next_time fs
    greatest-next fs = omega arith
