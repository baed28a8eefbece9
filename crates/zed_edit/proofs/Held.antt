-- The stamps that a document keeps are those of the edits held, and they rise where those of the edits do.
use Rattle.std.proofs.Common.{◌≡◌, Bool, true, false, cond, List, [], ◌∷◌, ◌++◌, map, Result, Ok, Err, refl, ap, ◌∙◌, sym, subst, append_assoc, append-nil}
use Rattle.std.specs.List.{AllByRecursion}
use Rattle.zed_types.specs.declared.stamp.Stamp.{Stamp}
use Rattle.zed_types.specs.Stamp.{before}
use Rattle.zed_world.specs.Contents.{Contents}
use Rattle.zed_world.specs.Reading.{world_at}
use Rattle.zed_world.specs.declared.error.WorldError.{WorldError}
use Rattle.zed_op.specs.declared.op.Op.{Op}
use Rattle.zed_op.specs.declared.op.Op.TheVariants.{Genesis}
use Rattle.zed_op.specs.declared.op.Edit.{Edit}
use Rattle.zed_op.specs.Set.{IsRising, StampsRise, stamps_of}
use Rattle.zed_edit.specs.declared.plain.Plain.{Plain as Document}
use Rattle.zed_edit.specs.Document.{empty_document}
use Rattle.zed_edit.specs.Replay.{can, open_world, do_op, do_edit, hold, step, replay_on, replay, held_on, held}

-- what is done holds nothing
opened-held : (s : Stamp) (r : Result Contents WorldError) (p : Document) → (open_world s r p).held ≡ p.held
opened-held s (Ok w) p = refl
opened-held s (Err e) p = refl

pub do_op-held : (s : Stamp) (op : Op) (p : Document) → (do_op s op p).held ≡ p.held
do_op-held s (Genesis bytes) p = opened-held s (world_at bytes) p
do_op-held s _ p = refl

pub held-stamps : (p : Document) (es : List Edit) → (replay_on p es).held ≡ p.held ++ map (λ e. e.stamp) (held_on p es)
held-stamps p [] = sym (append-nil p.held)
held-stamps p (e ∷ es) = go (can p e) (held-stamps (do_edit p e) es) (held-stamps (hold p e) es)
  where
    go : (b : Bool) → (replay_on (do_edit p e) es).held ≡ (do_edit p e).held ++ map (λ f. f.stamp) (held_on (do_edit p e) es)
        → (replay_on (hold p e) es).held ≡ (p.held ++ e.stamp ∷ []) ++ map (λ f. f.stamp) (held_on (hold p e) es)
        → (replay_on (cond b (do_edit p e) (hold p e)) es).held
        ≡ p.held ++ map (λ f. f.stamp) (cond b (held_on (cond b (do_edit p e) (hold p e)) es) (e ∷ held_on (cond b (do_edit p e) (hold p e)) es))
    go true done passed = done ∙ ap (λ stamps. stamps ++ map (λ f. f.stamp) (held_on (do_edit p e) es)) (do_op-held e.stamp e.op p)
    go false done passed = passed ∙ append_assoc p.held (e.stamp ∷ []) (map (λ f. f.stamp) (held_on (hold p e) es))

-- what comes behind a stamp
all_held : (s : Stamp) (p : Document) (es : List Edit) → AllByRecursion (λ e. before s e.stamp ≡ true) es
    → AllByRecursion (λ r. before s r ≡ true) (stamps_of (held_on p es))
all_held s p [] h = tt
all_held s p (e ∷ es) h = go (can p e) (all_held s (step p e) es h.1)
  where
    go : (b : Bool) → AllByRecursion (λ r. before s r ≡ true) (stamps_of (held_on (step p e) es))
        → AllByRecursion (λ r. before s r ≡ true) (stamps_of (cond b (held_on (step p e) es) (e ∷ held_on (step p e) es)))
    go true more = more
    go false more = (h.0, more)

pub held-rise : (p : Document) (es : List Edit) → IsRising es → StampsRise (stamps_of (held_on p es))
held-rise p [] r = tt
held-rise p (e ∷ es) r = go (can p e) (held-rise (step p e) es r.1)
  where
    go : (b : Bool) → StampsRise (stamps_of (held_on (step p e) es))
        → StampsRise (stamps_of (cond b (held_on (step p e) es) (e ∷ held_on (step p e) es)))
    go true more = more
    go false more = (all_held e.stamp (step p e) es r.0, more)

-- of a whole replay
pub replay_holds : (p : Document) (es : List Edit) → p ≡ replay es → p.held ≡ stamps_of (held es)
replay_holds p es e = ap (λ q. q.held) e ∙ held-stamps empty_document es

pub replay_rises : (p : Document) (es : List Edit) → p ≡ replay es → IsRising es → StampsRise p.held
replay_rises p es e r = subst StampsRise (sym (replay_holds p es e)) (held-rise empty_document es r)
