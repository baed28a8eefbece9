-- The stamps that a replay passes over.
use Rattle.std.proofs.Common.{◌≡◌, Bool, true, false, List, [], ◌∷◌, ◌++◌, Result, Ok, Err, refl}
use Rattle.std.specs.List.{AllByRecursion}
use Rattle.zed_types.specs.declared.stamp.Stamp.{Stamp}
use Rattle.zed_types.specs.Stamp.{before}
use Rattle.zed_world.specs.Contents.{Contents}
use Rattle.zed_world.specs.Reading.{world_at}
use Rattle.zed_world.specs.declared.error.WorldError.{WorldError}
use Rattle.zed_op.specs.declared.op.Op.{Op}
use Rattle.zed_op.specs.declared.op.Op.TheVariants.{Genesis, SetHeader}
use Rattle.zed_op.specs.declared.op.Edit.{Edit}
use Rattle.zed_edit.specs.declared.plain.Plain.{Plain}
use Rattle.zed_edit.specs.Replay.{can, do_op, open_world, replay_on, step}
use Rattle.zed_history.specs.Finding.{AllBelow}
use Rattle.zed_document.specs.Held.{is_among}
use Rattle.zed_types.proofs.StampOrder.{before_differs}

open_world-passed : (s : Stamp) (w : Result Contents WorldError) (p : Plain) → (open_world s w p).held ≡ p.held
open_world-passed s (Ok w) p = refl
open_world-passed s (Err e) p = refl

-- what is done passes nothing over
pub do_op-passed : (s : Stamp) (op : Op) (p : Plain) → (do_op s op p).held ≡ p.held
do_op-passed s (Genesis bytes) p = open_world-passed s (world_at bytes) p
do_op-passed s (SetHeader setting) p = refl
do_op-passed s _ p = refl

abbrev pub StampsBelow : Stamp → List Stamp → Type 0
StampsBelow s ts = AllByRecursion (λ t. before t s ≡ true) ts

StampsBelow-push : (s t : Stamp) (ts : List Stamp) → StampsBelow s ts → before t s ≡ true → StampsBelow s (ts ++ t ∷ [])
StampsBelow-push s t [] a h = (h, tt)
StampsBelow-push s t (u ∷ ts) a h = (a.0, StampsBelow-push s t ts a.1 h)

step-below : (s : Stamp) (p : Plain) (e : Edit) → StampsBelow s p.held → before e.stamp s ≡ true → StampsBelow s (step p e).held
step-below s p e a h = go (can p e) refl
  where
    go : (b : Bool) → can p e ≡ b → StampsBelow s (step p e).held
    go true b = rw b (rw (do_op-passed e.stamp e.op p) a)
    go false b = rw b (StampsBelow-push s e.stamp p.held a h)

-- the edits that are held have stamps of the set
pub passed-below : (s : Stamp) (p : Plain) (es : List Edit) → StampsBelow s p.held → AllBelow s es → StampsBelow s (replay_on p es).held
passed-below s p [] a b = a
passed-below s p (e ∷ es) a b = passed-below s (step p e) es (step-below s p e a b.0) b.1

pub below-not_among : (s : Stamp) (ts : List Stamp) → StampsBelow s ts → is_among ts s ≡ false
below-not_among s [] a = refl
below-not_among s (t ∷ ts) a = rw (before_differs t s a.0) (below-not_among s ts a.1)
