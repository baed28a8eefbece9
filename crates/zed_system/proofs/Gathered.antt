-- Edits gathered one after the other into a set.
use Rattle.std.proofs.Common.{◌≡◌, Bool, true, false, cond, List, [], ◌∷◌, Some, refl, ap}
use Rattle.zed_types.specs.Stamp.{before, same_stamp}
use Rattle.zed_types.proofs.StampOrder.{before_asym, before_differs_after, before_irrefl, same_stamp-itself, same_stamp-true}
use Rattle.zed_op.specs.declared.op.Edit.{Edit}
use Rattle.zed_op.specs.Set.{IsRising, with_edit}
use Rattle.zed_op.proofs.Sets.{Member-all, Member-from}
use Rattle.zed_history.specs.Finding.{edit_with}
use Rattle.zed_history.proofs.Clashing.{edit_with-stands}

-- an edit whose stamp is in a set changes nothing
pub known : (e f : Edit) (es : List Edit) → IsRising es → edit_with e.stamp es ≡ Some f → with_edit e es ≡ es
known e f [] r h = absurd cc
known e f (g ∷ gs) r h = go (same_stamp g.stamp e.stamp) refl h (λ k. known e f gs r.1 k)
  where
    go : (b : Bool) → same_stamp g.stamp e.stamp ≡ b → cond b (Some g) (edit_with e.stamp gs) ≡ Some f
        → (edit_with e.stamp gs ≡ Some f → with_edit e gs ≡ gs)
        → with_edit e (g ∷ gs) ≡ g ∷ gs
    go true same found more =
        let one = same_stamp-true g.stamp e.stamp same in
        let t : same_stamp e.stamp g.stamp ≡ true = rw one (same_stamp-itself e.stamp) in
        let n : before e.stamp g.stamp ≡ false = rw one (before_irrefl e.stamp) in
        rw (n, t) refl
    go false other found more =
        let p = edit_with-stands e.stamp gs f found in
        let later : before g.stamp f.stamp ≡ true = Member-all (λ x. before g.stamp x.stamp ≡ true) gs r.0 f (Member-from f gs p.0) in
        let first : before g.stamp e.stamp ≡ true = rw (← p.1) later in
        let n = before_asym g.stamp e.stamp first in
        let t = before_differs_after g.stamp e.stamp first in
        rw (n, t) (ap (λ rest. g ∷ rest) (more found))
