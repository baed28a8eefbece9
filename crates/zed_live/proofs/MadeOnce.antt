-- One edit alone makes a board, or a stat.
use Rattle.std.proofs.Common.{◌≡◌, ◌∙◌, ◌||◌, Bool, true, false, List, [], ◌∷◌, ◌++◌, refl, ap, sym, true≢false}
use Rattle.std.specs.List.{AllByRecursion, list_any}
use Rattle.std.specs.Option.{is_some}
use Rattle.zed_types.specs.declared.stamp.Stamp.{Stamp}
use Rattle.zed_types.specs.declared.names.BoardId.{BoardId}
use Rattle.zed_types.specs.declared.names.StatId.{StatId}
use Rattle.zed_types.specs.Stamp.{before, same_stamp}
use Rattle.zed_types.specs.Names.{same_board, same_stat}
use Rattle.zed_types.proofs.StampOrder.{same_stamp-true, same_stamp-itself, before_irrefl}
use Rattle.zed_op.specs.declared.op.Op.{Op}
use Rattle.zed_op.specs.declared.op.Op.TheVariants.{StatAdd}
use Rattle.zed_op.specs.declared.op.Edit.{Edit}
use Rattle.zed_op.specs.declared.thing.Thing.TheVariants as thing
use Rattle.zed_op.specs.Set.{IsRising}
use Rattle.zed_edit.specs.declared.plain.Stat.{Stat}
use Rattle.zed_laws.proofs.MadeThings.{find-any}
use Rattle.zed_laws.proofs.NamesInOrder.{StampsAre}
use Rattle.zed_laws.specs.Making.{makes}
use Rattle.zed_laws.specs.Winners.{made_boards, made_stats}
use Rattle.zed_laws.proofs.Found.{unfound}
use Rattle.zed_laws.proofs.Fresh.{boards-pass, stats-pass, unfound-board}
use Rattle.zed_live.proofs.Lists.{here-all}

-- ---- what bears the stamp of its edit is made once

module _ (makes_it : Edit → Bool) (s : Stamp) (stamped : (e : Edit) → makes_it e ≡ true → same_stamp s e.stamp ≡ true) where
  -- no later edit than one that makes it does
  none-later : (t : Stamp) (es : List Edit) → same_stamp s t ≡ true → AllByRecursion (λ f. before t f.stamp ≡ true) es
      → list_any makes_it es ≡ false
  none-later t [] h a = refl
  none-later t (f ∷ es) h a = go (makes_it f) refl (none-later t es h a.1)
    where
      go : (v : Bool) → makes_it f ≡ v → list_any makes_it es ≡ false → (v || list_any makes_it es) ≡ false
      go true v more =
          let i : t ≡ f.stamp = sym (same_stamp-true s t h) ∙ same_stamp-true s f.stamp (stamped f v) in
          absurd (true≢false (sym a.0 ∙ ap (λ q. before q f.stamp) i ∙ before_irrefl f.stamp))
      go false v more = more

  once : (e : Edit) (low high : List Edit) → IsRising (low ++ e ∷ high) → makes_it e ≡ true → list_any makes_it (low ++ high) ≡ false
  once e [] high rises h = none-later e.stamp high (stamped e h) rises.0
  once e (f ∷ low) high rises h = go (makes_it f) refl (once e low high rises.1 h)
    where
      go : (v : Bool) → makes_it f ≡ v → list_any makes_it (low ++ high) ≡ false → (v || list_any makes_it (low ++ high)) ≡ false
      go true v more =
          let i : f.stamp ≡ e.stamp = sym (same_stamp-true s f.stamp (stamped f v)) ∙ same_stamp-true s e.stamp (stamped e h) in
          let k : before f.stamp e.stamp ≡ true = here-all (λ g. before f.stamp g.stamp ≡ true) low e high rises.0 in
          absurd (true≢false (sym k ∙ ap (λ q. before q e.stamp) i ∙ before_irrefl e.stamp))
      go false v more = more

-- ---- boards

-- the board has the stamp of the edit
board-stamp : (b : BoardId) (e : Edit) → makes e (thing.Board b) ≡ true → same_stamp b.name.stamp e.stamp ≡ true
board-stamp b e h = go (same_stamp b.name.stamp e.stamp) refl
  where
    go : (v : Bool) → same_stamp b.name.stamp e.stamp ≡ v → v ≡ true
    go true v = refl
    go false v =
        let none = unfound-board (λ q. same_stamp q e.stamp) b (made_boards e.stamp e.op) (boards-pass (λ q. same_stamp q e.stamp) e.stamp e.op (same_stamp-itself e.stamp)) v in
        let some = find-any (λ x. same_board x.id b) (made_boards e.stamp e.op) in
        absurd (true≢false (sym h ∙ sym some ∙ ap is_some none))

pub made-once : (b : BoardId) (e : Edit) (low high : List Edit) → IsRising (low ++ e ∷ high) → makes e (thing.Board b) ≡ true
    → list_any (λ f. makes f (thing.Board b)) (low ++ high) ≡ false
made-once b e low high rises h = once (λ f. makes f (thing.Board b)) b.name.stamp (board-stamp b) e low high rises h

-- ---- stats

stats-of-edit : (s : Stamp) (op : Op) → StampsAre (λ (x : Stat). x.id.name.stamp) (λ q. same_stamp q s) (made_stats s op)
stats-of-edit s (StatAdd b fields) = (same_stamp-itself s, tt)
stats-of-edit s op = stats-pass (λ q. same_stamp q s) (made_boards s op) (boards-pass (λ q. same_stamp q s) s op (same_stamp-itself s))

-- the stat has the stamp of the edit
pub stat-stamp : (x : StatId) (e : Edit) → makes e (thing.Stat x) ≡ true → same_stamp x.name.stamp e.stamp ≡ true
stat-stamp x e h = go (same_stamp x.name.stamp e.stamp) refl
  where
    go : (v : Bool) → same_stamp x.name.stamp e.stamp ≡ v → v ≡ true
    go true v = refl
    go false v =
        let none =
        unfound (λ (y : Stat). y.id.name) (λ q. same_stamp q e.stamp) x.name (made_stats e.stamp e.op) (stats-of-edit e.stamp e.op) v in
        let some = find-any (λ y. same_stat y.id x) (made_stats e.stamp e.op) in
        absurd (true≢false (sym h ∙ sym some ∙ ap is_some none))

pub stat-made-once : (x : StatId) (e : Edit) (low high : List Edit) → IsRising (low ++ e ∷ high) → makes e (thing.Stat x) ≡ true
    → list_any (λ f. makes f (thing.Stat x)) (low ++ high) ≡ false
stat-made-once x e low high rises h = once (λ f. makes f (thing.Stat x)) x.name.stamp (stat-stamp x) e low high rises h
