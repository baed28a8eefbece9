-- What an edit makes wasn't there before it.
use Rattle.std.proofs.Common.{◌≡◌, Bool, true, false, List, [], ◌∷◌, None, Result, Ok, Err, refl, ap, ◌∙◌}
use Rattle.std.specs.List.{AllByRecursion}
use mathlib.Core.Logic.{◌⊎◌, inl, inr}
use Rattle.zed_types.specs.declared.stamp.Stamp.{Stamp}
use Rattle.zed_types.specs.declared.names.BoardId.{BoardId}
use Rattle.zed_types.specs.declared.names.StatId.{StatId}
use Rattle.zed_types.specs.Stamp.{before, same_stamp}
use Rattle.zed_types.proofs.StampOrder.{same_stamp-true, same_stamp-itself, before_irrefl}
use Rattle.zed_types.proofs.Facts.{all_joined, all_weaker}
use Rattle.zed_world.specs.Contents.{Contents}
use Rattle.zed_world.specs.Reading.{world_at}
use Rattle.zed_world.specs.declared.error.WorldError.{WorldError}
use Rattle.zed_op.specs.declared.op.Op.{Op}
use Rattle.zed_op.specs.declared.op.Op.TheVariants.{Genesis, BoardAdd, StatAdd}
use Rattle.zed_edit.specs.declared.plain.Board.{Board}
use Rattle.zed_edit.specs.declared.plain.Stat.{Stat}
use Rattle.zed_edit.specs.declared.plain.Plain.{Plain}
use Rattle.zed_edit.specs.Document.{all_stats}
use Rattle.zed_laws.proofs.NamesInOrder.{StampsAre, IsBoardOf, NamesPass, pass-opened_boards}
use Rattle.zed_laws.specs.Winners.{opened_from, made_boards, made_stats, stats_of, find_board, find_stat}
use Rattle.zed_laws.proofs.Found.{unfound}

-- a stamp passes a test if all that the edit makes passes it
opened-pass : (test : Stamp → Bool) (s : Stamp) (r : Result Contents WorldError) → test s ≡ true
    → AllByRecursion (IsBoardOf test) (opened_from s r)
opened-pass test s (Ok w) h = pass-opened_boards test s 0 0 0 w.boards h
opened-pass test s (Err e) h = tt

pub boards-pass : (test : Stamp → Bool) (s : Stamp) (op : Op) → test s ≡ true → AllByRecursion (IsBoardOf test) (made_boards s op)
boards-pass test s (Genesis bytes) h = opened-pass test s (world_at bytes) h
boards-pass test s (BoardAdd name) h = ((h, (h, tt)), tt)
boards-pass test s _ h = tt

pub stats-pass : (test : Stamp → Bool) (bs : List Board) → AllByRecursion (IsBoardOf test) bs
    → StampsAre (λ (x : Stat). x.id.name.stamp) test (stats_of bs)
stats-pass test [] a = tt
stats-pass test (b ∷ bs) a = all_joined (λ (x : Stat). test x.id.name.stamp ≡ true) b.stats (stats_of bs) a.0.1 (stats-pass test bs a.1)

made_stats-pass : (test : Stamp → Bool) (s : Stamp) (op : Op) → test s ≡ true
    → StampsAre (λ (x : Stat). x.id.name.stamp) test (made_stats s op)
made_stats-pass test s (StatAdd b fields) h = (h, tt)
made_stats-pass test s op h = stats-pass test (made_boards s op) (boards-pass test s op h)

pub not-earlier : (r s : Stamp) → same_stamp r s ≡ true → before r s ≡ false
not-earlier r s h = ap (λ q. before q s) (same_stamp-true r s h) ∙ before_irrefl s

pub unfound-board : (test : Stamp → Bool) (b : BoardId) (bs : List Board) → AllByRecursion (IsBoardOf test) bs → test b.name.stamp ≡ false
    → find_board b bs ≡ None
unfound-board test b bs a h =
    unfound (λ (x : Board). x.id.name) test b.name bs (all_weaker (IsBoardOf test) (λ (x : Board). test x.id.name.stamp ≡ true) bs (λ x k. k.0) a) h

pub fresh-board : (b : BoardId) (s : Stamp) (op : Op) (p : Plain) → NamesPass (λ q. before q s) p
    → (find_board b p.boards ≡ None) ⊎ (find_board b (made_boards s op) ≡ None)
fresh-board b s op p a = go (same_stamp b.name.stamp s) refl
  where
    go : (v : Bool) → same_stamp b.name.stamp s ≡ v → (find_board b p.boards ≡ None) ⊎ (find_board b (made_boards s op) ≡ None)
    go true v = inl (unfound-board (λ q. before q s) b p.boards a.boards (not-earlier b.name.stamp s v))
    go false v =
        inr (unfound-board (λ q. same_stamp q s) b (made_boards s op) (boards-pass (λ q. same_stamp q s) s op (same_stamp-itself s)) v)

pub fresh-stat : (x : StatId) (s : Stamp) (op : Op) (p : Plain) → NamesPass (λ q. before q s) p
    → (find_stat x (all_stats p) ≡ None) ⊎ (find_stat x (made_stats s op) ≡ None)
fresh-stat x s op p a = go (same_stamp x.name.stamp s) refl
  where
    go : (v : Bool) → same_stamp x.name.stamp s ≡ v → (find_stat x (all_stats p) ≡ None) ⊎ (find_stat x (made_stats s op) ≡ None)
    go true v = inl (unfound (λ (y : Stat). y.id.name) (λ q. before q s) x.name (all_stats p) (stats-pass (λ q. before q s) p.boards a.boards) (not-earlier x.name.stamp s v))
    go false v = inr (unfound (λ (y : Stat). y.id.name) (λ q. same_stamp q s) x.name (made_stats s op) (made_stats-pass (λ q. same_stamp q s) s op (same_stamp-itself s)) v)
