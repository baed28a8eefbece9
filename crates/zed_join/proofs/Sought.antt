-- A stat that is sought on a board.
use Rattle.std.proofs.Common.{◌≡◌, ◌∙◌, ℕ, suc, ◌+◌, true, false, cond, List, ◌∷◌, Some, add-one, ap, drop, sym}
use Rattle.std.proofs.lemmas.Option.{get_or_from_slice_get, slice_get_within}
use Rattle.std.proofs.Math.Seq.{drop-cons}
use Rattle.std.specs.List.{slice_get}
use Rattle.zed_types.specs.declared.names.StatId.{StatId}
use Rattle.zed_types.specs.Names.{same_stat}
use Rattle.zed_stats.specs.declared.stat.LiveStat.{LiveStat}
use Rattle.zed_laws.specs.Winners.{find_stat}
use Rattle.zed_live.specs.BoardStats.{Entries, shown_stats}
use Rattle.zed_live.specs.Stat.{shown_stat}
use Rattle.zed_join.proofs.Tests.{stat_tells}

pub dropped : (ts : Entries) (j : ℕ) (t : StatId × LiveStat) → slice_get ts j ≡ Some t → drop j ts ≡ t ∷ drop (j + 1) ts
dropped ts j t is =
    drop-cons ts j t (slice_get_within ts j t is)
    ∙ ap (λ x. x ∷ drop (suc j) ts) (get_or_from_slice_get ts j t t is)
    ∙ ap (λ k. t ∷ drop k ts) (sym (add-one j))

-- where it isn't this stat, it is sought behind
pub passed : (id : StatId) (ts : Entries) (j : ℕ) (x : StatId) (s : LiveStat) → slice_get ts j ≡ Some (x, s) → same_stat x id ≡ false
    → find_stat id (shown_stats (drop j ts)) ≡ find_stat id (shown_stats (drop (j + 1) ts))
passed id ts j x s is other =
    ap (λ (l : Entries). find_stat id (shown_stats l)) (dropped ts j (x, s) is)
    ∙ ap (λ b. cond b (Some (shown_stat x s)) (find_stat id (shown_stats (drop (j + 1) ts)))) other

-- it is this one
pub reached : (id : StatId) (ts : Entries) (j : ℕ) (x : StatId) (s : LiveStat) → slice_get ts j ≡ Some (x, s) → same_stat x id ≡ true
    → find_stat id (shown_stats (drop j ts)) ≡ Some (shown_stat id s)
reached id ts j x s is same =
    ap (λ (l : Entries). find_stat id (shown_stats l)) (dropped ts j (x, s) is)
    ∙ ap (λ b. cond b (Some (shown_stat x s)) (find_stat id (shown_stats (drop (j + 1) ts)))) same
    ∙ ap (λ y. Some (shown_stat y s)) (stat_tells x id same)
