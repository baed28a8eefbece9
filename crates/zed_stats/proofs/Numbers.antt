-- Counting the stats that are not removed up to one of them.
use Rattle.std.proofs.Common.{◌≡◌, ◌≤◌, ℕ, suc, ◌+◌, Bool, true, false, not, ◌&&◌, cond, List, [], ◌∷◌, length, filter, position, Option, None, Some, refl, ap, arith, length-append}
use Rattle.std.specs.Option.{option_map}
use Rattle.zed_types.specs.declared.names.StatId.{StatId}
use Rattle.zed_types.specs.Names.{same_stat}
use Rattle.zed_stats.specs.declared.stat.LiveStat.{LiveStat}
use Rattle.zed_stats.specs.Stats.{is_alive_other, is_alive_player, number_of, numbered}

-- the number of a stat among these, where n are counted before them
abbrev pub number_from : StatId → ℕ → List (StatId × LiveStat) → Option ℕ
number_from id n es = option_map (λ k. n + k) (position (λ e. same_stat e.0 id) es)

pub number_of-start : (id : StatId) (es : List (StatId × LiveStat)) → number_of id es ≡ number_from id 0 (numbered es)
number_of-start id es = go (number_of id es)
  where
    go : (o : Option ℕ) → o ≡ option_map (λ k. 0 + k) o
    go None = refl
    go (Some k) = ap Some (omega arith)

-- there are no more of both than there are stats
pub few-numbered : (es : List (StatId × LiveStat)) → length (numbered es) ≤ length es
few-numbered es = omega (arith, length-append (filter is_alive_player es) (filter is_alive_other es), both es)
  where
    step : (e : StatId × LiveStat) (es : List (StatId × LiveStat)) (p r : Bool)
        → length (filter is_alive_player es) + length (filter is_alive_other es) ≤ length es
        → length (cond (p && not r) (e ∷ filter is_alive_player es) (filter is_alive_player es)) + length (cond (not p && not r) (e ∷ filter is_alive_other es) (filter is_alive_other es)) ≤ suc (length es)
    step e es true true h = omega (arith, h)
    step e es true false h = omega (arith, h)
    step e es false true h = omega (arith, h)
    step e es false false h = omega (arith, h)

    both : (es : List (StatId × LiveStat)) → length (filter is_alive_player es) + length (filter is_alive_other es) ≤ length es
    both [] = omega arith
    both (e ∷ es) = step e es (e.1).is_player (e.1).removed (both es)
