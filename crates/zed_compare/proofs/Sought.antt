-- What is found of the stats of a board.
use Rattle.std.proofs.Common.{◌≡◌, ◌∙◌, ℕ, ◌+◌, List, ◌++◌, Some, ap, append_assoc, drop, sym}
use Rattle.std.specs.Prelude.{flat_map}
use Rattle.std.specs.List.{slice_get}
use Rattle.zed_types.specs.declared.names.StatId.{StatId}
use Rattle.zed_stats.specs.declared.stat.LiveStat.{LiveStat}
use Rattle.zed_edit.specs.declared.plain.Stat.{Stat}
use Rattle.zed_live.specs.BoardStats.{Entries, shown_stats}
use Rattle.zed_live.specs.Stat.{shown_stat}
use Rattle.zed_compare.specs.declared.finding.Finding.{Finding}
use Rattle.zed_join.proofs.Sought.{dropped}

-- what is found of a stat comes behind what was found before it
pub one_more : (f : Stat → List Finding) (ts : Entries) (j : ℕ) (x : StatId) (s : LiveStat) (new old all : List Finding) → slice_get ts j ≡ Some (x, s)
    → new ≡ old ++ f (shown_stat x s) → old ++ flat_map f (shown_stats (drop j ts)) ≡ all
    → new ++ flat_map f (shown_stats (drop (j + 1) ts)) ≡ all
one_more f ts j x s new old all is found so =
    let rest = flat_map f (shown_stats (drop (j + 1) ts)) in
    ap (λ l. l ++ rest) found
    ∙ append_assoc old (f (shown_stat x s)) rest
    ∙ ap (λ l. old ++ l) (sym (ap (λ (l : Entries). flat_map f (shown_stats l)) (dropped ts j (x, s) is)))
    ∙ so
