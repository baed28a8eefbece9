-- What is read of a stat in four worlds.
use Rattle.std.proofs.Common.{◌≡◌, ◌∙◌, Bool, Option, refl}
use Rattle.std.specs.Prelude.{option_map}
use Rattle.std.specs.Option.{option_eq}
use Rattle.zed_types.specs.declared.names.BoardId.{BoardId}
use Rattle.zed_types.specs.declared.names.StatId.{StatId}
use Rattle.zed_edit.specs.declared.plain.Plain.{Plain}
use Rattle.zed_edit.specs.declared.plain.Stat.{Stat}
use Rattle.zed_sides.specs.declared.side.Overridden.{Overridden}
use Rattle.zed_sides.specs.Overridden.{overridden}
use Rattle.zed_join.specs.declared.sides.Views.{Views}
use Rattle.zed_compare.specs.Registers.{in_stat}
use Rattle.zed_join.specs.Things.{IsStat, Stats, shown_stat_as}

-- what is overridden of it is read so
pub stat_read : {V : Type 0} (same : V → V → Bool) (read : Plain → Stat → V) (w : Views) (b : BoardId) (x : StatId) (s : Stats)
    (base mine theirs union : Option V) (r : Option Overridden) → IsStat w b x s
    → base ≡ option_map (read w.base) (shown_stat_as x s.base) → mine ≡ option_map (read w.mine) (shown_stat_as x s.mine)
    → theirs ≡ option_map (read w.theirs) (shown_stat_as x s.theirs) → union ≡ option_map (read w.union) (shown_stat_as x s.union)
    → r ≡ overridden (option_eq same) base mine theirs union → r ≡ in_stat same read w b x
stat_read same read w b x s base mine theirs union r is p q t u so = so ∙ rw (p, q, t, u, is.base, is.mine, is.theirs, is.union) refl
