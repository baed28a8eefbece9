-- Stats by name: what is found after one is added or changed, and that their names rise.
use Rattle.std.proofs.Common.{◌≡◌, ◌∙◌, Bool, true, false, cond, List, [], ◌∷◌, Option, Some, None, refl, ap, sym}
use Rattle.std.specs.Option.{option_or, option_map}
use Rattle.zed_types.specs.declared.names.Name.{Name}
use Rattle.zed_types.specs.declared.names.StatId.{StatId}
use Rattle.zed_types.specs.Names.{same_stat, NamesRise}
use Rattle.zed_types.proofs.StampOrder.{same_name-true, same_name-apart, same_name-itself}
use Rattle.zed_edit.specs.declared.plain.Stat.{Stat}
use Rattle.zed_laws.specs.Winners.{find_stat}
use Rattle.zed_stats.specs.declared.stat.LiveStat.{LiveStat}
use Rattle.zed_stats.specs.Fields.{new_stat}
use Rattle.zed_stats.specs.ByName.{IsOnlyName}
use Rattle.zed_stats.proofs.Found.{or-none, in-add, rise-add}
use Rattle.zed_stats.specs.Stats.{stat_name}
use Rattle.zed_live.specs.Stat.{values_of, shown_stat}
use Rattle.zed_live.specs.BoardStats.{Entries, stat_in, add_made, add_each, shown_stats}

-- ---- names

abbrev stat_at : Name → StatId
stat_at n = record { name = n }

pub stat-true : (x y : StatId) → same_stat x y ≡ true → x ≡ y
stat-true x y h = ap stat_at (same_name-true x.name y.name h)

pub stat-itself : (x : StatId) → same_stat x x ≡ true
stat-itself x = same_name-itself x.name

pub stat-apart : (x y : StatId) → same_stat x y ≡ false → same_stat y x ≡ false
stat-apart x y d = same_name-apart x.name y.name y.name d (same_name-itself y.name)

pub only_stat : IsOnlyName stat_name
only_stat a b e = ap stat_at e

-- ---- what is found

-- a stat as the edit that makes it leaves it
abbrev pub as_live : Stat → LiveStat
as_live y = new_stat y.is_player y.id.name.stamp (values_of y)

pub in-add_made : (b : StatId) (y : Stat) (ys : Entries)
    → stat_in b (add_made y ys) ≡ option_or (stat_in b ys) (cond (same_stat b y.id) (Some (as_live y)) None)
in-add_made b y ys = in-add stat_name only_stat b y.id (as_live y) ys

-- after many are added
pub in-add_each : (b : StatId) (xs : List Stat) (ys : Entries)
    → stat_in b (add_each xs ys) ≡ option_or (stat_in b ys) (option_map as_live (find_stat b xs))
in-add_each b [] ys = or-none (stat_in b ys)
in-add_each b (x ∷ xs) ys =
    in-add_each b xs (add_made x ys) ∙ ap (λ o. option_or o (option_map as_live (find_stat b xs))) (in-add_made b x ys) ∙ go (stat_in b ys) (same_stat b x.id) refl
  where
    go : (o : Option LiveStat) (w : Bool) → same_stat b x.id ≡ w
        → option_or (option_or o (cond w (Some (as_live x)) None)) (option_map as_live (find_stat b xs))
        ≡ option_or o (option_map as_live (cond (same_stat x.id b) (Some x) (find_stat b xs)))
    go (Some z) w is = refl
    go None true is =
        let k : same_stat x.id b ≡ true = ap (λ d. same_stat d b) (sym (stat-true b x.id is)) ∙ stat-itself b in
        rw k refl
    go None false is =
        let k : same_stat x.id b ≡ false = stat-apart b x.id is in
        rw k refl

-- ---- what is shown

pub find-shown : (b : StatId) (ys : Entries) → find_stat b (shown_stats ys) ≡ option_map (shown_stat b) (stat_in b ys)
find-shown b [] = refl
find-shown b (y ∷ ys) = go (same_stat b y.0) refl (find-shown b ys)
  where
    go : (v : Bool) → same_stat b y.0 ≡ v → find_stat b (shown_stats ys) ≡ option_map (shown_stat b) (stat_in b ys)
        → cond (same_stat y.0 b) (Some (shown_stat y.0 y.1)) (find_stat b (shown_stats ys))
        ≡ option_map (shown_stat b) (cond v (Some y.1) (stat_in b ys))
    go true v more =
        let i = stat-true b y.0 v in
        let w : same_stat y.0 b ≡ true = ap (λ d. same_stat d b) (sym i) ∙ stat-itself b in
        rw w (ap (λ d. Some (shown_stat d y.1)) (sym i))
    go false v more =
        let w : same_stat y.0 b ≡ false = stat-apart b y.0 v in
        rw w more

-- ---- their names rise

abbrev pub StatsRise : Entries → Type 0
StatsRise ys = NamesRise (λ y. (y.0).name) ys

pub rise-add_made : (y : Stat) (ys : Entries) → StatsRise ys → StatsRise (add_made y ys)
rise-add_made y ys r = rise-add stat_name only_stat y.id (as_live y) ys r

pub rise-add_each : (xs : List Stat) (ys : Entries) → StatsRise ys → StatsRise (add_each xs ys)
rise-add_each [] ys r = r
rise-add_each (x ∷ xs) ys r = rise-add_each xs (add_made x ys) (rise-add_made x ys r)
