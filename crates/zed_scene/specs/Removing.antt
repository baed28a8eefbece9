-- How stats are taken away and damaged.
use Rattle.std.specs.Prelude.{◌≡◌, ◌≢◌, int_lt, ℕ, ℤ, pos, ◌-ℤ◌, ◌-◌, ◌==◌, nat_lt, nat_le, if◌then◌else◌, remove, map, slice_get, Option, Some, None}
use Rattle.zed_types.specs.declared.tile.Place.{Place}
use Rattle.zed_scene.specs.declared.scroll.Scroll.{Scroll}
use Rattle.zed_scene.specs.declared.stat.Stat.{Stat}
use Rattle.zed_scene.specs.Scene.{Scene, empty_tile, put, stat_at, stat_of}

-- the number of a stat after stat i is removed; none where it is that one
abbrev pub after_removal : ℕ → ℕ → Option ℕ
after_removal i n = if n == i then None else if nat_lt i n then Some (n - 1) else Some n

-- the number of a stat, if one is named, after stat i is removed; none where it is that one
abbrev pub one_less : ℕ → Option ℕ → Option ℕ
one_less i None = None
one_less i (Some n) = after_removal i n

-- a stat after stat i is removed: its follower and leader go by their new numbers
abbrev pub renumbered : ℕ → Stat → Stat
renumbered i a = record a { follower = one_less i a.follower; leader = one_less i a.leader }

-- a scroll after stat i is removed: its speaker goes by its new number, and is none where it is that one
abbrev pub followed : ℕ → Scroll → Scroll
followed i r = record r { speaker = one_less i r.speaker }

-- without stat i: the later ones move down by one, and so do the numbers that name them
abbrev pub without : ℕ → Scene → Scene
without i s =
    record s {
      stats = map (renumbered i) (remove s.stats i);
      ticking = if nat_le i s.ticking then s.ticking - 1 else s.ticking;
      acting = one_less i s.acting;
      running = one_less i s.running;
      scrolls = map (followed i) s.scrolls;
    }

-- what was underneath a stat that is gone stands at its place
abbrev pub gone_from : ℕ → Option Stat → Scene → Scene
gone_from i None s = s
gone_from i (Some gone) s = put gone.place gone.under (without i s)

-- stat i is taken away; the player stays
abbrev pub remove_stat : ℕ → Scene → Scene
remove_stat i s = if i == 0 then s else gone_from i (slice_get s.stats i) s

-- the number of a stat names the same one after another is removed
abbrev pub OthersAreFollowed : Type 0
OthersAreFollowed =
    (s : Scene) (i n : ℕ) (gone a : Stat) → i ≢ 0 → slice_get s.stats i ≡ Some gone → slice_get s.stats n ≡ Some a → n ≢ i →
    stat_of (remove_stat i s) (one_less i (Some n)) ≡ Some (renumbered i a)

-- a board in play where the player has this health
abbrev pub with_health : ℤ → Scene → Scene
with_health n s = record s { counters = record s.counters { health = n } }

-- health falls by 10, not below 0
abbrev pub hurt : Scene → Scene
hurt s = with_health (if int_lt (pos 10) s.counters.health then s.counters.health -ℤ pos 10 else pos 0) s

-- damage at a stat: the player loses health, another is taken away
abbrev pub damage_stat : ℕ → Scene → Scene
damage_stat i s = if i == 0 then hurt s else remove_stat i s

-- damage at a place with this lowest stat: the stat takes it, or without one the tile is emptied
abbrev pub damage_found : Place → Option ℕ → Scene → Scene
damage_found p None s = put p empty_tile s
damage_found p (Some i) s = damage_stat i s

-- damage at a place: at its lowest stat; without one nothing is left there
abbrev pub damage : Place → Scene → Scene
damage p s = damage_found p (stat_at s.stats p) s

-- stat i attacks a place
abbrev pub attack : ℕ → Place → Scene → Scene
attack i p s = damage p (damage_stat i s)
