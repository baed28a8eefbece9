-- Bullets.
use Rattle.std.specs.Prelude.{ℕ, Bool, ◌&&◌, ◌||◌, ◌==◌, if◌then◌else◌, List, codes, Option, Some, None}
use Rattle.zed_types.specs.declared.tile.Place.{Place}
use Rattle.zed_scene.specs.declared.stat.Stat.{Stat}
use Rattle.zed_scene.specs.Scene.{Scene, element_ahead, element_at, put_acting_stat, stat_at}
use Rattle.zed_scene.specs.Moving.{is_destructible, is_walkable}
use Rattle.zed_scene.specs.Places.{ahead, opposite}
use Rattle.zed_scene.specs.Removing.{remove_stat}
use Rattle.zed_oop.specs.Sending.{sent_alone}
use Rattle.zed_play.specs.Acts.{attacks, moves}

-- the lowest stat at a place is sent a label
abbrev pub told_at : List ℕ → Option ℕ → Scene → Scene
told_at l None s = s
told_at l (Some i) s = sent_alone l i s

-- a label is sent to the lowest stat at a place, if there is one
abbrev pub tells : List ℕ → Place → Scene → Scene
tells l n s = told_at l (stat_at s.stats n) s

-- a stat is taken away, if it is still there
abbrev pub taken_away : Option ℕ → Scene → Scene
taken_away None s = s
taken_away (Some i) s = remove_stat i s

-- the stat that acts is taken away
abbrev pub vanishes : Scene → Scene
vanishes s = taken_away s.acting s

-- whether a bullet destroys an element: the player's, P1 0, all that can be destroyed, others the player; and both breakable walls
abbrev pub is_struck : ℕ → ℕ → Bool
is_struck p1 e = e == 23 || (is_destructible e && (e == 4 || p1 == 0))

-- a bullet whose P1 is this meets what stands at a place
abbrev pub meets : ℕ → Place → Scene → Scene
meets p1 n s =
    let e = element_at s n in
    if is_walkable e || e == 19 then moves n s
    else if is_struck p1 e then attacks n s
    else if e == 36 then tells (codes "SHOT") n (vanishes s) else vanishes s

-- a bullet whose P1 is this meets what is ahead; off the table it is taken away
abbrev pub flies : ℕ → Option Place → Scene → Scene
flies p1 None s = vanishes s
flies p1 (Some n) s = meets p1 n s

-- a stat with its step turned round
abbrev pub turned_back : Stat → Stat
turned_back a = record a { step = opposite a.step }

-- a ricochet, 32, turns its step round, once
unfoldable pub bullet : Stat → Scene → Scene
bullet a s =
    if element_ahead s (ahead a.place a.step) == 32
    then flies a.p1 (ahead a.place (opposite a.step)) (put_acting_stat (turned_back a) s)
    else flies a.p1 (ahead a.place a.step) s
