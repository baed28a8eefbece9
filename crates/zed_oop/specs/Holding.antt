-- Counters.
use Rattle.std.specs.Prelude.{ℕ, ℤ, pos, ◌+ℤ◌, ◌-ℤ◌, int_lt, Bool, true, false, if◌then◌else◌, Option, Some, None}
use Rattle.zed_oop_syntax.specs.declared.commands.Counter.{Counter}
use Rattle.zed_oop_syntax.specs.declared.commands.Counter.TheVariants.{Health, Ammo, Gems, Torches, Score, Time}
use Rattle.zed_scene.specs.declared.counters.Counters.{Counters}
use Rattle.zed_scene.specs.Scene.{Scene}

-- how much is in a counter
abbrev pub in_counter : Counter → Counters → ℤ
in_counter Health c = c.health
in_counter Ammo c = c.ammo
in_counter Gems c = c.gems
in_counter Torches c = c.torches
in_counter Score c = c.score
in_counter Time c = c.time

-- the counters, one of them with this number
abbrev pub with_counter : Counter → ℤ → Counters → Counters
with_counter Health n c = record c { health = n }
with_counter Ammo n c = record c { ammo = n }
with_counter Gems n c = record c { gems = n }
with_counter Torches n c = record c { torches = n }
with_counter Score n c = record c { score = n }
with_counter Time n c = record c { time = n }

-- counters stop at 32,767
abbrev pub added : ℤ → ℕ → ℤ
added n v = if int_lt (pos 32767) (n +ℤ pos v) then pos 32767 else n +ℤ pos v

-- what is left, if there is so much
abbrev pub taken : ℤ → ℕ → Option ℤ
taken n v = if int_lt (n -ℤ pos v) (pos 0) then None else Some (n -ℤ pos v)

-- a counter rises by so much, and stops at 32,767
abbrev pub given : Counter → ℕ → Scene → Scene
given k v s = record s { counters = with_counter k (added (in_counter k s.counters) v) s.counters }

-- whether there was so much in a counter, and the board with what is left in it
abbrev pub left_in : Counter → Option ℤ → Scene → Bool × Scene
left_in k None s = (false, s)
left_in k (Some n) s = (true, record s { counters = with_counter k n s.counters })

-- whether a counter has so much, and the board without it
abbrev pub taken_from : Counter → ℕ → Scene → Bool × Scene
taken_from k v s = left_in k (taken (in_counter k s.counters) v) s
