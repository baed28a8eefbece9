-- What is typed for a key.
use Rattle.std.specs.Prelude.{ℕ}
use Rattle.zed_play.specs.declared.key.Key.{Key}
use Rattle.zed_play.specs.declared.key.Key.TheVariants.{Wait, North, South, West, East, ShootNorth, ShootSouth, ShootWest, ShootEast}

-- its byte: a full stop waits, n s w e move, and N S W E shoot
abbrev pub byte_of : Key → ℕ
byte_of Wait = 46
byte_of North = 110
byte_of South = 115
byte_of West = 119
byte_of East = 101
byte_of ShootNorth = 78
byte_of ShootSouth = 83
byte_of ShootWest = 87
byte_of ShootEast = 69
