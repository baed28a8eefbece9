-- The programs of the stats of a board.
use Rattle.std.specs.Prelude.{ℕ, ◌==◌, ◌&&◌, if◌then◌else◌, List, [], length, slice_get, Option, Some, None}
use Rattle.zed_world.specs.declared.stat.Code.{Code}
use Rattle.zed_world.specs.declared.stat.Code.TheVariants as code
use Rattle.zed_world.specs.declared.stat.StatData.{StatData}

-- the bytes that a program has of its own
abbrev pub bytes_of : Code → List ℕ
bytes_of code.None = []
bytes_of (code.Own bytes) = bytes
bytes_of (code.Same n) = []

-- those of a stat, if there is one
abbrev pub bytes_in : Option StatData → List ℕ
bytes_in None = []
bytes_in (Some s) = bytes_of s.code

-- the bytes of a program on a board with these stats: its own, or those of the stat that it shares
abbrev pub program_of : List StatData → Code → List ℕ
program_of stats code.None = []
program_of stats (code.Own bytes) = bytes
program_of stats (code.Same n) = bytes_in (slice_get stats n)

-- the number of the stat that has the bytes of the program of a stat of this number, or that is to have them
abbrev pub owner_of : ℕ → Code → ℕ
owner_of number code.None = number
owner_of number (code.Own bytes) = number
owner_of number (code.Same n) = n

-- a program of these bytes; one without bytes is none
abbrev pub owned : List ℕ → Code
owned program = if length program == 0 then code.None else code.Own program

-- the program of another stat, where the stat `owner` gets these bytes: it shares none that has no bytes
abbrev pub sharing : ℕ → List ℕ → Code → Code
sharing owner program code.None = code.None
sharing owner program (code.Own bytes) = code.Own bytes
sharing owner program (code.Same n) = if (length program == 0) && (n == owner) then code.None else code.Same n

-- the program of the stat of this number, where the stat `owner` gets these bytes
abbrev pub code_in : ℕ → List ℕ → ℕ → Code → Code
code_in owner program number c = if number == owner then owned program else sharing owner program c
