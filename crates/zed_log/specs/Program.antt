-- The lines of a program, and where each begins.
use Rattle.std.specs.Prelude.{ℕ, ◌+◌, ◌==◌, not, if◌then◌else◌, List, [], ◌∷◌, ◌++◌, length, codes, slice_get, take_while, Option, Some, None}
use Rattle.zed_world.specs.declared.stat.Code.{Code}
use Rattle.zed_world.specs.declared.stat.Code.TheVariants as code
use Rattle.zed_world.specs.declared.stat.StatData.{StatData}
use Rattle.zed_log.specs.Fields.{number, quoted}

-- the bytes that a program has of its own
abbrev pub own_bytes : Code → List ℕ
own_bytes code.None = []
own_bytes (code.Own bytes) = bytes
own_bytes (code.Same n) = []

-- those of a stat, if there is one
abbrev pub bytes_in : Option StatData → List ℕ
bytes_in None = []
bytes_in (Some s) = own_bytes s.code

-- the bytes of a program on a board with these stats: its own, or those of the stat that it shares
abbrev pub program_bytes : List StatData → Code → List ℕ
program_bytes stats code.None = []
program_bytes stats (code.Own bytes) = bytes
program_bytes stats (code.Same n) = bytes_in (slice_get stats n)

-- the first line of a program, without its end (13)
abbrev pub first_line : List ℕ → List ℕ
first_line bytes = take_while (λ b. not (b == 13)) bytes

-- a line, unless it has no byte
abbrev pub unless_empty : List ℕ → List (List ℕ)
unless_empty [] = []
unless_empty (c ∷ cs) = (c ∷ cs) ∷ []

-- the lines of bytes behind the first bytes of a line; a byte 13 ends its line, and the last line may lack it
abbrev pub lines_behind : List ℕ → List ℕ → List (List ℕ)
lines_behind line [] = unless_empty line
lines_behind line (b ∷ bs) = if b == 13 then (line ++ b ∷ []) ∷ lines_behind [] bs else lines_behind (line ++ b ∷ []) bs

-- the lines of a program, each with its end
abbrev pub lines_of : List ℕ → List (List ℕ)
lines_of bytes = lines_behind [] bytes

-- what stands before the line feed for a line of a program: the position where it begins, and its bytes
unfoldable pub line_words : ℕ → List ℕ → List ℕ
line_words at line = number at ++ codes "  " ++ quoted line

-- a line for each of these lines of a program, of which the first begins at this position
abbrev pub numbered : ℕ → List (List ℕ) → List ℕ
numbered at [] = []
numbered at (line ∷ lines) = line_words at line ++ 10 ∷ [] ++ numbered (at + length line) lines

-- a line for each line of the program of a stat
abbrev pub program_text : List StatData → StatData → List ℕ
program_text stats s = numbered 0 (lines_of (program_bytes stats s.code))
