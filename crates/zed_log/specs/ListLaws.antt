-- What the laws on lines promise.
use Rattle.std.specs.Prelude.{◌≡◌, ℕ, ◌==◌, List, length, filter}
use Rattle.std.specs.List.{flat_map}
use Rattle.zed_world.specs.Contents.{Contents}
use Rattle.zed_world.specs.declared.board.BoardData.{BoardData}
use Rattle.zed_world.specs.declared.stat.StatData.{StatData}
use Rattle.zed_log.specs.Boards.{boards_text}
use Rattle.zed_log.specs.Program.{lines_of, program_bytes, program_text}
use Rattle.zed_log.specs.Stats.{stats_text}

-- how many lines a text has, by their line feeds (10)
abbrev pub lines_in : List ℕ → ℕ
lines_in text = length (filter (λ c. c == 10) text)

-- a world's text has as many lines as it has boards
abbrev pub HasALineABoard : Type 0
HasALineABoard = (ranks : List ℕ) (w : Contents) → lines_in (boards_text ranks w) ≡ length w.boards

-- a board's text has as many lines as it has stats
abbrev pub HasALineAStat : Type 0
HasALineAStat = (b : BoardData) → lines_in (stats_text b) ≡ length b.stats

-- a program's text has as many lines as the program has
abbrev pub HasALineALine : Type 0
HasALineALine = (stats : List StatData) (s : StatData) → lines_in (program_text stats s) ≡ length (lines_of (program_bytes stats s.code))

-- the lines of a program, one after another, are the program
abbrev pub LinesAreTheProgram : Type 0
LinesAreTheProgram = (bytes : List ℕ) → flat_map (λ line. line) (lines_of bytes) ≡ bytes
