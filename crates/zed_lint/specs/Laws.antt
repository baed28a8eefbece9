-- What the laws promise.
use Rattle.std.specs.List.{AllByRecursion}
use Rattle.std.specs.Prelude.{◌≡◌, ℕ, ◌≤◌, List, [], length}
use Rattle.zed_world.specs.Contents.{Contents}
use Rattle.zed_world.specs.Writing.{body_text}
use Rattle.zed_world.specs.declared.board.BoardData.{BoardData}
use Rattle.zed_log.specs.ListLaws.{lines_in}
use Rattle.zed_lint.specs.Boards.{count_of}
use Rattle.zed_lint.specs.Lines.{lines_of}
use Rattle.zed_lint.specs.World.{board_findings, findings}

-- a world's text has as many lines as there are findings in it
abbrev pub HasALineAFinding : Type 0
HasALineAFinding = (w : Contents) → lines_in (lines_of w) ≡ length (findings w)

-- a board with a body of at most 20,000 bytes and a name of at most 34, with one player (4), and without elements over 53
pub record IsPlain (b : BoardData) : Type 0 where
  pub short : length (body_text b) ≤ 20000
  pub named : length b.name ≤ 34
  pub one_player : count_of 4 b.tiles ≡ 1
  pub known : AllByRecursion (λ t. t.element ≤ 53) b.tiles

-- a board on which nothing is found is such a board
abbrev pub UntoldIsPlain : Type 0
UntoldIsPlain = (held set : List (List ℕ)) (n : ℕ) (b : BoardData) → board_findings held set n b ≡ [] → IsPlain b
