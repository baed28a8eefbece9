-- The limits of a world file, and what an export and a save answer.
use Rattle.std.specs.Prelude.{◌≡◌, ◌⊎◌, true, false, ℕ, ◌+◌, ◌-◌, ◌^◌, ◌≤◌, min, nat_lt, if◌then◌else◌, List, [], ◌∷◌, length, Option, Some, None, Result, Ok, Err, MatchResult}
use Rattle.zed_types.specs.Limits.{largest_body}
use Rattle.zed_world.specs.declared.board.BoardData.{BoardData}
use Rattle.zed_world.specs.Contents.{Contents}
use Rattle.zed_world.specs.Reading.{world_at}
use Rattle.zed_world.specs.Normal.{HasNormalParts}
use Rattle.zed_world.specs.Writing.{body_text, world_text}
use Rattle.zed_op.specs.declared.thing.Thing.TheVariants as thing
use Rattle.zed_edit.specs.declared.plain.Plain.{Plain}
use Rattle.zed_types.specs.Names.{title}
use Rattle.zed_edit.specs.Document.{has}
use Rattle.zed_edit.specs.Numbers.{alive_boards}
use Rattle.zed_edit.specs.Replay.{replay}
use Rattle.zed_laws.specs.NameOrder.{IsOrdered}
use Rattle.zed_laws.specs.Regular.{IsRegular}
use Rattle.zed_document.specs.Replica.{Replica}
use Rattle.zed_export.specs.declared.error.ExportError.{ExportError}
use Rattle.zed_export.specs.declared.error.ExportError.TheVariants.{Memory, Stale, NoWorld, BoardsOver, StatsOver, BoardOver}
use Rattle.zed_export.specs.World.{exported_boards, world_of}

-- a count that doesn't fit in a number is told as the greatest that does
abbrev pub told : ℕ → ℕ
told n = min n (2 ^ 64 - 1)

-- the first refusal, or the other where there is none
abbrev pub or_else : Option ExportError → Option ExportError → Option ExportError
or_else None other = other
or_else (Some e) other = Some e

-- too many stats beside the player
abbrev pub stats_refusal : ℕ → ℕ → Option ExportError
stats_refusal n stats = if nat_lt 150 (stats - 1) then Some (StatsOver n (stats - 1)) else None

-- a body over the limit
abbrev pub body_refusal : ℕ → ℕ → ℕ → Option ExportError
body_refusal limit n bytes = if nat_lt limit bytes then Some (BoardOver n (told bytes)) else None

-- the first limit that board n goes over
abbrev pub board_refusal : ℕ → ℕ → BoardData → Option ExportError
board_refusal limit n b = or_else (stats_refusal n (length b.stats)) (body_refusal limit n (length (body_text b)))

-- the first limit that the boards from board n on go over, board by board
abbrev pub boards_refusal : ℕ → ℕ → List BoardData → Option ExportError
boards_refusal limit n [] = None
boards_refusal limit n (b ∷ bs) = or_else (board_refusal limit n b) (boards_refusal limit (n + 1) bs)

-- too many boards beside the title
abbrev pub count_refusal : ℕ → Option ExportError
count_refusal boards = if nat_lt 100 (boards - 1) then Some (BoardsOver (boards - 1)) else None

-- no title was made
abbrev pub title_refusal : Plain → Option ExportError
title_refusal p = if has p (thing.Board title) then None else Some NoWorld

-- the first limit that a document goes over
abbrev pub refusal_of : ℕ → Plain → Option ExportError
refusal_of limit p =
    or_else (title_refusal p) (or_else (count_refusal (length (alive_boards p))) (boards_refusal limit 0 (exported_boards p)))

-- a value, or the refusal where a limit is gone over
abbrev pub unless_over : {Y : Type 0} → Option ExportError → Y → Result Y ExportError
unless_over None y = Ok y
unless_over (Some e) y = Err e

-- the world of a document, or the first limit
abbrev pub exported : ℕ → Plain → Result Contents ExportError
exported limit p = unless_over (refusal_of limit p) (world_of p)

-- the file of a document, or the first limit
abbrev pub saved : ℕ → Plain → Result (List ℕ) ExportError
saved limit p = unless_over (refusal_of limit p) (world_text (world_of p))

-- a stale document gives nothing, any other what its edits make
abbrev pub unless_stale : {Y : Type 0} → Replica → (Plain → Result Y ExportError) → Result Y ExportError
unless_stale d gives = if d.is_stale then Err Stale else gives (replay d.edits)

-- a document isn't stale, shows this and goes over no limit
pub record IsShown (limit : ℕ) (d : Replica) (p : Plain) : Type 0 where
  pub sound : d.is_stale ≡ false
  pub shows : p ≡ replay d.edits
  pub within : refusal_of limit p ≡ None
  pub regular : IsRegular p
  pub ordered : IsOrdered p

-- a document is stale, or goes over this limit first
abbrev pub IsRefusal : ℕ → Replica → ExportError → Type 0
IsRefusal limit d e =
    ((d.is_stale ≡ true) × (e ≡ Stale)) ⊎ ((d.is_stale ≡ false) × (refusal_of limit (replay d.edits) ≡ Some e))

-- What a call answers: the refusal where there is one, else the value, or Memory.
abbrev pub Answers : {X Y : Type 0} → (X → Y) → Result Y ExportError → Result X ExportError → Type 0
Answers view (Ok y) r = MatchResult r (λ x. view x ≡ y) (λ e. e ≡ Memory)
Answers view (Err e) r = r ≡ Err e

-- what is saved of a document whose world can stand in a file is read as that world
abbrev pub SavedIsRead : Type 0
SavedIsRead =
    (limit : ℕ) (p : Plain) (file : List ℕ)
    → limit ≤ largest_body
    → HasNormalParts (world_of p)
    → saved limit p ≡ Ok file
    → world_at file ≡ Ok (world_of p)
