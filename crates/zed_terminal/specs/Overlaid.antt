-- What is shown over a playtest, and what is to be done for what is typed.
use Rattle.std.specs.Prelude.{ℕ, ◌+◌, ◌-◌, Bool, false, nat_le, if◌then◌else◌, List, [], slice_get, length, Option, Some, None}
use Rattle.zed_scene.specs.declared.scroll.Scroll.{Scroll}
use Rattle.zed_oop_syntax.specs.Scroll.{is_choice}
use Rattle.zed_oop.specs.declared.choosing.Chosen.{Chosen}
use Rattle.zed_oop.specs.declared.choosing.Chosen.TheVariants.{Gone}
use Rattle.zed_play.specs.declared.key.Key.{Key}
use Rattle.zed_play.specs.declared.key.Key.TheVariants.{North, South}
use Rattle.zed_play.specs.Playtest.{Playtest}
use Rattle.zed_terminal.specs.declared.input.Input.{Input}
use Rattle.zed_terminal.specs.declared.input.Input.TheVariants.{Pressed, Paged, Entered, Escaped, Resized, Kept}
use Rattle.zed_terminal.specs.declared.input.Page.{Page}
use Rattle.zed_terminal.specs.declared.input.Page.TheVariants.{Up, Down}
use Rattle.zed_terminal.specs.declared.moves.Choice.{Choice as TheChoice}
use Rattle.zed_terminal.specs.declared.moves.Move.TheVariants as move
use Rattle.zed_terminal.specs.declared.overlay.Act.{Act}
use Rattle.zed_terminal.specs.declared.overlay.Act.TheVariants.{Play, Choose, Show, Resize}
use Rattle.zed_terminal.specs.declared.overlay.Overlay.{Overlay}
use Rattle.zed_terminal.specs.declared.overlay.Shown.{Shown}

-- nothing is shown over it
abbrev pub closed : Overlay
closed = record { before = None; shown = None; said = None }

-- one playtest, if it is there, or another
abbrev pub or_other : Option Playtest → Playtest → Playtest
or_other None p = p
or_other (Some q) p = q

-- the playtest that is shown: while what was said on a board is, the one that left it
abbrev pub seen : Overlay → Playtest → Playtest
seen o p = or_other o.before p

-- what was said in the last step
abbrev pub scrolls_of : Playtest → List Scroll
scrolls_of p = p.game.scene.scrolls

-- a scroll from its first line on, if it is there
abbrev pub shown_of : ℕ → Option Scroll → Option Shown
shown_of n None = None
shown_of n (Some scroll) = Some (record { scroll = n; line = 0 })

-- the scroll of this number, if it was said
abbrev pub opened : ℕ → Playtest → Option Shown
opened n p = shown_of n (slice_get (scrolls_of p) n)

-- the one behind it
abbrev pub behind : ℕ → Playtest → Option Shown
behind n p = opened (n + 1) p

-- the lines of a scroll, if it is there
abbrev pub lines_in : Option Scroll → List (List ℕ)
lines_in None = []
lines_in (Some scroll) = scroll.lines

abbrev pub lines_of : Shown → Playtest → List (List ℕ)
lines_of s p = lines_in (slice_get (scrolls_of p) s.scroll)

-- whether a line is a choice, if it is there
abbrev pub is_choice_in : Option (List ℕ) → Bool
is_choice_in None = false
is_choice_in (Some line) = is_choice line

-- whether the line in the middle is one
abbrev pub is_choice_at : Shown → Playtest → Bool
is_choice_at s p = is_choice_in (slice_get (lines_of s p) s.line)

-- ---- moving in a scroll

-- so many lines further up, or at the first one
abbrev pub up : ℕ → Shown → Shown
up count s = record s { line = s.line - count }

-- so many lines further down, or at the last one of so many
abbrev pub down : ℕ → ℕ → Shown → Shown
down count lines s = record s { line = if nat_le (s.line + count) (lines - 1) then s.line + count else lines - 1 }

-- up and down go by one line, and no other key goes anywhere
abbrev pub moved : Key → Playtest → Shown → Shown
moved North p s = up 1 s
moved South p s = down 1 (length (lines_of s p)) s
moved _ p s = s

-- a page has 14 lines
abbrev pub paged : Page → Playtest → Shown → Shown
paged Up p s = up 14 s
paged Down p s = down 14 (length (lines_of s p)) s

-- ---- what is to be done

-- Enter chooses the line in the middle, or else goes on to the next scroll
abbrev pub entered : Playtest → Shown → Act
entered p s = if is_choice_at s p then Choose (record { scroll = s.scroll; line = s.line }) else Show (behind s.scroll p)

-- where a scroll is open
abbrev pub asked_in : Shown → Input → Playtest → Act
asked_in s (Pressed key) p = Show (Some (moved key p s))
asked_in s (Paged page) p = Show (Some (paged page p s))
asked_in s Entered p = entered p s
asked_in s Escaped p = Show (behind s.scroll p)
asked_in s (Resized size) p = Resize size
asked_in s (Kept (move.Key key)) p = Play key
asked_in s (Kept (move.Choice choice)) p = Choose choice

-- where none is
abbrev pub asked_alone : Input → Act
asked_alone (Pressed key) = Play key
asked_alone (Paged page) = Show None
asked_alone Entered = Show None
asked_alone Escaped = Show None
asked_alone (Resized size) = Resize size
asked_alone (Kept (move.Key key)) = Play key
asked_alone (Kept (move.Choice choice)) = Choose choice

-- where this is open of what is shown
abbrev pub asked : Option Shown → Input → Playtest → Act
asked None input p = asked_alone input
asked (Some s) input p = asked_in s input p

-- ---- choices

-- what is told of a choice: on a board that the player left nothing hears it any more
abbrev pub told : Option Playtest → Chosen → Chosen
told None chosen = chosen
told (Some left) chosen = Gone

-- this is shown of what was said, or nothing any more
abbrev pub showing : Option Shown → Overlay → Overlay
showing None o = record o { before = None; shown = None }
showing (Some s) o = record o { shown = Some s }
