-- What the devices of a playtest tell.
use Rattle.std.specs.Prelude.{◌≡◌, ℕ, Bool, true, false, List, ◌++◌, map, Option, option_map}
use Rattle.zed_terminal.specs.declared.input.Input.{Input}
use Rattle.zed_terminal.specs.declared.input.Input.TheVariants.{Kept}
use Rattle.zed_terminal.specs.declared.moves.Move.{Move}
use Rattle.zed_terminal.specs.Terminals.{Foretold, Takes}
use Rattle.zed_terminal.specs.Devices.{Chances, drawing}

-- the texts that were drawn on a terminal, and which draws to come fail; what is left of what is typed, and which calls of its source to come fail;
-- each of these if it is told; and what the source of chance tells
pub record Stage : Type 0 where
  pub drawn : Option (List (List ℕ))
  pub terminal : Option (List Bool)
  pub inputs : Option (List Input)
  pub source : Option (List Bool)
  pub chance : Chances

-- a stage of which this is told
abbrev pub stage : Option (List (List ℕ)) → Option (List Bool) → Option (List Input) → Option (List Bool) → Chances → Stage
stage drawn terminal inputs source chance = record { drawn = drawn; terminal = terminal; inputs = inputs; source = source; chance = chance }

-- what a source has, behind moves that were kept
abbrev pub behind_kept : List Move → Option (List Input) → Option (List Input)
behind_kept moves = option_map (λ later. map (λ made. Kept made) moves ++ later)

-- the next of what is typed is asked for, and this or nothing comes
abbrev pub TakesInput : Option Input → Stage → Stage → Type 0
TakesInput input old new = Takes input old.inputs new.inputs × Foretold false old.source new.source

-- the source of it fails, and keeps what it has
abbrev pub LacksKey : Stage → Stage → Type 0
LacksKey old new = (new.inputs ≡ old.inputs) × Foretold true old.source new.source

-- a text is drawn, and nothing else; or the terminal fails at it
abbrev pub Draws : Bool → List ℕ → Option (List (List ℕ)) → Option (List Bool) → Option (List (List ℕ)) → Option (List Bool) → Type 0
Draws false text drawn terminal drawn_then terminal_then = (drawn_then ≡ drawing text drawn) × Foretold false terminal terminal_then
Draws true text drawn terminal drawn_then terminal_then = Foretold true terminal terminal_then

-- the terminal isn't called
abbrev pub DrawsNothing : Stage → Stage → Type 0
DrawsNothing old new = (new.drawn ≡ old.drawn) × (new.terminal ≡ old.terminal)
