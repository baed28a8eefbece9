-- A playtest, as its callers see it.
use Rattle.std.specs.Prelude.{ℕ, ◌≤◌, Option}
use Rattle.zed_play.specs.declared.game.Game.{Game}
use Rattle.zed_play.specs.declared.key.Bounds.{Bounds}
use Rattle.zed_play.specs.declared.ending.Ending.{Ending}

-- the board in play, what bounds the player there, the tick of the next step, and how it ended, if it did
pub record Playtest : Type 0 where
  pub game : Game
  pub bounds : Bounds
  pub tick : ℕ
  pub ending : Option Ending

-- a tick that steps come to: 1 to 420
abbrev pub IsTick : ℕ → Type 0
IsTick t = (1 ≤ t) × (t ≤ 420)
