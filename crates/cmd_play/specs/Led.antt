-- Where the devices of a playtest are led.
use Rattle.std.specs.Prelude.{ℕ, Bool, List, Option, None, drop}
use Rattle.zed_terminal.specs.declared.moves.Move.{Move}
use Rattle.zed_terminal.specs.declared.input.Input.{Input}
use Rattle.zed_terminal.specs.declared.console.Console.{Console}
use Rattle.zed_terminal.specs.Devices.{chances}
use Rattle.zed_terminal.specs.Stage.{Stage, stage}

-- what devices tell: what was drawn on a terminal, which draws to come fail, what is left of what is typed, which words of chance are to come, and
-- how many calls of their source failed
pub record Devices (T I C : Type 0) : Type 0 where
  pub drawn : T → Option (List (List ℕ))
  pub draws_foretell : T → Option (List Bool)
  pub left : I → Option (List Input)
  pub to_come : C → Option (List ℕ)
  pub chance_failures : C → ℕ

-- devices that tell so
abbrev pub devices : {T I C : Type 0} → (T → Option (List (List ℕ))) → (T → Option (List Bool)) → (I → Option (List Input)) → (C → Option (List ℕ)) → (C → ℕ) → Devices T I C
devices drawn draws_foretell left to_come chance_failures =
    record { drawn = drawn; draws_foretell = draws_foretell; left = left; to_come = to_come; chance_failures = chance_failures }

-- what they tell, without the keys that come before what is typed
abbrev pub stage_of : {T I C : Type 0} → Devices T I C → Console T I C → Stage
stage_of d c =
    stage (d.drawn c.terminal) (d.draws_foretell c.terminal) (d.left c.inputs.source) None (chances (d.to_come c.chance) (d.chance_failures c.chance))

-- those keys, as far as they weren't taken
abbrev pub rest_of : {T I C : Type 0} → Console T I C → List Move
rest_of c = drop c.inputs.taken c.inputs.kept.items

-- where devices are led: what they tell before a playtest, which of the keys that were kept are left behind it, and what they tell then
pub record Led : Type 0 where
  pub before : Stage
  pub rest : List Move
  pub behind : Stage

-- from the one console to the other
abbrev pub led : {T I C : Type 0} → Devices T I C → Console T I C → Console T I C → Led
led d old new = record { before = stage_of d old; rest = rest_of new; behind = stage_of d new }
