-- Which failures of devices an answer tells.
use Rattle.std.specs.Prelude.{Bool, true, false, Result, Ok, Err}
use Rattle.zed_terminal.specs.declared.error.TurnError.{TurnError}
use Rattle.zed_terminal.specs.declared.error.TurnError.TheVariants.{KeyFault, NoWords, ScreenFault}

-- whether an answer tells that the terminal failed
abbrev pub is_screen_fault : {X : Type 0} → Result X TurnError → Bool
is_screen_fault (Err ScreenFault) = true
is_screen_fault (Err _) = false
is_screen_fault (Ok x) = false

-- whether it tells that the source of what is typed failed
abbrev pub is_key_fault : {X : Type 0} → Result X TurnError → Bool
is_key_fault (Err KeyFault) = true
is_key_fault (Err _) = false
is_key_fault (Ok x) = false

-- whether it tells of a source of chance that gave no words
abbrev pub is_chance_fault : {X : Type 0} → Result X TurnError → Bool
is_chance_fault (Err NoWords) = true
is_chance_fault (Err _) = false
is_chance_fault (Ok x) = false
