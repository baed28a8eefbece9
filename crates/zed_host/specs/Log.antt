-- The list of its calls that a host keeps.
use Rattle.std.specs.Prelude.{◌≡◌, ◌⊎◌, List, ◌++◌, Option, None, map, option_map, string_bytes}
use Rattle.zed_host.specs.declared.logged.Asked.{Asked}
use Rattle.zed_host.specs.declared.logged.Asked.TheVariants.{Read, Write, Print, Complain}
use Rattle.zed_host.specs.declared.logged.Made.{Made}
use Rattle.zed_host.specs.Calls.{Ask, Call, Complaining, Leads, Printing, Reading, Writing, call}

-- what a host was asked for
abbrev pub asked_for : Asked → Ask
asked_for (Read name) = Reading (string_bytes name)
asked_for (Write name) = Writing (string_bytes name)
asked_for Print = Printing
asked_for (Complain text) = Complaining text.items

-- the calls that were made
abbrev pub calls_in : List Made → List Call
calls_in made = map (λ m. call (asked_for m.asked) m.failed) made

-- a list of calls grew by these, or it was lost
abbrev pub Appends : List Call → Option (List Call) → Option (List Call) → Type 0
Appends calls old new = (new ≡ option_map (λ before. before ++ calls) old) ⊎ (new ≡ None)

-- a host that keeps its list at each call has it, after any calls, grown by these, or lost
abbrev pub CallsAreLogged : {H : Type 0} → (H → Call → H → Type 0) → (H → Option (List Call)) → Type 0
CallsAreLogged called log = (calls : List Call) (old new : _) → Leads called calls old new → Appends calls (log old) (log new)
