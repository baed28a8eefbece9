-- Files read one after the other, as a command asks for them.
use Rattle.std.specs.Prelude.{◌≡◌, ℕ, List, [], ◌∷◌, ◌++◌, map}
use Rattle.zed_host.specs.Calls.{Call, Reading, call}
use Rattle.zed_driver.specs.declared.input.Input.{Input}
use Rattle.zed_driver.specs.Hosts.{Hosts}
use Rattle.zed_driver.specs.Reads.{Read, lacks}

-- which file a command reads after these
abbrev pub Wanting : Type 1
Wanting = List Input → List ℕ → Type 0

-- a file of this name, as it was read
pub record Answer : Type 0 where
  pub name : List ℕ
  pub file : Input

-- the files alone
abbrev pub files_of : List Answer → List Input
files_of rs = map (λ r. r.file) rs

-- the calls that read them
abbrev pub calls_of : List Answer → List Call
calls_of rs = map (λ r. call (Reading r.name) (lacks r.file)) rs

-- these were read, one after the other, and no other call was made
abbrev pub ReadEach : {H : Type 0} → Hosts H → List Answer → H → H → Type 0
ReadEach h [] old new = new ≡ old
ReadEach h (r ∷ rs) old new = (mid : _) × Read h r.name r.file old mid × ReadEach h rs mid new

-- a command asks for each of these after those before it
abbrev pub AsksEach : Wanting → List Input → List Answer → Type 0
AsksEach Wants before [] = Unit {0}
AsksEach Wants before (r ∷ rs) = Wants before r.name × AsksEach Wants (before ++ r.file ∷ []) rs

-- files were read as a command asks for them, and behind them this is so
abbrev pub Follows : {H : Type 0} → Hosts H → Wanting → H → (List Input → H → Type 0) → Type 0
Follows h Wants old After =
    (rs : List Answer) × (mid : _) × ReadEach h rs old mid × AsksEach Wants [] rs × After (files_of rs) mid

-- wherever a command stands so, it asks for this file next
abbrev pub IsNext : {S : Type 0} → (S → List Input → S → Type 0) → (S → Wanting) → S → List ℕ → Type 0
IsNext Stands Wants s name = (c : _) (files : List Input) → Stands c files s → Wants c files name
