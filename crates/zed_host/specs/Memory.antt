-- What a host over memory holds.
use Rattle.std.specs.Prelude.{◌≡◌, ◌+◌, ℕ, false, List, [], map, min, string_bytes}
use Rattle.std.specs.FinMap.{FinMap, from_entries}
use Rattle.std.specs.Ordering.{nat_cmp}
use Rattle.std.specs.Cmp.Lexicographic.{slice_cmp}
use Rattle.zed_host.specs.declared.memory.Entry.{Entry}
use Rattle.zed_host.specs.Calls.{Call}
use Rattle.zed_host.specs.Counting.{Counts, most_counted}
use Rattle.zed_host.specs.HostContents.{HostContents}

-- files by name, the newest first, what was written to the two streams, how many reads failed for want of a file,
-- how many calls by a fault, and how many calls pass before a fault
pub record MemoryState : Type 0 where
  pub entries : List (List ℕ × List ℕ)
  pub printed : List ℕ
  pub complained : List ℕ
  pub missing : ℕ
  pub faults : ℕ
  pub passing : ℕ

-- no file, no text, no failure
abbrev pub empty_memory : ℕ → MemoryState
empty_memory passing = record { entries = []; printed = []; complained = []; missing = 0; faults = 0; passing = passing }

-- the names and bytes of entries
abbrev pub entries_of : List Entry → List (List ℕ × List ℕ)
entries_of entries = map (λ e. (string_bytes e.name, e.bytes.items)) entries

-- the newest file of a name counts
abbrev pub files_of : List (List ℕ × List ℕ) → FinMap (slice_cmp nat_cmp) (List ℕ)
files_of entries = from_entries entries

-- what such a host holds
abbrev pub contents_of : MemoryState → HostContents
contents_of state = record { files = files_of state.entries; printed = state.printed; complained = state.complained }

-- how many calls failed
abbrev pub failed_in : MemoryState → ℕ
failed_in state = min (state.faults + state.missing) most_counted

-- a call leads from the one state to the other: what it counts
abbrev pub called_in : MemoryState → Call → MemoryState → Type 0
called_in old call new = Counts call.failed (failed_in old) (failed_in new) × (call.failed ≡ false → new.faults ≡ old.faults)
