-- What a host over real files and streams tells: how many of its calls failed.
use Rattle.std.specs.Prelude.{◌≡◌, ◌+◌, ℕ, false, min}
use Rattle.zed_host.specs.Calls.{Call}
use Rattle.zed_host.specs.Counting.{Counts, most_counted}

-- how many reads failed for want of a file, and how many calls by a fault
pub record Counted : Type 0 where
  pub missing : ℕ
  pub faults : ℕ

-- no call failed
abbrev pub nothing_failed : Counted
nothing_failed = record { missing = 0; faults = 0 }

-- how many calls failed
abbrev pub failed_in : Counted → ℕ
failed_in c = min (c.faults + c.missing) most_counted

-- a call leads from the one state to the other: what it counts
abbrev pub called_in : Counted → Call → Counted → Type 0
called_in old call new = Counts call.failed (failed_in old) (failed_in new) × (call.failed ≡ false → new.faults ≡ old.faults)
