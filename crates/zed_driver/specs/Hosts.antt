-- What hosts tell.
use Rattle.std.specs.Prelude.{ℕ, Option}
use Rattle.zed_host.specs.Calls.{Call}
use Rattle.zed_host.specs.HostContents.{HostContents}

-- what hosts hold, their calls, how many of these failed, and how many by a fault
pub record Hosts (H : Type 0) : Type 1 where
  pub contents : H → Option HostContents
  pub called : H → Call → H → Type 0
  pub failed : H → ℕ
  pub faults : H → ℕ

-- hosts that tell so
abbrev pub hosts : {H : Type 0} → (H → Option HostContents) → (H → Call → H → Type 0) → (H → ℕ) → (H → ℕ) → Hosts H
hosts contents called failed faults = record { contents = contents; called = called; failed = failed; faults = faults }
