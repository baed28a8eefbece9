-- How a file is read.
use Rattle.std.specs.Prelude.{◌≡◌, ℕ, Bool, true, false, List, Some, None, IfSome, is_some}
use Rattle.zed_host.specs.Calls.{Reading, call}
use Rattle.zed_host.specs.Counting.{Counts}
use Rattle.zed_host.specs.HostContents.{HostContents, file_in}
use Rattle.zed_driver.specs.declared.input.Input.{Input}
use Rattle.zed_driver.specs.declared.input.Input.TheVariants.{Bytes, Missing, Failed}
use Rattle.zed_driver.specs.Hosts.{Hosts}

-- the read failed, for want of the file or by a fault of the device
abbrev pub lacks : Input → Bool
lacks (Bytes bytes) = false
lacks Missing = true
lacks Failed = true

-- it failed by a fault of the device
abbrev pub fails : Input → Bool
fails (Bytes bytes) = false
fails Missing = false
fails Failed = true

-- a file as the host holds it; a read that failed by a fault says nothing of that
abbrev pub IsHeld : HostContents → List ℕ → Input → Type 0
IsHeld t name (Bytes bytes) = file_in t name ≡ Some bytes
IsHeld t name Missing = file_in t name ≡ None
IsHeld t name Failed = Unit {0}

-- one call read the file of this name so
pub record Read {H : Type 0} (h : Hosts H) (name : List ℕ) (input : Input) (old new : H) : Type 0 where
  pub held : IfSome (h.contents old) (λ t. IsHeld t name input)
  pub kept : h.contents new ≡ h.contents old
  pub asked : h.called old (call (Reading name) (lacks input)) new
  pub failed : Counts (lacks input) (h.failed old) (h.failed new)
  pub faults : Counts (fails input) (h.faults old) (h.faults new)

-- one call was to read it, and memory was lacking for what is there
pub record LacksMemory {H : Type 0} (h : Hosts H) (name : List ℕ) (old new : H) : Type 0 where
  pub there : IfSome (h.contents old) (λ t. is_some (file_in t name) ≡ true)
  pub kept : h.contents new ≡ h.contents old
  pub asked : h.called old (call (Reading name) false) new
  pub failed : h.failed new ≡ h.failed old
  pub faults : h.faults new ≡ h.faults old
