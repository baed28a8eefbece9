-- Which answers of a host tell that a call failed, and which that the device did.
use Rattle.std.specs.Prelude.{Bool, true, false, Result, Ok, Err}
use Rattle.zed_host.specs.declared.host.ReadError.{ReadError}
use Rattle.zed_host.specs.declared.host.ReadError.TheVariants.{Memory, NoFile, File}

-- the read failed, for want of such a file or by a fault of the device
abbrev pub is_failure : {X : Type 0} → Result X ReadError → Bool
is_failure (Err File) = true
is_failure (Err NoFile) = true
is_failure (Err Memory) = false
is_failure (Ok x) = false

-- the read failed by a fault of the device
abbrev pub is_fault : {X : Type 0} → Result X ReadError → Bool
is_fault (Err File) = true
is_fault (Err NoFile) = false
is_fault (Err Memory) = false
is_fault (Ok x) = false
