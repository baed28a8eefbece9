-- Where reading stops, and for which reason it doesn't.
use Rattle.std.proofs.Common.{◌≡◌, ◌∙◌, ℕ, Bool, true, false, cond, List, Option, Some, None, ap}
use Rattle.zed_editfile.specs.declared.error.EditFileError.{EditFileError}
use Rattle.zed_editfile.specs.Stream.{Stop, fails, waits}

-- a stop that is not for this reason
abbrev pub StopsBut : EditFileError → Option Stop → Type 0
StopsBut f stop = (s : Stop) → stop ≡ Some s → s.fault ≡ Some f → ⊥

abbrev fault_in : Option Stop → Option EditFileError
fault_in None = None
fault_in (Some s) = s.fault

pub waiting : {f : EditFileError} (bytes : List ℕ) → StopsBut f (waits bytes)
waiting bytes s is stops = let same : None ≡ s.fault = ap fault_in is in cc

pub failing : {f : EditFileError} (e : EditFileError) → (Some e ≡ Some f → ⊥) → StopsBut f (fails e)
failing e other s is stops = let same : Some e ≡ s.fault = ap fault_in is in other (same ∙ stops)

pub nowhere : {f : EditFileError} → StopsBut f None
nowhere s is stops = cc

pub choice : {f : EditFileError} (b : Bool) (x y : Option Stop) → StopsBut f x → StopsBut f y → StopsBut f (cond b x y)
choice true x y h k = h
choice false x y h k = k
