-- How an effect is carried out.
use Rattle.std.specs.Prelude.{◌≡◌, ◌⊎◌, ℕ, true, false, List, [], ◌∷◌, Option, Some, None, IfSome, option_map}
use Rattle.zed_host.specs.Calls.{Ask, Complaining, Printing, Writing, call}
use Rattle.zed_host.specs.Counting.{Rose}
use Rattle.zed_host.specs.HostContents.{HalfComplained, HalfPrinted, HalfWritten, HostContents, StillTells, with_complaint, with_file, with_printed}
use Rattle.zed_driver.specs.Effects.{Effect, Output}
use Rattle.zed_driver.specs.Hosts.{Hosts}

-- one call for this passed, and changed what the host holds so
pub record Passed {H : Type 0} (h : Hosts H) (ask : Ask) (change : HostContents → HostContents) (old new : H) : Type 0 where
  pub left : h.contents new ≡ option_map change (h.contents old)
  pub asked : h.called old (call ask false) new
  pub failed : h.failed new ≡ h.failed old
  pub faults : h.faults new ≡ h.faults old

-- one call for this failed, and left this
pub record Broke {H : Type 0} (h : Hosts H) (ask : Ask) (Left : HostContents → HostContents → Type 0) (old new : H) : Type 0 where
  pub half : IfSome (h.contents old) (λ t. StillTells (Left t) (h.contents new))
  pub asked : h.called old (call ask true) new
  pub failed : Rose (h.failed old) (h.failed new)
  pub faults : Rose (h.faults old) (h.faults new)

-- a file was written
abbrev pub Wrote : {H : Type 0} → Hosts H → Output → H → H → Type 0
Wrote h f old new = Passed h (Writing f.name) (with_file f.name f.bytes) old new

-- files were written, one after the other
abbrev pub WroteAll : {H : Type 0} → Hosts H → List Output → H → H → Type 0
WroteAll h [] old new = new ≡ old
WroteAll h (f ∷ fs) old new = (mid : _) × Wrote h f old mid × WroteAll h fs mid new

-- those before one of them were written, and that one failed
abbrev pub BrokeAmong : {H : Type 0} → Hosts H → List Output → H → H → Type 0
BrokeAmong h [] old new = ⊥
BrokeAmong h (f ∷ fs) old new =
    Broke h (Writing f.name) (HalfWritten f.name f.bytes) old new ⊎ ((mid : _) × Wrote h f old mid × BrokeAmong h fs mid new)

-- a text was printed, if there is one
abbrev pub PrintedText : {H : Type 0} → Hosts H → Option (List ℕ) → H → H → Type 0
PrintedText h None old new = new ≡ old
PrintedText h (Some text) old new = Passed h Printing (with_printed text) old new

-- or that failed
abbrev pub BrokeText : {H : Type 0} → Hosts H → Option (List ℕ) → H → H → Type 0
BrokeText h None old new = ⊥
BrokeText h (Some text) old new = Broke h Printing (HalfPrinted text) old new

-- a note was written to the standard error, if there is one, or that failed
abbrev pub Noted : {H : Type 0} → Hosts H → Option (List ℕ) → H → H → Type 0
Noted h None old new = new ≡ old
Noted h (Some note) old new =
    Passed h (Complaining note) (with_complaint note) old new ⊎ Broke h (Complaining note) (HalfComplained note) old new

-- an effect was carried out
abbrev pub CarriedOut : {H : Type 0} → Hosts H → Effect → H → H → Type 0
CarriedOut h x old new =
    (written : _) × (printed : _) × WroteAll h x.files old written × PrintedText h x.text written printed × Noted h x.note printed new

-- the host failed at one of its files or at its text
abbrev pub BrokeOff : {H : Type 0} → Hosts H → Effect → H → H → Type 0
BrokeOff h x old new = BrokeAmong h x.files old new ⊎ ((mid : _) × WroteAll h x.files old mid × BrokeText h x.text mid new)
