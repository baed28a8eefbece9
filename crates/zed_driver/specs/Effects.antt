-- What a command does at its end, and what that leaves in its host.
use Rattle.std.specs.Prelude.{◌≡◌, ◌⊎◌, ℕ, Bool, List, [], ◌∷◌, ◌++◌, map, Option, Some, None, codes, if◌then◌else◌}
use Rattle.std.specs.Str.{bytes_eq}
use Rattle.zed_host.specs.Calls.{Ask, Call, Complaining, Printing, Writing, call}
use Rattle.zed_host.specs.HostContents.{HalfComplained, HalfPrinted, HalfWritten, HostContents, with_complaint, with_file, with_printed}

-- a whole file that is written
pub record Output : Type 0 where
  pub name : List ℕ
  pub bytes : List ℕ

-- a file of this name
abbrev pub output : List ℕ → List ℕ → Output
output name bytes = record { name = name; bytes = bytes }

-- what a command does at its end: it writes these files, one after the other, prints a text behind them, if there is one, writes a note to the standard
-- error behind that, if there is one, and answers a status
pub record Effect : Type 0 where
  pub files : List Output
  pub text : Option (List ℕ)
  pub note : Option (List ℕ)
  pub status : ℕ

-- such an effect without a note
abbrev pub effect : List Output → Option (List ℕ) → ℕ → Effect
effect files text status = record { files = files; text = text; note = None; status = status }

-- the same with this note
abbrev pub noted : List ℕ → Effect → Effect
noted note x = record x { note = Some note }

-- a text is printed
abbrev pub prints : List ℕ → ℕ → Effect
prints text status = effect [] (Some text) status

-- a line on the standard output, which is left out where a file goes there
abbrev pub line_unless : List ℕ → List ℕ → Option (List ℕ)
line_unless out line = if bytes_eq out (codes "stdout") then None else Some line

-- a file is written, and then a line
abbrev pub writes : List ℕ → List ℕ → List ℕ → Effect
writes out bytes line = effect (output out bytes ∷ []) (line_unless out line) 0

-- ---- what a host holds after it

-- files were written, one after the other
abbrev pub with_files : List Output → HostContents → HostContents
with_files [] t = t
with_files (f ∷ fs) t = with_files fs (with_file f.name f.bytes t)

-- a text was printed, if there is one
abbrev pub with_text : Option (List ℕ) → HostContents → HostContents
with_text None t = t
with_text (Some text) t = with_printed text t

-- what it holds after the files and the text of an effect
abbrev pub after : Effect → HostContents → HostContents
after x t = with_text x.text (with_files x.files t)

-- and after a note was written, if there is one
abbrev pub with_note : Option (List ℕ) → HostContents → HostContents
with_note None t = t
with_note (Some note) t = with_complaint note t

-- a note is on the standard error, if there is one; or, where the device failed, a front of it
abbrev pub NotedIn : Type 0 → Option (List ℕ) → HostContents → HostContents → Type 0
NotedIn failed None t u = u ≡ t
NotedIn failed (Some note) t u = (u ≡ with_complaint note t) ⊎ (failed × HalfComplained note t u)

-- it failed at one of these files: those before it are there, and perhaps a front of it
abbrev pub HalfOf : List Output → HostContents → HostContents → Type 0
HalfOf files t u =
    (front : List Output) × (f : Output) × (rest : List Output) × (files ≡ front ++ f ∷ rest) × HalfWritten f.name f.bytes (with_files front t) u

-- it failed at the text, which isn't printed whole
abbrev pub HalfText : Option (List ℕ) → HostContents → HostContents → Type 0
HalfText None t u = ⊥
HalfText (Some text) t u = HalfPrinted text t u

-- it failed at an effect: at one of the files, or behind them at the text
abbrev pub HalfDone : Effect → HostContents → HostContents → Type 0
HalfDone x t u = HalfOf x.files t u ⊎ HalfText x.text (with_files x.files t) u

-- ---- what it asks a host for

-- to print a text, if there is one
abbrev pub printing : Option (List ℕ) → List Ask
printing None = []
printing (Some text) = Printing ∷ []

-- what an effect asks for before its note
abbrev pub asks_of : Effect → List Ask
asks_of x = map (λ f. Writing f.name) x.files ++ printing x.text

-- the call that writes a note, if there is one, which failed or not
abbrev pub noting : Bool → Option (List ℕ) → List Call
noting failed None = []
noting failed (Some note) = call (Complaining note) failed ∷ []
