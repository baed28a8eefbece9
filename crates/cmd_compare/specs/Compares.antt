-- A command that compares two edit files.
use Rattle.std.specs.Prelude.{◌≡◌, ◌⊎◌, ℕ, nat_lt, Bool, false, if◌then◌else◌, List, [], ◌∷◌, Option, Some, None, Result, Ok, Err}
use Rattle.zed_types.specs.declared.stamp.Stamp.{Stamp}
use Rattle.zed_op.specs.declared.op.Edit.{Edit}
use Rattle.zed_history.specs.Clash.{Agree, IsLeastClash}
use Rattle.zed_log.specs.ListLaws.{lines_in}
use Rattle.zed_document.specs.Replica.{Replica}
use Rattle.zed_driver.specs.declared.command.Stop.{Stop}
use Rattle.zed_driver.specs.declared.command.Stop.TheVariants.{Memory, Refused}
use Rattle.zed_driver.specs.declared.input.Input.{Input}
use Rattle.zed_driver.specs.declared.input.Input.TheVariants.{Bytes, Missing, Failed}
use Rattle.zed_driver.specs.Effects.{Effect, prints}
use Rattle.zed_refusal.specs.declared.reason.Reason.{Reason}
use Rattle.zed_refusal.specs.declared.reason.Reason.TheVariants.{Clash}
use Rattle.zed_files.specs.Files.{WantsMemory}
use Rattle.zed_files.specs.Opened.{FileEdits}
use Rattle.zed_files.specs.Rewrites.{OpensFile}
use Rattle.zed_compare.specs.Findings.{register_findings}
use Rattle.zed_compare.specs.Silence.{worlds}
use Rattle.cmd_compare.specs.declared.comparing.Strictness.{Strictness}
use Rattle.cmd_compare.specs.declared.comparing.Strictness.TheVariants.{Lenient, Strict}

-- it reads MINE, and then THEIRS, unless MINE is refused
abbrev pub CompareWants : List ℕ → List ℕ → List Input → List ℕ → Type 0
CompareWants mine theirs [] name = name ≡ mine
CompareWants mine theirs (i ∷ []) name = (name ≡ theirs) × ((f : FileEdits) × OpensFile None i (Ok f))
CompareWants mine theirs (i ∷ j ∷ files) name = ⊥

-- memory may be lacking for the file, which is there
abbrev pub MayLack : Option ℕ → Input → Type 0
MayLack asked (Bytes bytes) = WantsMemory asked bytes
MayLack asked Missing = ⊥
MayLack asked Failed = ⊥

-- the file, of the world asked for or of any, is refused so
abbrev pub IsRefused : Option ℕ → Input → Stop Reason → Type 0
IsRefused asked i e = OpensFile asked i (Err e) ⊎ ((e ≡ Memory) × MayLack asked i)

-- whether a line follows the first one of a text
abbrev pub goes_on : List ℕ → Bool
goes_on text = nat_lt 1 (lines_in text)

-- the status, where a line follows the first one or none does
abbrev pub status_of : Strictness → Bool → ℕ
status_of Lenient more = 0
status_of Strict more = if more then 1 else 0

-- where no line follows the first one, no register is overridden
abbrev pub IsSilentFor : List Edit → List Edit → List ℕ → Type 0
IsSilentFor es fs text = goes_on text ≡ false → register_findings (worlds es fs) ≡ []

-- two sets that agree are compared, and a text is printed
abbrev pub IsPrinted : Strictness → List Edit → List Edit → Result Effect (Stop Reason) → Type 0
IsPrinted strictness es fs r =
    Agree es fs × ((text : List ℕ) × IsSilentFor es fs text × (r ≡ Ok (prints text (status_of strictness (goes_on text)))))

-- what two sets come to: `Clash` with the least stamp for which they have different edits; or a text; or memory is lacking
abbrev pub IsCompared : Strictness → List Edit → List Edit → Result Effect (Stop Reason) → Type 0
IsCompared strictness es fs r =
    ((s : Stamp) × IsLeastClash es fs s × (r ≡ Err (Refused (Clash s)))) ⊎ IsPrinted strictness es fs r ⊎ (r ≡ Err Memory)

-- where MINE was read, it comes to the refusal of THEIRS, which has to be of the same world, or to what both come to
abbrev pub TheirsComes : Strictness → FileEdits → Input → Result Effect (Stop Reason) → Type 0
TheirsComes strictness mine i r =
    ((e : Stop Reason) × (r ≡ Err e) × IsRefused (Some mine.0) i e)
    ⊎ ((theirs : FileEdits) × OpensFile (Some mine.0) i (Ok theirs) × IsCompared strictness mine.1 theirs.1 r)

-- it comes to the refusal of MINE; or, where that was read, to what comes of THEIRS
abbrev pub CompareComes : Strictness → List Input → Result Effect (Stop Reason) → Type 0
CompareComes strictness [] r = ⊥
CompareComes strictness (i ∷ []) r = (e : Stop Reason) × (r ≡ Err e) × IsRefused None i e
CompareComes strictness (i ∷ j ∷ []) r = (mine : FileEdits) × OpensFile None i (Ok mine) × TheirsComes strictness mine j r
CompareComes strictness (i ∷ j ∷ k ∷ files) r = ⊥

-- ---- for the proof

-- a document of this file
abbrev pub IsDocument : Option ℕ → Input → Replica → Type 0
IsDocument asked i d = (d.is_stale ≡ false) × OpensFile asked i (Ok (d.world, d.edits))

-- after these files it holds these documents
abbrev pub CompareStands : List Input → Option Replica → Option Replica → Type 0
CompareStands files None second = (files ≡ []) × (second ≡ None)
CompareStands files (Some d) None = (i : Input) × (files ≡ i ∷ []) × IsDocument None i d
CompareStands files (Some d) (Some o) =
    (i : Input) × (j : Input) × (files ≡ i ∷ j ∷ []) × IsDocument None i d × IsDocument (Some d.world) j o × (o.world ≡ d.world)

-- the file that it reads next
abbrev pub next_side : List ℕ → List ℕ → Option Replica → Option Replica → Option (List ℕ)
next_side mine theirs None second = Some mine
next_side mine theirs (Some d) None = Some theirs
next_side mine theirs (Some d) (Some o) = None

-- how many it still reads at most
abbrev pub sides_left : Option Replica → Option Replica → ℕ
sides_left None second = 2
sides_left (Some d) None = 1
sides_left (Some d) (Some o) = 0
