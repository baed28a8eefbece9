-- What the laws on edit files promise.
use Rattle.std.specs.Prelude.{◌≡◌, ◌≢◌, ◌⊎◌, ◌<◌, ◌^◌, ℕ, List, [], ◌++◌, Option, Some, None, Ok, false}
use Rattle.zed_op.specs.declared.op.Edit.{Edit}
use Rattle.zed_op.specs.Fit.{Fits}
use Rattle.zed_editfile.specs.declared.error.EditFileError.TheVariants.{Memory, CutShort}
use Rattle.zed_editfile.specs.Reading.{edit_at}
use Rattle.zed_op.specs.Sizes.{HasSizes}
use Rattle.zed_editfile.specs.Spelling.{spelling, record_text, text_of, file_text, IsOf}
use Rattle.zed_editfile.specs.Stream.{is_other, IsRecord, IsTextOf, AreRecords, Progress, Reads}

-- the spelling of the edit is read as the edit in each version that has one
abbrev pub IsReadBack : Edit → Type 0
IsReadBack e = (version : ℕ) → IsOf version e → edit_at version (spelling e) ≡ Ok e

-- an edit that the bytes spell in a version fits, has the sizes of its fields, is one of those of the version, and has no other spelling
abbrev pub IsSpelledOnce : List ℕ → Type 0
IsSpelledOnce bytes = (version : ℕ) (e : Edit) → edit_at version bytes ≡ Ok e → (bytes ≡ spelling e) × HasSizes e × Fits e × IsOf version e

-- the record of the one edit doesn't begin that of the other, unless they are one edit
abbrev pub DiffersFrom : Edit → Edit → Type 0
DiffersFrom e f = (x y : List ℕ) → record_text e ++ x ≡ record_text f ++ y → (e ≡ f) × (x ≡ y)

-- the record of the edit doesn't begin any other record
abbrev pub BeginsNoOther : Edit → Type 0
BeginsNoOther e = (f : Edit) (x y : List ℕ) → IsRecord f → record_text e ++ x ≡ record_text f ++ y → (e ≡ f) × (x ≡ y)

-- two files, in whatever versions, have one text only where they are one
abbrev pub HasOneText : ℕ → List Edit → ℕ → List Edit → Type 0
HasOneText m es n fs = (v w : ℕ) → text_of v m es ≡ text_of w n fs → (v ≡ w) × (m ≡ n) × (es ≡ fs)

-- no other file has the text of this one
abbrev pub HasNoOtherText : ℕ → List Edit → Type 0
HasNoOtherText m es = (n : ℕ) (fs : List Edit) → n < 2 ^ 64 → AreRecords fs → HasOneText m es n fs

-- a reader that was given the whole text of these edits in a version has them, the world, the version, and nothing left, unless its memory ran out
abbrev pub IsReadWhole : ℕ → List Edit → Type 0
IsReadWhole m es =
    (bytes : List ℕ) (file : IsTextOf m es bytes) (found : List Edit) (p : Progress) → is_other p.asked m ≡ false → p.fault ≢ Some Memory → Reads bytes found p
    → (found ≡ es) × (p ≡ record { asked = p.asked; world = Some m; version = file.version; rest = []; fault = None })

-- two readers of the same bytes that ask for the same world and have memory are where the other is, with the same edits
abbrev pub ReadsOneWay : Type 0
ReadsOneWay =
    (bytes : List ℕ) (es fs : List Edit) (p q : Progress) → p.asked ≡ q.asked → p.fault ≢ Some Memory → q.fault ≢ Some Memory
    → Reads bytes es p → Reads bytes fs q → (es ≡ fs) × (p ≡ q)

-- the text of records in a version is read as their edits
abbrev pub TextsAreRead : Type 0
TextsAreRead =
    (asked : Option ℕ) (n : ℕ) (es : List Edit) (bytes : List ℕ) → n < 2 ^ 64 → is_other asked n ≡ false → AreRecords es → (file : IsTextOf n es bytes)
    → Reads bytes es (record { asked = asked; world = Some n; version = file.version; rest = []; fault = None })

-- the text that is written is the text of these edits, whichever they are
abbrev pub WrittenIsText : Type 0
WrittenIsText = (n : ℕ) (es : List Edit) → IsTextOf n es (file_text n es)

-- these edits are the first of those
abbrev pub IsFrontOf : List Edit → List Edit → Type 0
IsFrontOf found es = (more : List Edit) × (es ≡ found ++ more)

-- a reader has no fault, or its memory ran out
abbrev pub IsCalm : Progress → Type 0
IsCalm p = (p.fault ≡ None) ⊎ (p.fault ≡ Some Memory)

-- whoever has read a front of the text of these edits has the first of them, and no fault unless its memory ran out
abbrev pub FrontsAreRead : Type 0
FrontsAreRead =
    (n : ℕ) (es found : List Edit) (front rest : List ℕ) (p : Progress) → n < 2 ^ 64 → AreRecords es → is_other p.asked n ≡ false
    → IsTextOf n es (front ++ rest) → Reads front found p → IsFrontOf found es × IsCalm p

-- no reader has the fault that its bytes are cut short: this is told at the end alone
abbrev pub CutIsToldAtTheEnd : Type 0
CutIsToldAtTheEnd = (bytes : List ℕ) (found : List Edit) (p : Progress) → Reads bytes found p → p.fault ≢ Some CutShort
