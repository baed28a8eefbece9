-- What is read of a front of a file's text.
use Rattle.std.proofs.Common.{◌≡◌, ℕ, ◌^◌, ◌<◌, false, List, [], ◌++◌, Option, Some, None, ap, sym, ◌∙◌, ◌⊎◌, inl, inr, append_assoc, refl}
use Rattle.std.specs.List.{flat_map}
use Rattle.zed_op.specs.declared.op.Edit.{Edit}
use Rattle.zed_editfile.specs.declared.error.EditFileError.{EditFileError}
use Rattle.zed_editfile.specs.declared.error.EditFileError.TheVariants.{Memory, Magic, NewVersion, OtherWorld, RecordLength, BadEdit, CutShort}
use Rattle.zed_editfile.specs.Laws.{FrontsAreRead, IsCalm, IsFrontOf}
use Rattle.zed_editfile.specs.Spelling.{record_text, head_text, text_of}
use Rattle.zed_editfile.specs.Stream.{is_other, AreRecords, IsTextOf, Progress, Reads}
use Rattle.zed_editfile.proofs.Found.{stays}
use Rattle.zed_editfile.proofs.Once.{front_of, one_head}
use Rattle.zed_editfile.proofs.Records.{file_has}

-- a fault that isn't want of memory
abbrev IsFault : Option EditFileError → Type 0
IsFault o = (e : EditFileError) × (o ≡ Some e) × (o ≡ Some Memory → ⊥)

calm_or_not : (o : Option EditFileError) → ((o ≡ None) ⊎ (o ≡ Some Memory)) ⊎ IsFault o
calm_or_not None = inl (inl refl)
calm_or_not (Some Memory) = inl (inr refl)
calm_or_not (Some Magic) = inr (Magic, refl, λ bad. absurd cc)
calm_or_not (Some NewVersion) = inr (NewVersion, refl, λ bad. absurd cc)
calm_or_not (Some OtherWorld) = inr (OtherWorld, refl, λ bad. absurd cc)
calm_or_not (Some RecordLength) = inr (RecordLength, refl, λ bad. absurd cc)
calm_or_not (Some (BadEdit c)) = inr (BadEdit c, refl, λ bad. absurd cc)
calm_or_not (Some CutShort) = inr (CutShort, refl, λ bad. absurd cc)

-- a fault would stay to the end of the text, where there is none
is_calm : (n : ℕ) (es found : List Edit) (front rest : List ℕ) (p : Progress) → n < 2 ^ 64 → AreRecords es → is_other p.asked n ≡ false
    → IsTextOf n es (front ++ rest) → Reads front found p
    → IsCalm p
is_calm n es found front rest p lt good other file reads = elim (calm_or_not p.fault) [
  | inl calm ↦ calm
  | inr bad ↦
      let on : Reads (front ++ rest) (found ++ []) p = stays front rest found p bad.0 bad.1 reads in
      let end = file_has n es (front ++ rest) file (found ++ []) p lt good other bad.2 on in
      let none : p.fault ≡ None = ap (λ (q : Progress). q.fault) end.1 in
      let some : p.fault ≡ Some bad.0 = bad.1 in
      absurd cc
]

pub fronts_are_read : FrontsAreRead
fronts_are_read n es found front rest p lt good other file reads = (are_first, is_calm n es found front rest p lt good other file reads)
  where
    are_first : IsFrontOf found es
    are_first = elim reads [
      | inl h ↦ (es, ap (λ (t : List Edit). t ++ es) (sym h.none))
      | inr h ↦
          let texts : head_text file.version n ++ flat_map record_text es ≡ head_text p.version h.number ++ (flat_map record_text found ++ (h.tail ++ rest)) =
          sym file.text ∙ ap (λ (t : List ℕ). t ++ rest) h.whole ∙ append_assoc (text_of p.version h.number found) h.tail rest ∙ append_assoc (head_text p.version h.number) (flat_map record_text found) (h.tail ++ rest) in
          let behind = one_head file.version p.version n h.number (flat_map record_text es) (flat_map record_text found ++ (h.tail ++ rest)) lt h.fits texts in
          front_of es found (h.tail ++ rest) good h.good behind.2
    ]
