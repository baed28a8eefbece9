-- What holds of a reader of the bytes that a link handed over.
use Rattle.std.proofs.Common.{◌≡◌, ◌∙◌, ◌++◌, ◌≤◌, ◌==◌, ℕ, false, not, List, [], ◌∷◌, Option, Some, None, Ok, Err, refl, sym, subst, arith, length, rules}
use mathlib.Core.Logic.{inl, inr}
use Rattle.std.specs.List.{flat_map}
use Rattle.std.proofs.lemmas.List.{length-append}
use Rattle.std.proofs.lemmas.List.Concat.{flat_map-cons}
use Rattle.zed_op.specs.declared.op.Edit.{Edit}
use Rattle.zed_op.specs.Set.{AllFit}
use Rattle.zed_editfile.specs.declared.error.EditFileError.{EditFileError}
use Rattle.zed_editfile.specs.declared.error.EditFileError.TheVariants.{CutShort}
use Rattle.zed_editfile.specs.Spelling.{head_text, number, record_text, spelling, text_of}
use Rattle.zed_editfile.specs.Stream.{AreRecords, Feeds, Progress, Reads, ending, ending_by, is_other, verdict_of}
use Rattle.zed_editfile.proofs.Numbers.{length_number}

-- records fit
pub records_fit : (es : List Edit) → AreRecords es → AllFit es
records_fit [] h = tt
records_fit (e ∷ es) h = (h.0.0, records_fit es h.1)

-- a record has a byte at least
pub record_long : (e : Edit) → 1 ≤ length (record_text e)
unfolding record_text
record_long e =
    let four = length_number 4 (length (spelling e)) in
    let sum = length-append (number 4 (length (spelling e))) (spelling e) in
    omega arith

records_long : (es : List Edit) → length es ≤ length (flat_map record_text es)
records_long [] = omega arith
records_long (e ∷ es) =
    let one = record_long e in
    let rest = records_long es in
    let sum = length-append (record_text e) (flat_map record_text es) in
    rw (flat_map-cons record_text e es) (omega arith)

-- there are no more edits than bytes
pub few_edits : (bytes : List ℕ) (es : List Edit) (p : Progress) → Reads bytes es p → length es ≤ length bytes
few_edits bytes es p (inl head) = rw head.none (omega arith)
few_edits bytes es p (inr records) =
    let long = records_long es in
    let text = length-append (head_text p.version records.number) (flat_map record_text es) in
    let whole = length-append (text_of p.version records.number es) records.tail in
    rw records.whole (omega arith)

-- the world of a reader that asks for one is that one
pub asked_world : (bytes : List ℕ) (es : List Edit) (p : Progress) (w n : ℕ) → Reads bytes es p → p.asked ≡ Some w → p.world ≡ Some n
    → n ≡ w
asked_world bytes es p w n (inl head) asks is = absurd (let bad : None ≡ Some n = sym head.world ∙ is in cc)
asked_world bytes es p w n (inr records) asks is =
    let one : records.number ≡ n = (let both : Some records.number ≡ Some n = sym records.world ∙ is in cc) in
    let other : is_other (Some w) records.number ≡ false = subst (λ o. is_other o records.number ≡ false) asks records.asked in
    sym one ∙ sym (same w records.number other)
  where
    same : (a b : ℕ) → not (a == b) ≡ false → a ≡ b
    same a b h = search rules

-- a reader without a fault that may not end here says that the file is cut
pub cut_short : (p : Progress) (f : EditFileError) → p.fault ≡ None → Err f ≡ verdict_of (ending p)
    → (f ≡ CutShort) × (ending p ≡ Some CutShort)
cut_short p f calm is = go p.world p.rest (subst (λ o. Err f ≡ verdict_of (ending_by o p.world p.rest)) calm is)
  where
    go : (w : Option ℕ) (rest : List ℕ) → Err f ≡ verdict_of (ending_by None w rest)
        → (f ≡ CutShort) × (ending_by p.fault w rest ≡ Some CutShort)
    go None rest h = (let it : Err f ≡ Err CutShort = h in cc, rw calm refl)
    go (Some n) [] h = absurd (let it : Err f ≡ Ok tt = h in cc)
    go (Some n) (b ∷ rest) h = (let it : Err f ≡ Err CutShort = h in cc, rw calm refl)

-- a reader with a fault ends so
pub fault_ends : (p : Progress) (f : EditFileError) → p.fault ≡ Some f → ending p ≡ Some f
fault_ends p f is = rw is refl

-- a piece is read behind the bytes before it
pub reads_more : (bytes piece : List ℕ) (found es : List Edit) (p q : Progress) → Reads bytes found p → Feeds piece [] es p q
    → Reads (bytes ++ piece) (found ++ es) q
reads_more bytes piece found es p q reads feeds =
    subst (λ z. Reads (bytes ++ piece) (found ++ z) q) (sym feeds.gained) (feeds.reads bytes found reads)

-- the edits of a piece fit
pub fed_edits_fit : (piece : List ℕ) (after : List Edit) (p q : Progress) → Feeds piece [] after p q → AllFit after
fed_edits_fit piece after p q feeds = subst AllFit (sym feeds.gained) (records_fit feeds.edits feeds.good)
