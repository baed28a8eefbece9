-- An edit that fits is a record.
use Rattle.std.proofs.Common.{◌≡◌, ℕ, ◌+◌, ◌^◌, ◌<◌, ◌≤◌, false, Some, None, List, [], ◌∷◌, ◌++◌, length, take, get_or, refl, ap, sym, subst, ◌∙◌}
use Rattle.std.specs.List.{AllByRecursion}
use Rattle.std.proofs.lemmas.List.{take_more, take_all}
use Rattle.zed_op.specs.declared.op.Edit.{Edit}
use Rattle.zed_op.specs.Fit.{Fits}
use Rattle.zed_op.specs.Sizes.{HasSizes}
use Rattle.zed_op.specs.Set.{AllFit}
use Rattle.zed_editfile.specs.declared.error.EditFileError.TheVariants.{Memory}
use Rattle.zed_editfile.specs.Stream.{is_other, IsRecord, AreRecords, IsTextOf, Progress, Reads}
use Rattle.zed_editfile.proofs.Fitting.{passes}
use Rattle.zed_editfile.proofs.Once.{one_reading, file_reads}
use Rattle.zed_editfile.proofs.Lengths.{AreShort, body_is_short}

-- by the facts on real edits: canonical files are short, and what fits has the sizes of its fields
pub is_record : AreShort → (e : Edit) → (Fits e → HasSizes e) → Fits e → IsRecord e
is_record law e sizes fits = let p = passes e fits in let has = sizes fits in (fits, has, body_is_short law e p.range p.world has.1)

-- ---- lists

abbrev MayStand : Edit → Type 0
MayStand e = Fits e → IsRecord e

records_push : (es : List Edit) (e : Edit) → AllByRecursion MayStand es → MayStand e → AllByRecursion MayStand (es ++ e ∷ [])
records_push [] e h one = (one, tt)
records_push (f ∷ es) e h one = (h.0, records_push es e h.1 one)

pub records_more : (es : List Edit) (i : ℕ) (e : Edit) → i < length es → e ≡ get_or es i e → MayStand e → AllByRecursion MayStand (take i es) → AllByRecursion MayStand (take (i + 1) es)
records_more es i e lt is one h =
    let next : take i es ++ e ∷ [] ≡ take (i + 1) es = ap (λ (x : Edit). take i es ++ x ∷ []) is ∙ sym (take_more es i e lt) in
    subst (AllByRecursion MayStand) next (records_push (take i es) e h one)

records_all : (es : List Edit) → AllByRecursion MayStand es → AllFit es → AreRecords es
records_all [] h fit = tt
records_all (e ∷ es) h fit = (h.0 fit.0, records_all es h.1 fit.1)

pub are_records : (es : List Edit) (i : ℕ) → length es ≤ i → AllByRecursion MayStand (take i es) → AllFit es → AreRecords es
are_records es i le h fit = records_all es (subst (AllByRecursion MayStand) (take_all i es le) h) fit

-- ---- the file

none_is_not_memory : None ≡ Some Memory → ⊥
none_is_not_memory h = cc

-- whoever reads the whole text of edits has these edits
pub file_has : (n : ℕ) (es : List Edit) (bytes : List ℕ) (file : IsTextOf n es bytes) (fs : List Edit) (p : Progress) → n < 2 ^ 64
    → AreRecords es → is_other p.asked n ≡ false → (p.fault ≡ Some Memory → ⊥) → Reads bytes fs p
    → (fs ≡ es) × (p ≡ record { asked = p.asked; world = Some n; version = file.version; rest = []; fault = None })
file_has n es bytes file fs p lt good other whole reads =
    one_reading bytes fs es p (record { asked = p.asked; world = Some n; version = file.version; rest = []; fault = None }) refl whole none_is_not_memory reads (file_reads p.asked n es bytes lt other good file)
