-- What holds of sets of edits.
use Rattle.std.specs.Prelude.{◌≡◌, true, List, [], ◌∷◌, ◌++◌, Contains, ◌↔◌}
use Rattle.std.specs.List.{AllByRecursion}
use Rattle.zed_types.specs.Stamp.{before}
use Rattle.zed_op.specs.declared.op.Edit.{Edit}
use Rattle.zed_op.specs.Fit.{Fits}
use Rattle.zed_op.specs.Set.{Agrees, IsRising, AllFit, with_edit, union, set_of}

-- two lists have the same edits, whatever their order and their repeats
abbrev pub HaveTheSame : List Edit → List Edit → Type 0
HaveTheSame es fs = (e : Edit) → Contains es e ↔ Contains fs e

-- a rising list with one more edit is rising
abbrev pub EditKeepsRising : Type 0
EditKeepsRising = (e : Edit) (es : List Edit) → IsRising es → IsRising (with_edit e es)

-- a rising list joined with any list is rising
abbrev pub UnionKeepsRising : Type 0
UnionKeepsRising = (es fs : List Edit) → IsRising es → IsRising (union es fs)

-- the set of any list is rising
abbrev pub SetIsRising : Type 0
SetIsRising = (es : List Edit) → IsRising (set_of es)

-- no two different edits of a rising list have one stamp
abbrev pub RisingAgrees : Type 0
RisingAgrees = (es : List Edit) → IsRising es → Agrees es

-- rising lists of the same edits are equal
abbrev pub RisingIsItsEdits : Type 0
RisingIsItsEdits = (es fs : List Edit) → IsRising es → IsRising fs → HaveTheSame es fs → es ≡ fs

-- a rising list is its own set
abbrev pub RisingIsItsSet : Type 0
RisingIsItsSet = (es : List Edit) → IsRising es → set_of es ≡ es

-- the set of a list that agrees has its edits
abbrev pub SetHasItsEdits : Type 0
SetHasItsEdits = (es : List Edit) → Agrees es → HaveTheSame (set_of es) es

-- neither order nor repeats change a set
abbrev pub SetIsOfAnyOrder : Type 0
SetIsOfAnyOrder = (es fs : List Edit) → Agrees es → HaveTheSame es fs → set_of es ≡ set_of fs

-- the set of a list is made edit by edit
abbrev pub SetGrowsByEdits : Type 0
SetGrowsByEdits = (es : List Edit) (e : Edit) → set_of (es ++ e ∷ []) ≡ with_edit e (set_of es)

-- a set with one more edit, of which no other edit of the set has the stamp, has that edit and its own
abbrev pub EditIsAdded : Type 0
EditIsAdded = (e : Edit) (es : List Edit) → Agrees (es ++ e ∷ []) → HaveTheSame (with_edit e es) (es ++ e ∷ [])

-- an edit agrees with a rising list that has no other edit of its stamp
abbrev pub EditAgrees : Type 0
EditAgrees =
    (e : Edit) (es : List Edit)
    → IsRising es
    → ((f : Edit) → Contains es f → f.stamp ≡ e.stamp → f ≡ e)
    → Agrees (es ++ e ∷ [])

-- an edit that is there already changes nothing
abbrev pub EditThereIsNothing : Type 0
EditThereIsNothing = (e : Edit) (es : List Edit) → IsRising es → Contains es e → with_edit e es ≡ es

-- an edit goes behind those before it
abbrev pub EditHasItsPlace : Type 0
EditHasItsPlace =
    (e : Edit) (low high : List Edit)
    → AllByRecursion (λ f. before f.stamp e.stamp ≡ true) low
    → AllByRecursion (λ f. before e.stamp f.stamp ≡ true) high
    → with_edit e (low ++ high) ≡ low ++ e ∷ high

-- an edit later than all others goes to the end
abbrev pub LatestGoesLast : Type 0
LatestGoesLast = (e : Edit) (es : List Edit) → AllByRecursion (λ f. before f.stamp e.stamp ≡ true) es → with_edit e es ≡ es ++ e ∷ []

-- two rising lists agree where no edit of the one has the stamp of another edit of the other
abbrev pub UnionAgrees : Type 0
UnionAgrees =
    (es fs : List Edit)
    → IsRising es
    → IsRising fs
    → ((e f : Edit) → Contains es e → Contains fs f → e.stamp ≡ f.stamp → e ≡ f)
    → Agrees (es ++ fs)

-- two sets that agree join to the edits of both
abbrev pub UnionHasBoth : Type 0
UnionHasBoth = (es fs : List Edit) → Agrees (es ++ fs) → HaveTheSame (union es fs) (es ++ fs)

-- either set may be joined to the other
abbrev pub UnionCommutes : Type 0
UnionCommutes = (es fs : List Edit) → IsRising es → IsRising fs → Agrees (es ++ fs) → union es fs ≡ union fs es

-- of three sets any two may be joined first
abbrev pub UnionAssociates : Type 0
UnionAssociates =
    (es fs gs : List Edit) → IsRising es → Agrees (es ++ (fs ++ gs)) → union (union es fs) gs ≡ union es (union fs gs)

-- what is there already changes nothing
abbrev pub UnionOfItsOwn : Type 0
UnionOfItsOwn =
    (es fs : List Edit) → IsRising es → ((e : Edit) → Contains fs e → Contains es e) → union es fs ≡ es

-- the sets of two lists that agree join to the set of both
abbrev pub UnionOfSets : Type 0
UnionOfSets = (es fs : List Edit) → Agrees (es ++ fs) → union (set_of es) (set_of fs) ≡ set_of (es ++ fs)

-- a set whose edits fit, with one more that fits
abbrev pub EditKeepsFit : Type 0
EditKeepsFit = (e : Edit) (es : List Edit) → Fits e → AllFit es → AllFit (with_edit e es)

-- two sets whose edits fit
abbrev pub UnionKeepsFit : Type 0
UnionKeepsFit = (es fs : List Edit) → AllFit es → AllFit fs → AllFit (union es fs)

-- the set of edits that fit
abbrev pub SetKeepsFit : Type 0
SetKeepsFit = (es : List Edit) → AllFit es → AllFit (set_of es)
