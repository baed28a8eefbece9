-- Sets of edits. A set that agrees is its list in rising stamp order.
use Rattle.std.specs.Prelude.{◌≡◌, true, if◌then◌else◌, List, [], ◌∷◌, map, Contains}
use Rattle.std.specs.List.{AllByRecursion}
use Rattle.zed_types.specs.declared.stamp.Stamp.{Stamp}
use Rattle.zed_types.specs.Stamp.{before, same_stamp}
use Rattle.zed_op.specs.declared.op.Edit.{Edit}
use Rattle.zed_op.specs.Fit.{Fits}

-- no two different edits have one stamp
abbrev pub Agrees : List Edit → Type 0
Agrees es = (e f : Edit) → Contains es e → Contains es f → e.stamp ≡ f.stamp → e ≡ f

-- each edit has a later stamp than those before it
abbrev pub IsRising : List Edit → Type 0
IsRising [] = Unit {0}
IsRising (e ∷ es) = AllByRecursion (λ f. before e.stamp f.stamp ≡ true) es × IsRising es

-- each stamp is later than those before it
abbrev pub StampsRise : List Stamp → Type 0
StampsRise [] = Unit {0}
StampsRise (s ∷ ss) = AllByRecursion (λ r. before s r ≡ true) ss × StampsRise ss

-- the stamps of edits
abbrev pub stamps_of : List Edit → List Stamp
stamps_of es = map (λ e. e.stamp) es

-- every edit fits
abbrev pub AllFit : List Edit → Type 0
AllFit es = AllByRecursion Fits es

-- a set with one more edit, unless an edit of its stamp is there
abbrev pub with_edit : Edit → List Edit → List Edit
with_edit e [] = e ∷ []
with_edit e (f ∷ fs) =
    if before e.stamp f.stamp then e ∷ f ∷ fs else
    (if same_stamp e.stamp f.stamp then f ∷ fs else f ∷ with_edit e fs)

-- the edits of two sets, of which the first has its own where both have a stamp
abbrev pub union : List Edit → List Edit → List Edit
union es [] = es
union es (f ∷ fs) = union (with_edit f es) fs

-- the set of the edits of a list, whatever their order and their repeats
abbrev pub set_of : List Edit → List Edit
set_of es = union [] es
