-- What is found in edits under a stamp, and where edits stand beside one.
use Rattle.std.specs.Prelude.{◌≡◌, true, false, List, Option, Some, None}
use Rattle.std.specs.List.{AllByRecursion, find}
use Rattle.zed_types.specs.declared.stamp.Stamp.{Stamp}
use Rattle.zed_types.specs.Stamp.{before, same_stamp}
use Rattle.zed_op.specs.declared.op.Edit.{Edit}

-- the edit with a stamp, if there is one
abbrev pub edit_with : Stamp → List Edit → Option Edit
edit_with s es = find (λ e. same_stamp e.stamp s) es

-- the first of two, if it is there, and else the second
abbrev pub first_of : {X : Type 0} → Option X → Option X → Option X
first_of (Some x) o = Some x
first_of None o = o

-- a log has no edit of the stamp of any of these
abbrev pub AreNew : List Edit → List Edit → Type 0
AreNew log es = AllByRecursion (λ e. edit_with e.stamp log ≡ None) es

-- all edits of a list come before a stamp
abbrev pub AllBelow : Stamp → List Edit → Type 0
AllBelow s es = AllByRecursion (λ f. before f.stamp s ≡ true) es

-- all edits of a list come after a stamp
abbrev pub AllAbove : Stamp → List Edit → Type 0
AllAbove s es = AllByRecursion (λ f. before s f.stamp ≡ true) es

-- no edit of a list comes before a stamp
abbrev pub AllFrom : Stamp → List Edit → Type 0
AllFrom s es = AllByRecursion (λ e. before e.stamp s ≡ false) es
