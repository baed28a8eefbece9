-- What contracts say of a text.
use Rattle.std.specs.Prelude.{◌≡◌, ◌≤◌, ℕ, ◌+◌, Bool, true, false, ◌&&◌, nat_le, List, map, length, take, drop, Option, Some, None}
use Rattle.std.specs.List.{AllByRecursion, list_any}
use Rattle.zed_types.specs.declared.stamp.Stamp.{Stamp}
use Rattle.zed_types.specs.declared.names.ElemId.{ElemId}
use Rattle.zed_types.specs.declared.text.TextByte.{TextByte}
use Rattle.zed_types.specs.declared.text.ByteRange.{ByteRange}
use Rattle.zed_types.specs.Stamp.{before, same_stamp}
use Rattle.zed_types.specs.Names.{same_element}
use Rattle.zed_types.specs.Text.{alive}
use Rattle.zed_code.specs.Pieces.{Shown, written_out}

-- the elements of a text, dead ones included
abbrev pub elements : Shown → List TextByte
elements t = written_out t.cutting

-- the element named, if one is, is there, of an earlier edit
abbrev pub StandsAfter : Option ElemId → Stamp → List TextByte → Type 0
StandsAfter None s xs = Unit {0}
StandsAfter (Some a) s xs = (before a.name.stamp s ≡ true) × (list_any (λ x. same_element x.id a) xs ≡ true)

-- bytes from..to, both included, of the edit `s`
abbrev pub bytes_from : Stamp → ℕ → ℕ → ByteRange
bytes_from s from to = record { stamp = s; first = from; last = to }

-- whether some element is a byte of the edit `s`, numbered from n on
abbrev pub has_from : Stamp → ℕ → List TextByte → Bool
has_from s n xs = list_any (λ x. same_stamp x.id.name.stamp s && nat_le n x.id.name.index) xs

-- no element has this stamp
abbrev pub IsNewStamp : Stamp → List TextByte → Type 0
IsNewStamp s xs = AllByRecursion (λ x. same_stamp x.id.name.stamp s ≡ false) xs

-- at most so many more runs
abbrev pub HasMore : ℕ → Shown → Shown → Type 0
HasMore n old new = length new.cutting ≤ length old.cutting + n

-- the names of the bytes that are alive
abbrev pub alive_names : List TextByte → List ElemId
alive_names xs = map (λ x. x.id) (alive xs)

-- the names of the bytes that are alive, from a position to another, without that
abbrev pub names_between : ℕ → ℕ → List TextByte → List ElemId
names_between from to xs = drop from (take to (alive_names xs))
