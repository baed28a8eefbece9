-- A text: its bytes in order, dead ones included, each under its name.
use Rattle.std.specs.Prelude.{◌≡◌, ℕ, ◌+◌, Bool, true, false, ◌&&◌, not, if◌then◌else◌, nat_le, List, [], ◌∷◌, ◌++◌, map, Option, Some, None}
use Rattle.std.specs.List.{AllByRecursion, filter}
use Rattle.zed_types.specs.declared.stamp.Stamp.{Stamp}
use Rattle.zed_types.specs.declared.names.ElemId.{ElemId}
use Rattle.zed_types.specs.Stamp.{before, same_stamp}
use Rattle.zed_types.specs.Names.{byte_of, same_element}
use Rattle.zed_types.specs.declared.text.TextByte.{TextByte}
use Rattle.zed_types.specs.declared.text.ByteRange.{ByteRange}

-- the bytes that an edit puts in, alive, numbered from `n`
abbrev pub run_from : Stamp → ℕ → List ℕ → List TextByte
run_from s n [] = []
run_from s n (b ∷ bs) =
    record { id = byte_of s n; byte = b; alive = true } ∷ run_from s (n + 1) bs

-- `change` of what stands behind the element `a`
abbrev pub behind : ElemId → (List TextByte → List TextByte) → List TextByte → List TextByte
behind a change [] = []
behind a change (x ∷ xs) = x ∷ (if same_element x.id a then change xs else behind a change xs)

-- `change` of what stands behind the element named, or of the whole where none is
abbrev pub from_place : Option ElemId → (List TextByte → List TextByte) → List TextByte → List TextByte
from_place None change xs = change xs
from_place (Some a) change xs = behind a change xs

-- `run` directly after the element named, or at the head
abbrev pub put_after : Option ElemId → List TextByte → List TextByte → List TextByte
put_after a run xs = from_place a (λ rest. run ++ rest) xs

-- whether an element is one of a range of bytes
abbrev pub is_within : ByteRange → ElemId → Bool
is_within r a = same_stamp a.name.stamp r.stamp && (nat_le r.first a.name.index && nat_le a.name.index r.last)

-- a byte is dead where a range holds it, and else as it was
abbrev pub kill_within : ByteRange → TextByte → TextByte
kill_within r x = record x { alive = x.alive && not (is_within r x.id) }

-- a range of bytes is dead; each stays where it is
abbrev pub kill : ByteRange → List TextByte → List TextByte
kill r xs = map (kill_within r) xs

-- the alive elements
abbrev pub alive : List TextByte → List TextByte
alive xs = filter (λ x. x.alive) xs

-- the alive bytes
abbrev pub alive_bytes : List TextByte → List ℕ
alive_bytes xs = map (λ x. x.byte) (alive xs)

-- no element is of a later edit
abbrev pub NoneLater : Stamp → List TextByte → Type 0
NoneLater s xs = AllByRecursion (λ x. before s x.id.name.stamp ≡ false) xs

-- `run` behind every element at the front that a later edit than `s` put in
abbrev pub pass_later : Stamp → List TextByte → List TextByte → List TextByte
pass_later s run [] = run
pass_later s run (x ∷ xs) = if before s x.id.name.stamp then x ∷ pass_later s run xs else run ++ x ∷ xs

-- the skip rule: after the element named, or from the head, past the elements of later edits
abbrev pub put_late : Option ElemId → Stamp → List TextByte → List TextByte → List TextByte
put_late a s run xs = from_place a (pass_later s run) xs
