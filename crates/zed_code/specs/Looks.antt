-- Which pieces of a cutting an insertion or a deletion has to look at.
use Rattle.std.specs.Prelude.{ℕ, suc, ◌+◌, ◌-◌, Bool, ◌&&◌, if◌then◌else◌, nat_le, nat_lt, List, [], ◌∷◌, length, min, count_by, Option, Some, None}
use Rattle.zed_types.specs.declared.stamp.Stamp.{Stamp}
use Rattle.zed_types.specs.declared.names.ElemId.{ElemId}
use Rattle.zed_types.specs.declared.text.ByteRange.{ByteRange}
use Rattle.zed_types.specs.Stamp.{before, same_stamp}
use Rattle.zed_code.specs.Pieces.{Piece}

-- whether a byte is one of a piece
abbrev pub has : ElemId → Piece → Bool
has a p = same_stamp p.stamp a.name.stamp && (nat_le p.first a.name.index && nat_lt a.name.index (p.first + length p.bytes))

-- the pieces that follow the one with a byte; none, where more of its bytes follow the byte
abbrev pub behind : ElemId → List Piece → List Piece
behind a [] = []
behind a (p ∷ ps) = if has a p then (if nat_lt (suc (a.name.index - p.first)) (length p.bytes) then [] else ps) else behind a ps

-- how many pieces at the front are of later edits
abbrev pub later : Stamp → List Piece → ℕ
later s [] = 0
later s (p ∷ ps) = if before s p.stamp then suc (later s ps) else 0

-- how many pieces of later edits an insertion passes, behind a byte or at the head
abbrev pub passed : Option ElemId → Stamp → List Piece → ℕ
passed None s ps = later s ps
passed (Some a) s ps = later s (behind a ps)

-- the fewest looks of an insertion: at the pieces that it passes, and at one more, as far as there are so many
abbrev pub looks_to_insert : Option ElemId → Stamp → List Piece → ℕ
looks_to_insert after s ps = min (passed after s ps + 1) (length ps)

-- whether a deletion changes a piece: some alive byte of it is in the range
abbrev pub is_changed : ByteRange → Piece → Bool
is_changed x p = p.alive && (same_stamp p.stamp x.stamp && nat_lt (x.first - p.first) (min (length p.bytes) (suc x.last - p.first)))

-- the fewest looks of a deletion: at each piece that it changes
abbrev pub looks_to_delete : ByteRange → List Piece → ℕ
looks_to_delete x ps = count_by (is_changed x) ps
