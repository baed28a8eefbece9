-- What a live document shows of the edits that it took.
use Rattle.std.specs.Prelude.{◌≡◌, List, [], ◌∷◌, ◌++◌, length, Option, None}
use Rattle.zed_types.specs.declared.written.Written.{Written}
use Rattle.zed_types.specs.declared.header.HeaderNumber.{HeaderNumber}
use Rattle.zed_types.specs.declared.header.KeyColour.{KeyColour}
use Rattle.zed_types.specs.declared.header.FlagSlot.{FlagSlot}
use Rattle.zed_types.specs.Header.{header_number_index, key_index, flag_index}
use Rattle.zed_types.specs.Register.{latest_of}
use Rattle.zed_op.specs.declared.op.Edit.{Edit}
use Rattle.zed_op.specs.Set.{IsRising}
use Rattle.zed_laws.specs.Registers.{writes_of}
use Rattle.zed_laws.specs.Fields.{header_number, key, saved, current_board, world_name, flag}
use Rattle.zed_laws.specs.Winners.{Register, of_header}
use Rattle.zed_cells.specs.Writes.{register}
use Rattle.zed_live.specs.declared.header.LiveHeader.{LiveHeader}
use Rattle.zed_live.specs.Header.{unwritten, header_after}

-- the latest write of a register among edits
abbrev pub latest_in : {V : Type 0} → Register V → List Edit → Option (Written V)
latest_in r es = latest_of None (writes_of r.writes es)

-- each register of the header has the latest write of these edits
pub record HeaderShows (es : List Edit) (h : LiveHeader) : Type 0 where
  pub nine : length h.numbers ≡ 9
  pub seven : length h.keys ≡ 7
  pub ten : length h.flags ≡ 10
  pub numbers : (f : HeaderNumber) → register (header_number_index f) h.numbers ≡ latest_in (of_header (header_number f)) es
  pub keys : (k : KeyColour) → register (key_index k) h.keys ≡ latest_in (of_header (key k)) es
  pub saved : h.saved ≡ latest_in (of_header saved) es
  pub current_board : h.current_board ≡ latest_in (of_header current_board) es
  pub world_name : h.world_name ≡ latest_in (of_header world_name) es
  pub flags : (k : FlagSlot) → register (flag_index k) h.flags ≡ latest_in (of_header (flag k)) es

-- the header of no edit was never written
abbrev pub NoneIsUnwritten : Type 0
NoneIsUnwritten = HeaderShows [] unwritten

-- an edit that comes late is put into the header as if it had come at its place
abbrev pub HeaderTakes : Type 0
HeaderTakes =
    (e : Edit) (low high : List Edit) (h : LiveHeader)
    → IsRising (low ++ e ∷ high)
    → HeaderShows (low ++ high) h
    → HeaderShows (low ++ e ∷ high) (header_after e.stamp e.op h)
