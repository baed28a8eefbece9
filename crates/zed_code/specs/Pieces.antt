-- A cutting of a text: its runs, in order.
use Rattle.std.specs.Prelude.{ℕ, ◌+◌, Bool, List, [], ◌∷◌}
use Rattle.std.specs.List.{flat_map}
use Rattle.zed_types.specs.Names.{byte_of}
use Rattle.zed_types.specs.declared.stamp.Stamp.{Stamp}
use Rattle.zed_types.specs.declared.text.TextByte.{TextByte}

-- neighbouring bytes of one insertion, numbered in a row from `first`, all alive or all dead
pub record Piece : Type 0 where
  pub stamp : Stamp
  pub first : ℕ
  pub bytes : List ℕ
  pub alive : Bool

-- what contracts see of a text: a cutting of it, and how many runs were looked at
pub record Shown : Type 0 where
  pub cutting : List Piece
  pub visits : ℕ

-- bytes of the edit `s`, numbered from n
abbrev pub run_of : Stamp → Bool → ℕ → List ℕ → List TextByte
run_of s alive n [] = []
run_of s alive n (b ∷ bs) = record { id = byte_of s n; byte = b; alive = alive } ∷ run_of s alive (n + 1) bs

-- the bytes of a text that a piece stands for
abbrev pub spelled_by : Piece → List TextByte
spelled_by p = run_of p.stamp p.alive p.first p.bytes

-- what a cutting spells
abbrev pub written_out : List Piece → List TextByte
written_out ps = flat_map spelled_by ps
