-- What runs spell: a text.
use Rattle.std.specs.Prelude.{ℕ, List, take, drop}
use Rattle.std.specs.List.{flat_map}
use Rattle.zed_types.specs.declared.text.TextByte.{TextByte}
use Rattle.zed_code.specs.Pieces.{Piece, run_of}
use Rattle.zed_code.specs.declared.run.Run.{Run}

-- the bytes of a run in the store
abbrev pub bytes_in : List ℕ → Run → List ℕ
bytes_in store r = take r.len (drop r.start store)

-- the bytes of a text that a run stands for
abbrev pub elements_in : List ℕ → Run → List TextByte
elements_in store r = run_of r.stamp r.alive r.first (bytes_in store r)

-- a run with its bytes
abbrev pub piece_in : List ℕ → Run → Piece
piece_in store r = record { stamp = r.stamp; first = r.first; bytes = bytes_in store r; alive = r.alive }

-- the text that runs spell
abbrev pub spelled : List ℕ → List Run → List TextByte
spelled store rs = flat_map (elements_in store) rs
