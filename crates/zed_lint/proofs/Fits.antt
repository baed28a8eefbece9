-- The boards of a world can be written, and how many bytes they take.
use Rattle.std.proofs.Common.{◌≡◌, ℕ, zero, suc, ◌+◌, ◌-◌, ◌<◌, List, [], ◌∷◌, length, take, get_or, ap, arith, length-append}
use Rattle.std.specs.List.{AllByRecursion, flat_map}
use Rattle.byteorder.specs.Endian.{little_bytes}
use Rattle.zed_world.specs.Contents.{Contents}
use Rattle.zed_world.specs.Normal.{HasNormalParts, IsWritable}
use Rattle.zed_world.specs.Writing.{board_text, body_text, header_text, world_text}
use Rattle.zed_world.specs.declared.board.BoardData.{BoardData}
use Rattle.zed_world.proofs.HeaderAgain.{header_again}
use Rattle.zed_world.proofs.Writable.{all_writable}

pub writable : (w : Contents) → HasNormalParts w → AllByRecursion IsWritable w.boards
writable w n = all_writable (length w.boards) w.boards n.boards

-- a board: two bytes of size, and the body
board_length : (b : BoardData) → length (board_text b) ≡ 2 + length (body_text b)
unfolding board_text
board_length b = length-append (little_bytes 2 (length (body_text b))) (body_text b)

-- one more board in a count
pub boards_more : (bs : List BoardData) (i : ℕ) (b : BoardData) → i < length bs → b ≡ get_or bs i b
    → length (flat_map board_text (take (suc i) bs)) ≡ length (flat_map board_text (take i bs)) + (2 + length (body_text b))
boards_more [] i b lt e = absurd (omega arith)
boards_more (x ∷ xs) zero b lt e =
    let one = board_length x in
    let same : length (body_text b) ≡ length (body_text x) = ap (λ (t : BoardData). length (body_text t)) e in
    omega (arith, length-append (board_text x) [])
boards_more (x ∷ xs) (suc i) b lt e =
    omega (arith, length-append (board_text x) (flat_map board_text (take (suc i) xs)), length-append (board_text x) (flat_map board_text (take i xs)), boards_more xs i b (omega arith) e)

-- a file: 512 bytes of header, and the boards
pub file_length : (w : Contents) → HasNormalParts w → length (world_text w) ≡ 512 + length (flat_map board_text w.boards)
unfolding world_text
file_length w n =
    let others = length w.boards - 1 in
    let few = n.few in
    let header = header_again (length w.boards) others w.header [] few (omega arith) n.header in
    omega (arith, length-append (header_text others w.header) (flat_map board_text w.boards), header.long)
