-- How long a canonical file is.
use Rattle.std.proofs.Common.{◌≡◌, ℕ, ◌-◌, ◌*◌, ◌≤◌, Option, Some, None, List, [], ◌∷◌, length, Ok, refl, ap, length-append, arith}
use Rattle.std.specs.List.{flat_map, AllByRecursion}
use Rattle.byteorder.specs.Endian.{little_bytes}
use Rattle.zed_world.specs.declared.error.WorldError.{WorldError}
use Rattle.zed_world.specs.declared.board.BoardData.{BoardData}
use Rattle.zed_world.specs.Contents.{Contents}
use Rattle.zed_world.specs.Writing.{header_text, body_text, board_text, world_text, first_over, unless_refused, written}
use Rattle.zed_world.specs.Normal.{HasNormalParts, HasShortBody}
use Rattle.zed_world.specs.Canonical.{IsCanonical}
use Rattle.zed_world.proofs.HeaderAgain.{header_again}
use Rattle.zed_world.proofs.WorldAgain.{short_within}
use Rattle.zed_world.proofs.ReadNormal.{world_normal}

board_length : (b : BoardData) → HasShortBody b → length (board_text b) ≤ 32769
unfolding board_text
board_length b h = omega (arith, length-append (little_bytes 2 (length (body_text b))) (body_text b))

boards_length : (bs : List BoardData) → AllByRecursion HasShortBody bs → length (flat_map board_text bs) ≤ 32769 * length bs
boards_length [] h = omega arith
boards_length (b ∷ bs) h = omega (arith, length-append (board_text b) (flat_map board_text bs), board_length b h.0, boards_length bs h.1)

world_length : (w : Contents) → HasNormalParts w → AllByRecursion HasShortBody w.boards → length (world_text w) ≤ 3310181
unfolding world_text
world_length w n short =
    let others = length w.boards - 1 in
    let few = n.few in
    let header = header_again (length w.boards) others w.header [] few (omega arith) n.header in
    omega (arith, length-append (header_text others w.header) (flat_map board_text w.boards), header.long, boards_length w.boards short)

pub canonical_length : (bytes : List ℕ) → IsCanonical bytes → length bytes ≤ 3310181
unfolding written
canonical_length bytes c = either (first_over 32767 0 c.world.boards) refl c.rewritten
  where
    either : (o : Option WorldError) → first_over 32767 0 c.world.boards ≡ o → unless_refused o (world_text c.world) ≡ Ok bytes
        → length bytes ≤ 3310181
    either (Some e) p q = absurd cc
    either None p q =
        let same : world_text c.world ≡ bytes = cc in
        omega (arith, ap length same, world_length c.world (world_normal bytes c.world c.read) (short_within 32767 0 c.world.boards (omega arith) p))
