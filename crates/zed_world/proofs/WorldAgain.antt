-- A world that was written is read again.
use Rattle.std.proofs.Common.{◌≡◌, ℕ, pos, ◌+◌, ◌-◌, ◌≤◌, Bool, cond, Option, Some, None, ltb, true, false, List, [], ◌∷◌, ◌++◌, length, drop, Result, Ok, Err, refl, ap, sym, ◌∙◌, append_assoc, append-nil, length-append, arith}
use Rattle.std.specs.Prelude.{IfOk}
use Rattle.std.specs.Global.{Vec}
use Rattle.std.specs.List.{flat_map, AllByRecursion}
use Rattle.std.proofs.lemmas.Bool.{le-ltb, ltb-false}
use Rattle.std.proofs.lemmas.List.{drop_at}
use Rattle.byteorder.specs.Endian.{little_number}
use Rattle.zed_world.specs.declared.error.WorldError.{WorldError}
use Rattle.zed_world.specs.declared.error.WorldError.TheVariants.{TooManyBoards, BoardOver}
use Rattle.zed_world.specs.declared.header.Header.{Header}
use Rattle.zed_world.specs.declared.board.BoardData.{BoardData}
use Rattle.zed_world.specs.Contents.{Contents}
use Rattle.zed_world.specs.Fields.{integer_at}
use Rattle.zed_world.specs.Offsets.{header_at}
use Rattle.zed_world.specs.Reading.{Gives, counted, items_at, next_board_at, contents_at, world_at}
use Rattle.zed_world.specs.Writing.{header_text, body_text, board_text, world_text, first_over, unless_refused, written}
use Rattle.zed_world.specs.Normal.{IsNormalBoard, HasNormalParts, HasShortBody}
use Rattle.zed_world.specs.Laws.{WrittenIsRead}
use Rattle.zed_world.proofs.Tiles.{GreedyIsRead}
use Rattle.zed_world.proofs.ItemsAgain.{Follow, items_again}
use Rattle.zed_world.proofs.BoardAgain.{next_again, counted_again}
use Rattle.zed_world.proofs.HeaderAgain.{Again, header_again}

boards_follow : (boards : ℕ) (bs done : List BoardData) → AllByRecursion (IsNormalBoard boards) bs → AllByRecursion HasShortBody bs
    → Follow (λ _ b. HasShortBody b × IsNormalBoard boards b) done bs
boards_follow boards [] done h k = tt
boards_follow boards (b ∷ bs) done h k = ((k.0, h.0), boards_follow boards bs (done ++ b ∷ []) h.1 k.1)

boards_again : GreedyIsRead → (boards : ℕ) (bs : List BoardData) (rest : List ℕ) → AllByRecursion (IsNormalBoard boards) bs
    → AllByRecursion HasShortBody bs
    → items_at (next_board_at boards) (length bs) [] (flat_map board_text bs ++ rest) ≡ Ok bs
boards_again law boards bs rest h k =
    items_again (next_board_at boards) board_text (λ (done : List BoardData) (b : BoardData). HasShortBody b × IsNormalBoard boards b) (λ done b after q. next_again law boards done b after q.0 q.1) bs [] rest (boards_follow boards bs [] h k)

pub contents_is : (bytes : List ℕ) (others : ℕ) (bs : List BoardData) → integer_at bytes 2 ≡ pos others → others ≤ 100
    → items_at (next_board_at (others + 1)) (others + 1) [] (drop 512 bytes) ≡ Ok bs
    → contents_at bytes ≡ Ok (record { header = header_at (others + 1) bytes; boards = bs })
unfolding contents_at
contents_is bytes others bs e le h =
    let count : counted 100 TooManyBoards (integer_at bytes 2) ≡ Ok others =
    ap (counted 100 TooManyBoards) e ∙ counted_again 100 others TooManyBoards le in
    rw (count, h) refl

pub world_is : (bytes : List ℕ) → 512 ≤ length bytes → little_number 2 bytes ≡ 65535 → world_at bytes ≡ contents_at bytes
unfolding world_at
world_is bytes long kind =
    let a : ltb (length bytes) 2 ≡ false = le-ltb _ _ (omega arith) in
    let b : ltb (length bytes) 512 ≡ false = le-ltb _ _ long in
    rw (a, kind, b) refl

pub world_again : GreedyIsRead → (w : Contents) (rest : List ℕ) → HasNormalParts w → AllByRecursion HasShortBody w.boards
    → world_at (world_text w ++ rest) ≡ Ok w
unfolding world_text
world_again law w rest n short =
    let others = length w.boards - 1 in
    let some = n.some in
    let few = n.few in
    let all : others + 1 ≡ length w.boards = omega arith in
    let header = header_text others w.header in
    let boards = flat_map board_text w.boards in
    let e : (header ++ boards) ++ rest ≡ header ++ (boards ++ rest) = append_assoc header boards rest in
    let again : Again (length w.boards) others w.header (boards ++ rest) =
    header_again (length w.boards) others w.header (boards ++ rest) few (omega arith) n.header in
    let bytes = header ++ (boards ++ rest) in
    let behind : drop 512 bytes ≡ boards ++ rest = drop_at header (boards ++ rest) 512 again.long in
    let read : items_at (next_board_at (others + 1)) (others + 1) [] (drop 512 bytes) ≡ Ok w.boards =
    rw (all, behind) (boards_again law (length w.boards) w.boards rest n.boards short) in
    let head : header_at (others + 1) bytes ≡ w.header = ap (λ (k : ℕ). header_at k bytes) all ∙ again.header in
    ap world_at e ∙ world_is bytes (omega (arith, length-append header (boards ++ rest), again.long)) again.kind ∙ contents_is bytes others w.boards again.others_is (omega arith) read
    ∙ ap (λ (h : Header). Ok (record w { header = h })) head

pub short_within : (limit n : ℕ) (bs : List BoardData) → limit ≤ 32767 → first_over limit n bs ≡ None → AllByRecursion HasShortBody bs
short_within limit n [] le h = tt
short_within limit n (b ∷ bs) le h =
    let test = not_over (ltb limit (length (body_text b))) refl h in
    let low : length (body_text b) ≤ limit = ltb-false _ _ test.0 in
    (omega arith, short_within limit (n + 1) bs le test.1)
  where
    not_over : (t : Bool) → ltb limit (length (body_text b)) ≡ t
        → cond t (Some (BoardOver n (length (body_text b)))) (first_over limit (n + 1) bs) ≡ None
        → (ltb limit (length (body_text b)) ≡ false) × (first_over limit (n + 1) bs ≡ None)
    not_over true p q = absurd cc
    not_over false p q = (p, q)

text_back : WrittenIsRead → (limit : ℕ) (w : Contents) (text : List ℕ) → limit ≤ 32767 → HasNormalParts w → written limit w ≡ Ok text
    → world_at text ≡ Ok w
unfolding written
text_back law limit w text le n h = either (first_over limit 0 w.boards) refl h
  where
    either : (o : Option WorldError) → first_over limit 0 w.boards ≡ o → unless_refused o (world_text w) ≡ Ok text → world_at text ≡ Ok w
    either (Some e) p q = absurd cc
    either None p q =
        let same : world_text w ≡ text = cc in
        ap world_at (sym same ∙ sym (append-nil (world_text w))) ∙ law w [] n (short_within limit 0 w.boards le p)

pub written_back : WrittenIsRead → (limit : ℕ) (w : Contents) (r : Result (Vec ℕ) WorldError) → limit ≤ 32767 → HasNormalParts w
    → Gives (λ v. v.items) r (written limit w)
    → IfOk r (λ v. world_at v.items ≡ Ok w)
written_back law limit w (Ok v) le n h = text_back law limit w v.items le n h
written_back law limit w (Err e) le n h = tt
