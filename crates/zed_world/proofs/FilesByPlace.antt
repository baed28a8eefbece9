-- Reading answers a world exactly where the file spells it.
use Rattle.std.proofs.Common.{◌≡◌, ℕ, zero, suc, ℤ, pos, negsuc, ◌+◌, ◌-◌, ◌≤◌, Bool, cond, eqb, ltb, leb, not, true, false, List, [], ◌∷◌, ◌++◌, length, take, drop, Some, Result, Ok, Err, refl, sym, ap, subst, ◌∙◌, append_assoc, append-nil, length-drop, arith}
use Rattle.std.specs.Prelude.{IfOk}
use Rattle.std.proofs.lemmas.Bool.{ltb-false, le-ltb, eqb-true, not-false}
use Rattle.std.proofs.lemmas.List.{take_at, drop_at, take-append-drop}
use Rattle.byteorder.specs.Endian.{little_number}
use Rattle.zed_types.specs.declared.tile.Tile.{Tile}
use Rattle.zed_runs.specs.Runs.{Runs}
use Rattle.zed_runs.specs.Reading.{tiles_at}
use Rattle.zed_world.specs.declared.error.WorldError.{WorldError}
use Rattle.zed_world.specs.declared.error.WorldError.TheVariants as fault
use Rattle.zed_world.specs.declared.stat.StatData.{StatData}
use Rattle.zed_world.specs.declared.board.Properties.{Properties}
use Rattle.zed_world.specs.declared.board.BoardData.{BoardData}
use Rattle.zed_world.specs.Contents.{Contents}
use Rattle.zed_world.specs.Fields.{integer_at, string_at}
use Rattle.zed_world.specs.Offsets.{header_at, properties_at}
use Rattle.zed_types.specs.Steps.{◌>>=◌}
use Rattle.zed_world.specs.Reading.{Gives, counted, items_at, stat_at, board_at, body_at, next_board_at, contents_at, world_at}
use Rattle.zed_world.specs.FileText.{part, word_at, IsBody, board_end, IsBoard, AreBoards, IsFileText}
use Rattle.zed_types.proofs.Steps.{ok_is, guard_ok, bind_ok}
use Rattle.zed_world.proofs.Places.{drop_drop, integer_there}
use Rattle.zed_world.proofs.BodyParts.{body_parts}
use Rattle.zed_world.proofs.ReadNormal.{items_keep, counted_fits}
use Rattle.zed_world.proofs.BoardAgain.{with_is, body_is, next_is}
use Rattle.zed_world.proofs.WorldAgain.{contents_is, world_is}
use Rattle.zed_world.proofs.StatsByPlace.{Placed, AllPlaced, stats_found, stats_read}

-- what the law on runs promises
pub record TilesAreRuns : Type 0 where
  pub read : (bytes rest : List ℕ) (tiles : List Tile) → tiles_at 1500 bytes ≡ Some (tiles, rest)
      → (front : List ℕ) × Runs tiles front × (bytes ≡ front ++ rest)
  pub all : (front rest : List ℕ) (tiles : List Tile) → Runs tiles front → tiles_at 1500 (front ++ rest) ≡ Some (tiles, rest)

counted_is : (limit : ℕ) (f : WorldError) (z : ℤ) (n : ℕ) → counted limit f z ≡ Ok n → z ≡ pos n
counted_is limit f (negsuc m) n h = absurd cc
counted_is limit f (pos m) n h = either (leb m limit) h
  where
    either : (b : Bool) → cond b (Ok m) (Err f) ≡ Ok n → pos m ≡ pos n
    either true q = let same : m ≡ n = cc in ap (λ (k : ℕ). pos k) same
    either false q = absurd cc

items_many : {A : Type 0} (item : List A → List ℕ → Result (A × List ℕ) WorldError) (n : ℕ) (bytes : List ℕ) (xs : List A)
    → items_at item n [] bytes ≡ Ok xs
    → length xs ≡ n
items_many {A} item n bytes xs h = let kept = items_keep (λ (l : List A). Unit {0}) item (λ b y x p q. tt) n [] bytes xs tt h in omega (arith, kept.1)

-- ---- a body

body_of : (law : TilesAreRuns) (boards : ℕ) (body : List ℕ) (tiles : List Tile) (rest : List ℕ) (others : ℕ) (ss : List StatData)
    → tiles_at 1500 (drop 51 body) ≡ Some (tiles, rest) → 51 ≤ length body → 88 ≤ length rest → integer_at rest 86 ≡ pos others
    → others ≤ 150
    → items_at (stat_at boards (others + 1) tiles) (others + 1) [] (drop 88 rest) ≡ Ok ss → length ss ≡ others + 1
    → IsBody boards (record { name = string_at 50 body 0; tiles = tiles; properties = properties_at boards rest; stats = ss }) body
body_of law boards body tiles rest others ss found name_in rest_in count few items many =
    let f = law.read (drop 51 body) rest tiles found in
    let runs = length f.0 in
    let front : part body 51 runs ≡ f.0 = ap (take runs) f.2 ∙ take_at f.0 rest runs refl in
    let behind : drop (51 + runs) body ≡ rest = sym (drop_drop runs 51 body) ∙ ap (drop runs) f.2 ∙ drop_at f.0 rest runs refl in
    let after : drop (51 + runs + 88) body ≡ drop 88 rest = sym (drop_drop 88 (51 + runs) body) ∙ ap (drop 88) behind in
    let long : length body ≡ 51 + runs + length rest = omega (arith, ap length behind, length-drop (51 + runs) body) in
    let all : (k : ℕ) → others + 1 ≡ k → length ss ≡ k = λ k e. many ∙ e in
    let read : items_at (stat_at boards (others + 1) tiles) (others + 1) [] (drop (51 + runs + 88) body) ≡ Ok ss =
    ap (items_at (stat_at boards (others + 1) tiles) (others + 1) []) after ∙ items in
    let s = stats_found boards (others + 1) tiles body (others + 1) [] [] (51 + runs + 88) ss refl (λ n p t a b. absurd cc) read in
    record {
      runs = runs;
      within = omega arith;
      name = refl;
      tiles = subst (λ (y : List ℕ). Runs tiles y) (sym front) f.1;
      properties = ap (properties_at boards) (sym behind);
      count =
          sym (integer_there (51 + runs) 86 body) ∙ ap (λ (y : List ℕ). integer_at y 86) behind ∙ count
          ∙ ap (λ (k : ℕ). pos k) (omega arith);
      some = omega arith;
      few = omega arith;
      places = s.places;
      as_many = s.as_many;
      stand = s.stand;
      stats = λ n p t a b. let it = subst (λ (k : ℕ). Placed boards k tiles body s.places n p t) (sym many) (s.all n p t a b) in record { lower = it.lower; fields = it.fields; code = it.code };
    }

body_found : (law : TilesAreRuns) (boards : ℕ) (body : List ℕ) (b : BoardData) → board_at boards body ≡ Ok b → IsBody boards b body
body_found law boards body b h =
    let p = body_parts boards body b h in
    subst (λ (y : BoardData). IsBody boards y body) p.is
    (body_of law boards body p.tiles p.rest p.others p.stats p.table p.name_in p.rest_in
    (counted_is 150 fault.TooManyStats (integer_at p.rest 86) p.others p.count) (counted_fits 150 fault.TooManyStats (integer_at p.rest 86) p.others p.count) p.items
    (items_many (stat_at boards (p.others + 1) p.tiles) (p.others + 1) (drop 88 p.rest) p.stats p.items))

body_read : (law : TilesAreRuns) (boards : ℕ) (body : List ℕ) (b : BoardData) → IsBody boards b body → board_at boards body ≡ Ok b
body_read law boards body b i =
    let others = length b.stats - 1 in
    let runs = i.runs in
    let rest = drop (51 + runs) body in
    let within = i.within in
    let some = i.some in
    let few = i.few in
    let cut : part body 51 runs ++ rest ≡ drop 51 body =
    ap (λ (y : List ℕ). part body 51 runs ++ y) (sym (drop_drop runs 51 body)) ∙ take-append-drop runs (drop 51 body) in
    let tiles : tiles_at 1500 (drop 51 body) ≡ Some (b.tiles, rest) =
    ap (tiles_at 1500) (sym cut) ∙ law.all (part body 51 runs) rest b.tiles i.tiles in
    let all : others + 1 ≡ length b.stats = omega arith in
    let count : integer_at rest 86 ≡ pos others = integer_there (51 + runs) 86 body ∙ i.count in
    let after : drop 88 rest ≡ drop (51 + runs + 88) body = drop_drop 88 (51 + runs) body in
    let placed : AllPlaced boards (length b.stats) b.tiles body i.places b.stats = λ n p t a c. let it = i.stats n p t a c in record { lower = it.lower; fields = it.fields; code = it.code } in
    let stats = stats_read boards (length b.stats) b.tiles body i.places b.stats i.places b.stats [] [] (51 + runs + 88) refl i.as_many refl refl i.stand placed in
    let items : items_at (stat_at boards (others + 1) b.tiles) (others + 1) [] (drop 88 rest) ≡ Ok b.stats = rw (all, after) stats in
    let with_properties : List ℕ → Properties → Result BoardData WorldError =
    λ n p. Ok (record { name = n; tiles = b.tiles; properties = p; stats = b.stats }) in
    body_is boards body b.tiles rest (omega arith) tiles ∙ with_is boards (string_at 50 body 0) b.tiles rest others b.stats (omega (arith, length-drop (51 + runs) body)) count (omega arith) items
    ∙ ap (λ (n : List ℕ). with_properties n (properties_at boards rest)) (sym i.name) ∙ ap (with_properties b.name) (sym i.properties)

-- ---- boards one after the other

board_found : (law : TilesAreRuns) (boards : ℕ) (bytes : List ℕ) (at : ℕ) (done : List BoardData) (x : BoardData × List ℕ)
    → next_board_at boards done (drop at bytes) ≡ Ok x
    → IsBoard boards bytes at x.0 × (x.1 ≡ drop (board_end bytes at) bytes)
unfolding next_board_at body_at
board_found law boards bytes at done x h =
    let here = drop at bytes in
    let size = word_at bytes at in
    let cut : List ℕ × List ℕ = (take size (drop 2 here), drop size (drop 2 here)) in
    let o = bind_ok (body_at here) (λ (body : List ℕ × List ℕ). board_at boards body.0 >>= λ board. Ok (board, body.1)) x h in
    let b = bind_ok (board_at boards o.0.0) (λ (board : BoardData). Ok (board, o.0.1)) x o.2 in
    let g1 = guard_ok (ltb (length here) 2) fault.Truncated (cond (ltb 32767 size) (Err fault.BadBoardSize) (cond (ltb (length (drop 2 here)) size) (Err fault.Truncated) (Ok cut))) o.0 o.1 in
    let g2 =
    guard_ok (ltb 32767 size) fault.BadBoardSize (cond (ltb (length (drop 2 here)) size) (Err fault.Truncated) (Ok cut)) o.0 g1.1 in
    let g3 = guard_ok (ltb (length (drop 2 here)) size) fault.Truncated (Ok cut) o.0 g2.1 in
    let word_in : 2 ≤ length here = ltb-false _ _ g1.0 in
    let small : size ≤ 32767 = ltb-false _ _ g2.0 in
    let body_in : size ≤ length (drop 2 here) = ltb-false _ _ g3.0 in
    let same : cut ≡ o.0 = ok_is cut o.0 g3.1 in
    let made : BoardData × List ℕ = (b.0, o.0.1) in
    let found : x ≡ made = sym (ok_is made x b.2) in
    let body : o.0.0 ≡ part bytes (at + 2) size = sym (ap (λ (y : List ℕ × List ℕ). y.0) same) ∙ ap (take size) (drop_drop 2 at bytes) in
    let rest : o.0.1 ≡ drop (board_end bytes at) bytes =
    sym (ap (λ (y : List ℕ × List ℕ). y.1) same) ∙ ap (drop size) (drop_drop 2 at bytes) ∙ drop_drop size (at + 2) bytes in
    let is : IsBoard boards bytes at b.0 = record {
      size = small;
      within = omega (arith, length-drop at bytes, length-drop 2 here);
      body = subst (λ (y : List ℕ). IsBody boards b.0 y) body (body_found law boards o.0.0 b.0 b.1);
    } in
    subst (λ (y : BoardData × List ℕ). IsBoard boards bytes at y.0 × (y.1 ≡ drop (board_end bytes at) bytes)) (sym found) (is, rest)

board_read : (law : TilesAreRuns) (boards : ℕ) (bytes : List ℕ) (at : ℕ) (done : List BoardData) (b : BoardData) → IsBoard boards bytes at b
    → next_board_at boards done (drop at bytes) ≡ Ok (b, drop (board_end bytes at) bytes)
unfolding body_at
board_read law boards bytes at done b i =
    let here = drop at bytes in
    let size = word_at bytes at in
    let within = i.within in
    let word_in : ltb (length here) 2 ≡ false = le-ltb _ _ (omega (arith, length-drop at bytes)) in
    let small : ltb 32767 size ≡ false = le-ltb _ _ i.size in
    let body_in : ltb (length (drop 2 here)) size ≡ false = le-ltb _ _ (omega (arith, length-drop at bytes, length-drop 2 here)) in
    let pair : List ℕ → List ℕ → Result (List ℕ × List ℕ) WorldError = λ x y. Ok (x, y) in
    let parts : pair (take size (drop 2 here)) (drop size (drop 2 here)) ≡ pair (part bytes (at + 2) size) (drop (board_end bytes at) bytes) =
    ap (λ (y : List ℕ). pair (take size y) (drop size y)) (drop_drop 2 at bytes) ∙ ap (pair (part bytes (at + 2) size)) (drop_drop size (at + 2) bytes) in
    let cut : body_at here ≡ pair (part bytes (at + 2) size) (drop (board_end bytes at) bytes) = rw (word_in, small, body_in) parts in
    next_is boards done here (part bytes (at + 2) size) (drop (board_end bytes at) bytes) b cut (body_read law boards (part bytes (at + 2) size) b i.body)

record FoundBoards (boards : ℕ) (bytes : List ℕ) (at : ℕ) (done bs : List BoardData) : Type 0 where
  rest : List BoardData
  is : bs ≡ done ++ rest
  are : AreBoards boards bytes at rest

boards_found : (law : TilesAreRuns) (boards : ℕ) (bytes : List ℕ) (n at : ℕ) (done bs : List BoardData)
    → items_at (next_board_at boards) n done (drop at bytes) ≡ Ok bs
    → FoundBoards boards bytes at done bs
unfolding items_at
boards_found law boards bytes zero at done bs h = record { rest = []; is = sym (append-nil done ∙ ok_is done bs h); are = tt }
boards_found law boards bytes (suc n) at done bs h =
    let o = bind_ok (next_board_at boards done (drop at bytes)) (λ (next : BoardData × List ℕ). items_at (next_board_at boards) n (done ++ next.0 ∷ []) next.1) bs h in
    let f = board_found law boards bytes at done o.0 o.1 in
    let r = boards_found law boards bytes n (board_end bytes at) (done ++ o.0.0 ∷ []) bs (sym (ap (items_at (next_board_at boards) n (done ++ o.0.0 ∷ [])) f.1) ∙ o.2) in
    record { rest = o.0.0 ∷ r.rest; is = r.is ∙ append_assoc done (o.0.0 ∷ []) r.rest; are = (f.0, r.are) }

boards_read : (law : TilesAreRuns) (boards : ℕ) (bytes : List ℕ) (at : ℕ) (bs done : List BoardData) → AreBoards boards bytes at bs
    → items_at (next_board_at boards) (length bs) done (drop at bytes) ≡ Ok (done ++ bs)
unfolding items_at
boards_read law boards bytes at [] done h = ap (λ (y : List BoardData). Ok y) (sym (append-nil done))
boards_read law boards bytes at (b ∷ bs) done h =
    let first = board_read law boards bytes at done b h.0 in
    rw first (boards_read law boards bytes (board_end bytes at) bs (done ++ b ∷ []) h.1 ∙ ap (λ (y : List BoardData). Ok y) (append_assoc done (b ∷ []) bs))

-- ---- the file

file_of : (law : TilesAreRuns) (bytes : List ℕ) (others : ℕ) (bs : List BoardData) → 512 ≤ length bytes → little_number 2 bytes ≡ 65535
    → integer_at bytes 2 ≡ pos others → others ≤ 100 → items_at (next_board_at (others + 1)) (others + 1) [] (drop 512 bytes) ≡ Ok bs
    → IsFileText (record { header = header_at (others + 1) bytes; boards = bs }) bytes
file_of law bytes others bs long kind count few items =
    let many = items_many (next_board_at (others + 1)) (others + 1) (drop 512 bytes) bs items in
    let f = boards_found law (others + 1) bytes (others + 1) 512 [] bs items in
    let are : AreBoards (others + 1) bytes 512 bs = subst (λ (y : List BoardData). AreBoards (others + 1) bytes 512 y) (sym f.is) f.are in
    record {
      long = long;
      type_word = kind;
      count = count ∙ ap (λ (k : ℕ). pos k) (omega arith);
      some = omega arith;
      few = omega arith;
      header = ap (λ (k : ℕ). header_at k bytes) (sym many);
      boards = subst (λ (k : ℕ). AreBoards k bytes 512 bs) (sym many) are;
    }

pub file_found : TilesAreRuns → (bytes : List ℕ) (w : Contents) → world_at bytes ≡ Ok w → IsFileText w bytes
unfolding world_at contents_at
file_found law bytes w h =
    let made : ℕ → List BoardData → Contents = λ others bs. record { header = header_at (others + 1) bytes; boards = bs } in
    let after : ℕ → Result Contents WorldError =
    λ others. items_at (next_board_at (others + 1)) (others + 1) [] (drop 512 bytes) >>= λ bs. Ok (made others bs) in
    let all = counted 100 fault.TooManyBoards (integer_at bytes 2) >>= after in
    let g1 = guard_ok (ltb (length bytes) 2) fault.Truncated (cond (not (eqb (little_number 2 bytes) 65535)) (Err fault.NotZzt) (cond (ltb (length bytes) 512) (Err fault.Truncated) all)) w h in
    let g2 =
    guard_ok (not (eqb (little_number 2 bytes) 65535)) fault.NotZzt (cond (ltb (length bytes) 512) (Err fault.Truncated) all) w g1.1 in
    let g3 = guard_ok (ltb (length bytes) 512) fault.Truncated all w g2.1 in
    let c = bind_ok (counted 100 fault.TooManyBoards (integer_at bytes 2)) after w g3.1 in
    let b = bind_ok (items_at (next_board_at (c.0 + 1)) (c.0 + 1) [] (drop 512 bytes)) (λ (bs : List BoardData). Ok (made c.0 bs)) w c.2 in
    subst (λ (y : Contents). IsFileText y bytes) (ok_is (made c.0 b.0) w b.2)
    (file_of law bytes c.0 b.0 (ltb-false _ _ g3.0) (eqb-true _ _ (not-false (eqb (little_number 2 bytes) 65535) g2.0)) (counted_is 100 fault.TooManyBoards (integer_at bytes 2) c.0 c.1) (counted_fits 100 fault.TooManyBoards (integer_at bytes 2) c.0 c.1) b.1)

pub file_read : TilesAreRuns → (bytes : List ℕ) (w : Contents) → IsFileText w bytes → world_at bytes ≡ Ok w
file_read law bytes w i =
    let others = length w.boards - 1 in
    let some = i.some in
    let few = i.few in
    let all : others + 1 ≡ length w.boards = omega arith in
    let boards : items_at (next_board_at (others + 1)) (others + 1) [] (drop 512 bytes) ≡ Ok w.boards =
    rw all (boards_read law (length w.boards) bytes 512 w.boards [] i.boards) in
    let head : header_at (others + 1) bytes ≡ w.header = ap (λ (k : ℕ). header_at k bytes) all ∙ sym i.header in
    world_is bytes i.long i.type_word ∙ contents_is bytes others w.boards i.count (omega arith) boards ∙ ap (λ h. Ok (record w { header = h })) head

pub spelled_by : ((bytes : List ℕ) (w : Contents) → world_at bytes ≡ Ok w → IsFileText w bytes)
    → (bytes : List ℕ) (r : Result Contents WorldError) → Gives (λ w. w) r (world_at bytes)
    → IfOk r (λ w. IsFileText w bytes)
spelled_by law bytes (Ok w) h = law bytes w h
spelled_by law bytes (Err e) h = tt
