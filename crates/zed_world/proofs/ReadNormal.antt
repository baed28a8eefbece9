-- What is read is normal.
use Rattle.std.proofs.Common.{◌≡◌, ℕ, zero, suc, ℤ, pos, negsuc, ◌+◌, ◌*◌, ◌^◌, ◌<◌, ◌≤◌, Bool, cond, ltb, leb, eqb, not, true, false, List, [], ◌∷◌, ◌++◌, length, take, drop, get_or, Option, Some, None, Result, Ok, Err, SFits, w16, refl, ap, sym, subst, ◌∙◌, append_assoc, append-nil, length-take, arith}
use Rattle.std.specs.Prelude.{IfSome}
use Rattle.std.specs.List.{slice_get, AllByRecursion}
use Rattle.std.proofs.lemmas.Bool.{ltb-true, ltb-false, leb-true}
use Rattle.std.proofs.lemmas.List.{length_push}
use Rattle.std.proofs.lemmas.Option.{slice_get-get_or}
use Rattle.zed_types.specs.declared.tile.Tile.{Tile}
use Rattle.zed_world.specs.declared.error.WorldError.{WorldError}
use Rattle.zed_world.specs.declared.error.WorldError.TheVariants as e
use Rattle.zed_world.specs.declared.stat.Code.{Code}
use Rattle.zed_world.specs.declared.stat.Code.TheVariants as code
use Rattle.zed_world.specs.declared.stat.StatData.{StatData}
use Rattle.zed_world.specs.declared.board.BoardData.{BoardData}
use Rattle.zed_world.specs.Contents.{Contents}
use Rattle.byteorder.specs.Endian.{little_number}
use Rattle.zed_world.specs.Fields.{integer_at, string_at, board_number, board_integer, stat_integer}
use Rattle.zed_world.specs.Offsets.{flags_at, header_at, properties_at, stat_with}
use Rattle.zed_types.specs.Steps.{◌>>=◌}
use Rattle.zed_world.specs.Reading.{counted, shared, code_of, code_at, stat_at, items_at, board_at, body_at, next_board_at, contents_at, world_at}
use Rattle.zed_world.specs.Normal.{IsAtMost, IsNormalHeader, IsNormalProperties, IsNormalCode, IsNormalStat, AreNormalStats, IsNormalBoard, HasNormalParts}
use Rattle.zed_world.proofs.FieldsAgain.{integer_fits, string_fits}
use Rattle.zed_types.proofs.Steps.{bind_ok, ok_is, guard_ok, choice_ok}
use Rattle.zed_world.proofs.BodyParts.{body_parts}
use Rattle.zed_world.proofs.Tiles.{tiles_long}

-- ---- items

pub items_keep : {A : Type 0} (P : List A → Type 0) (item : List A → List ℕ → Result (A × List ℕ) WorldError)
    → ((before : List A) (bytes : List ℕ) (x : A × List ℕ) → P before → item before bytes ≡ Ok x → P (before ++ x.0 ∷ []))
    → (n : ℕ) (before : List A) (bytes : List ℕ) (xs : List A) → P before → items_at item n before bytes ≡ Ok xs
    → P xs × (length xs ≡ length before + n)
unfolding items_at
items_keep {A} P item keeps zero before bytes xs p h = let same : before ≡ xs = ok_is before xs h in (subst P same p, sym (ap length same) ∙ omega arith)
items_keep {A} P item keeps (suc n) before bytes xs p h =
    let o = bind_ok (item before bytes) (λ (next : A × List ℕ). items_at item n (before ++ next.0 ∷ []) next.1) xs h in
    let r = items_keep P item keeps n (before ++ o.0.0 ∷ []) o.0.1 xs (keeps before bytes o.0 p o.1) o.2 in
    (r.0, omega (arith, r.1, length_push before o.0.0))

-- ---- fields

board_fits : (boards n : ℕ) → 0 < boards → board_number boards n < boards
board_fits boards n some = either (ltb n boards) refl
  where
    either : (b : Bool) → ltb n boards ≡ b → cond b n 0 < boards
    either true h = ltb-true n boards h
    either false h = some

board_integer_fits : (boards : ℕ) (z : ℤ) → 0 < boards → board_integer boards z < boards
board_integer_fits boards (pos n) some = board_fits boards n some
board_integer_fits boards (negsuc n) some = some

stat_fits : (stats : ℕ) (z : ℤ) → IfSome (stat_integer stats z) (λ n. n < stats)
stat_fits stats (negsuc n) = tt
stat_fits stats (pos n) = either (ltb n stats) refl
  where
    either : (b : Bool) → ltb n stats ≡ b → IfSome (cond b (Some n) None) (λ k. k < stats)
    either true h = ltb-true n stats h
    either false h = tt

flags_fit : (n : ℕ) (bytes : List ℕ) → (length (flags_at n bytes) ≡ n) × AllByRecursion (IsAtMost 20) (flags_at n bytes)
flags_fit zero bytes = (refl, tt)
flags_fit (suc n) bytes = (omega (arith, length_push (flags_at n bytes) (string_at 20 bytes (50 + 21 * n)), (flags_fit n bytes).0), all_more (flags_at n bytes) (string_at 20 bytes (50 + 21 * n)) (flags_fit n bytes).1 (string_fits 20 bytes (50 + 21 * n)))
  where
    all_more : (fs : List (List ℕ)) (f : List ℕ) → AllByRecursion (IsAtMost 20) fs → IsAtMost 20 f
        → AllByRecursion (IsAtMost 20) (fs ++ f ∷ [])
    all_more [] f h k = (k, tt)
    all_more (g ∷ fs) f h k = (h.0, all_more fs f h.1 k)

header_normal : (boards : ℕ) (bytes : List ℕ) → 0 < boards → IsNormalHeader boards (header_at boards bytes)
unfolding header_at
header_normal boards bytes some = record {
  ammo = integer_fits bytes 4;
  gems = integer_fits bytes 6;
  keys = refl;
  health = integer_fits bytes 15;
  current_board = board_integer_fits boards (integer_at bytes 17) some;
  torches = integer_fits bytes 19;
  torch_ticks = integer_fits bytes 21;
  energizer_ticks = integer_fits bytes 23;
  score = integer_fits bytes 27;
  name = string_fits 20 bytes 29;
  flags = (flags_fit 10 bytes).0;
  each_flag = (flags_fit 10 bytes).1;
  time_passed = integer_fits bytes 260;
  hundredths = integer_fits bytes 262;
}

properties_normal : (boards : ℕ) (bytes : List ℕ) → 0 < boards → IsNormalProperties boards (properties_at boards bytes)
unfolding properties_at
properties_normal boards bytes some = record {
  north = board_fits boards (get_or bytes 2 0) some;
  south = board_fits boards (get_or bytes 3 0) some;
  west = board_fits boards (get_or bytes 4 0) some;
  east = board_fits boards (get_or bytes 5 0) some;
  message = string_fits 58 bytes 7;
  time_limit = integer_fits bytes 68;
}

-- ---- programs

get_more : (l m : List StatData) (n : ℕ) (s : StatData) → slice_get l n ≡ Some s → slice_get (l ++ m) n ≡ Some s
get_more [] m n s h = absurd cc
get_more (x ∷ l) m zero s h = h
get_more (x ∷ l) m (suc n) s h = get_more l m n s h

code_more : (l m : List StatData) (c : Code) → IsNormalCode l c → IsNormalCode (l ++ m) c
code_more l m code.None h = tt
code_more l m (code.Own bytes) h = h
code_more l m (code.Same n) h = (h.0, h.1, h.2, get_more l m n h.1 h.3, h.4)

code_among : (boards stats : ℕ) (tiles : List Tile) (lower ss : List StatData) (n : ℕ) (s : StatData)
    → AreNormalStats boards stats tiles lower ss → slice_get ss n ≡ Some s
    → IsNormalCode (lower ++ ss) s.code
code_among boards stats tiles lower [] n s h g = absurd cc
code_among boards stats tiles lower (x ∷ ss) zero s h g =
    let same : x ≡ s = cc in
    subst (λ (t : StatData). IsNormalCode (lower ++ x ∷ ss) t.code) same (code_more lower (x ∷ ss) x.code h.0.code)
code_among boards stats tiles lower (x ∷ ss) (suc n) s h g =
    subst (λ (l : List StatData). IsNormalCode l s.code) (append_assoc lower (x ∷ []) ss) (code_among boards stats tiles (lower ++ x ∷ []) ss n s h.1 g)

shared_normal : (before : List StatData) (n : ℕ) (s : StatData) (c : Code) → 0 < n → slice_get before n ≡ Some s → s.code ≡ c
    → IsNormalCode before c
    → IsNormalCode before (shared n c)
shared_normal before n s code.None some g h k = tt
shared_normal before n s (code.Own bytes) some g h k = (some, s, bytes, g, h)
shared_normal before n s (code.Same m) some g h k = k

code_normal : (boards stats : ℕ) (tiles : List Tile) (before : List StatData) (z : ℤ) (rest : List ℕ) (x : Code × List ℕ) → SFits w16 z
    → AreNormalStats boards stats tiles [] before → code_at before z rest ≡ Ok x
    → IsNormalCode before x.0
unfolding code_at
code_normal boards stats tiles before (pos zero) rest x fits h k =
    let none : Code × List ℕ = (code.None, rest) in
    subst (λ (y : Code × List ℕ). IsNormalCode before y.0) (ok_is none x k) tt
code_normal boards stats tiles before (pos (suc n)) rest x fits h k =
    let own : Code × List ℕ = (code.Own (take (suc n) rest), drop (suc n) rest) in
    let g = guard_ok (ltb (length rest) (suc n)) e.Truncated (Ok own) x k in
    let long : suc n ≤ length rest = ltb-false _ _ g.0 in
    let len : length (take (suc n) rest) ≡ suc n = omega (arith, length-take (suc n) rest) in
    let low : suc n < 2 ^ 15 = fits.sfits in
    subst (λ (y : Code × List ℕ). IsNormalCode before y.0) (ok_is own x g.1) (omega (arith, len), omega (arith, len))
code_normal boards stats tiles before (negsuc n) rest x fits h k =
    let found : Code × List ℕ = (shared (suc n) (code_of (slice_get before (suc n))), rest) in
    let g = choice_ok (ltb (suc n) (length before)) (Ok found) e.BadShare x k in
    let lt : suc n < length before = ltb-true _ _ g.0 in
    let s : StatData = get_or before (suc n) (stat_with 0 0 [] [] code.None) in
    let there : slice_get before (suc n) ≡ Some s = slice_get-get_or before (suc n) (stat_with 0 0 [] [] code.None) lt in
    let owner : IsNormalCode before s.code = code_among boards stats tiles [] before (suc n) s h there in
    let shares : IsNormalCode before (shared (suc n) s.code) = shared_normal before (suc n) s s.code (omega arith) there refl owner in
    let shares_it : IsNormalCode before found.0 =
    subst (λ (o : Option StatData). IsNormalCode before (shared (suc n) (code_of o))) (sym there) shares in
    subst (λ (y : Code × List ℕ). IsNormalCode before y.0) (ok_is found x g.1) shares_it

-- ---- stats

with_normal : (boards stats : ℕ) (tiles : List Tile) (before : List StatData) (bytes : List ℕ) (c : Code) → 0 < boards
    → IsNormalCode before c
    → IsNormalStat boards stats tiles before (stat_with boards stats tiles bytes c)
unfolding stat_with
with_normal boards stats tiles before bytes c some h = record {
  step_x = integer_fits bytes 2;
  step_y = integer_fits bytes 4;
  cycle = integer_fits bytes 6;
  passage = λ p. subst (λ (b : Bool). cond b (board_number boards (get_or bytes 10 0)) (get_or bytes 10 0) < boards) (sym p) (board_fits boards (get_or bytes 10 0) some);
  follower = stat_fits stats (integer_at bytes 11);
  leader = stat_fits stats (integer_at bytes 13);
  position = integer_fits bytes 21;
  code = h;
}

stat_normal : (boards stats : ℕ) (tiles : List Tile) (before : List StatData) (bytes : List ℕ) (x : StatData × List ℕ) → 0 < boards
    → AreNormalStats boards stats tiles [] before → stat_at boards stats tiles before bytes ≡ Ok x
    → IsNormalStat boards stats tiles before x.0
unfolding stat_at
stat_normal boards stats tiles before bytes x some h k =
    let g = guard_ok (ltb (length bytes) 33) e.Truncated (code_at before (integer_at bytes 23) (drop 33 bytes) >>= λ program. Ok (stat_with boards stats tiles bytes program.0, program.1)) x k in
    let o = bind_ok (code_at before (integer_at bytes 23) (drop 33 bytes)) (λ (program : Code × List ℕ). Ok (stat_with boards stats tiles bytes program.0, program.1)) x g.1 in
    let program = code_normal boards stats tiles before (integer_at bytes 23) (drop 33 bytes) o.0 (integer_fits bytes 23) h o.1 in
    let made : StatData × List ℕ = (stat_with boards stats tiles bytes o.0.0, o.0.1) in
    subst (λ (y : StatData × List ℕ). IsNormalStat boards stats tiles before y.0) (ok_is made x o.2) (with_normal boards stats tiles before bytes o.0.0 some program)

stats_more : (boards stats : ℕ) (tiles : List Tile) (lower ss : List StatData) (s : StatData) → AreNormalStats boards stats tiles lower ss
    → IsNormalStat boards stats tiles (lower ++ ss) s
    → AreNormalStats boards stats tiles lower (ss ++ s ∷ [])
stats_more boards stats tiles lower [] s h k = (subst (λ (l : List StatData). IsNormalStat boards stats tiles l s) (append-nil lower) k, tt)
stats_more boards stats tiles lower (x ∷ ss) s h k =
    (h.0, stats_more boards stats tiles (lower ++ x ∷ []) ss s h.1 (subst (λ (l : List StatData). IsNormalStat boards stats tiles l s) (sym (append_assoc lower (x ∷ []) ss)) k))

stats_normal : (boards stats n : ℕ) (tiles : List Tile) (bytes : List ℕ) (ss : List StatData) → 0 < boards
    → items_at (stat_at boards stats tiles) n [] bytes ≡ Ok ss
    → AreNormalStats boards stats tiles [] ss × (length ss ≡ n)
stats_normal boards stats n tiles bytes ss some h =
    let r = items_keep (λ (l : List StatData). AreNormalStats boards stats tiles [] l) (stat_at boards stats tiles) (λ before b x p k. stats_more boards stats tiles [] before x.0 p (stat_normal boards stats tiles before b x some p k)) n [] bytes ss tt h in
    (r.0, omega (arith, r.1))

-- ---- boards

pub counted_fits : (limit : ℕ) (f : WorldError) (z : ℤ) (n : ℕ) → counted limit f z ≡ Ok n → n ≤ limit
counted_fits limit f (negsuc m) n h = absurd cc
counted_fits limit f (pos m) n h = either (leb m limit) refl h
  where
    either : (b : Bool) → leb m limit ≡ b → cond b (Ok m) (Err f) ≡ Ok n → n ≤ limit
    either true p q = let same : m ≡ n = cc in subst (λ (k : ℕ). k ≤ limit) same (leb-true m limit p)
    either false p q = absurd cc

board_normal : (boards : ℕ) (body : List ℕ) (b : BoardData) → 0 < boards → board_at boards body ≡ Ok b → IsNormalBoard boards b
board_normal boards body b some h =
    let p = body_parts boards body b h in
    let few = counted_fits 150 e.TooManyStats (integer_at p.rest 86) p.others p.count in
    let n = stats_normal boards (p.others + 1) (p.others + 1) p.tiles (drop 88 p.rest) p.stats some p.items in
    let it : IsNormalBoard boards (record { name = string_at 50 body 0; tiles = p.tiles; properties = properties_at boards p.rest; stats = p.stats }) = record {
      name = string_fits 50 body 0;
      tiles = tiles_long 1500 (drop 51 body) (p.tiles, p.rest) p.table;
      properties = properties_normal boards p.rest some;
      some = omega (arith, n.1);
      few = omega (arith, n.1);
      stats = subst (λ (k : ℕ). AreNormalStats boards k p.tiles [] p.stats) (sym n.1) n.0;
    } in
    subst (λ (y : BoardData). IsNormalBoard boards y) p.is it

next_normal : (boards : ℕ) (before : List BoardData) (bytes : List ℕ) (x : BoardData × List ℕ) → 0 < boards
    → next_board_at boards before bytes ≡ Ok x
    → IsNormalBoard boards x.0
unfolding next_board_at
next_normal boards before bytes x some h =
    let o = bind_ok (body_at bytes) (λ (body : List ℕ × List ℕ). board_at boards body.0 >>= λ board. Ok (board, body.1)) x h in
    let b = bind_ok (board_at boards o.0.0) (λ (board : BoardData). Ok (board, o.0.1)) x o.2 in
    let made : BoardData × List ℕ = (b.0, o.0.1) in
    subst (λ (y : BoardData × List ℕ). IsNormalBoard boards y.0) (ok_is made x b.2) (board_normal boards o.0.0 b.0 some b.1)

boards_normal : (boards n : ℕ) (bytes : List ℕ) (bs : List BoardData) → 0 < boards → items_at (next_board_at boards) n [] bytes ≡ Ok bs
    → AllByRecursion (IsNormalBoard boards) bs × (length bs ≡ n)
boards_normal boards n bytes bs some h =
    let r = items_keep (AllByRecursion (IsNormalBoard boards)) (next_board_at boards) (λ before b x p k. all_more before x.0 p (next_normal boards before b x some k)) n [] bytes bs tt h in
    (r.0, omega (arith, r.1))
  where
    all_more : (xs : List BoardData) (x : BoardData) → AllByRecursion (IsNormalBoard boards) xs → IsNormalBoard boards x
        → AllByRecursion (IsNormalBoard boards) (xs ++ x ∷ [])
    all_more [] x p q = (q, tt)
    all_more (y ∷ xs) x p q = (p.0, all_more xs x p.1 q)

pub contents_normal : (bytes : List ℕ) (w : Contents) → contents_at bytes ≡ Ok w → HasNormalParts w
unfolding contents_at
contents_normal bytes w h =
    let made : ℕ → List BoardData → Contents = λ others bs. record { header = header_at (others + 1) bytes; boards = bs } in
    let after : ℕ → Result Contents WorldError =
    λ others. items_at (next_board_at (others + 1)) (others + 1) [] (drop 512 bytes) >>= λ bs. Ok (made others bs) in
    let c = bind_ok (counted 100 e.TooManyBoards (integer_at bytes 2)) after w h in
    let others = c.0 in
    let few = counted_fits 100 e.TooManyBoards (integer_at bytes 2) others c.1 in
    let b = bind_ok (items_at (next_board_at (others + 1)) (others + 1) [] (drop 512 bytes)) (λ (bs : List BoardData). Ok (made others bs)) w c.2 in
    let some : 0 < others + 1 = omega arith in
    let n = boards_normal (others + 1) (others + 1) (drop 512 bytes) b.0 some b.1 in
    let it : HasNormalParts (made others b.0) = record {
      some = omega (arith, n.1);
      few = omega (arith, n.1);
      header = subst (λ (k : ℕ). IsNormalHeader k (header_at (others + 1) bytes)) (sym n.1) (header_normal (others + 1) bytes some);
      boards = subst (λ (k : ℕ). AllByRecursion (IsNormalBoard k) b.0) (sym n.1) n.0;
    } in
    subst (λ (y : Contents). HasNormalParts y) (ok_is (made others b.0) w b.2) it

pub world_normal : (bytes : List ℕ) (w : Contents) → world_at bytes ≡ Ok w → HasNormalParts w
unfolding world_at
world_normal bytes w h =
    let a = guard_ok (ltb (length bytes) 2) e.Truncated (cond (not (eqb (little_number 2 bytes) 65535)) (Err e.NotZzt) (cond (ltb (length bytes) 512) (Err e.Truncated) (contents_at bytes))) w h in
    let b = guard_ok (not (eqb (little_number 2 bytes) 65535)) e.NotZzt (cond (ltb (length bytes) 512) (Err e.Truncated) (contents_at bytes)) w a.1 in
    let c = guard_ok (ltb (length bytes) 512) e.Truncated (contents_at bytes) w b.1 in
    contents_normal bytes w c.1
