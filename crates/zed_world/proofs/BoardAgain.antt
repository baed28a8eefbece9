-- A board that was written is read again.
use Rattle.std.proofs.Common.{◌≡◌, ℕ, zero, suc, ℤ, pos, ◌+◌, ◌-◌, ◌≤◌, Bool, ltb, leb, true, false, List, [], ◌∷◌, ◌++◌, length, take, drop, get_or, Some, Result, Ok, SFits, w16, refl, ap, sym, ◌∙◌, append_assoc, append-nil, length-append, arith}
use Rattle.std.specs.Int.{cast_signed}
use Rattle.std.specs.List.{flat_map}
use Rattle.std.proofs.lemmas.Bool.{le-ltb, le-leb}
use Rattle.std.proofs.lemmas.List.{take_at, drop_at, length_push, get_or-append-add}
use Rattle.byteorder.specs.Endian.{little_number, little_bytes}
use Rattle.zed_types.specs.declared.tile.Tile.{Tile}
use Rattle.zed_runs.specs.Runs.{greedy}
use Rattle.zed_runs.specs.Reading.{tiles_at}
use Rattle.zed_world.specs.declared.error.WorldError.{WorldError}
use Rattle.zed_world.specs.declared.error.WorldError.TheVariants.{TooManyStats}
use Rattle.zed_world.specs.declared.stat.StatData.{StatData}
use Rattle.zed_world.specs.declared.board.Properties.{Properties}
use Rattle.zed_world.specs.declared.board.BoardData.{BoardData}
use Rattle.zed_world.specs.Fields.{integer, integer_at, zeros, string, string_at, flag}
use Rattle.zed_world.specs.Offsets.{properties_at}
use Rattle.zed_world.specs.Reading.{counted, items_at, stat_at, board_with, board_at, body_at, next_board_at}
use Rattle.zed_world.specs.Writing.{properties_text, stat_text, body_text, board_text}
use Rattle.zed_world.specs.Normal.{IsNormalStat, AreNormalStats, IsNormalProperties, IsNormalBoard}
use Rattle.zed_world.proofs.FieldsAgain.{integer_again, length_integer, board_again, flag_again, length_string, string_again}
use Rattle.zed_world.proofs.StatAgain.{stat_again}
use Rattle.zed_world.proofs.ItemsAgain.{Follow, items_again}
use Rattle.zed_world.proofs.Tiles.{GreedyIsRead}
use Rattle.zed_world.proofs.Sizes.{length_properties}

-- ---- at a place behind a front

pub integer_past : (front rest : List ℕ) (n i : ℕ) → length front ≡ n → integer_at (front ++ rest) (n + i) ≡ integer_at rest i
unfolding integer_at
integer_past front rest n i e = ap (λ (x : List ℕ). cast_signed w16 (little_number 2 x)) (drop_past front rest n i e)
  where
    drop_past : (front rest : List ℕ) (n i : ℕ) → length front ≡ n → drop (n + i) (front ++ rest) ≡ drop i rest
    drop_past [] rest n i e = ap (λ (k : ℕ). drop k rest) (omega arith)
    drop_past (a ∷ front) rest zero i e = absurd (omega arith)
    drop_past (a ∷ front) rest (suc n) i e = let k : suc n + i ≡ suc (n + i) = omega arith in rw k (drop_past front rest n i (omega arith))

pub index_past : (front rest : List ℕ) (n i : ℕ) → length front ≡ n → get_or (front ++ rest) (n + i) 0 ≡ get_or rest i 0
index_past front rest n i e = ap (λ (k : ℕ). get_or (front ++ rest) (k + i) 0) (sym e) ∙ get_or-append-add front rest i 0

-- ---- properties

front_of : Properties → List ℕ
front_of p = (p.max_shots ∷ []) ++ flag p.dark ++ (p.north ∷ p.south ∷ p.west ∷ p.east ∷ []) ++ flag p.re_enter ++ string 58 p.message

back_of : Properties → List ℕ
back_of p = (p.start_x ∷ p.start_y ∷ []) ++ integer p.time_limit ++ zeros 16

regroup : (f a b c rest : List ℕ) → (((f ++ a) ++ b) ++ c) ++ rest ≡ f ++ (((a ++ b) ++ c) ++ rest)
regroup f a b c rest = simp append_assoc

parts_of : (p : Properties) (rest : List ℕ) → properties_text p ++ rest ≡ front_of p ++ (back_of p ++ rest)
unfolding properties_text front_of back_of
parts_of p rest = regroup ((p.max_shots ∷ []) ++ flag p.dark ++ (p.north ∷ p.south ∷ p.west ∷ p.east ∷ []) ++ flag p.re_enter ++ string 58 p.message) (p.start_x ∷ p.start_y ∷ []) (integer p.time_limit) (zeros 16) rest

length_front : (p : Properties) → length p.message ≤ 58 → length (front_of p) ≡ 66
unfolding front_of
length_front p le = omega (arith, length_string 58 p.message le)

length_back : (p : Properties) → length (back_of p) ≡ 20
unfolding back_of integer zeros
length_back p = refl

built : Properties → Bool → ℕ → ℕ → ℕ → ℕ → Bool → List ℕ → ℕ → ℕ → ℤ → Properties
built p dark north south west east re_enter message start_x start_y time_limit =
    record { max_shots = p.max_shots; dark = dark; north = north; south = south; west = west; east = east; re_enter = re_enter; message = message; start_x = start_x; start_y = start_y; time_limit = time_limit }

built_is : (p : Properties) (dark : Bool) (north south west east : ℕ) (re_enter : Bool) (message : List ℕ) (start_x start_y : ℕ) (time_limit : ℤ)
    → dark ≡ p.dark → north ≡ p.north → south ≡ p.south → west ≡ p.west → east ≡ p.east → re_enter ≡ p.re_enter → message ≡ p.message
    → start_x ≡ p.start_x → start_y ≡ p.start_y → time_limit ≡ p.time_limit
    → built p dark north south west east re_enter message start_x start_y time_limit ≡ p
unfolding built
built_is p dark north south west east re_enter message start_x start_y time_limit a b c d e f g h i j =
    rw (a, b, c, d, e, f, g, h, i, j) refl

back_integer : (p : Properties) (rest : List ℕ) → SFits w16 p.time_limit → integer_at (back_of p ++ rest) 2 ≡ p.time_limit
unfolding back_of integer integer_at zeros
back_integer p rest fits = integer_again p.time_limit [] fits

properties_read : (boards : ℕ) (p : Properties) (rest : List ℕ) → IsNormalProperties boards p
    → properties_at boards (front_of p ++ (back_of p ++ rest)) ≡ p
unfolding properties_at front_of back_of built string string_at integer zeros
properties_read boards p rest n =
    let len = length_front p n.message in
    built_is p _ _ _ _ _ _ _ _ _ _ (flag_again p.dark []) (board_again boards p.north n.north) (board_again boards p.south n.south) (board_again boards p.west n.west) (board_again boards p.east n.east) (flag_again p.re_enter [])
    (string_again 58 p.message (back_of p ++ rest) n.message)
    (index_past (front_of p) (back_of p ++ rest) 66 0 len) (index_past (front_of p) (back_of p ++ rest) 66 1 len)
    (integer_past (front_of p) (back_of p ++ rest) 66 2 len ∙ back_integer p rest n.time_limit)

pub properties_again : (boards : ℕ) (p : Properties) (rest : List ℕ) → IsNormalProperties boards p
    → properties_at boards (properties_text p ++ rest) ≡ p
properties_again boards p rest n = ap (properties_at boards) (parts_of p rest) ∙ properties_read boards p rest n

-- ---- the stats

stats_follow : (boards stats : ℕ) (tiles : List Tile) (lower ss : List StatData) → AreNormalStats boards stats tiles lower ss
    → length lower + length ss ≤ 151
    → Follow (λ done s. (length done ≤ 151) × IsNormalStat boards stats tiles done s) lower ss
stats_follow boards stats tiles lower [] h le = tt
stats_follow boards stats tiles lower (s ∷ ss) h le =
    ((omega arith, h.0), stats_follow boards stats tiles (lower ++ s ∷ []) ss h.1 (omega (arith, length_push lower s)))

stats_again : (boards stats : ℕ) (tiles : List Tile) (ss : List StatData) (rest : List ℕ) → stats ≤ 151 → length ss ≤ 151
    → AreNormalStats boards stats tiles [] ss
    → items_at (stat_at boards stats tiles) (length ss) [] (flat_map stat_text ss ++ rest) ≡ Ok ss
stats_again boards stats tiles ss rest le few h =
    items_again (stat_at boards stats tiles) stat_text (λ (done : List StatData) (s : StatData). (length done ≤ 151) × IsNormalStat boards stats tiles done s)
    (λ done s after q. stat_again boards stats tiles done s after le q.0 q.1) ss [] rest (stats_follow boards stats tiles [] ss h (omega arith))

-- ---- a body

pub counted_again : (limit n : ℕ) (e : WorldError) → n ≤ limit → counted limit e (pos n) ≡ Ok n
counted_again limit n e le = let test : leb n limit ≡ true = le-leb n limit le in rw test refl

-- what follows the tiles
tail_of : BoardData → List ℕ
tail_of b = properties_text b.properties ++ (integer (pos (length b.stats - 1)) ++ flat_map stat_text b.stats)

pub with_is : (boards : ℕ) (name : List ℕ) (tiles : List Tile) (rest : List ℕ) (others : ℕ) (ss : List StatData) → 88 ≤ length rest
    → integer_at rest 86 ≡ pos others → others ≤ 150 → items_at (stat_at boards (others + 1) tiles) (others + 1) [] (drop 88 rest) ≡ Ok ss
    → board_with boards name tiles rest ≡ Ok (record { name = name; tiles = tiles; properties = properties_at boards rest; stats = ss })
unfolding board_with
with_is boards name tiles rest others ss long e le h =
    let test : ltb (length rest) 88 ≡ false = le-ltb _ _ long in
    let count : counted 150 TooManyStats (integer_at rest 86) ≡ Ok others =
    ap (counted 150 TooManyStats) e ∙ counted_again 150 others TooManyStats le in
    rw (test, count, h) refl

tail_again : (boards : ℕ) (b : BoardData) → IsNormalBoard boards b → board_with boards b.name b.tiles (tail_of b) ≡ Ok b
unfolding tail_of
tail_again boards b n =
    let others = length b.stats - 1 in
    let p = properties_text b.properties in
    let count = integer (pos others) in
    let ss = flat_map stat_text b.stats in
    let p_long = length_properties b.properties n.properties.message in
    let some = n.some in
    let few = n.few in
    let all : others + 1 ≡ length b.stats = omega arith in
    let front : length (p ++ count) ≡ 88 = omega (arith, length-append p count, length_integer (pos others)) in
    let behind : drop 88 (p ++ (count ++ ss)) ≡ ss = ap (drop 88) (sym (append_assoc p count ss)) ∙ drop_at (p ++ count) ss 88 front in
    let number : integer_at (p ++ (count ++ ss)) 86 ≡ pos others =
    integer_past p (count ++ ss) 86 0 p_long ∙ integer_again (pos others) ss (record { sfits = omega arith }) in
    let long : 88 ≤ length (p ++ (count ++ ss)) =
    omega (arith, length-append p (count ++ ss), length-append count ss, length_integer (pos others)) in
    let read : items_at (stat_at boards (others + 1) b.tiles) (others + 1) [] (drop 88 (p ++ (count ++ ss))) ≡ Ok b.stats
    = rw (all, behind) (ap (items_at (stat_at boards (length b.stats) b.tiles) (length b.stats) []) (sym (append-nil ss)) ∙ stats_again boards (length b.stats) b.tiles b.stats [] few few n.stats) in
    let properties : properties_at boards (p ++ (count ++ ss)) ≡ b.properties =
    properties_again boards b.properties (count ++ ss) n.properties in
    with_is boards b.name b.tiles (p ++ (count ++ ss)) others b.stats long number (omega arith) read
    ∙ ap (λ (q : Properties). Ok (record b { properties = q })) properties

regroup_body : (s g p i f : List ℕ) → (((s ++ g) ++ p) ++ i) ++ f ≡ s ++ (g ++ (p ++ (i ++ f)))
regroup_body s g p i f = simp append_assoc

pub body_is : (boards : ℕ) (body : List ℕ) (tiles : List Tile) (rest : List ℕ) → 51 ≤ length body
    → tiles_at 1500 (drop 51 body) ≡ Some (tiles, rest)
    → board_at boards body ≡ board_with boards (string_at 50 body 0) tiles rest
unfolding board_at
body_is boards body tiles rest long h =
    let test : ltb (length body) 51 ≡ false = le-ltb _ _ long in
    rw (test, h) refl

pub body_again : GreedyIsRead → (boards : ℕ) (b : BoardData) → IsNormalBoard boards b → board_at boards (body_text b) ≡ Ok b
unfolding body_text tail_of
body_again law boards b n =
    let s = string 50 b.name in
    let after = greedy b.tiles ++ tail_of b in
    let parts : body_text b ≡ s ++ after =
    regroup_body s (greedy b.tiles) (properties_text b.properties) (integer (pos (length b.stats - 1))) (flat_map stat_text b.stats) in
    let s_long = length_string 50 b.name n.name in
    let behind : drop 51 (s ++ after) ≡ after = drop_at s after 51 s_long in
    let tiles : tiles_at 1500 (drop 51 (s ++ after)) ≡ Some (b.tiles, tail_of b) =
    ap (tiles_at 1500) behind ∙ law b.tiles (tail_of b) n.tiles in
    let name : string_at 50 (s ++ after) 0 ≡ b.name = string_again 50 b.name after n.name in
    ap (board_at boards) parts ∙ body_is boards (s ++ after) b.tiles (tail_of b) (omega (arith, length-append s after)) tiles
    ∙ ap (λ (x : List ℕ). board_with boards x b.tiles (tail_of b)) name ∙ tail_again boards b n

-- ---- a board with its size

size_again : (n : ℕ) (rest : List ℕ) → n ≤ 32767 → little_number 2 (little_bytes 2 n ++ rest) ≡ n
size_again n rest le = omega arith

split_is : (size body rest bytes : List ℕ) (n : ℕ) → length size ≡ 2 → n ≤ 32767 → length body ≡ n → bytes ≡ size ++ (body ++ rest)
    → little_number 2 bytes ≡ n
    → body_at bytes ≡ Ok (body, rest)
unfolding body_at
split_is size body rest bytes n two le len e number =
    let both : drop 2 bytes ≡ body ++ rest = ap (drop 2) e ∙ drop_at size (body ++ rest) 2 two in
    let a : ltb (length bytes) 2 ≡ false = le-ltb _ _ (omega (arith, ap length e, length-append size (body ++ rest))) in
    let b : ltb 32767 n ≡ false = le-ltb _ _ le in
    let c : ltb (length (body ++ rest)) n ≡ false = le-ltb _ _ (omega (arith, length-append body rest)) in
    let pair : List ℕ → List ℕ → Result (List ℕ × List ℕ) WorldError = λ x y. Ok (x, y) in
    let parts : pair (take n (body ++ rest)) (drop n (body ++ rest)) ≡ pair body rest =
    rw (take_at body rest n len, drop_at body rest n len) refl in
    rw (a, number, b, both, c) parts

pub next_is : (boards : ℕ) (done : List BoardData) (bytes body rest : List ℕ) (b : BoardData) → body_at bytes ≡ Ok (body, rest)
    → board_at boards body ≡ Ok b
    → next_board_at boards done bytes ≡ Ok (b, rest)
unfolding next_board_at
next_is boards done bytes body rest b h k = rw (h, k) refl

pub next_again : GreedyIsRead → (boards : ℕ) (done : List BoardData) (b : BoardData) (rest : List ℕ) → length (body_text b) ≤ 32767
    → IsNormalBoard boards b
    → next_board_at boards done (board_text b ++ rest) ≡ Ok (b, rest)
unfolding board_text
next_again law boards done b rest le n =
    let body = body_text b in
    let size = little_bytes 2 (length body) in
    let e : (size ++ body) ++ rest ≡ size ++ (body ++ rest) = append_assoc size body rest in
    next_is boards done (board_text b ++ rest) body rest b (split_is size body rest (board_text b ++ rest) (length body) refl le refl e (ap (little_number 2) e ∙ size_again (length body) (body ++ rest) le)) (body_again law boards b n)
