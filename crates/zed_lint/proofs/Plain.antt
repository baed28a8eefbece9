-- What holds of a board on which nothing is found.
use borrow.Author.Tests.{ltb-true, ltb-false}
use Rattle.std.proofs.Common.{◌≡◌, ◌∙◌, ℕ, ◌+◌, ◌<◌, ◌≤◌, Bool, true, false, cond, not, ◌&&◌, ◌||◌, List, [], ◌∷◌, ◌++◌, length, take, Option, Some, None, refl, sym, ap, arith, eqb, nat_lt, append_assoc, length-append}
use Rattle.std.specs.List.{AllByRecursion, list_any}
use Rattle.std.proofs.lemmas.Bool.Decides.{nat_tests}
use Rattle.zed_types.specs.declared.tile.Tile.{Tile}
use Rattle.zed_world.specs.Writing.{body_text}
use Rattle.zed_world.specs.declared.board.BoardData.{BoardData}
use Rattle.zed_lint.specs.Boards.{count_of, exit_findings, long_board_name, long_body, other_players, whole_findings}
use Rattle.zed_lint.specs.Found.{each_from, noted}
use Rattle.zed_lint.specs.Laws.{IsPlain}
use Rattle.zed_lint.specs.Stats.{stats_findings}
use Rattle.zed_lint.specs.Tiles.{has_element, tile_findings, tile_spot, tiles_findings, unknown}
use Rattle.zed_lint.specs.Utf8.{utf8_name}
use Rattle.zed_lint.specs.World.{board_findings}
use Rattle.zed_lint.specs.declared.finding.Finding.{Finding}
use Rattle.zed_lint.specs.declared.finding.Spot.{Spot}
use Rattle.zed_lint.specs.declared.finding.Spot.TheVariants.{Board}
use Rattle.zed_lint.specs.declared.finding.What.{What}
use Rattle.zed_lint.specs.declared.finding.What.TheVariants.{LongBody, LongBoardName, NoPlayer, Players, UnknownElement}

-- ---- the parts of nothing are nothing

some_is_none : (x : Finding) (xs : List Finding) → x ∷ xs ≡ [] → ⊥
some_is_none x xs is = cc

there_is_none : (w : What) → Some w ≡ None → ⊥
there_is_none w is = cc

front_none : (a b : List Finding) → a ++ b ≡ [] → a ≡ []
front_none [] b is = refl
front_none (x ∷ a) b is = absurd (some_is_none x (a ++ b) is)

back_none : (a b : List Finding) → a ++ b ≡ [] → b ≡ []
back_none [] b is = is
back_none (x ∷ a) b is = absurd (some_is_none x (a ++ b) is)

none_noted : (spot : Spot) (o : Option What) → noted spot o ≡ [] → o ≡ None
none_noted spot None is = refl
none_noted spot (Some w) is = absurd (some_is_none (record { spot = spot; what = w }) [] is)

-- ---- a board as a whole

not_long : (m : ℕ) → long_body m ≡ None → m ≤ 20000
not_long m is = go (nat_lt 20000 m) refl is
  where
    go : (t : Bool) → nat_lt 20000 m ≡ t → cond t (Some (LongBody m)) None ≡ None → m ≤ 20000
    go true e is = absurd (there_is_none (LongBody m) is)
    go false e is = ltb-false 20000 m e

not_long_name : (m : ℕ) → long_board_name m ≡ None → m ≤ 34
not_long_name m is = go (nat_lt 34 m) refl is
  where
    go : (t : Bool) → nat_lt 34 m ≡ t → cond t (Some (LongBoardName m)) None ≡ None → m ≤ 34
    go true e is = absurd (there_is_none (LongBoardName m) is)
    go false e is = ltb-false 34 m e

is_one : (n : ℕ) → eqb n 1 ≡ true → n ≡ 1
is_one n is = grind (arith, nat_tests)

one_left : (n : ℕ) → other_players n ≡ None → n ≡ 1
one_left n is = go (eqb n 0) (eqb n 1) refl is
  where
    go : (p q : Bool) → eqb n 1 ≡ q → cond p (Some NoPlayer) (cond q None (Some (Players n))) ≡ None → n ≡ 1
    go true q e is = absurd (there_is_none NoPlayer is)
    go false true e is = is_one n e
    go false false e is = absurd (there_is_none (Players n) is)

-- ---- tiles

abbrev IsKnown : Tile → Type 0
IsKnown t = t.element ≤ 53

differs : (a e : ℕ) → a ≤ 53 → 53 < e → eqb a e ≡ true → ⊥
differs a e low over is = grind (arith, nat_tests)

none_over : (e : ℕ) (before : List Tile) → 53 < e → AllByRecursion IsKnown before → list_any (λ t. eqb t.element e) before ≡ false
none_over e [] over known = refl
none_over e (x ∷ xs) over known = go (eqb x.element e) refl (none_over e xs over known.1)
  where
    go : (t : Bool) → eqb x.element e ≡ t → list_any (λ t. eqb t.element e) xs ≡ false → (t || list_any (λ t. eqb t.element e) xs) ≡ false
    go true is rest = absurd (differs x.element e known.0 over is)
    go false is rest = rest

low_of : (all before : List Tile) (t : Tile) → AllByRecursion IsKnown before → unknown all before t ≡ None → t.element ≤ 53
low_of all before t known is = go (nat_lt 53 t.element) refl is
  where
    go : (p : Bool) → nat_lt 53 t.element ≡ p
        → cond (p && not (has_element before t.element)) (Some (UnknownElement (count_of t.element all))) None ≡ None
        → t.element ≤ 53
    go false e is = ltb-false 53 t.element e
    go true e is =
        let new : has_element before t.element ≡ false = (none_over t.element before (ltb-true 53 t.element e) known) in
        absurd (there_is_none (UnknownElement (count_of t.element all)) (rw new at is))

front_of : (before ts : List Tile) → take (length before) (before ++ ts) ≡ before
front_of [] ts = refl
front_of (x ∷ before) ts = ap (λ (l : List Tile). x ∷ l) (front_of before ts)

all_push : (xs : List Tile) (t : Tile) → AllByRecursion IsKnown xs → IsKnown t → AllByRecursion IsKnown (xs ++ t ∷ [])
all_push [] t known low = (low, tt)
all_push (x ∷ xs) t known low = (known.0, all_push xs t known.1 low)

tile_low : (n : ℕ) (b : BoardData) (i : ℕ) (before : List Tile) (t : Tile) → take i b.tiles ≡ before → AllByRecursion IsKnown before
    → tile_findings n b i t ≡ []
    → t.element ≤ 53
unfolding tile_findings
tile_low n b i before t e known is =
    let nothing = front_none (noted (tile_spot n i t) (unknown b.tiles (take i b.tiles) t)) _ is in
    let no : unknown b.tiles (take i b.tiles) t ≡ None = none_noted (tile_spot n i t) _ nothing in
    low_of b.tiles before t known (rw e at no)

known_from : (n : ℕ) (b : BoardData) (before ts : List Tile) → b.tiles ≡ before ++ ts → AllByRecursion IsKnown before
    → each_from (tile_findings n b) (length before) ts ≡ []
    → AllByRecursion IsKnown ts
known_from n b before [] e known is = tt
known_from n b before (t ∷ ts) e known is =
    let here : tile_findings n b (length before) t ≡ [] =
    front_none (tile_findings n b (length before) t) (each_from (tile_findings n b) (length before + 1) ts) is in
    let on : each_from (tile_findings n b) (length before + 1) ts ≡ [] =
    back_none (tile_findings n b (length before) t) (each_from (tile_findings n b) (length before + 1) ts) is in
    let low = tile_low n b (length before) before t (ap (take (length before)) e ∙ front_of before (t ∷ ts)) known here in
    let longer : length (before ++ t ∷ []) ≡ length before + 1 = omega (arith, length-append before (t ∷ [])) in
    (low, known_from n b (before ++ t ∷ []) ts (e ∙ sym (append_assoc before (t ∷ []) ts)) (all_push before t known low) (rw longer on))

pub untold : (held set : List (List ℕ)) (n : ℕ) (b : BoardData) → board_findings held set n b ≡ [] → IsPlain b
unfolding board_findings whole_findings
untold held set n b is =
    let both = front_none (whole_findings n b ++ tiles_findings n b) (stats_findings held set n b) is in
    let whole : whole_findings n b ≡ [] = front_none (whole_findings n b) (tiles_findings n b) both in
    let tiles = back_none (whole_findings n b) (tiles_findings n b) both in
    let body = noted (Board n) (long_body (length (body_text b))) in
    let name = noted (Board n) (long_board_name (length b.name)) in
    let utf8 = noted (Board n) (utf8_name b.name) in
    let players = noted (Board n) (other_players (count_of 4 b.tiles)) in
    let four = front_none (body ++ name ++ utf8 ++ players) (exit_findings n b.properties) whole in
    let three = front_none (body ++ name ++ utf8) players four in
    let two = front_none (body ++ name) utf8 three in
    record {
      short = not_long (length (body_text b)) (none_noted (Board n) _ (front_none body name two));
      named = not_long_name (length b.name) (none_noted (Board n) _ (back_none body name two));
      one_player = one_left (count_of 4 b.tiles) (none_noted (Board n) _ (back_none (body ++ name ++ utf8) players four));
      known = known_from n b [] b.tiles refl tt tiles;
    }
