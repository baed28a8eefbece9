-- Rows that are written place by place, and the last of some lines.
use Rattle.std.proofs.Common.{◌≡◌, ◌∙◌, ◌+◌, ◌-◌, ◌*◌, ◌<◌, ◌≤◌, ℕ, zero, suc, List, [], ◌∷◌, ◌++◌, Some, ap, append_assoc, arith, drop, map, slice_get, sym}
use Rattle.std.specs.List.{flat_map, range_with_len}
use Rattle.std.proofs.Math.Seq.{drop-cons}
use Rattle.std.proofs.lemmas.List.{flat_map_more}
use Rattle.std.proofs.lemmas.List.FromFn.{map-range_with_len_more}
use Rattle.std.proofs.lemmas.Option.{get_or_from_slice_get, slice_get_within}
use Rattle.zed_play.specs.Playtest.{Playtest}
use Rattle.zed_look.specs.declared.look.Spot.{Spot}
use Rattle.zed_terminal.specs.Staged.{message_line, spot_beside}

range_more : (a n : ℕ) → range_with_len a (suc n) ≡ range_with_len a n ++ (a + n) ∷ []
range_more a zero = ap (λ x. x ∷ []) (omega arith)
range_more a (suc n) =
    let last : a + 1 + n ≡ a + suc n = omega arith in
    ap (λ t. a ∷ t) (range_more (a + 1) n) ∙ ap (λ x. a ∷ (range_with_len (a + 1) n ++ x ∷ [])) last

-- one row more
pub row_more : {X : Type 0} (f : ℕ → List X) (first row : ℕ) (o p q : List X) → first ≤ row
    → p ≡ o ++ flat_map f (range_with_len first (row - first)) → q ≡ p ++ f row
    → q ≡ o ++ flat_map f (range_with_len first (row + 1 - first))
row_more f first row o p q from e g =
    let next : row + 1 - first ≡ suc (row - first) = omega (arith, from) in
    let here : first + (row - first) ≡ row = omega (arith, from) in
    let before = range_with_len first (row - first) in
    let more : range_with_len first (row + 1 - first) ≡ before ++ row ∷ [] =
    ap (range_with_len first) next ∙ range_more first (row - first) ∙ ap (λ x. before ++ x ∷ []) here in
    g ∙ ap (λ t. t ++ f row) e ∙ flat_map_more f o before row ∙ ap (λ r. o ++ flat_map f r) (sym more)

-- one column more
pub column_more : (p : Playtest) (row k : ℕ) (before after done : List Spot) (spot : Spot) → 60 ≤ k → spot ≡ spot_beside p row k
    → done ≡ before ++ map (spot_beside p row) (range_with_len 60 (k - 60))
    → after ≡ done ++ spot ∷ [] → after ≡ before ++ map (spot_beside p row) (range_with_len 60 (k + 1 - 60))
column_more p row k before after done spot from is e g =
    let there : 60 + (k - 60) ≡ k = omega (arith, from) in
    let next : k - 60 + 1 ≡ k + 1 - 60 = omega (arith, from) in
    g ∙ ap (λ t. t ++ spot ∷ []) e ∙ ap (λ x. (before ++ map (spot_beside p row) (range_with_len 60 (k - 60))) ++ x ∷ []) is
    ∙ append_assoc before (map (spot_beside p row) (range_with_len 60 (k - 60))) (spot_beside p row k ∷ [])
    ∙ ap (λ t. before ++ t) (sym (map-range_with_len_more (spot_beside p row) 60 (k - 60) k there))
    ∙ ap (λ n. before ++ map (spot_beside p row) (range_with_len 60 n)) next

-- the lines from a message on are its own and those behind it
next_message : (columns : ℕ) (ms : List (List ℕ)) (i : ℕ) (m : List ℕ) → slice_get ms i ≡ Some m
    → flat_map (message_line columns) (drop i ms) ≡ message_line columns m ++ flat_map (message_line columns) (drop (i + 1) ms)
next_message columns ms i m is =
    let here : drop i ms ≡ m ∷ drop (suc i) ms =
    drop-cons ms i m (slice_get_within ms i m is) ∙ ap (λ x. x ∷ drop (suc i) ms) (get_or_from_slice_get ms i m m is) in
    let same : suc i ≡ i + 1 = omega arith in
    ap (flat_map (message_line columns)) here ∙ ap (λ n. message_line columns m ++ flat_map (message_line columns) (drop n ms)) same

-- and so with what was told before
pub told_more : (columns : ℕ) (ms : List (List ℕ)) (i : ℕ) (m before after : List ℕ) → slice_get ms i ≡ Some m
    → after ≡ before ++ message_line columns m
    → after ++ flat_map (message_line columns) (drop (i + 1) ms) ≡ before ++ flat_map (message_line columns) (drop i ms)
told_more columns ms i m before after is e =
    let lines = flat_map (message_line columns) in
    ap (λ t. t ++ lines (drop (i + 1) ms)) e ∙ append_assoc before (message_line columns m) (lines (drop (i + 1) ms))
    ∙ ap (λ l. before ++ l) (sym (next_message columns ms i m is))
