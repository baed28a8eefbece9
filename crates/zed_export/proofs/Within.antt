-- What follows where a document goes over no limit.
use Rattle.std.proofs.Common.{◌≡◌, ℕ, ◌+◌, ◌-◌, ◌≤◌, Bool, true, false, not, cond, ltb, List, [], ◌∷◌, length, map, refl, sym, arith, Option, Some, None}
use Rattle.std.specs.Prelude.{◌||◌, filter}
use Rattle.std.specs.List.{AllByRecursion, flat_map, list_any}
use Rattle.std.proofs.lemmas.Bool.{ltb-false, le-ltb}
use Rattle.std.proofs.lemmas.List.{length-append}
use Rattle.zed_types.specs.declared.limits.TheConstants.{READ_BODY_LIMIT}
use Rattle.zed_types.specs.Names.{same_board}
use Rattle.zed_world.specs.declared.board.BoardData.{BoardData}
use Rattle.zed_world.specs.declared.stat.StatData.{StatData}
use Rattle.zed_world.specs.Writing.{code_text, stat_text, body_text, first_over}
use Rattle.zed_op.specs.declared.thing.Thing.TheVariants as thing
use Rattle.zed_edit.specs.declared.plain.Board.{Board}
use Rattle.zed_edit.specs.declared.plain.Stat.{Stat}
use Rattle.zed_edit.specs.declared.plain.Plain.{Plain}
use Rattle.zed_types.specs.Names.{title}
use Rattle.zed_edit.specs.Document.{has}
use Rattle.zed_edit.specs.Numbers.{alive_boards, alive_stats}
use Rattle.zed_laws.specs.Regular.{HasPlayer, IsRegularBoard}
use Rattle.zed_export.specs.declared.error.ExportError.{ExportError}
use Rattle.zed_export.specs.World.{exported_board, exported_boards}
use Rattle.zed_export.specs.Limits.{or_else, stats_refusal, body_refusal, board_refusal, boards_refusal, count_refusal, title_refusal, refusal_of}
use Rattle.zed_export.proofs.Boards.{length_above}
use Rattle.zed_world.proofs.Sizes.{length_stat}

pub neither : (a b : Option ExportError) → or_else a b ≡ None → (a ≡ None) × (b ≡ None)
neither None b e = (refl, e)
neither (Some x) b e = absurd (cc)

no_more : (x y : ℕ) (e : ExportError) (t : Bool) → ltb x y ≡ t → cond t (Some e) None ≡ None → y ≤ x
no_more x y e true h k = absurd (cc)
no_more x y e false h k = ltb-false x y h

pub few_stats : (n stats : ℕ) → stats_refusal n stats ≡ None → stats ≤ 151
few_stats n stats h = let le = no_more 150 (stats - 1) _ (ltb 150 (stats - 1)) refl h in omega arith

pub within_limit : (limit n bytes : ℕ) → body_refusal limit n bytes ≡ None → bytes ≤ limit
within_limit limit n bytes h = no_more limit bytes _ (ltb limit bytes) refl h

pub few_boards : (boards : ℕ) → count_refusal boards ≡ None → boards ≤ 101
few_boards boards h = let le = no_more 100 (boards - 1) _ (ltb 100 (boards - 1)) refl h in omega arith

-- a board that goes over no limit
pub board_within : (limit n : ℕ) (b : BoardData) → board_refusal limit n b ≡ None → (length b.stats ≤ 151) × (length (body_text b) ≤ limit)
board_within limit n b h =
    let both = neither (stats_refusal n (length b.stats)) (body_refusal limit n (length (body_text b))) h in
    (few_stats n (length b.stats) both.0, within_limit limit n (length (body_text b)) both.1)

-- none of the boards has too many stats
pub all_few : (limit n : ℕ) (p : Plain) (bs : List Board) → boards_refusal limit n (map (exported_board p) bs) ≡ None
    → AllByRecursion (λ (b : Board). length (alive_stats b) ≤ 151) bs
all_few limit n p [] h = tt
all_few limit n p (b ∷ bs) h =
    let x = exported_board p b in
    let both = neither (board_refusal limit n x) (boards_refusal limit (n + 1) (map (exported_board p) bs)) h in
    let same : length x.stats ≡ length (alive_stats b) = length_above p b [] (alive_stats b) in
    let few = (board_within limit n x both.0).0 in
    (rw (sym same) few, all_few limit (n + 1) p bs both.1)

-- none of the bodies is over the limit
pub none_over : (limit n : ℕ) (bs : List BoardData) → boards_refusal limit n bs ≡ None → first_over limit n bs ≡ None
none_over limit n [] h = refl
none_over limit n (b ∷ bs) h =
    let both = neither (board_refusal limit n b) (boards_refusal limit (n + 1) bs) h in
    let test : ltb limit (length (body_text b)) ≡ false = le-ltb _ _ (board_within limit n b both.0).1 in
    rw test (none_over limit (n + 1) bs both.1)

-- the parts of a document that goes over no limit
pub boards_within : (limit : ℕ) (p : Plain) → refusal_of limit p ≡ None → boards_refusal limit 0 (exported_boards p) ≡ None
boards_within limit p h =
    let a = neither (title_refusal p) (or_else (count_refusal (length (alive_boards p))) (boards_refusal limit 0 (exported_boards p))) h in
    (neither (count_refusal (length (alive_boards p))) (boards_refusal limit 0 (exported_boards p)) a.1).1

pub count_within : (limit : ℕ) (p : Plain) → refusal_of limit p ≡ None → length (alive_boards p) ≤ 101
count_within limit p h =
    let a = neither (title_refusal p) (or_else (count_refusal (length (alive_boards p))) (boards_refusal limit 0 (exported_boards p))) h in
    few_boards (length (alive_boards p)) (neither (count_refusal (length (alive_boards p))) (boards_refusal limit 0 (exported_boards p)) a.1).0

title_made : (t : Bool) (e : ExportError) → cond t None (Some e) ≡ None → t ≡ true
title_made true e h = refl
title_made false e h = absurd (cc)

pub title_within : (limit : ℕ) (p : Plain) → refusal_of limit p ≡ None → has p (thing.Board title) ≡ true
title_within limit p h = title_made (has p (thing.Board title)) _ (neither (title_refusal p) (or_else (count_refusal (length (alive_boards p))) (boards_refusal limit 0 (exported_boards p))) h).0

-- where a title was made and stays, there is a board
pub some_board : (bs : List Board) → AllByRecursion IsRegularBoard bs → list_any (λ (b : Board). same_board b.id title) bs ≡ true
    → 1 ≤ length (filter (λ (b : Board). not b.removed) bs)
some_board [] r h = absurd (cc)
some_board (b ∷ bs) r h = go (some_board bs r.1) (same_board b.id title) refl (b.removed) refl h
  where
    go : (list_any (λ (x : Board). same_board x.id title) bs ≡ true → 1 ≤ length (filter (λ (x : Board). not x.removed) bs)) → (t : Bool)
        → same_board b.id title ≡ t → (gone : Bool) → b.removed ≡ gone → (t || list_any (λ (x : Board). same_board x.id title) bs) ≡ true
        → 1 ≤ length (cond (not gone) (b ∷ filter (λ (x : Board). not x.removed) bs) (filter (λ (x : Board). not x.removed) bs))
    go rest t e false k h = omega arith
    go rest true e true k h = let stays : b.removed ≡ false = r.0.title_stays e in absurd (cc)
    go rest false e true k h = rest h

-- there is a player
pub some_stat : (ss : List Stat) → HasPlayer ss → 1 ≤ length (filter (λ (s : Stat). not s.removed) ss)
some_stat [] h = absurd h
some_stat (s ∷ ss) h = rw h.1 (omega arith)

-- a program isn't longer than the body
pub programs_below : (ss : List StatData) (most : ℕ) → length (flat_map stat_text ss) ≤ most
    → AllByRecursion (λ (s : StatData). length (code_text s.code) ≤ most) ss
programs_below [] most h = tt
programs_below (s ∷ ss) most h =
    let sum = length-append (stat_text s) (flat_map stat_text ss) in
    let one = length_stat s in
    (omega arith, programs_below ss most (omega arith))

-- no body is too large for a reader
pub all_readable : (limit n : ℕ) (bs : List BoardData) → limit ≤ READ_BODY_LIMIT → boards_refusal limit n bs ≡ None
    → AllByRecursion (λ (b : BoardData). length (body_text b) ≤ READ_BODY_LIMIT) bs
all_readable limit n [] low h = tt
all_readable limit n (b ∷ bs) low h =
    let both = neither (board_refusal limit n b) (boards_refusal limit (n + 1) bs) h in
    let within = (board_within limit n b both.0).1 in
    (omega arith, all_readable limit (n + 1) bs low both.1)

-- where a title was made and the boards are few, the first of them over a limit is told
pub first_of_boards : (limit : ℕ) (p : Plain) (r : Option ExportError) → has p (thing.Board title) ≡ true
    → length (alive_boards p) - 1 ≤ 100 → r ≡ boards_refusal limit 0 (exported_boards p)
    → r ≡ refusal_of limit p
first_of_boards limit p r made few e =
    let h : ltb 100 (length (alive_boards p) - 1) ≡ false = le-ltb _ _ few in
    rw (made, h) e
