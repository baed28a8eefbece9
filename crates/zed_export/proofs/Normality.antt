-- The world of a regular document that goes over no limit can stand in a file.
use Rattle.std.proofs.Common.{◌≡◌, ℕ, ◌+◌, ◌<◌, ◌≤◌, Bool, true, false, not, cond, ltb, List, [], ◌∷◌, ◌++◌, length, map, get_or, refl, sym, ap, subst, ◌∙◌, arith, Option, Some, None, IfSome}
use Rattle.std.specs.Prelude.{option_and_then, position, unwrap_or}
use Rattle.std.specs.List.{AllByRecursion, flat_map}
use Rattle.std.proofs.lemmas.Bool.{ltb-true}
use Rattle.std.proofs.lemmas.List.{length-map, length_push}
use Rattle.zed_types.specs.declared.limits.TheConstants.{READ_BODY_LIMIT}
use Rattle.zed_types.specs.declared.names.BoardId.{BoardId}
use Rattle.zed_types.specs.declared.names.StatId.{StatId}
use Rattle.zed_types.specs.declared.names.TextId.{TextId}
use Rattle.zed_types.specs.declared.stat_field.ThirdParameter.{ThirdParameter}
use Rattle.zed_types.specs.declared.stat_field.ThirdParameter.TheVariants as third
use Rattle.zed_types.specs.Names.{same_board, same_stat}
use Rattle.zed_world.specs.declared.stat.StatData.{StatData}
use Rattle.zed_world.specs.Offsets.{is_passage_at}
use Rattle.zed_world.specs.Writing.{code_text, stat_text}
use Rattle.zed_world.specs.Normal.{AreNormalStats, IsNormalBoard, HasNormalParts}
use Rattle.zed_edit.specs.declared.plain.Board.{Board}
use Rattle.zed_edit.specs.declared.plain.Stat.{Stat}
use Rattle.zed_edit.specs.declared.plain.Plain.{Plain}
use Rattle.zed_edit.specs.Numbers.{alive_boards, alive_stats, board_number, boards_there, stat_number}
use Rattle.zed_edit.proofs.Numbering.{each-so, places-so}
use Rattle.zed_laws.specs.NameOrder.{IsOrdered}
use Rattle.zed_laws.proofs.ApartBoards.{boards_there_are_apart}
use Rattle.zed_laws.specs.Regular.{AreTexts, IsRegularBoard, IsRegular}
use Rattle.zed_types.specs.declared.property.Side.TheVariants.{North, South, West, East}
use Rattle.zed_types.specs.declared.stat_field.StatByte.TheVariants.{X, Y}
use Rattle.zed_view.specs.View.{exit, stat_byte}
use Rattle.zed_export.specs.World.{number_or_0, exit_number, parameter, exported_stat, exported_above, exported_board, exported_boards, world_of}
use Rattle.zed_export.specs.Fields.{FitsStat, FitsBoard, FitsHeader, IsOwned}
use Rattle.zed_export.specs.Limits.{boards_refusal, board_refusal, refusal_of}
use Rattle.zed_export.proofs.ByNumber.{as_many}
use Rattle.zed_export.proofs.Each.{each_filtered}
use Rattle.zed_export.proofs.Searching.{found_within, found_or_0}
use Rattle.zed_world.proofs.Sizes.{length_body}
use Rattle.zed_export.proofs.Boards.{length_above}
use Rattle.zed_export.proofs.Shares.{owned_first, owned_more, code_normal}
use Rattle.zed_export.proofs.Within.{neither, board_within, boards_within, count_within, title_within, some_board, some_stat, programs_below}

number_below : (p : Plain) → IsOrdered p → (b : BoardId) → 1 ≤ length (alive_boards p) → number_or_0 p b < length (alive_boards p)
number_below p h b some =
    let found : position (λ x. same_board x.id b) (alive_boards p) ≡ board_number p b =
    sym (places-so (boards_there p) (boards_there_are_apart p h) b) in
    subst (λ o. unwrap_or o 0 < length (alive_boards p)) found (found_or_0 (λ (x : Board). same_board x.id b) (alive_boards p) some)

exit_below : (p : Plain) → IsOrdered p → (o : Option BoardId) → 1 ≤ length (alive_boards p) → exit_number p o < length (alive_boards p)
exit_below p h None some = some
exit_below p h (Some b) some = number_below p h b some

parameter_below : (p : Plain) → IsOrdered p → (t : Bool) (x : ThirdParameter) → 1 ≤ length (alive_boards p) → t ≡ true
    → parameter p t x < length (alive_boards p)
parameter_below p h true (third.Board b) some e = number_below p h b some
parameter_below p h true (third.Byte n) some e = go (ltb n (length (alive_boards p))) refl
  where
    go : (t : Bool) → ltb n (length (alive_boards p)) ≡ t → cond t n 0 < length (alive_boards p)
    go true is = ltb-true n (length (alive_boards p)) is
    go false is = some
parameter_below p h false x some e = absurd (cc)

stat_below : (b : Board) (o : Option StatId) (n : ℕ) → n ≡ length (alive_stats b) → IfSome (option_and_then (stat_number b) o) (λ k. k < n)
stat_below b None n e = tt
stat_below b (Some s) n e = rw e (found_within (λ (x : Stat). same_stat x.id s) (alive_stats b))

stats_normal : (p : Plain) → IsOrdered p → (b : Board) (n : ℕ) → n ≡ length (alive_stats b) → 1 ≤ length (alive_boards p)
    → (lower : List (Option TextId)) (done : List StatData) (ss : List Stat)
    → length done ≡ length lower → IsOwned p lower done
    → AllByRecursion FitsStat (exported_above p b lower ss)
    → AllByRecursion (λ (s : StatData). length (code_text s.code) ≤ READ_BODY_LIMIT) (exported_above p b lower ss)
    → AreNormalStats (length (alive_boards p)) n b.tiles done (exported_above p b lower ss)
stats_normal p h b n e some lower done [] long owned fits short = tt
stats_normal p h b n e some lower done (s ∷ ss) long owned fits short =
    let x = exported_stat p b lower s in (
      record {
        step_x = fits.0.step_x;
        step_y = fits.0.step_y;
        cycle = fits.0.cycle;
        passage = parameter_below p h (is_passage_at b.tiles (stat_byte X s) (stat_byte Y s)) s.fields.p3 some;
        follower = stat_below b s.follower n e;
        leader = stat_below b s.leader n e;
        position = fits.0.position;
        code = code_normal p lower done s.fields.text owned (omega (arith, short.0));
      },
      stats_normal p h b n e some (lower ++ s.fields.text ∷ []) (done ++ x ∷ []) ss
          (length_push done x ∙ ap (λ (k : ℕ). k + 1) long ∙ sym (length_push lower s.fields.text))
          (owned_more p lower done s.fields.text x long refl owned) fits.1 short.1,
    )

-- the name and the message of a board fit their fields
pub texts_fit : (xs : List (List ℕ)) → AreTexts xs → (length (get_or xs 0 []) ≤ 50) × (length (get_or xs 1 []) ≤ 58)
texts_fit [] h = absurd h
texts_fit (name ∷ []) h = absurd h
texts_fit (name ∷ message ∷ []) h = h
texts_fit (name ∷ message ∷ more ∷ xs) h = absurd h

board_normal : (limit number : ℕ) (p : Plain) → IsOrdered p → (b : Board) → limit ≤ READ_BODY_LIMIT → 1 ≤ length (alive_boards p)
    → IsRegularBoard b → board_refusal limit number (exported_board p b) ≡ None → FitsBoard (exported_board p b)
    → IsNormalBoard (length (alive_boards p)) (exported_board p b)
board_normal limit number p ordered b low some r h fits =
    let x = exported_board p b in
    let within = board_within limit number x h in
    let same : length x.stats ≡ length (alive_stats b) = length_above p b [] (alive_stats b) in
    let first : 1 ≤ length (alive_stats b) = some_stat b.stats r.player in
    let texts = texts_fit b.properties.texts r.texts in
    let whole = length_body x texts.0 texts.1 in
    let programs : length (flat_map stat_text x.stats) ≤ READ_BODY_LIMIT = omega (arith, within.1) in
    record {
      name = texts.0;
      tiles = r.tiles;
      properties = record {
        north = exit_below p ordered (exit North b.properties) some;
        south = exit_below p ordered (exit South b.properties) some;
        west = exit_below p ordered (exit West b.properties) some;
        east = exit_below p ordered (exit East b.properties) some;
        message = texts.1;
        time_limit = fits.time_limit;
      };
      some = omega arith;
      few = within.0;
      stats = stats_normal p ordered b (length x.stats) same some [] [] (alive_stats b) refl (owned_first p) fits.stats (programs_below x.stats READ_BODY_LIMIT programs);
    }

all_normal : (limit number : ℕ) (p : Plain) → IsOrdered p → (bs : List Board) → limit ≤ READ_BODY_LIMIT → 1 ≤ length (alive_boards p)
    → AllByRecursion IsRegularBoard bs → boards_refusal limit number (map (exported_board p) bs) ≡ None
    → AllByRecursion FitsBoard (map (exported_board p) bs)
    → AllByRecursion (IsNormalBoard (length (alive_boards p))) (map (exported_board p) bs)
all_normal limit number p ordered [] low some r h fits = tt
all_normal limit number p ordered (b ∷ bs) low some r h fits =
    let both =
    neither (board_refusal limit number (exported_board p b)) (boards_refusal limit (number + 1) (map (exported_board p) bs)) h in
    (board_normal limit number p ordered b low some r.0 both.0 fits.0, all_normal limit (number + 1) p ordered bs low some r.1 both.1 fits.1)

pub world_normal : (limit : ℕ) (p : Plain) → IsRegular p → IsOrdered p → limit ≤ READ_BODY_LIMIT → refusal_of limit p ≡ None
    → FitsHeader (world_of p).header → AllByRecursion FitsBoard (world_of p).boards
    → HasNormalParts (world_of p)
world_normal limit p r ordered low h fits_header fits_boards =
    let n = length (alive_boards p) in
    let same : length (exported_boards p) ≡ n = length-map (alive_boards p) (exported_board p) in
    let there : 1 ≤ length (boards_there p) = some_board p.boards r.boards (title_within limit p h) in
    let some : 1 ≤ n = omega (arith, as_many p ordered) in
    let few : n ≤ 101 = count_within limit p h in
    let boards = all_normal limit 0 p ordered (alive_boards p) low some (each-so IsRegularBoard (boards_there p) (each_filtered IsRegularBoard (λ b. not b.removed) p.boards r.boards)) (boards_within limit p h) fits_boards in
    let current = number_below p ordered p.header.current_board some in
    record {
      some = omega arith;
      few = omega arith;
      header = record {
        ammo = fits_header.ammo;
        gems = fits_header.gems;
        keys = r.header.keys;
        health = fits_header.health;
        current_board = rw same current;
        torches = fits_header.torches;
        torch_ticks = fits_header.torch_ticks;
        energizer_ticks = fits_header.energizer_ticks;
        score = fits_header.score;
        name = r.header.world_name;
        flags = r.header.flags;
        each_flag = r.header.each_flag;
        time_passed = fits_header.time_passed;
        hundredths = fits_header.hundredths;
      };
      boards = rw same boards;
    }
