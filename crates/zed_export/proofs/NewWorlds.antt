-- The world of a new edit file can stand in a world file.
use Rattle.std.proofs.Common.{◌≡◌, ◌∙◌, ◌+◌, ◌*◌, ◌≤◌, ◌++◌, add-one, ℕ, zero, suc, arith, rules, List, [], ◌∷◌, length, refl, ap, sym, subst}
use Rattle.std.specs.Prelude.{replicate}
use Rattle.std.proofs.lemmas.List.{length-take, append-nil}
use Rattle.zed_edit.specs.Board.{new_table}
use Rattle.zed_world.specs.declared.header.Header.{Header}
use Rattle.zed_world.specs.declared.board.BoardData.{BoardData}
use Rattle.zed_world.specs.Contents.{Contents}
use Rattle.std.specs.List.{AllByRecursion, flat_map}
use Rattle.zed_runs.specs.Runs.{greedy}
use Rattle.zed_runs.proofs.Greedy.{greedy_short}
use Rattle.zed_world.specs.Normal.{HasNormalParts, HasShortBody}
use Rattle.zed_world.specs.Writing.{body_text, stat_text}
use Rattle.zed_world.proofs.Sizes.{length_body, length_stat}
use Rattle.zed_export.specs.Fresh.{fresh_header, fresh_player, fresh_world, title_of}

-- one more of the same at the end
pub replicate_more : {X : Type 0} (n : ℕ) (x : X) → replicate n x ++ x ∷ [] ≡ replicate (n + 1) x
replicate_more zero x = refl
replicate_more {X = X} (suc n) x = let more = rw add-one at (replicate_more {X = X} n x) in rw add-one (ap (λ xs. x ∷ xs) more)

table_is_long : length new_table ≡ 1500
unfolding new_table
table_is_long = refl

-- a new world can stand in a file
pub fresh_is_normal : (name : List ℕ) → HasNormalParts (fresh_world name)
fresh_is_normal name = record {
  some = search rules;
  few = search rules;
  header = record {
    ammo = search rules;
    gems = search rules;
    keys = refl;
    health = search rules;
    current_board = search rules;
    torches = search rules;
    torch_ticks = search rules;
    energizer_ticks = search rules;
    score = search rules;
    name = let e = length-take 20 name in omega arith;
    flags = refl;
    each_flag = search rules;
    time_passed = search rules;
    hundredths = search rules;
  };
  boards = (
    record {
      name = search rules;
      tiles = table_is_long;
      properties = search rules;
      some = search rules;
      few = search rules;
      stats = search rules;
    },
    tt,
  );
}

-- so can one that is made of its parts
pub made_is_normal : (name : List ℕ) (h : Header) (bs : List BoardData) (b : BoardData) → h ≡ fresh_header name → bs ≡ [] ++ b ∷ []
    → b ≡ title_of new_table
    → HasNormalParts (record { header = h; boards = bs })
made_is_normal name h bs b is boards title =
    let make : Header → List BoardData → Contents = λ h bs. record { header = h; boards = bs } in
    let path : make h bs ≡ make (fresh_header name) (title_of new_table ∷ []) = rw (is, boards, title) refl in
    subst HasNormalParts (sym path) (fresh_is_normal name)

player_text : length (flat_map stat_text (fresh_player ∷ [])) ≡ 33
player_text = ap length (append-nil (stat_text fresh_player)) ∙ length_stat fresh_player

-- the body of a new title is short
title_is_short : HasShortBody (title_of new_table)
title_is_short =
    let title = title_of new_table in
    let body : length (body_text title) ≡ 139 + length (greedy new_table) + length (flat_map stat_text (fresh_player ∷ []))
    = length_body title (search rules) (search rules) in
    let runs : length (greedy new_table) ≤ 3 * length new_table = greedy_short new_table in
    let tiles : length new_table ≡ 1500 = table_is_long in
    let player : length (flat_map stat_text (fresh_player ∷ [])) ≡ 33 = player_text in
    omega arith

-- so are the bodies of a world that is made of it
pub made_is_short : (bs : List BoardData) (b : BoardData) → bs ≡ [] ++ b ∷ [] → b ≡ title_of new_table → AllByRecursion HasShortBody bs
made_is_short bs b boards title =
    let path : bs ≡ title_of new_table ∷ [] = rw (boards, title) refl in
    subst (AllByRecursion HasShortBody) (sym path) (title_is_short, tt)
