-- What the edit that makes the world makes of a world file: boards, stats and texts are each numbered from 0, in the order of the file over the whole world.
use Rattle.std.specs.Prelude.{ℕ, zero, suc, ◌<◌, ◌^◌, IfSome, ◌+◌, false, ◌==◌, if◌then◌else◌, List, [], ◌∷◌, length, take, count_by, filter_map, flat_map, is_some, Option, Some, None, option_map}
use Rattle.std.specs.List.{AllByRecursion}
use Rattle.zed_types.specs.declared.stamp.Stamp.{Stamp}
use Rattle.zed_types.specs.declared.names.BoardId.{BoardId}
use Rattle.zed_types.specs.declared.stat_field.ThirdParameter.{ThirdParameter}
use Rattle.zed_types.specs.declared.stat_field.ThirdParameter.TheVariants as third
use Rattle.zed_types.specs.Names.{board_of, stat_of, text_of}
use Rattle.zed_types.specs.Table.{map_from}
use Rattle.zed_types.specs.Text.{run_from}
use Rattle.zed_world.specs.Offsets.{is_passage_at}
use Rattle.zed_world.specs.declared.header.Header as world_header
use Rattle.zed_world.specs.declared.board.Properties as world_properties
use Rattle.zed_world.specs.declared.board.BoardData.{BoardData}
use Rattle.zed_world.specs.declared.stat.StatData.{StatData}
use Rattle.zed_world.specs.declared.stat.Code.{Code}
use Rattle.zed_world.specs.declared.stat.Code.TheVariants as code
use Rattle.zed_edit.specs.declared.plain.Header.{Header}
use Rattle.zed_edit.specs.declared.plain.Properties.{Properties}
use Rattle.zed_edit.specs.declared.plain.Board.{Board}
use Rattle.zed_edit.specs.declared.plain.Stat.{Stat}
use Rattle.zed_edit.specs.declared.plain.Text.{Text}

-- an exit's number, of which 0 is none
abbrev pub exit_of : Stamp → ℕ → Option BoardId
exit_of s zero = None
exit_of s (suc n) = Some (board_of s (suc n))

-- the header of a file
abbrev pub header_of : Stamp → world_header.Header → Header
header_of s h = record {
  numbers =
      h.ammo ∷ h.gems ∷ h.health ∷ h.torches ∷ h.torch_ticks
      ∷ h.energizer_ticks ∷ h.score ∷ h.time_passed ∷ h.hundredths ∷ [];
  keys = h.keys;
  saved = h.saved;
  current_board = board_of s h.current_board;
  world_name = h.name;
  flags = h.flags;
}

-- the properties of a board of the file, and its name; a file has no ranks, so its boards are of rank 0
abbrev pub properties_of : Stamp → List ℕ → world_properties.Properties → Properties
properties_of s name p = record {
  bytes = p.max_shots ∷ p.start_x ∷ p.start_y ∷ [];
  flags = p.dark ∷ p.re_enter ∷ [];
  time_limit = p.time_limit;
  rank = 0;
  exits = exit_of s p.north ∷ exit_of s p.south ∷ exit_of s p.west ∷ exit_of s p.east ∷ [];
  texts = name ∷ p.message ∷ [];
}

-- a program that stands with its stat
abbrev pub own_program : StatData → Option (List ℕ)
own_program s = elim s.code [ code.None ↦ None | code.Own bytes ↦ Some bytes | code.Same n ↦ None ]

-- the program of a stat has fewer than 32,768 bytes
abbrev pub HasShortProgram : StatData → Type 0
HasShortProgram s = IfSome (own_program s) (λ program. length program < 2 ^ 15)

-- and so has each of these stats
abbrev pub HaveShortPrograms : List StatData → Type 0
HaveShortPrograms ss = AllByRecursion HasShortProgram ss

-- the programs of a file in its order: each is a text
abbrev pub programs_of : List BoardData → List (List ℕ)
programs_of bs = flat_map (λ b. filter_map own_program b.stats) bs

-- how many of the first n stats of a board have a program of their own
abbrev pub programs_before : ℕ → List StatData → ℕ
programs_before n ss = count_by (λ x. is_some (own_program x)) (take n ss)

-- the text of stat j of a board whose first text has number t; stats that share a program share its text
abbrev pub text_number : ℕ → List StatData → ℕ → Code → Option ℕ
text_number t ss j code.None = None
text_number t ss j (code.Own bytes) = Some (t + programs_before j ss)
text_number t ss j (code.Same n) = Some (t + programs_before n ss)

-- the third parameter of a passage is the board of that number
abbrev pub parameter_of : Stamp → BoardData → StatData → ThirdParameter
parameter_of s b x = if is_passage_at b.tiles x.x x.y then third.Board (board_of s x.p3) else third.Byte x.p3

-- stat j of a board of the file, where the stats of the board are numbered from m, and its texts from t
abbrev pub opened_stat : Stamp → ℕ → ℕ → BoardData → ℕ → StatData → Stat
opened_stat s m t b j x = record {
  id = stat_of s (m + j);
  is_player = j == 0;
  fields = record {
    bytes = x.x ∷ x.y ∷ x.p1 ∷ x.p2 ∷ x.under.element ∷ x.under.colour ∷ [];
    numbers = x.step_x ∷ x.step_y ∷ x.cycle ∷ [];
    p3 = parameter_of s b x;
    text = option_map (text_of s) (text_number t b.stats j x.code);
  };
  position = x.position;
  follower = option_map (λ k. stat_of s (m + k)) x.follower;
  leader = option_map (λ k. stat_of s (m + k)) x.leader;
  removed = false;
}

-- the stats of a board of the file, numbered from m, and its texts from t
abbrev pub opened_stats : Stamp → ℕ → ℕ → BoardData → List Stat
opened_stats s m t b = map_from (opened_stat s m t b) 0 b.stats

-- board n of the file, whose stats are numbered from m, and its texts from t
abbrev pub opened_board : Stamp → ℕ → ℕ → ℕ → BoardData → Board
opened_board s n m t b = record {
  id = board_of s n;
  tiles = b.tiles;
  properties = properties_of s b.name b.properties;
  stats = opened_stats s m t b;
  removed = false;
}

-- the boards from board n on, whose stats are numbered from m, and their texts from t
abbrev pub opened_boards_from : Stamp → ℕ → ℕ → ℕ → List BoardData → List Board
opened_boards_from s n m t [] = []
opened_boards_from s n m t (b ∷ bs) =
    opened_board s n m t b
    ∷ opened_boards_from s (n + 1) (m + length b.stats) (t + programs_before (length b.stats) b.stats) bs

-- the boards of a file
abbrev pub opened_boards : Stamp → List BoardData → List Board
opened_boards s bs = opened_boards_from s 0 0 0 bs

-- text n of the file
abbrev pub opened_text : Stamp → ℕ → List ℕ → Text
opened_text s n bytes = record { id = text_of s n; elements = run_from s 0 bytes }

-- texts with these programs, numbered from t
abbrev pub texts_from : Stamp → ℕ → List (List ℕ) → List Text
texts_from s t programs = map_from (opened_text s) t programs

-- the texts of a file
abbrev pub opened_texts : Stamp → List BoardData → List Text
opened_texts s bs = texts_from s 0 (programs_of bs)
