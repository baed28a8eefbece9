-- Where nothing is found of registers, what each side made of one shows in the union.
use Rattle.std.proofs.Common.{◌≡◌, ◌∙◌, ℕ, ℤ, Bool, true, false, not, ◌&&◌, nat_eq, List, [], ◌∷◌, ◌++◌, Option, Some, None, refl, ap, arith}
use Rattle.std.specs.Prelude.{◌<◌, ◌+◌, zero, suc, filter_map, flat_map, option_map, slice_index_or}
use Rattle.std.specs.Bool.{beq}
use Rattle.std.specs.Cmp.Lexicographic.{pointwise}
use Rattle.std.specs.List.{AllByRecursion, cons_option}
use Rattle.std.specs.Option.{option_eq}
use Rattle.std.specs.Ordering.{int_eq}
use Rattle.std.proofs.lemmas.Bool.Decides.{Decides-int_eq}
use Rattle.zed_types.specs.declared.header.FlagSlot.{FlagSlot}
use Rattle.zed_types.specs.declared.header.FlagSlot.TheVariants as slot
use Rattle.zed_types.specs.declared.header.HeaderNumber.{HeaderNumber}
use Rattle.zed_types.specs.declared.header.HeaderNumber.TheVariants as number
use Rattle.zed_types.specs.declared.header.KeyColour.{KeyColour}
use Rattle.zed_types.specs.declared.header.KeyColour.TheVariants as key
use Rattle.zed_types.specs.declared.names.BoardId.{BoardId}
use Rattle.zed_types.specs.declared.names.StatId.{StatId}
use Rattle.zed_types.specs.declared.property.BoardByte.TheVariants.{MaxShots}
use Rattle.zed_types.specs.declared.property.BoardFlag.{BoardFlag}
use Rattle.zed_types.specs.declared.property.BoardFlag.TheVariants as flag
use Rattle.zed_types.specs.declared.property.BoardText.{BoardText}
use Rattle.zed_types.specs.declared.property.BoardText.TheVariants as text
use Rattle.zed_types.specs.declared.property.Side.{Side as Edge}
use Rattle.zed_types.specs.declared.property.Side.TheVariants as edge
use Rattle.zed_types.specs.declared.stat_field.StatByte.TheVariants.{P1, P2}
use Rattle.zed_types.specs.declared.stat_field.StatNumber.TheVariants.{Cycle, Position}
use Rattle.zed_types.specs.declared.tile.Place.{Place}
use Rattle.zed_types.specs.declared.tile.Tile.{Tile}
use Rattle.zed_types.specs.Names.{same_board, same_stat}
use Rattle.zed_edit.specs.declared.plain.Board.{Board}
use Rattle.zed_edit.specs.declared.plain.Plain.{Plain}
use Rattle.zed_edit.specs.declared.plain.Stat.{Stat}
use Rattle.zed_edit.specs.Board.{empty_tile}
use Rattle.zed_laws.specs.Fields as fields
use Rattle.zed_laws.specs.Fields.{Field}
use Rattle.zed_laws.specs.Winners.{Register, of_board, of_header}
use Rattle.zed_sides.specs.declared.side.Overridden.{Overridden}
use Rattle.zed_sides.specs.Overridden.{loss_of, overridden, shown_of, with_loss}
use Rattle.zed_sides.specs.Readings.{BothShow, Shows, is_overridden}
use Rattle.zed_compare.specs.declared.finding.Finding.TheVariants as finding
use Rattle.zed_compare.specs.declared.registers.BoardRegister.{BoardRegister}
use Rattle.zed_compare.specs.declared.registers.BoardRegister.TheVariants as board
use Rattle.zed_compare.specs.declared.registers.StatRegister.{StatRegister}
use Rattle.zed_compare.specs.declared.registers.StatRegister.TheVariants as stat
use Rattle.zed_compare.specs.declared.registers.WorldRegister.{WorldRegister}
use Rattle.zed_compare.specs.declared.registers.WorldRegister.TheVariants as world
use Rattle.zed_join.specs.declared.sides.Views.{Views}
use Rattle.zed_compare.specs.declared.stats.Step.{Step}
use Rattle.zed_compare.specs.declared.stats.Third.TheVariants as third
use Rattle.zed_join.specs.declared.targets.Target.{Target}
use Rattle.zed_compare.specs.Findings.{board_finding, board_findings, cell_findings, cell_of, cells_from, exits, properties, shown_board_findings, shown_stat_findings, stat_finding, stat_findings, stat_registers, table_findings, world_finding, world_findings, world_registers}
use Rattle.zed_join.specs.Targets.{same_target, target}
use Rattle.zed_compare.specs.Reading.{in_readings, in_register}
use Rattle.zed_compare.specs.Registers.{exit_of, in_stat, of_that_board, of_that_stat, of_world, place_of, same_place, same_step, same_third, same_tile, start_of, step_of, third_of, under_of}
use Rattle.zed_compare.specs.Silence.{AllIsKept, BoardIsKept, IsKept, IsMade, ReadingIsKept, SilenceIsSafe, StatIsKept, WorldIsKept, on_board, on_stat}
use Rattle.zed_join.proofs.Tests.{Tells, board_tells, both_true, nat_tells, stat_tells}

-- ---- tests of values

option_tells : {V : Type 0} (same : V → V → Bool) → Tells same → Tells (option_eq same)
option_tells same tells None None is = refl
option_tells same tells None (Some y) is = cc
option_tells same tells (Some x) None is = cc
option_tells same tells (Some x) (Some y) is = ap Some (tells x y is)

beq_tells : Tells beq
beq_tells true true is = refl
beq_tells true false is = cc
beq_tells false true is = cc
beq_tells false false is = refl

int_tells : Tells int_eq
int_tells x y is = (Decides-int_eq x y).0 is

list_tells : Tells (pointwise nat_eq)
list_tells [] [] is = refl
list_tells [] (y ∷ ys) is = cc
list_tells (x ∷ xs) [] is = cc
list_tells (x ∷ xs) (y ∷ ys) is =
    let p = both_true (nat_eq x y) (pointwise nat_eq xs ys) is in
    ap (λ z. z ∷ xs) (nat_tells x y p.0) ∙ ap (λ zs. y ∷ zs) (list_tells xs ys p.1)

target_tells : Tells same_target
target_tells a b is =
    let p = both_true (option_eq same_board a.board b.board) (beq a.is_there b.is_there) is in
    equal a b (option_tells same_board board_tells a.board b.board p.0) (beq_tells a.is_there b.is_there p.1)
  where
    equal : (a b : Target) → a.board ≡ b.board → a.is_there ≡ b.is_there → a ≡ b
    equal a b p q =
        let make : Option BoardId → Bool → Target = λ x y. record { board = x; is_there = y } in
        let path : make a.board a.is_there ≡ make b.board b.is_there = rw (p, q) refl in path

place_tells : Tells same_place
place_tells a b is =
    let p = both_true (nat_eq a.x b.x) (nat_eq a.y b.y) is in
    let make : ℕ → ℕ → Place = λ x y. record { x = x; y = y } in
    let path : make a.x a.y ≡ make b.x b.y = rw (nat_tells a.x b.x p.0, nat_tells a.y b.y p.1) refl in path

step_tells : Tells same_step
step_tells a b is =
    let p = both_true (int_eq a.x b.x) (int_eq a.y b.y) is in
    let make : ℤ → ℤ → Step = λ x y. record { x = x; y = y } in
    let path : make a.x a.y ≡ make b.x b.y = rw (int_tells a.x b.x p.0, int_tells a.y b.y p.1) refl in path

tile_tells : Tells same_tile
tile_tells a b is =
    let p = both_true (nat_eq a.element b.element) (nat_eq a.colour b.colour) is in
    let make : ℕ → ℕ → Tile = λ x y. record { element = x; colour = y } in
    let path : make a.element a.colour ≡ make b.element b.colour = rw (nat_tells a.element b.element p.0, nat_tells a.colour b.colour p.1) refl in path

third_tells : Tells same_third
third_tells (third.Byte m) (third.Byte n) is = ap third.Byte (nat_tells m n is)
third_tells (third.Byte m) (third.Board b) is = cc
third_tells (third.Board a) (third.Byte n) is = cc
third_tells (third.Board a) (third.Board b) is = ap third.Board (target_tells a b is)

-- ---- a register that isn't overridden

loss_none : (a b : Bool) → loss_of a b ≡ None → (a ≡ false) × (b ≡ false)
loss_none true true is = cc
loss_none true false is = cc
loss_none false true is = cc
loss_none false false is = (refl, refl)

map_none : {X Y : Type 0} (f : X → Y) (o : Option X) → option_map f o ≡ None → o ≡ None
map_none f None is = refl
map_none f (Some x) is = cc

shows : {V : Type 0} (same : V → V → Bool) → Tells same → (base own union : V) → is_overridden same base own union ≡ false → Shows base own union
shows same tells base own union is changed = go (same own base) (same union own) refl refl is
  where
    go : (a b : Bool) → same own base ≡ a → same union own ≡ b → (not a && not b) ≡ false → union ≡ own
    go true b p q is = absurd (changed (tells own base p))
    go false true p q is = tells union own q
    go false false p q is = cc

both_show : {V : Type 0} (same : V → V → Bool) → Tells same → (base mine theirs union : V) → overridden same base mine theirs union ≡ None
    → BothShow base mine theirs union
both_show same tells base mine theirs union is =
    let none = map_none (with_loss (shown_of (same union mine) (same union theirs)))
    (loss_of (is_overridden same base mine union) (is_overridden same base theirs union)) is in
    let p = loss_none (is_overridden same base mine union) (is_overridden same base theirs union) none in
    (shows same tells base mine union p.0, shows same tells base theirs union p.1)

kept_in_readings : {V : Type 0} (same : V → V → Bool) → Tells same → (read : Plain → V) (w : Views) → in_readings same read w ≡ None → ReadingIsKept w read
kept_in_readings same tells read w is = both_show same tells (read w.base) (read w.mine) (read w.theirs) (read w.union) is

kept_in_register : {V : Type 0} (same : V → V → Bool) → Tells same → (r : Register V) (w : Views) → in_register same r w ≡ None → IsKept w r
kept_in_register same tells r w is = kept_in_readings (option_eq same) (option_tells same tells) r.read w is

kept_in_stat : {V : Type 0} (same : V → V → Bool) → Tells same → (read : Plain → Stat → V) (w : Views) (b : BoardId) (x : StatId)
    → in_stat same read w b x ≡ None → ReadingIsKept w (on_stat read b x)
kept_in_stat same tells read w b x is = kept_in_readings (option_eq same) (option_tells same tells) (on_stat read b x) w is

-- ---- lists

nothing_left : {X : Type 0} (xs ys : List X) → xs ++ ys ≡ [] → (xs ≡ []) × (ys ≡ [])
nothing_left [] ys is = (refl, is)
nothing_left (x ∷ xs) ys is = cc

none_of : {X Y : Type 0} (f : X → Option Y) (xs : List X) → filter_map f xs ≡ [] → AllByRecursion (λ x. f x ≡ None) xs
none_of f [] is = tt
none_of f (x ∷ xs) is = go (f x) refl is (none_of f xs)
  where
    go : (o : Option _) → f x ≡ o → cons_option o (filter_map f xs) ≡ [] → (filter_map f xs ≡ [] → AllByRecursion (λ x. f x ≡ None) xs)
        → (f x ≡ None) × AllByRecursion (λ x. f x ≡ None) xs
    go None q is more = (q, more is)
    go (Some y) q is more = cc

-- ---- the world

module _ (w : Views) (silent : world_findings w ≡ []) where
  every : AllByRecursion (λ r. world_finding w r ≡ None) world_registers
  every = none_of (world_finding w) world_registers silent

  world_none : (r : WorldRegister) → world_finding w r ≡ None → of_world w r ≡ None
  world_none r is = map_none (finding.World r) (of_world w r) is

  number_none : (f : HeaderNumber) → of_world w (world.Number f) ≡ None
  number_none number.Ammo = world_none (world.Number number.Ammo) every.0
  number_none number.Gems = world_none (world.Number number.Gems) every.1.0
  number_none number.Health = world_none (world.Number number.Health) every.1.1.0
  number_none number.Torches = world_none (world.Number number.Torches) every.1.1.1.0
  number_none number.TorchTicks = world_none (world.Number number.TorchTicks) every.1.1.1.1.0
  number_none number.EnergizerTicks = world_none (world.Number number.EnergizerTicks) every.1.1.1.1.1.0
  number_none number.Score = world_none (world.Number number.Score) every.1.1.1.1.1.1.0
  number_none number.TimePassed = world_none (world.Number number.TimePassed) every.1.1.1.1.1.1.1.0
  number_none number.Hundredths = world_none (world.Number number.Hundredths) every.1.1.1.1.1.1.1.1.0

  key_none : (k : KeyColour) → of_world w (world.Key k) ≡ None
  key_none key.Blue = world_none (world.Key key.Blue) every.1.1.1.1.1.1.1.1.1.0
  key_none key.Green = world_none (world.Key key.Green) every.1.1.1.1.1.1.1.1.1.1.0
  key_none key.Cyan = world_none (world.Key key.Cyan) every.1.1.1.1.1.1.1.1.1.1.1.0
  key_none key.Red = world_none (world.Key key.Red) every.1.1.1.1.1.1.1.1.1.1.1.1.0
  key_none key.Purple = world_none (world.Key key.Purple) every.1.1.1.1.1.1.1.1.1.1.1.1.1.0
  key_none key.Yellow = world_none (world.Key key.Yellow) every.1.1.1.1.1.1.1.1.1.1.1.1.1.1.0
  key_none key.White = world_none (world.Key key.White) every.1.1.1.1.1.1.1.1.1.1.1.1.1.1.1.0

  flag_none : (k : FlagSlot) → of_world w (world.Flag k) ≡ None
  flag_none slot.First = world_none (world.Flag slot.First) every.1.1.1.1.1.1.1.1.1.1.1.1.1.1.1.1.1.1.1.0
  flag_none slot.Second = world_none (world.Flag slot.Second) every.1.1.1.1.1.1.1.1.1.1.1.1.1.1.1.1.1.1.1.1.0
  flag_none slot.Third = world_none (world.Flag slot.Third) every.1.1.1.1.1.1.1.1.1.1.1.1.1.1.1.1.1.1.1.1.1.0
  flag_none slot.Fourth = world_none (world.Flag slot.Fourth) every.1.1.1.1.1.1.1.1.1.1.1.1.1.1.1.1.1.1.1.1.1.1.0
  flag_none slot.Fifth = world_none (world.Flag slot.Fifth) every.1.1.1.1.1.1.1.1.1.1.1.1.1.1.1.1.1.1.1.1.1.1.1.0
  flag_none slot.Sixth = world_none (world.Flag slot.Sixth) every.1.1.1.1.1.1.1.1.1.1.1.1.1.1.1.1.1.1.1.1.1.1.1.1.0
  flag_none slot.Seventh = world_none (world.Flag slot.Seventh) every.1.1.1.1.1.1.1.1.1.1.1.1.1.1.1.1.1.1.1.1.1.1.1.1.1.0
  flag_none slot.Eighth = world_none (world.Flag slot.Eighth) every.1.1.1.1.1.1.1.1.1.1.1.1.1.1.1.1.1.1.1.1.1.1.1.1.1.1.0
  flag_none slot.Ninth = world_none (world.Flag slot.Ninth) every.1.1.1.1.1.1.1.1.1.1.1.1.1.1.1.1.1.1.1.1.1.1.1.1.1.1.1.0
  flag_none slot.Tenth = world_none (world.Flag slot.Tenth) every.1.1.1.1.1.1.1.1.1.1.1.1.1.1.1.1.1.1.1.1.1.1.1.1.1.1.1.1.0

  world_is_kept : WorldIsKept w
  world_is_kept = record {
    numbers = λ f. kept_in_register int_eq int_tells (of_header (fields.header_number f)) w (number_none f);
    keys = λ k. kept_in_register beq beq_tells (of_header (fields.key k)) w (key_none k);
    saved = kept_in_register beq beq_tells (of_header fields.saved) w (world_none world.Saved every.1.1.1.1.1.1.1.1.1.1.1.1.1.1.1.1.0);
    start_board = kept_in_readings same_target target_tells (λ p. target p (Some p.header.current_board)) w
        (world_none world.StartBoard every.1.1.1.1.1.1.1.1.1.1.1.1.1.1.1.1.1.0);
    name = kept_in_register (pointwise nat_eq) list_tells (of_header fields.world_name) w (world_none world.Name every.1.1.1.1.1.1.1.1.1.1.1.1.1.1.1.1.1.1.0);
    flags = λ k. kept_in_register (pointwise nat_eq) list_tells (of_header (fields.flag k)) w (flag_none k);
  }

-- ---- boards

module _ (w : Views) (b : BoardId) (silent : board_findings w b properties ≡ []) (none : board_findings w b exits ≡ []) where
  property_each : AllByRecursion (λ r. board_finding w b r ≡ None) properties
  property_each = none_of (board_finding w b) properties silent

  exit_each : AllByRecursion (λ r. board_finding w b r ≡ None) exits
  exit_each = none_of (board_finding w b) exits none

  board_none : (r : BoardRegister) → board_finding w b r ≡ None → of_that_board w b r ≡ None
  board_none r is = map_none (finding.Board b r) (of_that_board w b r) is

  texts_kept : (f : BoardText) → IsKept w (of_board b (fields.board_text f))
  texts_kept text.Name = kept_in_register (pointwise nat_eq) list_tells (of_board b (fields.board_text text.Name)) w (board_none board.Name property_each.0)
  texts_kept text.Message = kept_in_register (pointwise nat_eq) list_tells (of_board b (fields.board_text text.Message)) w (board_none board.Message property_each.1.0)

  flags_kept : (f : BoardFlag) → IsKept w (of_board b (fields.board_flag f))
  flags_kept flag.Dark = kept_in_register beq beq_tells (of_board b (fields.board_flag flag.Dark)) w (board_none (board.Flag flag.Dark) property_each.1.1.1.1.0)
  flags_kept flag.ReEnter = kept_in_register beq beq_tells (of_board b (fields.board_flag flag.ReEnter)) w (board_none (board.Flag flag.ReEnter) property_each.1.1.1.1.1.0)

  leads : (f : Edge) → of_that_board w b (board.Exit f) ≡ None → ReadingIsKept w (on_board (exit_of f) b)
  leads f is = kept_in_readings (option_eq same_target) (option_tells same_target target_tells) (on_board (exit_of f) b) w is

  exits_kept : (f : Edge) → ReadingIsKept w (on_board (exit_of f) b)
  exits_kept edge.North = leads edge.North (board_none (board.Exit edge.North) exit_each.0)
  exits_kept edge.South = leads edge.South (board_none (board.Exit edge.South) exit_each.1.0)
  exits_kept edge.West = leads edge.West (board_none (board.Exit edge.West) exit_each.1.1.0)
  exits_kept edge.East = leads edge.East (board_none (board.Exit edge.East) exit_each.1.1.1.0)

  board_is_kept : BoardIsKept w b
  board_is_kept = record {
    texts = texts_kept;
    rank = kept_in_register nat_eq nat_tells (of_board b fields.rank) w (board_none board.Rank property_each.1.1.0);
    max_shots = kept_in_register nat_eq nat_tells (of_board b (fields.board_byte MaxShots)) w (board_none board.MaxShots property_each.1.1.1.0);
    flags = flags_kept;
    time_limit = kept_in_register int_eq int_tells (of_board b fields.time_limit) w (board_none board.TimeLimit property_each.1.1.1.1.1.1.0);
    start = kept_in_readings (option_eq same_place) (option_tells same_place place_tells) (on_board (λ p. start_of) b) w (board_none board.Start property_each.1.1.1.1.1.1.1.0);
    exits = exits_kept;
  }

-- ---- cells

none_from : (b : BoardId) (base mine theirs union : List Tile) (i n k : ℕ) → cells_from b base mine theirs union i n ≡ [] → k < n
    → cell_of base mine theirs union (i + k) ≡ None
unfolding cells_from
none_from b base mine theirs union i zero k is within = absurd (omega arith)
none_from b base mine theirs union i (suc n) k is within =
    go (cell_of base mine theirs union i) refl is k within (none_from b base mine theirs union (i + 1) n)
  where
    go : (o : Option Overridden) → cell_of base mine theirs union i ≡ o
        → cons_option (option_map (finding.Cell b i) o) (cells_from b base mine theirs union (i + 1) n) ≡ [] → (k : ℕ) → k < suc n
        → ((m : ℕ) → cells_from b base mine theirs union (i + 1) n ≡ [] → m < n → cell_of base mine theirs union (i + 1 + m) ≡ None)
        → cell_of base mine theirs union (i + k) ≡ None
    go (Some x) q is k within more = cc
    go None q is zero within more = let e : i + 0 ≡ i = omega arith in rw e q
    go None q is (suc k) within more =
        let e : i + suc k ≡ i + 1 + k = omega arith in
        rw e (more k is (omega (arith, within)))

cells_kept : (w : Views) (b : BoardId) → cell_findings w b ≡ [] → IsMade w b → (i : ℕ) → i < 1500 → IsKept w (of_board b (fields.cell i))
cells_kept w b silent made i within =
    rw (made.base.1, made.mine.1, made.theirs.1, made.union.1)
    (both_show (option_eq same_tile) (option_tells same_tile tile_tells)
    (Some (slice_index_or made.base.0.tiles i empty_tile)) (Some (slice_index_or made.mine.0.tiles i empty_tile))
    (Some (slice_index_or made.theirs.0.tiles i empty_tile)) (Some (slice_index_or made.union.0.tiles i empty_tile))
    none)
  where
    tables : table_findings b made.base.0.tiles made.mine.0.tiles made.theirs.0.tiles made.union.0.tiles ≡ []
    tables = rw (made.base.1, made.mine.1, made.theirs.1, made.union.1) at silent

    none : cell_of made.base.0.tiles made.mine.0.tiles made.theirs.0.tiles made.union.0.tiles i ≡ None
    none =
        let e : 0 + i ≡ i = omega arith in
        rw e at (none_from b made.base.0.tiles made.mine.0.tiles made.theirs.0.tiles made.union.0.tiles 0 1500 i tables within)

-- ---- stats

module _ (w : Views) (b : BoardId) (x : StatId) (silent : stat_findings w b x ≡ []) where
  field_each : AllByRecursion (λ r. stat_finding w b x r ≡ None) stat_registers
  field_each = none_of (stat_finding w b x) stat_registers silent

  stat_none : (r : StatRegister) → stat_finding w b x r ≡ None → of_that_stat w b x r ≡ None
  stat_none r is = map_none (finding.Stat x r) (of_that_stat w b x r) is

  stat_is_kept : StatIsKept w b x
  stat_is_kept = record {
    place = kept_in_stat same_place place_tells (λ p. place_of) w b x (stat_none stat.Place field_each.0);
    step = kept_in_stat same_step step_tells (λ p. step_of) w b x (stat_none stat.Step field_each.1.0);
    under = kept_in_stat same_tile tile_tells (λ p. under_of) w b x (stat_none stat.Under field_each.1.1.0);
    cycle = kept_in_stat int_eq int_tells (λ p. (fields.stat_number Cycle).value) w b x (stat_none stat.Cycle field_each.1.1.1.0);
    position = kept_in_stat int_eq int_tells (λ p. (fields.stat_number Position).value) w b x (stat_none stat.Position field_each.1.1.1.1.0);
    p1 = kept_in_stat nat_eq nat_tells (λ p. (fields.stat_byte P1).value) w b x (stat_none stat.P1 field_each.1.1.1.1.1.0);
    p2 = kept_in_stat nat_eq nat_tells (λ p. (fields.stat_byte P2).value) w b x (stat_none stat.P2 field_each.1.1.1.1.1.1.0);
    follower = kept_in_stat (option_eq same_stat) (option_tells same_stat stat_tells) (λ p. fields.follower.value) w b x (stat_none stat.Follower field_each.1.1.1.1.1.1.1.0);
    leader = kept_in_stat (option_eq same_stat) (option_tells same_stat stat_tells) (λ p. fields.leader.value) w b x (stat_none stat.Leader field_each.1.1.1.1.1.1.1.1.0);
    p3 = kept_in_stat same_third third_tells (λ p s. third_of p s.fields.p3) w b x (stat_none stat.P3 field_each.1.1.1.1.1.1.1.1.1.0);
  }

stats_kept : (w : Views) (b : BoardId) (ss : List Stat) → flat_map (shown_stat_findings w b) ss ≡ []
    → AllByRecursion (λ s. s.removed ≡ false → StatIsKept w b s.id) ss
stats_kept w b [] silent = tt
stats_kept w b (s ∷ ss) silent =
    let p = nothing_left (shown_stat_findings w b s) (flat_map (shown_stat_findings w b) ss) silent in
    ((λ there. stat_is_kept w b s.id (rw there at p.0)), stats_kept w b ss p.1)

all_kept : (w : Views) (x : Board) → shown_board_findings w x ≡ [] → x.removed ≡ false → AllIsKept w x
all_kept w x silent there =
    let whole : (((board_findings w x.id properties ++ cell_findings w x.id) ++ board_findings w x.id exits) ++ flat_map (shown_stat_findings w x.id) x.stats) ≡ [] =
    rw there at silent in
    let a = nothing_left ((board_findings w x.id properties ++ cell_findings w x.id) ++ board_findings w x.id exits) (flat_map (shown_stat_findings w x.id) x.stats) whole in
    let b = nothing_left (board_findings w x.id properties ++ cell_findings w x.id) (board_findings w x.id exits) a.0 in
    let c = nothing_left (board_findings w x.id properties) (cell_findings w x.id) b.0 in
    record {
      properties = board_is_kept w x.id c.0 b.1;
      cells = cells_kept w x.id c.1;
      stats = stats_kept w x.id x.stats a.1;
    }

boards_kept : (w : Views) (bs : List Board) → flat_map (shown_board_findings w) bs ≡ [] → AllByRecursion (λ b. b.removed ≡ false → AllIsKept w b) bs
boards_kept w [] silent = tt
boards_kept w (b ∷ bs) silent =
    let p = nothing_left (shown_board_findings w b) (flat_map (shown_board_findings w) bs) silent in
    (all_kept w b p.0, boards_kept w bs p.1)

pub silence_is_safe : SilenceIsSafe
silence_is_safe w silent =
    let p = nothing_left (world_findings w) (flat_map (shown_board_findings w) w.union.boards) silent in
    (world_is_kept w p.0, boards_kept w w.union.boards p.1)
