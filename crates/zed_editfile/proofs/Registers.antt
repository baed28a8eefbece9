-- Registers under their numbers: what is read is spelled so, and what is spelled is read again.
use Rattle.std.proofs.Common.{Option, Some, None, ℤ, length, subst, append-nil, ◌≡◌, ℕ, zero, suc, ◌+◌, ◌-◌, ◌<◌, ◌≤◌, true, false, ◌&&◌, cond, leb, ltb, eqb, List, [], ◌∷◌, ◌++◌, Ok, Err, refl, sym, ap, ◌∙◌, append_assoc, arith}
use Rattle.std.proofs.lemmas.Bool.{ltb-true, ltb-false, leb-true, le-leb, eqb-true, eqb-false, and_parts}
use Rattle.zed_types.specs.declared.header.HeaderNumber.TheVariants.{Ammo, Gems, Health, Torches, TorchTicks, EnergizerTicks, Score, TimePassed, Hundredths}
use Rattle.zed_types.specs.declared.header.KeyColour.TheVariants.{Blue, Green, Cyan, Red, Purple, Yellow, White}
use Rattle.zed_types.specs.declared.header.FlagSlot.TheVariants.{First, Second, Third, Fourth, Fifth, Sixth, Seventh, Eighth, Ninth, Tenth}
use Rattle.zed_types.specs.declared.header.HeaderSetting.{HeaderSetting}
use Rattle.zed_types.specs.declared.header.HeaderSetting.TheVariants as header
use Rattle.zed_types.specs.declared.property.Side.TheVariants.{North, South, West, East}
use Rattle.zed_types.specs.declared.property.BoardByte.TheVariants.{MaxShots, StartX, StartY}
use Rattle.zed_types.specs.declared.property.BoardFlag.TheVariants.{Dark, ReEnter}
use Rattle.zed_types.specs.declared.property.BoardText.TheVariants.{Name, Message}
use Rattle.zed_types.specs.declared.property.BoardSetting.{BoardSetting}
use Rattle.zed_types.specs.declared.property.BoardSetting.TheVariants as board
use Rattle.zed_types.specs.declared.stat_field.StatByte.TheVariants.{X, Y, P1, P2, UnderElement, UnderColour}
use Rattle.zed_types.specs.declared.stat_field.StatNumber.TheVariants.{StepX, StepY, Cycle, Position}
use Rattle.zed_types.specs.declared.stat_field.StatSetting.{StatSetting}
use Rattle.zed_types.specs.declared.stat_field.StatSetting.TheVariants as stat
use Rattle.zed_types.specs.declared.stat_field.StatFields.{StatFields}
use Rattle.zed_op.specs.declared.cause.Cause.TheVariants.{Tag}
use Rattle.zed_types.specs.Header.{key_index, flag_index, header_number_index, header_number_of_field}
use Rattle.zed_types.specs.Board.{board_byte_field, board_byte_of_field, board_flag_field, board_flag_of_field, side_field, side_of_field, board_text_field, board_text_of_field}
use Rattle.zed_types.specs.Stat.{stat_byte_field, stat_byte_of_field, stat_number_field, stat_number_of_field}
use Rattle.zed_types.specs.declared.header.HeaderNumber.{HeaderNumber}
use Rattle.zed_types.specs.declared.property.Side.{Side}
use Rattle.zed_types.specs.declared.property.BoardByte.{BoardByte}
use Rattle.zed_types.specs.declared.property.BoardFlag.{BoardFlag}
use Rattle.zed_types.specs.declared.property.BoardText.{BoardText}
use Rattle.zed_types.specs.declared.stat_field.StatByte.{StatByte}
use Rattle.zed_types.specs.declared.stat_field.StatNumber.{StatNumber}
use Rattle.zed_types.specs.declared.stat_field.ThirdParameter.{ThirdParameter}
use Rattle.zed_types.specs.declared.names.TextId.{TextId}
use Rattle.zed_types.specs.declared.tile.Tile.{Tile}
use Rattle.zed_editfile.specs.declared.error.EditFileError.TheVariants.{BadEdit}
use Rattle.zed_editfile.specs.Spelling.{number, integer, boolean, string, board_name, stat_name, text_name, optional, third_parameter, header_setting, board_setting, stat_setting, stat_fields, IsPropertyOf}
use Rattle.zed_editfile.specs.Reading.{Field, mapped, byte_at, number_at, integer_at, boolean_at, string_at, board_name_at, stat_name_at, text_name_at, optional_at, third_parameter_at, by_kind, fields_of, key_of, flag_of, header_value_at, header_setting_at, board_value_at, board_setting_at, stat_value_at, stat_setting_at, stat_fields_at}
use Rattle.zed_op.specs.Sizes.{IsHeaderSetting, IsBoardSetting, IsStatSetting, IsStatFields}
use Rattle.zed_editfile.proofs.Codec.{IsField, Completes, takes_then, takes_end, takes_all, takes_mapped, takes_choice, takes_kind, takes_none, some_if, again_then, again_mapped, byte_field, number_field, integer_field, boolean_field, string_field, tile_field}
use Rattle.zed_editfile.proofs.Names.{board_name_field, stat_name_field, text_name_field, optional_field, third_parameter_field}

-- ---- a register that is found under a number has that number

number_named : (f : ℕ) (k : HeaderNumber) → header_number_of_field f ≡ Some k → f ≡ header_number_index k
number_named f k =
    let P : HeaderNumber → Type 0 = λ x. f ≡ header_number_index x in
    some_if P (eqb f 0) Ammo k _ (eqb-true f 0) (some_if P (eqb f 1) Gems k _ (eqb-true f 1) (some_if P (eqb f 2) Health k _ (eqb-true f 2) (some_if P (eqb f 3) Torches k _ (eqb-true f 3) (some_if P (eqb f 4) TorchTicks k _ (eqb-true f 4) (some_if P (eqb f 5) EnergizerTicks k _ (eqb-true f 5) (some_if P (eqb f 6) Score k _ (eqb-true f 6) (some_if P (eqb f 7) TimePassed k _ (eqb-true f 7) (some_if P (eqb f 8) Hundredths k _ (eqb-true f 8) (λ e. absurd cc)))))))))

past_numbers : (f : ℕ) → header_number_of_field f ≡ None → 9 ≤ f
past_numbers zero h = absurd cc
past_numbers (suc zero) h = absurd cc
past_numbers (suc (suc zero)) h = absurd cc
past_numbers (suc (suc (suc zero))) h = absurd cc
past_numbers (suc (suc (suc (suc zero)))) h = absurd cc
past_numbers (suc (suc (suc (suc (suc zero))))) h = absurd cc
past_numbers (suc (suc (suc (suc (suc (suc zero)))))) h = absurd cc
past_numbers (suc (suc (suc (suc (suc (suc (suc zero))))))) h = absurd cc
past_numbers (suc (suc (suc (suc (suc (suc (suc (suc zero)))))))) h = absurd cc
past_numbers (suc (suc (suc (suc (suc (suc (suc (suc (suc n))))))))) h = omega arith

key_named : (f : ℕ) → 9 ≤ f → f < 16 → f ≡ 9 + key_index (key_of (f - 9))
key_named zero le lt = absurd (omega arith)
key_named (suc zero) le lt = absurd (omega arith)
key_named (suc (suc zero)) le lt = absurd (omega arith)
key_named (suc (suc (suc zero))) le lt = absurd (omega arith)
key_named (suc (suc (suc (suc zero)))) le lt = absurd (omega arith)
key_named (suc (suc (suc (suc (suc zero))))) le lt = absurd (omega arith)
key_named (suc (suc (suc (suc (suc (suc zero)))))) le lt = absurd (omega arith)
key_named (suc (suc (suc (suc (suc (suc (suc zero))))))) le lt = absurd (omega arith)
key_named (suc (suc (suc (suc (suc (suc (suc (suc zero)))))))) le lt = absurd (omega arith)
key_named (suc (suc (suc (suc (suc (suc (suc (suc (suc zero))))))))) le lt = refl
key_named (suc (suc (suc (suc (suc (suc (suc (suc (suc (suc zero)))))))))) le lt = refl
key_named (suc (suc (suc (suc (suc (suc (suc (suc (suc (suc (suc zero))))))))))) le lt = refl
key_named (suc (suc (suc (suc (suc (suc (suc (suc (suc (suc (suc (suc zero)))))))))))) le lt = refl
key_named (suc (suc (suc (suc (suc (suc (suc (suc (suc (suc (suc (suc (suc zero))))))))))))) le lt = refl
key_named (suc (suc (suc (suc (suc (suc (suc (suc (suc (suc (suc (suc (suc (suc zero)))))))))))))) le lt = refl
key_named (suc (suc (suc (suc (suc (suc (suc (suc (suc (suc (suc (suc (suc (suc (suc zero))))))))))))))) le lt = refl
key_named (suc (suc (suc (suc (suc (suc (suc (suc (suc (suc (suc (suc (suc (suc (suc (suc n)))))))))))))))) le lt = absurd (omega arith)

flag_named : (f : ℕ) → 19 ≤ f → f < 29 → f ≡ 19 + flag_index (flag_of (f - 19))
flag_named zero le lt = absurd (omega arith)
flag_named (suc zero) le lt = absurd (omega arith)
flag_named (suc (suc zero)) le lt = absurd (omega arith)
flag_named (suc (suc (suc zero))) le lt = absurd (omega arith)
flag_named (suc (suc (suc (suc zero)))) le lt = absurd (omega arith)
flag_named (suc (suc (suc (suc (suc zero))))) le lt = absurd (omega arith)
flag_named (suc (suc (suc (suc (suc (suc zero)))))) le lt = absurd (omega arith)
flag_named (suc (suc (suc (suc (suc (suc (suc zero))))))) le lt = absurd (omega arith)
flag_named (suc (suc (suc (suc (suc (suc (suc (suc zero)))))))) le lt = absurd (omega arith)
flag_named (suc (suc (suc (suc (suc (suc (suc (suc (suc zero))))))))) le lt = absurd (omega arith)
flag_named (suc (suc (suc (suc (suc (suc (suc (suc (suc (suc zero)))))))))) le lt = absurd (omega arith)
flag_named (suc (suc (suc (suc (suc (suc (suc (suc (suc (suc (suc zero))))))))))) le lt = absurd (omega arith)
flag_named (suc (suc (suc (suc (suc (suc (suc (suc (suc (suc (suc (suc zero)))))))))))) le lt = absurd (omega arith)
flag_named (suc (suc (suc (suc (suc (suc (suc (suc (suc (suc (suc (suc (suc zero))))))))))))) le lt = absurd (omega arith)
flag_named (suc (suc (suc (suc (suc (suc (suc (suc (suc (suc (suc (suc (suc (suc zero)))))))))))))) le lt = absurd (omega arith)
flag_named (suc (suc (suc (suc (suc (suc (suc (suc (suc (suc (suc (suc (suc (suc (suc zero))))))))))))))) le lt = absurd (omega arith)
flag_named (suc (suc (suc (suc (suc (suc (suc (suc (suc (suc (suc (suc (suc (suc (suc (suc zero)))))))))))))))) le lt = absurd (omega arith)
flag_named (suc (suc (suc (suc (suc (suc (suc (suc (suc (suc (suc (suc (suc (suc (suc (suc (suc zero))))))))))))))))) le lt =
    absurd (omega arith)
flag_named (suc (suc (suc (suc (suc (suc (suc (suc (suc (suc (suc (suc (suc (suc (suc (suc (suc (suc zero)))))))))))))))))) le lt =
    absurd (omega arith)
flag_named (suc (suc (suc (suc (suc (suc (suc (suc (suc (suc (suc (suc (suc (suc (suc (suc (suc (suc (suc zero))))))))))))))))))) le lt =
    refl
flag_named (suc (suc (suc (suc (suc (suc (suc (suc (suc (suc (suc (suc (suc (suc (suc (suc (suc (suc (suc (suc zero)))))))))))))))))))) le lt = refl
flag_named (suc (suc (suc (suc (suc (suc (suc (suc (suc (suc (suc (suc (suc (suc (suc (suc (suc (suc (suc (suc (suc zero))))))))))))))))))))) le lt = refl
flag_named (suc (suc (suc (suc (suc (suc (suc (suc (suc (suc (suc (suc (suc (suc (suc (suc (suc (suc (suc (suc (suc (suc zero)))))))))))))))))))))) le lt = refl
flag_named (suc (suc (suc (suc (suc (suc (suc (suc (suc (suc (suc (suc (suc (suc (suc (suc (suc (suc (suc (suc (suc (suc (suc zero))))))))))))))))))))))) le lt = refl
flag_named (suc (suc (suc (suc (suc (suc (suc (suc (suc (suc (suc (suc (suc (suc (suc (suc (suc (suc (suc (suc (suc (suc (suc (suc zero)))))))))))))))))))))))) le lt = refl
flag_named (suc (suc (suc (suc (suc (suc (suc (suc (suc (suc (suc (suc (suc (suc (suc (suc (suc (suc (suc (suc (suc (suc (suc (suc (suc zero))))))))))))))))))))))))) le lt = refl
flag_named (suc (suc (suc (suc (suc (suc (suc (suc (suc (suc (suc (suc (suc (suc (suc (suc (suc (suc (suc (suc (suc (suc (suc (suc (suc (suc zero)))))))))))))))))))))))))) le lt = refl
flag_named (suc (suc (suc (suc (suc (suc (suc (suc (suc (suc (suc (suc (suc (suc (suc (suc (suc (suc (suc (suc (suc (suc (suc (suc (suc (suc (suc zero))))))))))))))))))))))))))) le lt = refl
flag_named (suc (suc (suc (suc (suc (suc (suc (suc (suc (suc (suc (suc (suc (suc (suc (suc (suc (suc (suc (suc (suc (suc (suc (suc (suc (suc (suc (suc zero)))))))))))))))))))))))))))) le lt = refl
flag_named (suc (suc (suc (suc (suc (suc (suc (suc (suc (suc (suc (suc (suc (suc (suc (suc (suc (suc (suc (suc (suc (suc (suc (suc (suc (suc (suc (suc (suc n))))))))))))))))))))))))))))) le lt = absurd (omega arith)

board_byte_named : (f : ℕ) (k : BoardByte) → board_byte_of_field f ≡ Some k → f ≡ board_byte_field k
board_byte_named f k =
    let P : BoardByte → Type 0 = λ x. f ≡ board_byte_field x in
    some_if P (eqb f 0) MaxShots k _ (eqb-true f 0) (some_if P (eqb f 3) StartX k _ (eqb-true f 3) (some_if P (eqb f 4) StartY k _ (eqb-true f 4) (λ e. absurd cc)))

board_flag_named : (f : ℕ) (k : BoardFlag) → board_flag_of_field f ≡ Some k → f ≡ board_flag_field k
board_flag_named f k =
    let P : BoardFlag → Type 0 = λ x. f ≡ board_flag_field x in
    some_if P (eqb f 1) Dark k _ (eqb-true f 1) (some_if P (eqb f 2) ReEnter k _ (eqb-true f 2) (λ e. absurd cc))

side_named : (f : ℕ) (k : Side) → side_of_field f ≡ Some k → f ≡ side_field k
side_named f k =
    let P : Side → Type 0 = λ x. f ≡ side_field x in
    some_if P (eqb f 6) North k _ (eqb-true f 6) (some_if P (eqb f 7) South k _ (eqb-true f 7) (some_if P (eqb f 8) West k _ (eqb-true f 8) (some_if P (eqb f 9) East k _ (eqb-true f 9) (λ e. absurd cc))))

board_text_named : (f : ℕ) (k : BoardText) → board_text_of_field f ≡ Some k → f ≡ board_text_field k
board_text_named f k =
    let P : BoardText → Type 0 = λ x. f ≡ board_text_field x in
    some_if P (eqb f 10) Name k _ (eqb-true f 10) (some_if P (eqb f 11) Message k _ (eqb-true f 11) (λ e. absurd cc))

stat_byte_named : (f : ℕ) (k : StatByte) → stat_byte_of_field f ≡ Some k → f ≡ stat_byte_field k
stat_byte_named f k =
    let P : StatByte → Type 0 = λ x. f ≡ stat_byte_field x in
    some_if P (eqb f 0) X k _ (eqb-true f 0) (some_if P (eqb f 1) Y k _ (eqb-true f 1) (some_if P (eqb f 6) P1 k _ (eqb-true f 6) (some_if P (eqb f 7) P2 k _ (eqb-true f 7) (some_if P (eqb f 11) UnderElement k _ (eqb-true f 11) (some_if P (eqb f 12) UnderColour k _ (eqb-true f 12) (λ e. absurd cc))))))

stat_number_named : (f : ℕ) (k : StatNumber) → stat_number_of_field f ≡ Some k → f ≡ stat_number_field k
stat_number_named f k =
    let P : StatNumber → Type 0 = λ x. f ≡ stat_number_field x in
    some_if P (eqb f 2) StepX k _ (eqb-true f 2) (some_if P (eqb f 3) StepY k _ (eqb-true f 3) (some_if P (eqb f 4) Cycle k _ (eqb-true f 4) (some_if P (eqb f 5) Position k _ (eqb-true f 5) (λ e. absurd cc))))

past_18 : (f : ℕ) → ltb f 16 ≡ false → eqb f 16 ≡ false → eqb f 17 ≡ false → eqb f 18 ≡ false → 19 ≤ f
past_18 f a b c d =
    let p : 16 ≤ f = ltb-false f 16 a in
    let q = eqb-false f 16 b in
    let r = eqb-false f 17 c in
    let s = eqb-false f 18 d in
    omega arith

header_value : (f : ℕ) → Completes IsHeaderSetting header_setting (λ t. f ∷ t) (header_value_at f)
unfolding header_value_at
header_value f =
    takes_kind IsHeaderSetting header_setting (λ t. f ∷ t) (header_number_of_field f) (λ k t. mapped (header.Number k) (integer_at t)) (λ t. cond (ltb f 16) (mapped (header.Key (key_of (f - 9))) (boolean_at t)) (cond (eqb f 16) (mapped header.Saved (boolean_at t)) (cond (eqb f 17) (mapped header.CurrentBoard (board_name_at t)) (cond (eqb f 18) (mapped header.WorldName (string_at t)) (cond (ltb f 29) (mapped (header.Flag (flag_of (f - 19))) (string_at t)) (Err (BadEdit Tag)))))))
    (λ k e0. takes_mapped integer_field IsHeaderSetting header_setting (λ t. f ∷ t) (header.Number k) (λ a g. g) (λ a t. ap (λ (n : ℕ). n ∷ (integer a ++ t)) (number_named f k e0)))
    (λ n0. takes_choice IsHeaderSetting header_setting (λ t. f ∷ t) (ltb f 16) (λ t. mapped (header.Key (key_of (f - 9))) (boolean_at t)) (λ t. cond (eqb f 16) (mapped header.Saved (boolean_at t)) (cond (eqb f 17) (mapped header.CurrentBoard (board_name_at t)) (cond (eqb f 18) (mapped header.WorldName (string_at t)) (cond (ltb f 29) (mapped (header.Flag (flag_of (f - 19))) (string_at t)) (Err (BadEdit Tag))))))
    (λ e1. takes_mapped boolean_field IsHeaderSetting header_setting (λ t. f ∷ t) (header.Key (key_of (f - 9))) (λ a g. g) (λ a t. ap (λ (n : ℕ). n ∷ (boolean a ++ t)) (key_named f (past_numbers f n0) (ltb-true f 16 e1))))
    (λ n1. takes_choice IsHeaderSetting header_setting (λ t. f ∷ t) (eqb f 16) (λ t. mapped header.Saved (boolean_at t)) (λ t. cond (eqb f 17) (mapped header.CurrentBoard (board_name_at t)) (cond (eqb f 18) (mapped header.WorldName (string_at t)) (cond (ltb f 29) (mapped (header.Flag (flag_of (f - 19))) (string_at t)) (Err (BadEdit Tag)))))
    (λ e2. takes_mapped boolean_field IsHeaderSetting header_setting (λ t. f ∷ t) header.Saved (λ a g. g) (λ a t. ap (λ (n : ℕ). n ∷ (boolean a ++ t)) (eqb-true f 16 e2)))
    (λ n2. takes_choice IsHeaderSetting header_setting (λ t. f ∷ t) (eqb f 17) (λ t. mapped header.CurrentBoard (board_name_at t)) (λ t. cond (eqb f 18) (mapped header.WorldName (string_at t)) (cond (ltb f 29) (mapped (header.Flag (flag_of (f - 19))) (string_at t)) (Err (BadEdit Tag))))
    (λ e3. takes_mapped board_name_field IsHeaderSetting header_setting (λ t. f ∷ t) header.CurrentBoard (λ a g. g) (λ a t. ap (λ (n : ℕ). n ∷ (board_name a ++ t)) (eqb-true f 17 e3)))
    (λ n3. takes_choice IsHeaderSetting header_setting (λ t. f ∷ t) (eqb f 18) (λ t. mapped header.WorldName (string_at t)) (λ t. cond (ltb f 29) (mapped (header.Flag (flag_of (f - 19))) (string_at t)) (Err (BadEdit Tag)))
    (λ e4. takes_mapped string_field IsHeaderSetting header_setting (λ t. f ∷ t) header.WorldName (λ a g. g) (λ a t. ap (λ (n : ℕ). n ∷ (string a ++ t)) (eqb-true f 18 e4)))
    (λ n4. takes_choice IsHeaderSetting header_setting (λ t. f ∷ t) (ltb f 29) (λ t. mapped (header.Flag (flag_of (f - 19))) (string_at t)) (λ t. Err (BadEdit Tag))
    (λ e5. takes_mapped string_field IsHeaderSetting header_setting (λ t. f ∷ t) (header.Flag (flag_of (f - 19))) (λ a g. g) (λ a t. ap (λ (n : ℕ). n ∷ (string a ++ t)) (flag_named f (past_18 f n1 n2 n3 n4) (ltb-true f 29 e5))))
    (λ n5. takes_none IsHeaderSetting header_setting (λ t. f ∷ t) (BadEdit Tag)))))))

-- a register of a board of a version has the size of its field
abbrev pub IsPropertyIn : ℕ → BoardSetting → Type 0
IsPropertyIn v s = IsBoardSetting s × IsPropertyOf v s

board_value : (v f : ℕ) → Completes (IsPropertyIn v) board_setting (λ t. f ∷ t) (board_value_at v f)
unfolding board_value_at
board_value v f =
    takes_kind (IsPropertyIn v) board_setting (λ t. f ∷ t) (board_byte_of_field f) (λ k t. mapped (board.Byte k) (byte_at t)) (λ t. by_kind (board_flag_of_field f) (λ k. mapped (board.Flag k) (boolean_at t)) (by_kind (side_of_field f) (λ k. mapped (board.Exit k) (optional_at board_name_at t)) (by_kind (board_text_of_field f) (λ k. mapped (board.Text k) (string_at t)) (cond (eqb f 5) (mapped board.TimeLimit (integer_at t)) (cond (eqb f 12 && leb 2 v) (mapped board.Rank (number_at 2 t)) (Err (BadEdit Tag)))))))
    (λ k e0. takes_mapped byte_field (IsPropertyIn v) board_setting (λ t. f ∷ t) (board.Byte k) (λ a g. (g, tt)) (λ a t. ap (λ (n : ℕ). n ∷ ((a ∷ []) ++ t)) (board_byte_named f k e0)))
    (λ n0. takes_kind (IsPropertyIn v) board_setting (λ t. f ∷ t) (board_flag_of_field f) (λ k t. mapped (board.Flag k) (boolean_at t)) (λ t. by_kind (side_of_field f) (λ k. mapped (board.Exit k) (optional_at board_name_at t)) (by_kind (board_text_of_field f) (λ k. mapped (board.Text k) (string_at t)) (cond (eqb f 5) (mapped board.TimeLimit (integer_at t)) (cond (eqb f 12 && leb 2 v) (mapped board.Rank (number_at 2 t)) (Err (BadEdit Tag))))))
    (λ k e1. takes_mapped boolean_field (IsPropertyIn v) board_setting (λ t. f ∷ t) (board.Flag k) (λ a g. (g, tt)) (λ a t. ap (λ (n : ℕ). n ∷ (boolean a ++ t)) (board_flag_named f k e1)))
    (λ n1. takes_kind (IsPropertyIn v) board_setting (λ t. f ∷ t) (side_of_field f) (λ k t. mapped (board.Exit k) (optional_at board_name_at t)) (λ t. by_kind (board_text_of_field f) (λ k. mapped (board.Text k) (string_at t)) (cond (eqb f 5) (mapped board.TimeLimit (integer_at t)) (cond (eqb f 12 && leb 2 v) (mapped board.Rank (number_at 2 t)) (Err (BadEdit Tag)))))
    (λ k e2. takes_mapped (optional_field board_name_field) (IsPropertyIn v) board_setting (λ t. f ∷ t) (board.Exit k) (λ a g. (g, tt)) (λ a t. ap (λ (n : ℕ). n ∷ (optional board_name a ++ t)) (side_named f k e2)))
    (λ n2. takes_kind (IsPropertyIn v) board_setting (λ t. f ∷ t) (board_text_of_field f) (λ k t. mapped (board.Text k) (string_at t)) (λ t. cond (eqb f 5) (mapped board.TimeLimit (integer_at t)) (cond (eqb f 12 && leb 2 v) (mapped board.Rank (number_at 2 t)) (Err (BadEdit Tag))))
    (λ k e3. takes_mapped string_field (IsPropertyIn v) board_setting (λ t. f ∷ t) (board.Text k) (λ a g. (g, tt)) (λ a t. ap (λ (n : ℕ). n ∷ (string a ++ t)) (board_text_named f k e3)))
    (λ n3. takes_choice (IsPropertyIn v) board_setting (λ t. f ∷ t) (eqb f 5) (λ t. mapped board.TimeLimit (integer_at t)) (λ t. cond (eqb f 12 && leb 2 v) (mapped board.Rank (number_at 2 t)) (Err (BadEdit Tag)))
    (λ e4. takes_mapped integer_field (IsPropertyIn v) board_setting (λ t. f ∷ t) board.TimeLimit (λ a g. (g, tt)) (λ a t. ap (λ (n : ℕ). n ∷ (integer a ++ t)) (eqb-true f 5 e4)))
    (λ n4. takes_choice (IsPropertyIn v) board_setting (λ t. f ∷ t) (eqb f 12 && leb 2 v) (λ t. mapped board.Rank (number_at 2 t)) (λ t. Err (BadEdit Tag))
    (λ e5. let both = and_parts (eqb f 12) (leb 2 v) e5 in takes_mapped (number_field 2) (IsPropertyIn v) board_setting (λ t. f ∷ t) board.Rank (λ a g. (g, leb-true 2 v both.1)) (λ a t. ap (λ (n : ℕ). n ∷ (number 2 a ++ t)) (eqb-true f 12 both.0)))
    (λ n5. takes_none (IsPropertyIn v) board_setting (λ t. f ∷ t) (BadEdit Tag)))))))

stat_value : (f : ℕ) → Completes IsStatSetting stat_setting (λ t. f ∷ t) (stat_value_at f)
unfolding stat_value_at
stat_value f =
    takes_kind IsStatSetting stat_setting (λ t. f ∷ t) (stat_byte_of_field f) (λ k t. mapped (stat.Byte k) (byte_at t)) (λ t. by_kind (stat_number_of_field f) (λ k. mapped (stat.Number k) (integer_at t)) (cond (eqb f 8) (mapped stat.P3 (third_parameter_at t)) (cond (eqb f 9) (mapped stat.Follower (optional_at stat_name_at t)) (cond (eqb f 10) (mapped stat.Leader (optional_at stat_name_at t)) (cond (eqb f 13) (mapped stat.Text (optional_at text_name_at t)) (Err (BadEdit Tag)))))))
    (λ k e0. takes_mapped byte_field IsStatSetting stat_setting (λ t. f ∷ t) (stat.Byte k) (λ a g. g) (λ a t. ap (λ (n : ℕ). n ∷ ((a ∷ []) ++ t)) (stat_byte_named f k e0)))
    (λ n0. takes_kind IsStatSetting stat_setting (λ t. f ∷ t) (stat_number_of_field f) (λ k t. mapped (stat.Number k) (integer_at t)) (λ t. cond (eqb f 8) (mapped stat.P3 (third_parameter_at t)) (cond (eqb f 9) (mapped stat.Follower (optional_at stat_name_at t)) (cond (eqb f 10) (mapped stat.Leader (optional_at stat_name_at t)) (cond (eqb f 13) (mapped stat.Text (optional_at text_name_at t)) (Err (BadEdit Tag))))))
    (λ k e1. takes_mapped integer_field IsStatSetting stat_setting (λ t. f ∷ t) (stat.Number k) (λ a g. g) (λ a t. ap (λ (n : ℕ). n ∷ (integer a ++ t)) (stat_number_named f k e1)))
    (λ n1. takes_choice IsStatSetting stat_setting (λ t. f ∷ t) (eqb f 8) (λ t. mapped stat.P3 (third_parameter_at t)) (λ t. cond (eqb f 9) (mapped stat.Follower (optional_at stat_name_at t)) (cond (eqb f 10) (mapped stat.Leader (optional_at stat_name_at t)) (cond (eqb f 13) (mapped stat.Text (optional_at text_name_at t)) (Err (BadEdit Tag)))))
    (λ e2. takes_mapped third_parameter_field IsStatSetting stat_setting (λ t. f ∷ t) stat.P3 (λ a g. g) (λ a t. ap (λ (n : ℕ). n ∷ (third_parameter a ++ t)) (eqb-true f 8 e2)))
    (λ n2. takes_choice IsStatSetting stat_setting (λ t. f ∷ t) (eqb f 9) (λ t. mapped stat.Follower (optional_at stat_name_at t)) (λ t. cond (eqb f 10) (mapped stat.Leader (optional_at stat_name_at t)) (cond (eqb f 13) (mapped stat.Text (optional_at text_name_at t)) (Err (BadEdit Tag))))
    (λ e3. takes_mapped (optional_field stat_name_field) IsStatSetting stat_setting (λ t. f ∷ t) stat.Follower (λ a g. g) (λ a t. ap (λ (n : ℕ). n ∷ (optional stat_name a ++ t)) (eqb-true f 9 e3)))
    (λ n3. takes_choice IsStatSetting stat_setting (λ t. f ∷ t) (eqb f 10) (λ t. mapped stat.Leader (optional_at stat_name_at t)) (λ t. cond (eqb f 13) (mapped stat.Text (optional_at text_name_at t)) (Err (BadEdit Tag)))
    (λ e4. takes_mapped (optional_field stat_name_field) IsStatSetting stat_setting (λ t. f ∷ t) stat.Leader (λ a g. g) (λ a t. ap (λ (n : ℕ). n ∷ (optional stat_name a ++ t)) (eqb-true f 10 e4)))
    (λ n4. takes_choice IsStatSetting stat_setting (λ t. f ∷ t) (eqb f 13) (λ t. mapped stat.Text (optional_at text_name_at t)) (λ t. Err (BadEdit Tag))
    (λ e5. takes_mapped (optional_field text_name_field) IsStatSetting stat_setting (λ t. f ∷ t) stat.Text (λ a g. g) (λ a t. ap (λ (n : ℕ). n ∷ (optional text_name a ++ t)) (eqb-true f 13 e5)))
    (λ n5. takes_none IsStatSetting stat_setting (λ t. f ∷ t) (BadEdit Tag)))))))

header_completes : Completes IsHeaderSetting header_setting (λ t. t) header_setting_at
unfolding header_setting_at
header_completes = takes_then byte_field IsHeaderSetting header_setting (λ t. t) (λ f. header_value_at f.0 f.1) (λ f gf. header_value f)

board_completes : (v : ℕ) → Completes (IsPropertyIn v) board_setting (λ t. t) (board_setting_at v)
unfolding board_setting_at
board_completes v = takes_then byte_field (IsPropertyIn v) board_setting (λ t. t) (λ f. board_value_at v f.0 f.1) (λ f gf. board_value v f)

stat_completes : Completes IsStatSetting stat_setting (λ t. t) stat_setting_at
unfolding stat_setting_at
stat_completes = takes_then byte_field IsStatSetting stat_setting (λ t. t) (λ f. stat_value_at f.0 f.1) (λ f gf. stat_value f)

header_again : (s : HeaderSetting) (rest : List ℕ) → IsHeaderSetting s → header_setting_at (header_setting s ++ rest) ≡ Ok (s, rest)
unfolding header_setting_at header_value_at byte_at
header_again (header.Number Ammo n) rest g = again_mapped integer_field (header.Number Ammo) rest n g
header_again (header.Number Gems n) rest g = again_mapped integer_field (header.Number Gems) rest n g
header_again (header.Number Health n) rest g = again_mapped integer_field (header.Number Health) rest n g
header_again (header.Number Torches n) rest g = again_mapped integer_field (header.Number Torches) rest n g
header_again (header.Number TorchTicks n) rest g = again_mapped integer_field (header.Number TorchTicks) rest n g
header_again (header.Number EnergizerTicks n) rest g = again_mapped integer_field (header.Number EnergizerTicks) rest n g
header_again (header.Number Score n) rest g = again_mapped integer_field (header.Number Score) rest n g
header_again (header.Number TimePassed n) rest g = again_mapped integer_field (header.Number TimePassed) rest n g
header_again (header.Number Hundredths n) rest g = again_mapped integer_field (header.Number Hundredths) rest n g
header_again (header.Key Blue b) rest g = again_mapped boolean_field (header.Key Blue) rest b tt
header_again (header.Key Green b) rest g = again_mapped boolean_field (header.Key Green) rest b tt
header_again (header.Key Cyan b) rest g = again_mapped boolean_field (header.Key Cyan) rest b tt
header_again (header.Key Red b) rest g = again_mapped boolean_field (header.Key Red) rest b tt
header_again (header.Key Purple b) rest g = again_mapped boolean_field (header.Key Purple) rest b tt
header_again (header.Key Yellow b) rest g = again_mapped boolean_field (header.Key Yellow) rest b tt
header_again (header.Key White b) rest g = again_mapped boolean_field (header.Key White) rest b tt
header_again (header.Saved b) rest g = again_mapped boolean_field header.Saved rest b tt
header_again (header.CurrentBoard b) rest g = again_mapped board_name_field header.CurrentBoard rest b g
header_again (header.WorldName w) rest g = again_mapped string_field header.WorldName rest w g
header_again (header.Flag First w) rest g = again_mapped string_field (header.Flag First) rest w g
header_again (header.Flag Second w) rest g = again_mapped string_field (header.Flag Second) rest w g
header_again (header.Flag Third w) rest g = again_mapped string_field (header.Flag Third) rest w g
header_again (header.Flag Fourth w) rest g = again_mapped string_field (header.Flag Fourth) rest w g
header_again (header.Flag Fifth w) rest g = again_mapped string_field (header.Flag Fifth) rest w g
header_again (header.Flag Sixth w) rest g = again_mapped string_field (header.Flag Sixth) rest w g
header_again (header.Flag Seventh w) rest g = again_mapped string_field (header.Flag Seventh) rest w g
header_again (header.Flag Eighth w) rest g = again_mapped string_field (header.Flag Eighth) rest w g
header_again (header.Flag Ninth w) rest g = again_mapped string_field (header.Flag Ninth) rest w g
header_again (header.Flag Tenth w) rest g = again_mapped string_field (header.Flag Tenth) rest w g

pub header_setting_field : IsField IsHeaderSetting header_setting header_setting_at
header_setting_field = record { again = header_again; takes = takes_all IsHeaderSetting header_setting header_setting_at header_completes }

board_again : (v : ℕ) (s : BoardSetting) (rest : List ℕ) → IsPropertyIn v s → board_setting_at v (board_setting s ++ rest) ≡ Ok (s, rest)
unfolding board_setting_at board_value_at byte_at
board_again v (board.Byte MaxShots n) rest g = again_mapped byte_field (board.Byte MaxShots) rest n g.0
board_again v (board.Byte StartX n) rest g = again_mapped byte_field (board.Byte StartX) rest n g.0
board_again v (board.Byte StartY n) rest g = again_mapped byte_field (board.Byte StartY) rest n g.0
board_again v (board.Flag Dark b) rest g = again_mapped boolean_field (board.Flag Dark) rest b tt
board_again v (board.Flag ReEnter b) rest g = again_mapped boolean_field (board.Flag ReEnter) rest b tt
board_again v (board.TimeLimit n) rest g = again_mapped integer_field board.TimeLimit rest n g.0
board_again v (board.Exit North b) rest g = again_mapped (optional_field board_name_field) (board.Exit North) rest b g.0
board_again v (board.Exit South b) rest g = again_mapped (optional_field board_name_field) (board.Exit South) rest b g.0
board_again v (board.Exit West b) rest g = again_mapped (optional_field board_name_field) (board.Exit West) rest b g.0
board_again v (board.Exit East b) rest g = again_mapped (optional_field board_name_field) (board.Exit East) rest b g.0
board_again v (board.Text Name w) rest g = again_mapped string_field (board.Text Name) rest w g.0
board_again v (board.Text Message w) rest g = again_mapped string_field (board.Text Message) rest w g.0
board_again v (board.Rank n) rest g =
    let t : leb 2 v ≡ true = le-leb 2 v g.1 in
    rw t (again_mapped (number_field 2) board.Rank rest n g.0)

pub board_setting_field : (v : ℕ) → IsField (IsPropertyIn v) board_setting (board_setting_at v)
board_setting_field v =
    record { again = board_again v; takes = takes_all (IsPropertyIn v) board_setting (board_setting_at v) (board_completes v) }

stat_again : (s : StatSetting) (rest : List ℕ) → IsStatSetting s → stat_setting_at (stat_setting s ++ rest) ≡ Ok (s, rest)
unfolding stat_setting_at stat_value_at byte_at
stat_again (stat.Byte X n) rest g = again_mapped byte_field (stat.Byte X) rest n g
stat_again (stat.Byte Y n) rest g = again_mapped byte_field (stat.Byte Y) rest n g
stat_again (stat.Byte P1 n) rest g = again_mapped byte_field (stat.Byte P1) rest n g
stat_again (stat.Byte P2 n) rest g = again_mapped byte_field (stat.Byte P2) rest n g
stat_again (stat.Byte UnderElement n) rest g = again_mapped byte_field (stat.Byte UnderElement) rest n g
stat_again (stat.Byte UnderColour n) rest g = again_mapped byte_field (stat.Byte UnderColour) rest n g
stat_again (stat.Number StepX n) rest g = again_mapped integer_field (stat.Number StepX) rest n g
stat_again (stat.Number StepY n) rest g = again_mapped integer_field (stat.Number StepY) rest n g
stat_again (stat.Number Cycle n) rest g = again_mapped integer_field (stat.Number Cycle) rest n g
stat_again (stat.Number Position n) rest g = again_mapped integer_field (stat.Number Position) rest n g
stat_again (stat.P3 p) rest g = again_mapped third_parameter_field stat.P3 rest p g
stat_again (stat.Follower s) rest g = again_mapped (optional_field stat_name_field) stat.Follower rest s g
stat_again (stat.Leader s) rest g = again_mapped (optional_field stat_name_field) stat.Leader rest s g
stat_again (stat.Text t) rest g = again_mapped (optional_field text_name_field) stat.Text rest t g

pub stat_setting_field : IsField IsStatSetting stat_setting stat_setting_at
stat_setting_field = record { again = stat_again; takes = takes_all IsStatSetting stat_setting stat_setting_at stat_completes }

-- ---- what a new stat is given

-- the fields of a new stat in the order in which they stand, with something behind them
abbrev behind_fields : ℕ → ℕ → ℤ → ℤ → ℤ → ℕ → ℕ → ThirdParameter → Tile → Option TextId → List ℕ → List ℕ
behind_fields x y a b c p q r u o t = x ∷ y ∷ (integer a ++ (integer b ++ (integer c ++ (p ∷ q ∷ (third_parameter r ++ (u.element ∷ u.colour ∷ (optional text_name o ++ t)))))))

abbrev made : ℕ → ℕ → ℤ → ℤ → ℤ → ℕ → ℕ → ThirdParameter → Tile → Option TextId → StatFields
made x y a b c p q r u o = fields_of (x ∷ y ∷ p ∷ q ∷ []) u (a ∷ b ∷ c ∷ []) r o

regroup : (a b c d e f g h t : List ℕ)
    → (((((a ++ (b ++ (c ++ (d ++ [])))) ++ e) ++ f) ++ g) ++ h) ++ t ≡ a ++ (b ++ (c ++ (d ++ (e ++ (f ++ (g ++ (h ++ t)))))))
regroup a b c d e f g h t = simp (append_assoc, append-nil) refl

fields_are : (x y : ℕ) (a b c : ℤ) (p q : ℕ) (r : ThirdParameter) (u : Tile) (o : Option TextId) (t : List ℕ)
    → stat_fields (made x y a b c p q r u o) ++ t ≡ behind_fields x y a b c p q r u o t
fields_are x y a b c p q r u o t = regroup (x ∷ y ∷ []) (integer a) (integer b) (integer c) (p ∷ q ∷ []) (third_parameter r) (u.element ∷ u.colour ∷ []) (optional text_name o) t

fields_complete : Completes IsStatFields stat_fields (λ t. t) stat_fields_at
unfolding stat_fields_at
fields_complete =
    takes_then byte_field IsStatFields stat_fields (λ t. t) _
    (λ x gx. takes_then byte_field IsStatFields stat_fields (λ t. x ∷ t) _
    (λ y gy. takes_then integer_field IsStatFields stat_fields (λ t. x ∷ y ∷ t) _
    (λ a ga. takes_then integer_field IsStatFields stat_fields (λ t. x ∷ y ∷ (integer a ++ t)) _
    (λ b gb. takes_then integer_field IsStatFields stat_fields (λ t. x ∷ y ∷ (integer a ++ (integer b ++ t))) _
    (λ c gc. takes_then byte_field IsStatFields stat_fields (λ t. x ∷ y ∷ (integer a ++ (integer b ++ (integer c ++ t)))) _
    (λ p gp. takes_then byte_field IsStatFields stat_fields (λ t. x ∷ y ∷ (integer a ++ (integer b ++ (integer c ++ (p ∷ t))))) _
    (λ q gq. takes_then third_parameter_field IsStatFields stat_fields (λ t. x ∷ y ∷ (integer a ++ (integer b ++ (integer c ++ (p ∷ q ∷ t))))) _
    (λ r gr. takes_then tile_field IsStatFields stat_fields (λ t. x ∷ y ∷ (integer a ++ (integer b ++ (integer c ++ (p ∷ q ∷ (third_parameter r ++ t)))))) _
    (λ u gu. takes_then (optional_field text_name_field) IsStatFields stat_fields (λ t. x ∷ y ∷ (integer a ++ (integer b ++ (integer c ++ (p ∷ q ∷ (third_parameter r ++ (u.element ∷ u.colour ∷ t))))))) _
    (λ o go. takes_end IsStatFields stat_fields (λ t. behind_fields x y a b c p q r u o t) (made x y a b c p q r u o)
    (record { all_bytes = refl; bytes = (gx, (gy, (gp, (gq, (gu.0, (gu.1, tt)))))); all_numbers = refl; numbers = (ga, (gb, (gc, tt))); p3 = gr; text = go })
    (λ t. sym (fields_are x y a b c p q r u o t))))))))))))

-- a list of so many and one more begins with one
uncons : {A : Type 0} (n : ℕ) (xs : List A) → length xs ≡ suc n → (x : A) × (ys : List A) × (xs ≡ x ∷ ys) × (length ys ≡ n)
uncons n [] e = absurd (omega arith)
uncons n (x ∷ ys) e = (x, ys, refl, omega arith)

empty : {A : Type 0} (xs : List A) → length xs ≡ 0 → xs ≡ []
empty [] e = refl
empty (x ∷ xs) e = absurd (omega arith)

six : (bs : List ℕ) → length bs ≡ 6 → (x y p q e k : ℕ) × (bs ≡ x ∷ y ∷ p ∷ q ∷ e ∷ k ∷ [])
six bs h =
    let a = uncons 5 bs h in
    let b = uncons 4 a.1 a.3 in
    let c = uncons 3 b.1 b.3 in
    let d = uncons 2 c.1 c.3 in
    let e = uncons 1 d.1 d.3 in
    let g = uncons 0 e.1 e.3 in
    let none : g.1 ≡ [] = empty g.1 g.3 in
    (a.0, b.0, c.0, d.0, e.0, g.0, cc (a.2, b.2, c.2, d.2, e.2, g.2, none))

three : (ns : List ℤ) → length ns ≡ 3 → (x y z : ℤ) × (ns ≡ x ∷ y ∷ z ∷ [])
three ns h =
    let a = uncons 2 ns h in
    let b = uncons 1 a.1 a.3 in
    let c = uncons 0 b.1 b.3 in
    let none : c.1 ≡ [] = empty c.1 c.3 in
    (a.0, b.0, c.0, cc (a.2, b.2, c.2, none))

made_again : (x y : ℕ) (a b c : ℤ) (p q : ℕ) (r : ThirdParameter) (u : Tile) (o : Option TextId) (rest : List ℕ)
    → IsStatFields (made x y a b c p q r u o)
    → stat_fields_at (stat_fields (made x y a b c p q r u o) ++ rest) ≡ Ok (made x y a b c p q r u o, rest)
unfolding stat_fields_at
made_again x y a b c p q r u o rest g =
    let f : Field StatFields = Ok (made x y a b c p q r u o, rest) in
    let h = g.bytes in
    let n = g.numbers in
    ap stat_fields_at (fields_are x y a b c p q r u o rest)
    ∙ again_then byte_field _ _ f x h.0 (again_then byte_field _ _ f y h.1.0 (again_then integer_field _ _ f a n.0 (again_then integer_field _ _ f b n.1.0 (again_then integer_field _ _ f c n.1.1.0
    (again_then byte_field _ _ f p h.1.1.0 (again_then byte_field _ _ f q h.1.1.1.0 (again_then third_parameter_field _ _ f r g.p3 (again_then tile_field _ _ f u (h.1.1.1.1.0, h.1.1.1.1.1.0) (again_then (optional_field text_name_field) _ rest f o g.text refl)))))))))

-- what a new stat is given, of all its parts
abbrev whole : List ℕ → List ℤ → ThirdParameter → Option TextId → StatFields
whole bytes numbers p3 text = record { bytes = bytes; numbers = numbers; p3 = p3; text = text }

same_whole : (bs cs : List ℕ) (ns ms : List ℤ) (r : ThirdParameter) (o : Option TextId) → bs ≡ cs → ns ≡ ms
    → whole cs ms r o ≡ whole bs ns r o
same_whole bs cs ns ms r o e h = rw (e, h) refl

fields_again : (f : StatFields) (rest : List ℕ) → IsStatFields f → stat_fields_at (stat_fields f ++ rest) ≡ Ok (f, rest)
fields_again f rest g =
    let b = six f.bytes g.all_bytes in
    let n = three f.numbers g.all_numbers in
    let u : Tile = record { element = b.4; colour = b.5 } in
    let same = same_whole f.bytes (b.0 ∷ b.1 ∷ b.2 ∷ b.3 ∷ b.4 ∷ b.5 ∷ []) f.numbers (n.0 ∷ n.1 ∷ n.2 ∷ []) f.p3 f.text b.6 n.3 in
    let P : StatFields → Type 0 = λ x. IsStatFields x → stat_fields_at (stat_fields x ++ rest) ≡ Ok (x, rest) in
    subst P same (made_again b.0 b.1 n.0 n.1 n.2 b.2 b.3 f.p3 u f.text rest) g

pub stat_fields_field : IsField IsStatFields stat_fields stat_fields_at
stat_fields_field = record { again = fields_again; takes = takes_all IsStatFields stat_fields stat_fields_at fields_complete }
