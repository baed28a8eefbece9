-- Properties that have the latest writes show those of the board in the replay.
use Rattle.std.proofs.Common.{◌≡◌, ◌∙◌, ◌<◌, ℕ, ℤ, pos, zero, suc, Bool, false, List, [], get_or, Option, Some, None, ap, sym, arith}
use Rattle.std.proofs.Math.ListN.{get_or-map}
use Rattle.std.proofs.lemmas.List.{length-map}
use Rattle.std.specs.Option.{option_map}
use Rattle.zed_types.specs.declared.written.Written.{Written}
use Rattle.zed_types.specs.declared.names.BoardId.{BoardId}
use Rattle.zed_types.specs.declared.property.Side.{Side}
use Rattle.zed_types.specs.declared.property.Side.TheVariants.{North, South, West, East}
use Rattle.zed_types.specs.declared.property.BoardByte.{BoardByte}
use Rattle.zed_types.specs.declared.property.BoardByte.TheVariants.{MaxShots, StartX, StartY}
use Rattle.zed_types.specs.declared.property.BoardFlag.{BoardFlag}
use Rattle.zed_types.specs.declared.property.BoardFlag.TheVariants.{Dark, ReEnter}
use Rattle.zed_types.specs.declared.property.BoardText.{BoardText}
use Rattle.zed_types.specs.declared.property.BoardText.TheVariants.{Name, Message}
use Rattle.zed_types.specs.Names.{same_board}
use Rattle.zed_types.specs.Board.{board_byte_index, board_flag_index, side_index, board_text_index}
use Rattle.zed_types.specs.Register.{value_or}
use Rattle.zed_op.specs.declared.op.Edit.{Edit}
use Rattle.zed_op.specs.Set.{IsRising}
use Rattle.zed_op.specs.Sizes.{HaveSizes}
use Rattle.zed_edit.specs.declared.plain.Properties.{Properties}
use Rattle.zed_edit.specs.declared.plain.Board.{Board}
use Rattle.zed_edit.specs.Replay.{replay, taken}
use Rattle.zed_laws.proofs.RegularSteps.{ReadIsNormal}
use Rattle.zed_laws.specs.Fields.{Field, board_byte, board_flag, time_limit, rank, exit, board_text}
use Rattle.zed_laws.specs.Winners.{GreatestStampWins, of_board, find_board, latest_or}
use Rattle.zed_laws.specs.Whole.{IsWholeBoard}
use Rattle.zed_laws.proofs.BoardFields.{is_byte, is_flag, is_time_limit, is_rank, is_exit, is_text, board-wins}
use Rattle.zed_laws.proofs.Found.{found-holds}
use Rattle.zed_laws.proofs.WholeSteps.{replay_whole}
use Rattle.zed_cells.specs.Writes.{register}
use Rattle.zed_live.specs.declared.properties.LiveProperties.{LiveProperties}
use Rattle.zed_live.specs.Shows.{latest_in}
use Rattle.zed_live.specs.Properties.{PropertiesShow}
use Rattle.zed_live.specs.Shown.{values_or, shown_properties, ReplayedPropertiesAreShown}
use Rattle.zed_live.proofs.Shown.{same-each, inside}

-- each place of a table is that of one of its registers
each-byte : (P : ℕ → Type 0) → ((f : BoardByte) → P (board_byte_index f)) → (i : ℕ) → i < 3 → P i
each-byte P all zero h = all MaxShots
each-byte P all (suc zero) h = all StartX
each-byte P all (suc (suc zero)) h = all StartY
each-byte P all (suc (suc (suc i))) h = absurd (omega arith)

each-flag : (P : ℕ → Type 0) → ((f : BoardFlag) → P (board_flag_index f)) → (i : ℕ) → i < 2 → P i
each-flag P all zero h = all Dark
each-flag P all (suc zero) h = all ReEnter
each-flag P all (suc (suc i)) h = absurd (omega arith)

each-side : (P : ℕ → Type 0) → ((f : Side) → P (side_index f)) → (i : ℕ) → i < 4 → P i
each-side P all zero h = all North
each-side P all (suc zero) h = all South
each-side P all (suc (suc zero)) h = all West
each-side P all (suc (suc (suc zero))) h = all East
each-side P all (suc (suc (suc (suc i)))) h = absurd (omega arith)

each-text : (P : ℕ → Type 0) → ((f : BoardText) → P (board_text_index f)) → (i : ℕ) → i < 2 → P i
each-text P all zero h = all Name
each-text P all (suc zero) h = all Message
each-text P all (suc (suc i)) h = absurd (omega arith)

-- the value of a latest write that there is
pub latest-value : {V : Type 0} (d v : V) (o : Option (Written V)) → Some v ≡ latest_or None o → value_or d o ≡ v
latest-value d v None e = absurd (cc)
latest-value d v (Some w) e = inside w.value v (sym e)

module _ (normal : ReadIsNormal) (b : BoardId) (es : List Edit) (board : Board) (rises : IsRising es) (sizes : HaveSizes es) (there : find_board b (replay es).boards ≡ Some board) where
  -- the latest write of a field is what the board in the replay has
  pub field-shown : {V : Type 0} (f : Field Board V) (d : V) (kept : Option (Written V)) → GreatestStampWins (of_board b f)
      → kept ≡ latest_in (of_board b f) (taken es)
      → value_or d kept ≡ f.value board
  field-shown f d kept wins was =
      latest-value d (f.value board) kept
      (sym (ap (option_map f.value) there) ∙ wins es rises sizes ∙ ap (latest_or None) (sym was))

  pub is_whole : IsWholeBoard board
  is_whole = found-holds IsWholeBoard (λ x. same_board x.id b) (replay es).boards (replay_whole normal es sizes).boards board there

  module _ (p : LiveProperties) (was : PropertiesShow b (taken es) p) where
    bytes-shown : values_or 0 p.bytes ≡ board.properties.bytes
    bytes-shown =
        let size = length-map p.bytes (value_or 0) in
        same-each 0 (values_or 0 p.bytes) board.properties.bytes (size ∙ was.three ∙ sym is_whole.bytes)
        (λ i l. each-byte (λ j. get_or (values_or 0 p.bytes) j 0 ≡ get_or board.properties.bytes j 0)
        (λ f. get_or-map (value_or 0) p.bytes (board_byte_index f) None
        ∙ field-shown (board_byte f) 0 (register (board_byte_index f) p.bytes) (board-wins (board_byte f) (is_byte f) b normal) (was.bytes f))
        i (omega (arith, l, size, was.three)))

    flags-shown : values_or false p.flags ≡ board.properties.flags
    flags-shown =
        let size = length-map p.flags (value_or false) in
        same-each false (values_or false p.flags) board.properties.flags (size ∙ was.two_flags ∙ sym is_whole.flags)
        (λ i l. each-flag (λ j. get_or (values_or false p.flags) j false ≡ get_or board.properties.flags j false)
        (λ f. get_or-map (value_or false) p.flags (board_flag_index f) None
        ∙ field-shown (board_flag f) false (register (board_flag_index f) p.flags) (board-wins (board_flag f) (is_flag f) b normal) (was.flags f))
        i (omega (arith, l, size, was.two_flags)))

    exits-shown : values_or None p.exits ≡ board.properties.exits
    exits-shown =
        let size = length-map p.exits (value_or None) in
        same-each None (values_or None p.exits) board.properties.exits (size ∙ was.four ∙ sym is_whole.exits)
        (λ i l. each-side (λ j. get_or (values_or None p.exits) j None ≡ get_or board.properties.exits j None)
        (λ f. get_or-map (value_or None) p.exits (side_index f) None
        ∙ field-shown (exit f) None (register (side_index f) p.exits) (board-wins (exit f) (is_exit f) b normal) (was.exits f))
        i (omega (arith, l, size, was.four)))

    texts-shown : values_or [] p.texts ≡ board.properties.texts
    texts-shown =
        let size = length-map p.texts (value_or []) in
        same-each [] (values_or [] p.texts) board.properties.texts (size ∙ was.two_texts ∙ sym is_whole.texts)
        (λ i l. each-text (λ j. get_or (values_or [] p.texts) j [] ≡ get_or board.properties.texts j [])
        (λ f. get_or-map (value_or []) p.texts (board_text_index f) None
        ∙ field-shown (board_text f) [] (register (board_text_index f) p.texts) (board-wins (board_text f) (is_text f) b normal) (was.texts f))
        i (omega (arith, l, size, was.two_texts)))

abbrev make : List ℕ → List Bool → ℤ → ℕ → List (Option BoardId) → List (List ℕ) → Properties
make n f t k e s = record { bytes = n; flags = f; time_limit = t; rank = k; exits = e; texts = s }

pub replayed_properties_are_shown : ReadIsNormal → ReplayedPropertiesAreShown
replayed_properties_are_shown normal b es p board rises sizes there was =
    let r = board.properties in
    let a = shown_properties p in
    let limit : a.time_limit ≡ r.time_limit = field-shown normal b es board rises sizes there time_limit (pos 0) p.time_limit (board-wins time_limit is_time_limit b normal) was.time_limit in
    let level : a.rank ≡ r.rank =
    field-shown normal b es board rises sizes there rank 0 p.rank (board-wins rank is_rank b normal) was.rank in
    let path : make a.bytes a.flags a.time_limit a.rank a.exits a.texts ≡ make r.bytes r.flags r.time_limit r.rank r.exits r.texts =
    ap (λ x. make x a.flags a.time_limit a.rank a.exits a.texts) (bytes-shown normal b es board rises sizes there p was)
    ∙ ap (λ x. make r.bytes x a.time_limit a.rank a.exits a.texts) (flags-shown normal b es board rises sizes there p was)
    ∙ ap (λ x. make r.bytes r.flags x a.rank a.exits a.texts) limit
    ∙ ap (λ x. make r.bytes r.flags r.time_limit x a.exits a.texts) level
    ∙ ap (λ x. make r.bytes r.flags r.time_limit r.rank x a.texts) (exits-shown normal b es board rises sizes there p was)
    ∙ ap (λ x. make r.bytes r.flags r.time_limit r.rank r.exits x) (texts-shown normal b es board rises sizes there p was) in
    path
