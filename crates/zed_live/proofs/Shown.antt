-- A header that has the latest writes shows the one of the replay.
use Rattle.std.proofs.Common.{◌≡◌, ◌∙◌, ◌<◌, ℕ, ℤ, pos, zero, suc, Bool, false, List, [], ◌∷◌, length, get_or, replicate, Option, Some, None, refl, ap, sym, arith}
use Rattle.std.proofs.Math.ListN.{get_or-map}
use Rattle.std.proofs.lemmas.List.{length-map}
use Rattle.zed_types.specs.declared.written.Written.{Written}
use Rattle.zed_types.specs.declared.names.BoardId.{BoardId}
use Rattle.zed_types.specs.declared.header.HeaderNumber.{HeaderNumber}
use Rattle.zed_types.specs.declared.header.HeaderNumber.TheVariants.{Ammo, Gems, Health, Torches, TorchTicks, EnergizerTicks, Score, TimePassed, Hundredths}
use Rattle.zed_types.specs.declared.header.KeyColour.{KeyColour}
use Rattle.zed_types.specs.declared.header.KeyColour.TheVariants.{Blue, Green, Cyan, Red, Purple, Yellow, White}
use Rattle.zed_types.specs.declared.header.FlagSlot.{FlagSlot}
use Rattle.zed_types.specs.declared.header.FlagSlot.TheVariants.{First, Second, Third, Fourth, Fifth, Sixth, Seventh, Eighth, Ninth, Tenth}
use Rattle.zed_types.specs.Header.{header_number_index, key_index, flag_index}
use Rattle.zed_types.specs.Register.{value_or}
use Rattle.zed_op.specs.declared.op.Edit.{Edit}
use Rattle.zed_op.specs.Set.{IsRising}
use Rattle.zed_op.specs.Sizes.{HaveSizes}
use Rattle.zed_edit.specs.declared.plain.Header.{Header}
use Rattle.zed_edit.specs.Header.{empty_header}
use Rattle.zed_edit.specs.Replay.{replay, taken}
use Rattle.zed_laws.proofs.RegularSteps.{ReadIsNormal}
use Rattle.zed_laws.specs.Fields.{Field, header_number, key, saved, current_board, world_name, flag}
use Rattle.zed_laws.specs.Winners.{GreatestStampWins, of_header, latest_or}
use Rattle.zed_laws.proofs.HeaderFields.{is_number, is_key, is_saved, is_current_board, is_world_name, is_flag, header-wins}
use Rattle.zed_laws.proofs.WholeSteps.{replay_whole}
use Rattle.zed_cells.specs.Writes.{register}
use Rattle.zed_live.specs.declared.header.LiveHeader.{LiveHeader}
use Rattle.zed_live.specs.Shows.{latest_in, HeaderShows}
use Rattle.zed_live.specs.Shown.{values_or, shown, ReplayIsShown}

-- ---- tables

-- tables of one length that have the same at each place
pub same-each : {V : Type 0} (d : V) (xs ys : List V) → length xs ≡ length ys → ((i : ℕ) → i < length xs → get_or xs i d ≡ get_or ys i d)
    → xs ≡ ys
same-each d [] [] e h = refl
same-each d [] (y ∷ ys) e h = absurd (omega arith)
same-each d (x ∷ xs) [] e h = absurd (omega arith)
same-each d (x ∷ xs) (y ∷ ys) e h =
    ap (λ z. z ∷ xs) (h 0 (omega arith)) ∙ ap (λ zs. y ∷ zs) (same-each d xs ys (omega arith) (λ i l. h (suc i) (omega arith)))

filled : {V : Type 0} (n i : ℕ) (d : V) → get_or (replicate n d) i d ≡ d
filled zero i d = refl
filled (suc n) zero d = refl
filled (suc n) (suc i) d = filled n i d

-- each place of a table is that of one of its registers
each-number : (P : ℕ → Type 0) → ((f : HeaderNumber) → P (header_number_index f)) → (i : ℕ) → i < 9 → P i
each-number P all zero h = all Ammo
each-number P all (suc zero) h = all Gems
each-number P all (suc (suc zero)) h = all Health
each-number P all (suc (suc (suc zero))) h = all Torches
each-number P all (suc (suc (suc (suc zero)))) h = all TorchTicks
each-number P all (suc (suc (suc (suc (suc zero))))) h = all EnergizerTicks
each-number P all (suc (suc (suc (suc (suc (suc zero)))))) h = all Score
each-number P all (suc (suc (suc (suc (suc (suc (suc zero))))))) h = all TimePassed
each-number P all (suc (suc (suc (suc (suc (suc (suc (suc zero)))))))) h = all Hundredths
each-number P all (suc (suc (suc (suc (suc (suc (suc (suc (suc i))))))))) h = absurd (omega arith)

each-key : (P : ℕ → Type 0) → ((k : KeyColour) → P (key_index k)) → (i : ℕ) → i < 7 → P i
each-key P all zero h = all Blue
each-key P all (suc zero) h = all Green
each-key P all (suc (suc zero)) h = all Cyan
each-key P all (suc (suc (suc zero))) h = all Red
each-key P all (suc (suc (suc (suc zero)))) h = all Purple
each-key P all (suc (suc (suc (suc (suc zero))))) h = all Yellow
each-key P all (suc (suc (suc (suc (suc (suc zero)))))) h = all White
each-key P all (suc (suc (suc (suc (suc (suc (suc i))))))) h = absurd (omega arith)

each-flag : (P : ℕ → Type 0) → ((k : FlagSlot) → P (flag_index k)) → (i : ℕ) → i < 10 → P i
each-flag P all zero h = all First
each-flag P all (suc zero) h = all Second
each-flag P all (suc (suc zero)) h = all Third
each-flag P all (suc (suc (suc zero))) h = all Fourth
each-flag P all (suc (suc (suc (suc zero)))) h = all Fifth
each-flag P all (suc (suc (suc (suc (suc zero))))) h = all Sixth
each-flag P all (suc (suc (suc (suc (suc (suc zero)))))) h = all Seventh
each-flag P all (suc (suc (suc (suc (suc (suc (suc zero))))))) h = all Eighth
each-flag P all (suc (suc (suc (suc (suc (suc (suc (suc zero)))))))) h = all Ninth
each-flag P all (suc (suc (suc (suc (suc (suc (suc (suc (suc zero))))))))) h = all Tenth
each-flag P all (suc (suc (suc (suc (suc (suc (suc (suc (suc (suc i)))))))))) h = absurd (omega arith)

-- ---- fields

pub inside : {V : Type 0} (x y : V) → Some x ≡ Some y → x ≡ y
inside {V = V} x y e = ap (value x) e
  where
    value : V → Option V → V
    value d None = d
    value d (Some z) = z

latest-value : {V : Type 0} (v : V) (o : Option (Written V)) → latest_or (Some v) o ≡ Some (value_or v o)
latest-value v None = refl
latest-value v (Some w) = refl

-- the latest write, or what an empty header has, is what the replay has
field-shown : {V : Type 0} (f : Field Header V) (es : List Edit) (v : V) (kept : Option (Written V)) → GreatestStampWins (of_header f)
    → IsRising es → HaveSizes es → f.value empty_header ≡ v → kept ≡ latest_in (of_header f) (taken es)
    → value_or v kept ≡ f.value (replay es).header
field-shown f es v kept wins rises sizes start was =
    inside (value_or v kept) (f.value (replay es).header)
    (sym (wins es rises sizes ∙ ap (λ x. latest_or (Some x) (latest_in (of_header f) (taken es))) start ∙ ap (latest_or (Some v)) (sym was) ∙ latest-value v kept))

module _ (normal : ReadIsNormal) (es : List Edit) (h : LiveHeader) (rises : IsRising es) (sizes : HaveSizes es) (was : HeaderShows (taken es) h) where
  numbers-shown : values_or (pos 0) h.numbers ≡ (replay es).header.numbers
  numbers-shown =
      let whole = (replay_whole normal es sizes).header.numbers in
      let size = length-map h.numbers (value_or (pos 0)) in
      same-each (pos 0) (values_or (pos 0) h.numbers) (replay es).header.numbers (size ∙ was.nine ∙ sym whole)
      (λ i l. each-number (λ j. get_or (values_or (pos 0) h.numbers) j (pos 0) ≡ get_or (replay es).header.numbers j (pos 0))
      (λ f. get_or-map (value_or (pos 0)) h.numbers (header_number_index f) None
      ∙ field-shown (header_number f) es (pos 0) (register (header_number_index f) h.numbers) (header-wins (header_number f) (is_number f) normal) rises sizes (filled 9 (header_number_index f) (pos 0)) (was.numbers f))
      i (omega (arith, l, size, was.nine)))

  keys-shown : values_or false h.keys ≡ (replay es).header.keys
  keys-shown =
      let whole = (replay_whole normal es sizes).header.keys in
      let size = length-map h.keys (value_or false) in
      same-each false (values_or false h.keys) (replay es).header.keys (size ∙ was.seven ∙ sym whole)
      (λ i l. each-key (λ j. get_or (values_or false h.keys) j false ≡ get_or (replay es).header.keys j false)
      (λ k. get_or-map (value_or false) h.keys (key_index k) None
      ∙ field-shown (key k) es false (register (key_index k) h.keys) (header-wins (key k) (is_key k) normal) rises sizes (filled 7 (key_index k) false) (was.keys k))
      i (omega (arith, l, size, was.seven)))

  flags-shown : values_or [] h.flags ≡ (replay es).header.flags
  flags-shown =
      let whole = (replay_whole normal es sizes).header.flags in
      let size = length-map h.flags (value_or []) in
      same-each [] (values_or [] h.flags) (replay es).header.flags (size ∙ was.ten ∙ sym whole)
      (λ i l. each-flag (λ j. get_or (values_or [] h.flags) j [] ≡ get_or (replay es).header.flags j [])
      (λ k. get_or-map (value_or []) h.flags (flag_index k) None
      ∙ field-shown (flag k) es [] (register (flag_index k) h.flags) (header-wins (flag k) (is_flag k) normal) rises sizes (filled 10 (flag_index k) []) (was.flags k))
      i (omega (arith, l, size, was.ten)))

abbrev make : List ℤ → List Bool → Bool → BoardId → List ℕ → List (List ℕ) → Header
make n k s c w f = record { numbers = n; keys = k; saved = s; current_board = c; world_name = w; flags = f }

pub replay_is_shown : ReadIsNormal → ReplayIsShown
replay_is_shown normal es h rises sizes was =
    let r = (replay es).header in
    let a = shown h in
    let saves : a.saved ≡ r.saved =
    field-shown saved es empty_header.saved h.saved (header-wins saved is_saved normal) rises sizes refl was.saved in
    let current : a.current_board ≡ r.current_board = field-shown current_board es empty_header.current_board h.current_board (header-wins current_board is_current_board normal) rises sizes refl was.current_board in
    let name : a.world_name ≡ r.world_name = field-shown world_name es empty_header.world_name h.world_name (header-wins world_name is_world_name normal) rises sizes refl was.world_name in
    let path : make a.numbers a.keys a.saved a.current_board a.world_name a.flags ≡ make r.numbers r.keys r.saved r.current_board r.world_name r.flags =
    ap (λ x. make x a.keys a.saved a.current_board a.world_name a.flags) (numbers-shown normal es h rises sizes was)
    ∙ ap (λ x. make r.numbers x a.saved a.current_board a.world_name a.flags) (keys-shown normal es h rises sizes was)
    ∙ ap (λ x. make r.numbers r.keys x a.current_board a.world_name a.flags) saves
    ∙ ap (λ x. make r.numbers r.keys r.saved x a.world_name a.flags) current
    ∙ ap (λ x. make r.numbers r.keys r.saved r.current_board x a.flags) name
    ∙ ap (λ x. make r.numbers r.keys r.saved r.current_board r.world_name x) (flags-shown normal es h rises sizes was) in
    path
