-- The header takes each edit as if it had come at its place.
use Rattle.std.proofs.Common.{◌≡◌, ◌∙◌, ℕ, pos, false, List, [], ◌∷◌, ◌++◌, length, replicate, zero, suc, Option, Some, None, Result, Ok, Err, refl, ap, sym, arith}
use Rattle.std.specs.Option.{option_or, option_map}
use Rattle.std.proofs.lemmas.Bool.{ltb-true}
use Rattle.std.proofs.lemmas.List.{length-set}
use Rattle.zed_types.specs.declared.stamp.Stamp.{Stamp}
use Rattle.zed_types.specs.declared.written.Written.{Written}
use Rattle.zed_types.specs.declared.header.HeaderNumber.{HeaderNumber}
use Rattle.zed_types.specs.declared.header.KeyColour.{KeyColour}
use Rattle.zed_types.specs.declared.header.FlagSlot.{FlagSlot}
use Rattle.zed_types.specs.declared.header.HeaderSetting.{HeaderSetting}
use Rattle.zed_types.specs.declared.header.HeaderSetting.TheVariants as header
use Rattle.zed_types.specs.Header.{header_number_index, key_index, flag_index}
use Rattle.zed_types.specs.Register.{keep_later, written_at}
use Rattle.zed_world.specs.Contents.{Contents}
use Rattle.zed_world.specs.Reading.{world_at}
use Rattle.zed_world.specs.declared.error.WorldError.{WorldError}
use Rattle.zed_op.specs.declared.op.Op.{Op}
use Rattle.zed_op.specs.declared.op.Op.TheVariants.{Genesis, SetHeader}
use Rattle.zed_op.specs.declared.op.Edit.{Edit}
use Rattle.zed_op.specs.Set.{IsRising}
use Rattle.zed_edit.specs.declared.plain.Header.{Header}
use Rattle.zed_edit.specs.Genesis.{header_of}
use Rattle.zed_laws.specs.Registers.{kept_after}
use Rattle.zed_laws.proofs.LatestWrites.{late_write_is_compared}
use Rattle.zed_laws.proofs.RegularSteps.{ReadIsNormal}
use Rattle.zed_laws.specs.Fields.{Field, header_number, key, saved, current_board, world_name, flag}
use Rattle.zed_laws.specs.Winners.{Register, of_header, opened_header}
use Rattle.zed_laws.proofs.HeaderFields.{number-within, key-within, flag-within}
use Rattle.zed_cells.specs.Writes.{register}
use Rattle.zed_live.specs.declared.header.LiveHeader.{LiveHeader}
use Rattle.zed_live.specs.Header.{write_header, write_each, write_all, open_header, header_after}
use Rattle.zed_live.specs.Shows.{latest_in, HeaderShows, NoneIsUnwritten, HeaderTakes}
use Rattle.zed_live.proofs.Tables.{write_each-at, write_each-length, set_register-at}

-- a register after an edit has what it had, or the write of the edit where it is later
abbrev pub Puts : {V : Type 0} → Register V → Edit → Option (Written V) → Option (Written V) → Type 0
Puts r e old new = new ≡ kept_after e.stamp old (r.writes e)

-- so it has the latest write of the edits with this one
pub put-late : {V : Type 0} (r : Register V) (e : Edit) (low high : List Edit) (old new : Option (Written V)) → IsRising (low ++ e ∷ high)
    → old ≡ latest_in r (low ++ high) → Puts r e old new
    → new ≡ latest_in r (low ++ e ∷ high)
put-late r e low high old new rises was puts =
    puts ∙ ap (λ o. kept_after e.stamp o (r.writes e)) was ∙ sym (late_write_is_compared r.writes e low high rises)

-- a header has all its places
pub record HasTables (h : LiveHeader) : Type 0 where
  pub nine : length h.numbers ≡ 9
  pub seven : length h.keys ≡ 7
  pub ten : length h.flags ≡ 10

-- all registers of the header after an edit
pub record HeaderPuts (e : Edit) (old new : LiveHeader) : Type 0 where
  pub tables : HasTables new
  pub numbers : (f : HeaderNumber)
      → Puts (of_header (header_number f)) e (register (header_number_index f) old.numbers) (register (header_number_index f) new.numbers)
  pub keys : (k : KeyColour) → Puts (of_header (key k)) e (register (key_index k) old.keys) (register (key_index k) new.keys)
  pub saved : Puts (of_header saved) e old.saved new.saved
  pub current_board : Puts (of_header current_board) e old.current_board new.current_board
  pub world_name : Puts (of_header world_name) e old.world_name new.world_name
  pub flags : (k : FlagSlot) → Puts (of_header (flag k)) e (register (flag_index k) old.flags) (register (flag_index k) new.flags)

shows-late : (e : Edit) (low high : List Edit) (old new : LiveHeader) → IsRising (low ++ e ∷ high) → HeaderPuts e old new
    → HeaderShows (low ++ high) old
    → HeaderShows (low ++ e ∷ high) new
shows-late e low high old new rises puts was = record {
  nine = puts.tables.nine;
  seven = puts.tables.seven;
  ten = puts.tables.ten;
  numbers = λ f. put-late (of_header (header_number f)) e low high (register (header_number_index f) old.numbers) (register (header_number_index f) new.numbers) rises (was.numbers f) (puts.numbers f);
  keys = λ k. put-late (of_header (key k)) e low high (register (key_index k) old.keys) (register (key_index k) new.keys) rises (was.keys k) (puts.keys k);
  saved = put-late (of_header saved) e low high old.saved new.saved rises was.saved puts.saved;
  current_board =
      put-late (of_header current_board) e low high old.current_board new.current_board rises was.current_board puts.current_board;
  world_name = put-late (of_header world_name) e low high old.world_name new.world_name rises was.world_name puts.world_name;
  flags = λ k. put-late (of_header (flag k)) e low high (register (flag_index k) old.flags) (register (flag_index k) new.flags) rises (was.flags k) (puts.flags k);
}

-- ---- a setting

abbrev by_setting : Stamp → HeaderSetting → Edit
by_setting s setting = record { stamp = s; op = SetHeader setting }

set-tables : (s : Stamp) (setting : HeaderSetting) (h : LiveHeader) → HasTables h → HasTables (write_header s setting h)
set-tables s (header.Number f n) h t = record { nine = length-set h.numbers (header_number_index f) (keep_later (register (header_number_index f) h.numbers) (written_at s n)) ∙ t.nine; seven = t.seven; ten = t.ten }
set-tables s (header.Key k b) h t = record { nine = t.nine; seven = length-set h.keys (key_index k) (keep_later (register (key_index k) h.keys) (written_at s b)) ∙ t.seven; ten = t.ten }
set-tables s (header.Saved b) h t = record { nine = t.nine; seven = t.seven; ten = t.ten }
set-tables s (header.CurrentBoard b) h t = record { nine = t.nine; seven = t.seven; ten = t.ten }
set-tables s (header.WorldName n) h t = record { nine = t.nine; seven = t.seven; ten = t.ten }
set-tables s (header.Flag k n) h t = record { nine = t.nine; seven = t.seven; ten = length-set h.flags (flag_index k) (keep_later (register (flag_index k) h.flags) (written_at s n)) ∙ t.ten }

set-number : (s : Stamp) (setting : HeaderSetting) (h : LiveHeader) → length h.numbers ≡ 9 → (f : HeaderNumber)
    → Puts (of_header (header_number f)) (by_setting s setting) (register (header_number_index f) h.numbers) (register (header_number_index f) (write_header s setting h).numbers)
set-number s (header.Number g n) h e f = set_register-at s n h.numbers 9 (header_number_index f) (header_number_index g) e (number-within f)
set-number s (header.Key k b) h e f = refl
set-number s (header.Saved b) h e f = refl
set-number s (header.CurrentBoard b) h e f = refl
set-number s (header.WorldName n) h e f = refl
set-number s (header.Flag k n) h e f = refl

set-key : (s : Stamp) (setting : HeaderSetting) (h : LiveHeader) → length h.keys ≡ 7 → (k : KeyColour)
    → Puts (of_header (key k)) (by_setting s setting) (register (key_index k) h.keys) (register (key_index k) (write_header s setting h).keys)
set-key s (header.Key j b) h e k = set_register-at s b h.keys 7 (key_index k) (key_index j) e (key-within k)
set-key s (header.Number g n) h e k = refl
set-key s (header.Saved b) h e k = refl
set-key s (header.CurrentBoard b) h e k = refl
set-key s (header.WorldName n) h e k = refl
set-key s (header.Flag j n) h e k = refl

set-flag : (s : Stamp) (setting : HeaderSetting) (h : LiveHeader) → length h.flags ≡ 10 → (k : FlagSlot)
    → Puts (of_header (flag k)) (by_setting s setting) (register (flag_index k) h.flags) (register (flag_index k) (write_header s setting h).flags)
set-flag s (header.Flag j n) h e k = set_register-at s n h.flags 10 (flag_index k) (flag_index j) e (flag-within k)
set-flag s (header.Number g n) h e k = refl
set-flag s (header.Key j b) h e k = refl
set-flag s (header.Saved b) h e k = refl
set-flag s (header.CurrentBoard b) h e k = refl
set-flag s (header.WorldName n) h e k = refl

set-saved : (s : Stamp) (setting : HeaderSetting) (h : LiveHeader)
    → Puts (of_header saved) (by_setting s setting) h.saved (write_header s setting h).saved
set-saved s (header.Number g n) h = refl
set-saved s (header.Key j b) h = refl
set-saved s (header.Saved b) h = refl
set-saved s (header.CurrentBoard b) h = refl
set-saved s (header.WorldName n) h = refl
set-saved s (header.Flag j n) h = refl

set-current : (s : Stamp) (setting : HeaderSetting) (h : LiveHeader)
    → Puts (of_header current_board) (by_setting s setting) h.current_board (write_header s setting h).current_board
set-current s (header.Number g n) h = refl
set-current s (header.Key j b) h = refl
set-current s (header.Saved b) h = refl
set-current s (header.CurrentBoard b) h = refl
set-current s (header.WorldName n) h = refl
set-current s (header.Flag j n) h = refl

set-name : (s : Stamp) (setting : HeaderSetting) (h : LiveHeader)
    → Puts (of_header world_name) (by_setting s setting) h.world_name (write_header s setting h).world_name
set-name s (header.Number g n) h = refl
set-name s (header.Key j b) h = refl
set-name s (header.Saved b) h = refl
set-name s (header.CurrentBoard b) h = refl
set-name s (header.WorldName n) h = refl
set-name s (header.Flag j n) h = refl

setting-puts : (s : Stamp) (setting : HeaderSetting) (h : LiveHeader) → HasTables h
    → HeaderPuts (by_setting s setting) h (write_header s setting h)
setting-puts s setting h t = record {
  tables = set-tables s setting h t;
  numbers = set-number s setting h t.nine;
  keys = set-key s setting h t.seven;
  saved = set-saved s setting h;
  current_board = set-current s setting h;
  world_name = set-name s setting h;
  flags = set-flag s setting h t.ten;
}

-- ---- a world

abbrev by_world : Stamp → List ℕ → Edit
by_world s bytes = record { stamp = s; op = Genesis bytes }

-- a field gets the value of the header of the file
opened-writes : {V : Type 0} (f : Field Header V) (s : Stamp) (bytes : List ℕ) (w : Contents) → world_at bytes ≡ Ok w
    → (of_header f).writes (by_world s bytes) ≡ Some (f.value (header_of s w.header))
opened-writes f s bytes w e = ap (λ r. option_or (option_map f.value (opened_header s r)) (f.set (Genesis bytes))) e

-- nothing is written where the file is none
unopened-writes : {V : Type 0} (f : Field Header V) (s : Stamp) (bytes : List ℕ) (x : WorldError) → world_at bytes ≡ Err x
    → f.set (Genesis bytes) ≡ None
    → (of_header f).writes (by_world s bytes) ≡ None
unopened-writes f s bytes x e none = ap (λ r. option_or (option_map f.value (opened_header s r)) (f.set (Genesis bytes))) e ∙ none

module _ (s : Stamp) (bytes : List ℕ) (h : LiveHeader) (t : HasTables h) where
  -- a field is put in where its register keeps the later of what it had and the header's value
  puts-value : {V : Type 0} (f : Field Header V) (w : Contents) (old new : Option (Written V)) → world_at bytes ≡ Ok w
      → new ≡ keep_later old (written_at s (f.value (header_of s w.header)))
      → Puts (of_header f) (by_world s bytes) old new
  puts-value f w old new e kept = kept ∙ ap (λ o. kept_after s old o) (sym (opened-writes f s bytes w e))

  world-puts : (w : Contents) → world_at bytes ≡ Ok w → length w.header.keys ≡ 7 → length w.header.flags ≡ 10
      → HeaderPuts (by_world s bytes) h (write_all s (header_of s w.header) h)
  world-puts w e seven ten =
      let new = header_of s w.header in
      let nine : length new.numbers ≡ 9 = refl in
      record {
        tables = record {
          nine = write_each-length s new.numbers h.numbers ∙ t.nine;
          seven = write_each-length s new.keys h.keys ∙ t.seven;
          ten = write_each-length s new.flags h.flags ∙ t.ten;
        };
        numbers = λ f.
            let within = ltb-true (header_number_index f) 9 (number-within f) in
            puts-value (header_number f) w (register (header_number_index f) h.numbers) (register (header_number_index f) (write_each s new.numbers h.numbers)) e
            (write_each-at s new.numbers h.numbers (header_number_index f) (pos 0) (omega (arith, within, nine)) (omega (arith, nine, t.nine)));
        keys = λ k.
            let within = ltb-true (key_index k) 7 (key-within k) in
            puts-value (key k) w (register (key_index k) h.keys) (register (key_index k) (write_each s new.keys h.keys)) e
            (write_each-at s new.keys h.keys (key_index k) false (omega (arith, within, seven)) (omega (arith, seven, t.seven)));
        saved = puts-value saved w h.saved (keep_later h.saved (written_at s new.saved)) e refl;
        current_board = puts-value current_board w h.current_board (keep_later h.current_board (written_at s new.current_board)) e refl;
        world_name = puts-value world_name w h.world_name (keep_later h.world_name (written_at s new.world_name)) e refl;
        flags = λ k.
            let within = ltb-true (flag_index k) 10 (flag-within k) in
            puts-value (flag k) w (register (flag_index k) h.flags) (register (flag_index k) (write_each s new.flags h.flags)) e
            (write_each-at s new.flags h.flags (flag_index k) [] (omega (arith, within, ten)) (omega (arith, ten, t.ten)));
      }

  none-puts : (x : WorldError) → world_at bytes ≡ Err x → HeaderPuts (by_world s bytes) h h
  none-puts x e = record {
    tables = t;
    numbers = λ f. ap (λ o. kept_after s (register (header_number_index f) h.numbers) o) (sym (unopened-writes (header_number f) s bytes x e refl));
    keys = λ k. ap (λ o. kept_after s (register (key_index k) h.keys) o) (sym (unopened-writes (key k) s bytes x e refl));
    saved = ap (λ o. kept_after s h.saved o) (sym (unopened-writes saved s bytes x e refl));
    current_board = ap (λ o. kept_after s h.current_board o) (sym (unopened-writes current_board s bytes x e refl));
    world_name = ap (λ o. kept_after s h.world_name o) (sym (unopened-writes world_name s bytes x e refl));
    flags = λ k. ap (λ o. kept_after s (register (flag_index k) h.flags) o) (sym (unopened-writes (flag k) s bytes x e refl));
  }

  genesis-puts : ReadIsNormal → HeaderPuts (by_world s bytes) h (open_header s (world_at bytes) h)
  genesis-puts normal = go (world_at bytes) refl
    where
      go : (r : Result Contents WorldError) → world_at bytes ≡ r → HeaderPuts (by_world s bytes) h (open_header s r h)
      go (Ok w) e = let n = normal bytes w e in world-puts w e n.header.keys n.header.flags
      go (Err x) e = none-puts x e

-- ---- every edit

op-puts : ReadIsNormal → (s : Stamp) (op : Op) (h : LiveHeader) → HasTables h
    → HeaderPuts (record { stamp = s; op = op }) h (header_after s op h)
op-puts normal s (Genesis bytes) h t = genesis-puts s bytes h t normal
op-puts normal s (SetHeader setting) h t = setting-puts s setting h t
op-puts normal s op h t =
    record { tables = t; numbers = λ f. refl; keys = λ k. refl; saved = refl; current_board = refl; world_name = refl; flags = λ k. refl }

pub header_takes : ReadIsNormal → HeaderTakes
header_takes normal e low high h rises was =
    shows-late e low high h (header_after e.stamp e.op h) rises
    (op-puts normal e.stamp e.op h (record { nine = was.nine; seven = was.seven; ten = was.ten })) was

pub unset : {V : Type 0} (n i : ℕ) → register {V = V} i (replicate n None) ≡ None
unset zero i = refl
unset (suc n) zero = refl
unset (suc n) (suc i) = unset n i

pub none_is_unwritten : NoneIsUnwritten
none_is_unwritten = record {
  nine = refl;
  seven = refl;
  ten = refl;
  numbers = λ f. unset 9 (header_number_index f);
  keys = λ k. unset 7 (key_index k);
  saved = refl;
  current_board = refl;
  world_name = refl;
  flags = λ k. unset 10 (flag_index k);
}
