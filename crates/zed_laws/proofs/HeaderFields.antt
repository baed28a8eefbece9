-- Each field of the header is overwritten by what an edit sets.
use Rattle.std.proofs.Common.{◌≡◌, ℕ, pos, true, false, List, [], ltb, Some, Result, Ok, Err, refl, ap, ◌∙◌}
use Rattle.std.specs.Option.{option_or, option_map}
use Rattle.zed_types.specs.declared.stamp.Stamp.{Stamp}
use Rattle.zed_types.specs.declared.header.HeaderNumber.{HeaderNumber}
use Rattle.zed_types.specs.declared.header.HeaderNumber.TheVariants.{Ammo, Gems, Health, Torches, TorchTicks, EnergizerTicks, Score, TimePassed, Hundredths}
use Rattle.zed_types.specs.declared.header.KeyColour.{KeyColour}
use Rattle.zed_types.specs.declared.header.KeyColour.TheVariants.{Blue, Green, Cyan, Red, Purple, Yellow, White}
use Rattle.zed_types.specs.declared.header.FlagSlot.{FlagSlot}
use Rattle.zed_types.specs.declared.header.FlagSlot.TheVariants.{First, Second, Third, Fourth, Fifth, Sixth, Seventh, Eighth, Ninth, Tenth}
use Rattle.zed_types.specs.declared.header.HeaderSetting.TheVariants as header
use Rattle.zed_types.specs.Header.{header_number_index, key_index, flag_index}
use Rattle.zed_world.specs.Contents.{Contents}
use Rattle.zed_world.specs.Reading.{world_at}
use Rattle.zed_world.specs.declared.error.WorldError.{WorldError}
use Rattle.zed_op.specs.declared.op.Op.{Op}
use Rattle.zed_op.specs.declared.op.Op.TheVariants.{Genesis, SetHeader}
use Rattle.zed_edit.specs.declared.plain.Header.{Header}
use Rattle.zed_edit.specs.declared.plain.Plain.{Plain}
use Rattle.zed_edit.specs.Header.{set_header}
use Rattle.zed_edit.specs.Replay.{open_world, do_op}
use Rattle.zed_laws.specs.Registers.{overwritten}
use Rattle.zed_laws.proofs.RegularSteps.{ReadIsNormal}
use Rattle.zed_laws.specs.Fields.{Field, header_number, key, saved, current_board, world_name, flag}
use Rattle.zed_laws.specs.Winners.{GreatestStampWins, of_header, opened_header, made_header}
use Rattle.zed_laws.specs.Whole.{IsWholeHeader}
use Rattle.zed_laws.proofs.Found.{written, written-at}
use Rattle.zed_laws.proofs.Winning.{IsStepwise, wins}

-- what an edit does to the header
abbrev on_header : Op → Header → Header
on_header (SetHeader setting) h = set_header setting h
on_header _ h = h

-- a field of the header is overwritten by what an edit sets
abbrev IsHeaderField : {V : Type 0} → Field Header V → Type 0
IsHeaderField f = (op : Op) (h : Header) → IsWholeHeader h → f.value (on_header op h) ≡ overwritten (f.value h) (f.set op)

pub number-within : (f : HeaderNumber) → ltb (header_number_index f) 9 ≡ true
number-within Ammo = refl
number-within Gems = refl
number-within Health = refl
number-within Torches = refl
number-within TorchTicks = refl
number-within EnergizerTicks = refl
number-within Score = refl
number-within TimePassed = refl
number-within Hundredths = refl

pub key-within : (f : KeyColour) → ltb (key_index f) 7 ≡ true
key-within Blue = refl
key-within Green = refl
key-within Cyan = refl
key-within Red = refl
key-within Purple = refl
key-within Yellow = refl
key-within White = refl

pub flag-within : (f : FlagSlot) → ltb (flag_index f) 10 ≡ true
flag-within First = refl
flag-within Second = refl
flag-within Third = refl
flag-within Fourth = refl
flag-within Fifth = refl
flag-within Sixth = refl
flag-within Seventh = refl
flag-within Eighth = refl
flag-within Ninth = refl
flag-within Tenth = refl

pub is_number : (f : HeaderNumber) → IsHeaderField (header_number f)
is_number f (SetHeader (header.Number g n)) h r =
    written-at (pos 0) h.numbers 9 (header_number_index f) (header_number_index g) n r.numbers (number-within f)
is_number f (SetHeader _) h r = refl
is_number f _ h r = refl

pub is_key : (k : KeyColour) → IsHeaderField (key k)
is_key k (SetHeader (header.Key j b)) h r = written-at false h.keys 7 (key_index k) (key_index j) b r.keys (key-within k)
is_key k (SetHeader _) h r = refl
is_key k _ h r = refl

pub is_saved : IsHeaderField saved
is_saved (SetHeader (header.Saved b)) h r = refl
is_saved (SetHeader _) h r = refl
is_saved _ h r = refl

pub is_current_board : IsHeaderField current_board
is_current_board (SetHeader (header.CurrentBoard b)) h r = refl
is_current_board (SetHeader _) h r = refl
is_current_board _ h r = refl

pub is_world_name : IsHeaderField world_name
is_world_name (SetHeader (header.WorldName s)) h r = refl
is_world_name (SetHeader _) h r = refl
is_world_name _ h r = refl

pub is_flag : (k : FlagSlot) → IsHeaderField (flag k)
is_flag k (SetHeader (header.Flag j s)) h r = written-at [] h.flags 10 (flag_index k) (flag_index j) s r.flags (flag-within k)
is_flag k (SetHeader _) h r = refl
is_flag k _ h r = refl

-- ---- each is a register

module _ {V : Type 0} (f : Field Header V) (law : IsHeaderField f) where
  read-opened : (s : Stamp) (bytes : List ℕ) (r : Result Contents WorldError) (p : Plain) → IsWholeHeader p.header
      → Some (f.value (open_world s r p).header)
      ≡ option_or (option_or (option_map f.value (opened_header s r)) (f.set (Genesis bytes))) (Some (f.value p.header))
  read-opened s bytes (Ok w) p h = refl
  read-opened s bytes (Err e) p h = ap Some (law (Genesis bytes) p.header h) ∙ written (f.set (Genesis bytes)) (f.value p.header)

  read-header : (s : Stamp) (op : Op) (p : Plain) → IsWholeHeader p.header
      → Some (f.value (do_op s op p).header)
      ≡ option_or (option_or (option_map f.value (made_header s op)) (f.set op)) (Some (f.value p.header))
  read-header s (Genesis bytes) p h = read-opened s bytes (world_at bytes) p h
  read-header s op p h = ap Some (law op p.header h) ∙ written (f.set op) (f.value p.header)

  steps : IsStepwise (of_header f)
  steps = record { done = λ p e fresh whole c. read-header e.stamp e.op p whole.header; kept = λ p e. refl }

  pub header-wins : ReadIsNormal → GreatestStampWins (of_header f)
  header-wins normal = wins normal (of_header f) steps
