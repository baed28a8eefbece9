-- Each field of a stat is overwritten by what an edit sets.
use Rattle.std.proofs.Common.{◌≡◌, ℕ, ℤ, pos, Bool, true, false, not, ◌||◌, List, ltb, Option, Some, None, refl}
use Rattle.std.specs.Prelude.{slice_set}
use Rattle.zed_types.specs.declared.names.StatId.{StatId}
use Rattle.zed_types.specs.declared.stat_field.StatByte.{StatByte}
use Rattle.zed_types.specs.declared.stat_field.StatByte.TheVariants.{X, Y, P1, P2, UnderElement, UnderColour}
use Rattle.zed_types.specs.declared.stat_field.StatNumber.{StatNumber}
use Rattle.zed_types.specs.declared.stat_field.StatNumber.TheVariants.{StepX, StepY, Cycle, Position}
use Rattle.zed_types.specs.declared.stat_field.StatSetting.TheVariants as stat
use Rattle.zed_types.specs.Stat.{stat_byte_index, stat_number_index}
use Rattle.zed_op.specs.declared.op.Op.TheVariants.{StatRemove, SetStat}
use Rattle.zed_edit.specs.declared.plain.Stat.{Stat}
use Rattle.zed_edit.specs.Stat.{with_number}
use Rattle.zed_laws.proofs.RegularSteps.{ReadIsNormal}
use Rattle.zed_laws.specs.Fields.{Field, stat_byte, stat_number, third_parameter, follower, leader, stat_text, is_player, removed_or_player}
use Rattle.zed_laws.specs.Winners.{GreatestStampWins, of_stat}
use Rattle.zed_laws.proofs.Found.{written-at}
use Rattle.zed_laws.proofs.StatReads.{IsStatField, read-stat}
use Rattle.zed_laws.proofs.Winning.{IsStepwise, wins}

-- a number that is set changes nothing beside the numbers
number-apart : {V : Type 0} (value : Stat → V)
    → ((x : Stat) (ns : List ℤ) → value (record x { fields = record x.fields { numbers = ns } }) ≡ value x)
    → ((x : Stat) (n : ℤ) → value (record x { position = n }) ≡ value x) → (o : Option ℕ) (n : ℤ) (x : Stat)
    → value (with_number o n x) ≡ value x
number-apart value numbers position (Some i) n x = numbers x (slice_set x.fields.numbers i n)
number-apart value numbers position None n x = position x n

byte-within : (f : StatByte) → ltb (stat_byte_index f) 6 ≡ true
byte-within X = refl
byte-within Y = refl
byte-within P1 = refl
byte-within P2 = refl
byte-within UnderElement = refl
byte-within UnderColour = refl

pub is_byte : (f : StatByte) → IsStatField (stat_byte f)
is_byte f (SetStat y (stat.Byte g n)) x r = written-at 0 x.fields.bytes 6 (stat_byte_index f) (stat_byte_index g) n r.bytes (byte-within f)
is_byte f (SetStat y (stat.Number g m)) x r = number-apart (stat_byte f).value (λ z ns. refl) (λ z m. refl) (stat_number_index g) m x
is_byte f (SetStat y _) x r = refl
is_byte f _ x r = refl

pub is_number : (f : StatNumber) → IsStatField (stat_number f)
is_number StepX (SetStat y (stat.Number StepX n)) x r = written-at (pos 0) x.fields.numbers 3 0 0 n r.numbers refl
is_number StepX (SetStat y (stat.Number StepY n)) x r = written-at (pos 0) x.fields.numbers 3 0 1 n r.numbers refl
is_number StepX (SetStat y (stat.Number Cycle n)) x r = written-at (pos 0) x.fields.numbers 3 0 2 n r.numbers refl
is_number StepX (SetStat y (stat.Number Position n)) x r = refl
is_number StepX (SetStat y _) x r = refl
is_number StepX _ x r = refl
is_number StepY (SetStat y (stat.Number StepX n)) x r = written-at (pos 0) x.fields.numbers 3 1 0 n r.numbers refl
is_number StepY (SetStat y (stat.Number StepY n)) x r = written-at (pos 0) x.fields.numbers 3 1 1 n r.numbers refl
is_number StepY (SetStat y (stat.Number Cycle n)) x r = written-at (pos 0) x.fields.numbers 3 1 2 n r.numbers refl
is_number StepY (SetStat y (stat.Number Position n)) x r = refl
is_number StepY (SetStat y _) x r = refl
is_number StepY _ x r = refl
is_number Cycle (SetStat y (stat.Number StepX n)) x r = written-at (pos 0) x.fields.numbers 3 2 0 n r.numbers refl
is_number Cycle (SetStat y (stat.Number StepY n)) x r = written-at (pos 0) x.fields.numbers 3 2 1 n r.numbers refl
is_number Cycle (SetStat y (stat.Number Cycle n)) x r = written-at (pos 0) x.fields.numbers 3 2 2 n r.numbers refl
is_number Cycle (SetStat y (stat.Number Position n)) x r = refl
is_number Cycle (SetStat y _) x r = refl
is_number Cycle _ x r = refl
is_number Position (SetStat y (stat.Number StepX n)) x r = refl
is_number Position (SetStat y (stat.Number StepY n)) x r = refl
is_number Position (SetStat y (stat.Number Cycle n)) x r = refl
is_number Position (SetStat y (stat.Number Position n)) x r = refl
is_number Position (SetStat y _) x r = refl
is_number Position _ x r = refl

pub is_third_parameter : IsStatField third_parameter
is_third_parameter (SetStat y (stat.P3 v)) x r = refl
is_third_parameter (SetStat y (stat.Number g m)) x r =
    number-apart third_parameter.value (λ z ns. refl) (λ z m. refl) (stat_number_index g) m x
is_third_parameter (SetStat y _) x r = refl
is_third_parameter _ x r = refl

pub is_follower : IsStatField follower
is_follower (SetStat y (stat.Follower v)) x r = refl
is_follower (SetStat y (stat.Number g m)) x r = number-apart follower.value (λ z ns. refl) (λ z m. refl) (stat_number_index g) m x
is_follower (SetStat y _) x r = refl
is_follower _ x r = refl

pub is_leader : IsStatField leader
is_leader (SetStat y (stat.Leader v)) x r = refl
is_leader (SetStat y (stat.Number g m)) x r = number-apart leader.value (λ z ns. refl) (λ z m. refl) (stat_number_index g) m x
is_leader (SetStat y _) x r = refl
is_leader _ x r = refl

pub is_text : IsStatField stat_text
is_text (SetStat y (stat.Text v)) x r = refl
is_text (SetStat y (stat.Number g m)) x r = number-apart stat_text.value (λ z ns. refl) (λ z m. refl) (stat_number_index g) m x
is_text (SetStat y _) x r = refl
is_text _ x r = refl

pub is_for_player : IsStatField is_player
is_for_player (SetStat y (stat.Number g m)) x r = number-apart is_player.value (λ z ns. refl) (λ z m. refl) (stat_number_index g) m x
is_for_player (SetStat y _) x r = refl
is_for_player _ x r = refl

not-or : (b : Bool) → (not b || b) ≡ true
not-or true = refl
not-or false = refl

pub is_removed : IsStatField removed_or_player
is_removed (StatRemove y) x r = not-or x.is_player
is_removed (SetStat y (stat.Number g m)) x r = number-apart removed_or_player.value (λ z ns. refl) (λ z m. refl) (stat_number_index g) m x
is_removed (SetStat y _) x r = refl
is_removed _ x r = refl

-- ---- each is a register

module _ {V : Type 0} (f : Field Stat V) (law : IsStatField f) (x : StatId) where
  steps : IsStepwise (of_stat x f)
  steps = record { done = λ p e fresh whole c. read-stat f law x e.stamp e.op p fresh whole.boards c; kept = λ p e. refl }

  pub stat-wins : ReadIsNormal → GreatestStampWins (of_stat x f)
  stat-wins normal = wins normal (of_stat x f) steps
