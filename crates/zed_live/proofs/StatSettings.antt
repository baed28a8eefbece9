-- Which setting is of which field of a stat.
use Rattle.std.proofs.Common.{◌≡◌, ℕ, ℤ, pos, Bool, false, cond, eqb, Option, Some, None, refl, ap}
use Rattle.zed_types.specs.declared.names.StatId.{StatId}
use Rattle.zed_types.specs.declared.names.TextId.{TextId}
use Rattle.zed_types.specs.declared.stat_field.ThirdParameter.{ThirdParameter}
use Rattle.zed_types.specs.declared.stat_field.ThirdParameter.TheVariants as third
use Rattle.zed_types.specs.declared.stat_field.StatByte.{StatByte}
use Rattle.zed_types.specs.declared.stat_field.StatByte.TheVariants.{X, Y, P1, P2, UnderElement, UnderColour}
use Rattle.zed_types.specs.declared.stat_field.StatNumber.{StatNumber}
use Rattle.zed_types.specs.declared.stat_field.StatNumber.TheVariants.{StepX, StepY, Cycle, Position}
use Rattle.zed_types.specs.declared.stat_field.StatSetting.{StatSetting}
use Rattle.zed_types.specs.declared.stat_field.StatSetting.TheVariants as setting
use Rattle.zed_types.specs.Stat.{stat_byte_index, stat_byte_field, stat_number_field}
use Rattle.zed_laws.specs.Fields.{stat_byte_set, stat_number_set, third_parameter_set, follower_set, leader_set, stat_text_set}
use Rattle.zed_stats.specs.declared.field.StatField.{StatField}
use Rattle.zed_stats.specs.declared.field.StatField.TheVariants as field
use Rattle.zed_stats.specs.Fields.{field_of, field_number}

-- what a setting gives, if it is of this field
abbrev pub of_field : {V : Type 0} → (StatSetting → V) → StatField → StatSetting → Option V
of_field value f w = cond (eqb (field_number (field_of w)) (field_number f)) (Some (value w)) None

-- ---- the values of settings

abbrev pub byte_in : StatSetting → ℕ
byte_in (setting.Byte f n) = n
byte_in _ = 0

abbrev pub number_in : StatSetting → ℤ
number_in (setting.Number f n) = n
number_in _ = pos 0

abbrev pub p3_in : StatSetting → ThirdParameter
p3_in (setting.P3 p) = p
p3_in _ = third.Byte 0

abbrev pub follower_in : StatSetting → Option StatId
follower_in (setting.Follower o) = o
follower_in _ = None

abbrev pub leader_in : StatSetting → Option StatId
leader_in (setting.Leader o) = o
leader_in _ = None

abbrev pub text_in : StatSetting → Option TextId
text_in (setting.Text o) = o
text_in _ = None

-- ---- numbers of fields

byte-same : (g f : StatByte) → eqb (stat_byte_field g) (stat_byte_field f) ≡ eqb (stat_byte_index g) (stat_byte_index f)
byte-same X X = refl
byte-same X Y = refl
byte-same X P1 = refl
byte-same X P2 = refl
byte-same X UnderElement = refl
byte-same X UnderColour = refl
byte-same Y X = refl
byte-same Y Y = refl
byte-same Y P1 = refl
byte-same Y P2 = refl
byte-same Y UnderElement = refl
byte-same Y UnderColour = refl
byte-same P1 X = refl
byte-same P1 Y = refl
byte-same P1 P1 = refl
byte-same P1 P2 = refl
byte-same P1 UnderElement = refl
byte-same P1 UnderColour = refl
byte-same P2 X = refl
byte-same P2 Y = refl
byte-same P2 P1 = refl
byte-same P2 P2 = refl
byte-same P2 UnderElement = refl
byte-same P2 UnderColour = refl
byte-same UnderElement X = refl
byte-same UnderElement Y = refl
byte-same UnderElement P1 = refl
byte-same UnderElement P2 = refl
byte-same UnderElement UnderElement = refl
byte-same UnderElement UnderColour = refl
byte-same UnderColour X = refl
byte-same UnderColour Y = refl
byte-same UnderColour P1 = refl
byte-same UnderColour P2 = refl
byte-same UnderColour UnderElement = refl
byte-same UnderColour UnderColour = refl

byte-number : (g : StatByte) (f : StatNumber) → eqb (stat_byte_field g) (stat_number_field f) ≡ false
byte-number X StepX = refl
byte-number X StepY = refl
byte-number X Cycle = refl
byte-number X Position = refl
byte-number Y StepX = refl
byte-number Y StepY = refl
byte-number Y Cycle = refl
byte-number Y Position = refl
byte-number P1 StepX = refl
byte-number P1 StepY = refl
byte-number P1 Cycle = refl
byte-number P1 Position = refl
byte-number P2 StepX = refl
byte-number P2 StepY = refl
byte-number P2 Cycle = refl
byte-number P2 Position = refl
byte-number UnderElement StepX = refl
byte-number UnderElement StepY = refl
byte-number UnderElement Cycle = refl
byte-number UnderElement Position = refl
byte-number UnderColour StepX = refl
byte-number UnderColour StepY = refl
byte-number UnderColour Cycle = refl
byte-number UnderColour Position = refl

number-byte : (g : StatNumber) (f : StatByte) → eqb (stat_number_field g) (stat_byte_field f) ≡ false
number-byte StepX X = refl
number-byte StepX Y = refl
number-byte StepX P1 = refl
number-byte StepX P2 = refl
number-byte StepX UnderElement = refl
number-byte StepX UnderColour = refl
number-byte StepY X = refl
number-byte StepY Y = refl
number-byte StepY P1 = refl
number-byte StepY P2 = refl
number-byte StepY UnderElement = refl
number-byte StepY UnderColour = refl
number-byte Cycle X = refl
number-byte Cycle Y = refl
number-byte Cycle P1 = refl
number-byte Cycle P2 = refl
number-byte Cycle UnderElement = refl
number-byte Cycle UnderColour = refl
number-byte Position X = refl
number-byte Position Y = refl
number-byte Position P1 = refl
number-byte Position P2 = refl
number-byte Position UnderElement = refl
number-byte Position UnderColour = refl

byte-others : (f : StatByte)
    → (eqb (stat_byte_field f) 8 ≡ false)
    × (eqb (stat_byte_field f) 9 ≡ false)
    × (eqb (stat_byte_field f) 10 ≡ false)
    × (eqb (stat_byte_field f) 13 ≡ false)
byte-others X = (refl, refl, refl, refl)
byte-others Y = (refl, refl, refl, refl)
byte-others P1 = (refl, refl, refl, refl)
byte-others P2 = (refl, refl, refl, refl)
byte-others UnderElement = (refl, refl, refl, refl)
byte-others UnderColour = (refl, refl, refl, refl)

number-others : (f : StatNumber)
    → (eqb (stat_number_field f) 8 ≡ false)
    × (eqb (stat_number_field f) 9 ≡ false)
    × (eqb (stat_number_field f) 10 ≡ false)
    × (eqb (stat_number_field f) 13 ≡ false)
number-others StepX = (refl, refl, refl, refl)
number-others StepY = (refl, refl, refl, refl)
number-others Cycle = (refl, refl, refl, refl)
number-others Position = (refl, refl, refl, refl)

others-byte : (f : StatByte)
    → (eqb 8 (stat_byte_field f) ≡ false)
    × (eqb 9 (stat_byte_field f) ≡ false)
    × (eqb 10 (stat_byte_field f) ≡ false)
    × (eqb 13 (stat_byte_field f) ≡ false)
others-byte X = (refl, refl, refl, refl)
others-byte Y = (refl, refl, refl, refl)
others-byte P1 = (refl, refl, refl, refl)
others-byte P2 = (refl, refl, refl, refl)
others-byte UnderElement = (refl, refl, refl, refl)
others-byte UnderColour = (refl, refl, refl, refl)

others-number : (f : StatNumber)
    → (eqb 8 (stat_number_field f) ≡ false)
    × (eqb 9 (stat_number_field f) ≡ false)
    × (eqb 10 (stat_number_field f) ≡ false)
    × (eqb 13 (stat_number_field f) ≡ false)
others-number StepX = (refl, refl, refl, refl)
others-number StepY = (refl, refl, refl, refl)
others-number Cycle = (refl, refl, refl, refl)
others-number Position = (refl, refl, refl, refl)

-- where no field is tested equal nothing is given
none-of : {V : Type 0} (b : Bool) (v : V) → b ≡ false → cond b (Some v) None ≡ None
none-of b v h = ap (λ c. cond c (Some v) None) h

-- ---- what is set of each field

pub byte-set : (f : StatByte) (w : StatSetting) → of_field byte_in (field.Byte f) w ≡ stat_byte_set f w
byte-set f (setting.Byte g n) = ap (λ b. cond b (Some n) None) (byte-same g f)
byte-set f (setting.Number g n) = none-of (eqb (stat_number_field g) (stat_byte_field f)) 0 (number-byte g f)
byte-set f (setting.P3 p) = none-of (eqb 8 (stat_byte_field f)) 0 (others-byte f).0
byte-set f (setting.Follower o) = none-of (eqb 9 (stat_byte_field f)) 0 (others-byte f).1
byte-set f (setting.Leader o) = none-of (eqb 10 (stat_byte_field f)) 0 (others-byte f).2
byte-set f (setting.Text o) = none-of (eqb 13 (stat_byte_field f)) 0 (others-byte f).3

pub number-set : (f : StatNumber) (w : StatSetting) → of_field number_in (field.Number f) w ≡ stat_number_set f w
number-set f (setting.Byte g n) = none-of (eqb (stat_byte_field g) (stat_number_field f)) (pos 0) (byte-number g f)
number-set f (setting.Number g n) = refl
number-set f (setting.P3 p) = none-of (eqb 8 (stat_number_field f)) (pos 0) (others-number f).0
number-set f (setting.Follower o) = none-of (eqb 9 (stat_number_field f)) (pos 0) (others-number f).1
number-set f (setting.Leader o) = none-of (eqb 10 (stat_number_field f)) (pos 0) (others-number f).2
number-set f (setting.Text o) = none-of (eqb 13 (stat_number_field f)) (pos 0) (others-number f).3

pub p3-set : (w : StatSetting) → of_field p3_in field.P3 w ≡ third_parameter_set w
p3-set (setting.Byte g n) = none-of (eqb (stat_byte_field g) 8) (third.Byte 0) (byte-others g).0
p3-set (setting.Number g n) = none-of (eqb (stat_number_field g) 8) (third.Byte 0) (number-others g).0
p3-set (setting.P3 o) = refl
p3-set (setting.Follower o) = refl
p3-set (setting.Leader o) = refl
p3-set (setting.Text o) = refl

pub follower-set : (w : StatSetting) → of_field follower_in field.Follower w ≡ follower_set w
follower-set (setting.Byte g n) = none-of (eqb (stat_byte_field g) 9) None (byte-others g).1
follower-set (setting.Number g n) = none-of (eqb (stat_number_field g) 9) None (number-others g).1
follower-set (setting.P3 o) = refl
follower-set (setting.Follower o) = refl
follower-set (setting.Leader o) = refl
follower-set (setting.Text o) = refl

pub leader-set : (w : StatSetting) → of_field leader_in field.Leader w ≡ leader_set w
leader-set (setting.Byte g n) = none-of (eqb (stat_byte_field g) 10) None (byte-others g).2
leader-set (setting.Number g n) = none-of (eqb (stat_number_field g) 10) None (number-others g).2
leader-set (setting.P3 o) = refl
leader-set (setting.Follower o) = refl
leader-set (setting.Leader o) = refl
leader-set (setting.Text o) = refl

pub text-set : (w : StatSetting) → of_field text_in field.Text w ≡ stat_text_set w
text-set (setting.Byte g n) = none-of (eqb (stat_byte_field g) 13) None (byte-others g).3
text-set (setting.Number g n) = none-of (eqb (stat_number_field g) 13) None (number-others g).3
text-set (setting.P3 o) = refl
text-set (setting.Follower o) = refl
text-set (setting.Leader o) = refl
text-set (setting.Text o) = refl
