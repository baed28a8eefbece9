-- What a write does to the fields of a stat: it sets its own, and leaves the others.
use Rattle.std.proofs.Common.{◌≡◌, ℕ, ℤ, pos, ◌+◌, ◌<◌, Bool, true, false, cond, if◌then◌else◌, eqb, eq-eqb, nat_lt, List, [], ◌∷◌, length, slice_index_or, Option, None, Some, refl, sym, ap, subst, ◌∙◌, true≢false, arith}
use Rattle.std.proofs.Math.ListN.{length-set}
use Rattle.std.proofs.lemmas.Bool.{eqb-true}
use Rattle.std.proofs.lemmas.List.{get_or-set_same, get_or-set_other}
use Rattle.zed_types.specs.declared.stamp.Stamp.{Stamp}
use Rattle.zed_types.specs.declared.written.Written.{Written}
use Rattle.zed_types.specs.declared.stat_field.StatByte.{StatByte}
use Rattle.zed_types.specs.declared.stat_field.StatByte.TheVariants.{X, Y, P1, P2, UnderElement, UnderColour}
use Rattle.zed_types.specs.declared.stat_field.StatNumber.{StatNumber}
use Rattle.zed_types.specs.declared.stat_field.StatNumber.TheVariants.{StepX, StepY, Cycle, Position}
use Rattle.zed_types.specs.declared.stat_field.StatSetting.{StatSetting}
use Rattle.zed_types.specs.declared.stat_field.StatSetting.TheVariants as setting
use Rattle.zed_types.specs.Stamp.{before}
use Rattle.zed_types.specs.Register.{keep_later, latest_of}
use Rattle.zed_types.specs.Stat.{stat_byte_index, stat_byte_field, stat_number_index, stat_number_field}
use Rattle.zed_stats.specs.declared.field.StatField.{StatField}
use Rattle.zed_stats.specs.declared.field.StatField.TheVariants.{Byte, Number, P3, Follower, Leader, Text}
use Rattle.zed_stats.specs.declared.stat.StatValues.{StatValues}
use Rattle.zed_stats.specs.declared.stat.LiveStat.{LiveStat}
use Rattle.zed_stats.specs.Fields.{field_of, field_number, number_at, value_of, with_number, with_setting, no_stamp, stamp_of, overwrite, write}
use Rattle.zed_stats.specs.Arrivals.{held, writes_of, IsWhole, FieldsHoldTheLatest}

-- a field by its number
abbrev field_numbered : ℕ → StatField
field_numbered n =
    if eqb n 0 then Byte X else
    if eqb n 1 then Byte Y else
    if eqb n 2 then Number StepX else
    if eqb n 3 then Number StepY else
    if eqb n 4 then Number Cycle else
    if eqb n 5 then Number Position else
    if eqb n 6 then Byte P1 else
    if eqb n 7 then Byte P2 else
    if eqb n 8 then P3 else
    if eqb n 9 then Follower else
    if eqb n 10 then Leader else
    if eqb n 11 then Byte UnderElement else
    if eqb n 12 then Byte UnderColour else
    Text

numbered_back : (f : StatField) → field_numbered (field_number f) ≡ f
numbered_back (Byte X) = refl
numbered_back (Byte Y) = refl
numbered_back (Byte P1) = refl
numbered_back (Byte P2) = refl
numbered_back (Byte UnderElement) = refl
numbered_back (Byte UnderColour) = refl
numbered_back (Number StepX) = refl
numbered_back (Number StepY) = refl
numbered_back (Number Cycle) = refl
numbered_back (Number Position) = refl
numbered_back P3 = refl
numbered_back Follower = refl
numbered_back Leader = refl
numbered_back Text = refl

one_field : (f g : StatField) → eqb (field_number f) (field_number g) ≡ true → f ≡ g
one_field f g h = sym (numbered_back f) ∙ ap field_numbered (eqb-true (field_number f) (field_number g) h) ∙ numbered_back g

number_low : (f : StatField) → field_number f < 14
number_low (Byte X) = omega arith
number_low (Byte Y) = omega arith
number_low (Byte P1) = omega arith
number_low (Byte P2) = omega arith
number_low (Byte UnderElement) = omega arith
number_low (Byte UnderColour) = omega arith
number_low (Number StepX) = omega arith
number_low (Number StepY) = omega arith
number_low (Number Cycle) = omega arith
number_low (Number Position) = omega arith
number_low P3 = omega arith
number_low Follower = omega arith
number_low Leader = omega arith
number_low Text = omega arith

byte_low : (f : StatByte) → stat_byte_index f < 6
byte_low X = omega arith
byte_low Y = omega arith
byte_low P1 = omega arith
byte_low P2 = omega arith
byte_low UnderElement = omega arith
byte_low UnderColour = omega arith

apart : (x y : ℕ) → eqb x y ≡ false → x ≡ y → ⊥
apart x y h e = true≢false (sym (eq-eqb x y e) ∙ h)

-- the number of a byte in an edit file, by its place
abbrev byte_field : ℕ → ℕ
byte_field i = cond (nat_lt i 2) i (cond (nat_lt i 4) (i + 4) (i + 7))

byte_field-is : (f : StatByte) → stat_byte_field f ≡ byte_field (stat_byte_index f)
byte_field-is X = refl
byte_field-is Y = refl
byte_field-is P1 = refl
byte_field-is P2 = refl
byte_field-is UnderElement = refl
byte_field-is UnderColour = refl

abbrev number_field : Option ℕ → ℕ
number_field (Some i) = i + 2
number_field None = 5

number_field-is : (f : StatNumber) → stat_number_field f ≡ number_field (stat_number_index f)
number_field-is StepX = refl
number_field-is StepY = refl
number_field-is Cycle = refl
number_field-is Position = refl

bytes_kept : (o : Option ℕ) (n : ℤ) (v : StatValues) → (with_number o n v).fields.bytes ≡ v.fields.bytes
bytes_kept (Some i) n v = refl
bytes_kept None n v = refl

p3_kept : (o : Option ℕ) (n : ℤ) (v : StatValues) → (with_number o n v).fields.p3 ≡ v.fields.p3
p3_kept (Some i) n v = refl
p3_kept None n v = refl

text_kept : (o : Option ℕ) (n : ℤ) (v : StatValues) → (with_number o n v).fields.text ≡ v.fields.text
text_kept (Some i) n v = refl
text_kept None n v = refl

follower_kept : (o : Option ℕ) (n : ℤ) (v : StatValues) → (with_number o n v).follower ≡ v.follower
follower_kept (Some i) n v = refl
follower_kept None n v = refl

leader_kept : (o : Option ℕ) (n : ℤ) (v : StatValues) → (with_number o n v).leader ≡ v.leader
leader_kept (Some i) n v = refl
leader_kept None n v = refl

number_same : (o : Option ℕ) (v u : StatValues) → v.fields.numbers ≡ u.fields.numbers → v.position ≡ u.position
    → number_at o v ≡ number_at o u
number_same (Some i) v u p q = ap (λ xs. slice_index_or xs i (pos 0)) p
number_same None v u p q = q

number_other : (o q : Option ℕ) (n : ℤ) (v : StatValues) → (o ≡ q → ⊥) → number_at o (with_number q n v) ≡ number_at o v
number_other (Some i) (Some j) n v h = get_or-set_other v.fields.numbers j i n (pos 0) (λ e. h (ap Some e))
number_other (Some i) None n v h = refl
number_other None (Some j) n v h = refl
number_other None None n v h = absurd (h refl)

number_set : (f : StatNumber) (n : ℤ) (v : StatValues) → length v.fields.numbers ≡ 3
    → number_at (stat_number_index f) (with_number (stat_number_index f) n v) ≡ n
number_set StepX n v h = get_or-set_same v.fields.numbers 0 n (pos 0) (omega arith)
number_set StepY n v h = get_or-set_same v.fields.numbers 1 n (pos 0) (omega arith)
number_set Cycle n v h = get_or-set_same v.fields.numbers 2 n (pos 0) (omega arith)
number_set Position n v h = refl

-- the field of a setting has its value
value_set : (w : StatSetting) (v : StatValues) → length v.fields.bytes ≡ 6 → length v.fields.numbers ≡ 3
    → value_of (field_of w) (with_setting w v) ≡ w
value_set (setting.Byte f n) v b m = let low = byte_low f in ap (setting.Byte f) (get_or-set_same v.fields.bytes (stat_byte_index f) n 0 (omega arith))
value_set (setting.Number f n) v b m = ap (setting.Number f) (number_set f n v m)
value_set (setting.P3 p) v b m = refl
value_set (setting.Follower o) v b m = refl
value_set (setting.Leader o) v b m = refl
value_set (setting.Text o) v b m = refl

-- each other field has the value that it had
value_other : (f : StatField) (w : StatSetting) (v : StatValues) → eqb (field_number (field_of w)) (field_number f) ≡ false
    → value_of f (with_setting w v) ≡ value_of f v
value_other (Byte f) (setting.Byte g n) v h = ap (setting.Byte f) (get_or-set_other v.fields.bytes (stat_byte_index g) (stat_byte_index f) n 0 (λ e. apart (stat_byte_field g) (stat_byte_field f) h (byte_field-is g ∙ ap byte_field (sym e) ∙ sym (byte_field-is f))))
value_other (Byte f) (setting.Number g n) v h =
    ap (λ xs. setting.Byte f (slice_index_or xs (stat_byte_index f) 0)) (bytes_kept (stat_number_index g) n v)
value_other (Byte f) (setting.P3 p) v h = refl
value_other (Byte f) (setting.Follower o) v h = refl
value_other (Byte f) (setting.Leader o) v h = refl
value_other (Byte f) (setting.Text o) v h = refl
value_other (Number f) (setting.Byte g n) v h =
    ap (setting.Number f) (number_same (stat_number_index f) (with_setting (setting.Byte g n) v) v refl refl)
value_other (Number f) (setting.Number g n) v h = ap (setting.Number f) (number_other (stat_number_index f) (stat_number_index g) n v (λ e. apart (stat_number_field g) (stat_number_field f) h (number_field-is g ∙ ap number_field (sym e) ∙ sym (number_field-is f))))
value_other (Number f) (setting.P3 p) v h =
    ap (setting.Number f) (number_same (stat_number_index f) (with_setting (setting.P3 p) v) v refl refl)
value_other (Number f) (setting.Follower o) v h =
    ap (setting.Number f) (number_same (stat_number_index f) (with_setting (setting.Follower o) v) v refl refl)
value_other (Number f) (setting.Leader o) v h =
    ap (setting.Number f) (number_same (stat_number_index f) (with_setting (setting.Leader o) v) v refl refl)
value_other (Number f) (setting.Text o) v h =
    ap (setting.Number f) (number_same (stat_number_index f) (with_setting (setting.Text o) v) v refl refl)
value_other P3 (setting.Byte g n) v h = refl
value_other P3 (setting.Number g n) v h = ap setting.P3 (p3_kept (stat_number_index g) n v)
value_other P3 (setting.P3 p) v h = absurd (true≢false h)
value_other P3 (setting.Follower o) v h = refl
value_other P3 (setting.Leader o) v h = refl
value_other P3 (setting.Text o) v h = refl
value_other Follower (setting.Byte g n) v h = refl
value_other Follower (setting.Number g n) v h = ap setting.Follower (follower_kept (stat_number_index g) n v)
value_other Follower (setting.P3 p) v h = refl
value_other Follower (setting.Follower o) v h = absurd (true≢false h)
value_other Follower (setting.Leader o) v h = refl
value_other Follower (setting.Text o) v h = refl
value_other Leader (setting.Byte g n) v h = refl
value_other Leader (setting.Number g n) v h = ap setting.Leader (leader_kept (stat_number_index g) n v)
value_other Leader (setting.P3 p) v h = refl
value_other Leader (setting.Follower o) v h = refl
value_other Leader (setting.Leader o) v h = absurd (true≢false h)
value_other Leader (setting.Text o) v h = refl
value_other Text (setting.Byte g n) v h = refl
value_other Text (setting.Number g n) v h = ap setting.Text (text_kept (stat_number_index g) n v)
value_other Text (setting.P3 p) v h = refl
value_other Text (setting.Follower o) v h = refl
value_other Text (setting.Leader o) v h = refl
value_other Text (setting.Text o) v h = absurd (true≢false h)

whole_values : (w : StatSetting) (v : StatValues) → length v.fields.bytes ≡ 6 → length v.fields.numbers ≡ 3
    → (length (with_setting w v).fields.bytes ≡ 6) × (length (with_setting w v).fields.numbers ≡ 3)
whole_values (setting.Byte f n) v b m = (length-set v.fields.bytes (stat_byte_index f) n ∙ b, m)
whole_values (setting.Number StepX n) v b m = (b, length-set v.fields.numbers 0 n ∙ m)
whole_values (setting.Number StepY n) v b m = (b, length-set v.fields.numbers 1 n ∙ m)
whole_values (setting.Number Cycle n) v b m = (b, length-set v.fields.numbers 2 n ∙ m)
whole_values (setting.Number Position n) v b m = (b, m)
whole_values (setting.P3 p) v b m = (b, m)
whole_values (setting.Follower o) v b m = (b, m)
whole_values (setting.Leader o) v b m = (b, m)
whole_values (setting.Text o) v b m = (b, m)

pub whole_write : (at : Stamp) (w : StatSetting) (s : LiveStat) → IsWhole s → IsWhole (write at w s)
whole_write at w s h = go (before (stamp_of (field_of w) s) at)
  where
    go : (b : Bool) → IsWhole (cond b (overwrite at w s) s)
    go true =
        let v = whole_values w s.values h.bytes h.numbers in
        record { stamps = length-set s.stamps (field_number (field_of w)) at ∙ h.stamps; bytes = v.0; numbers = v.1 }
    go false = h

abbrev held_at : StatSetting → Stamp → Written StatSetting
held_at v s = record { stamp = s; value = v }

-- a field after one write
one_write : (f : StatField) (w : Written StatSetting) (s : LiveStat) → IsWhole s
    → Some (held f (write w.stamp w.value s))
    ≡ cond (eqb (field_number (field_of w.value)) (field_number f)) (keep_later (Some (held f s)) w) (Some (held f s))
one_write f w s h = go (eqb (field_number (field_of w.value)) (field_number f)) refl (before (stamp_of (field_of w.value) s) w.stamp) refl
  where
    low : length s.stamps ≡ 14
    low = h.stamps

    go : (b : Bool) → eqb (field_number (field_of w.value)) (field_number f) ≡ b → (c : Bool)
        → before (stamp_of (field_of w.value) s) w.stamp ≡ c
        → Some (held f (write w.stamp w.value s)) ≡ cond b (keep_later (Some (held f s)) w) (Some (held f s))
    go true b true c =
        let same = one_field (field_of w.value) f b in
        let under = number_low (field_of w.value) in
        let later : before (stamp_of f s) w.stamp ≡ true = subst (λ g. before (stamp_of g s) w.stamp ≡ true) same c in
        let stamp : stamp_of f (overwrite w.stamp w.value s) ≡ w.stamp = subst (λ g. stamp_of g (overwrite w.stamp w.value s) ≡ w.stamp) same (get_or-set_same s.stamps (field_number (field_of w.value)) w.stamp no_stamp (omega arith)) in
        let value : value_of f (with_setting w.value s.values) ≡ w.value =
        subst (λ g. value_of g (with_setting w.value s.values) ≡ w.value) same (value_set w.value s.values h.bytes h.numbers) in
        let made : held f (overwrite w.stamp w.value s) ≡ w =
        ap (held_at (value_of f (with_setting w.value s.values))) stamp ∙ ap (λ v. held_at v w.stamp) value in
        rw (c, later) (ap Some made)
    go true b false c =
        let same = one_field (field_of w.value) f b in
        let earlier : before (stamp_of f s) w.stamp ≡ false = subst (λ g. before (stamp_of g s) w.stamp ≡ false) same c in
        rw (c, earlier) refl
    go false b true c =
        let stamp : stamp_of f (overwrite w.stamp w.value s) ≡ stamp_of f s = get_or-set_other s.stamps (field_number (field_of w.value)) (field_number f) w.stamp no_stamp (λ e. apart (field_number (field_of w.value)) (field_number f) b (sym e)) in
        let value = value_other f w.value s.values b in
        let made : held f (overwrite w.stamp w.value s) ≡ held f s =
        ap (held_at (value_of f (with_setting w.value s.values))) stamp ∙ ap (λ v. held_at v (stamp_of f s)) value in
        rw c (ap Some made)
    go false b false c = rw c refl

reached : (b : Bool) (f : StatField) (w : Written StatSetting) (ws : List (Written StatSetting)) (o : Option (Written StatSetting))
    → latest_of (cond b (keep_later o w) o) (writes_of f ws) ≡ latest_of o (cond b (w ∷ writes_of f ws) (writes_of f ws))
reached true f w ws o = refl
reached false f w ws o = refl

pub fields_hold_the_latest : FieldsHoldTheLatest
fields_hold_the_latest f [] s h = refl
fields_hold_the_latest f (w ∷ ws) s h =
    fields_hold_the_latest f ws (write w.stamp w.value s) (whole_write w.stamp w.value s h)
    ∙ ap (λ o. latest_of o (writes_of f ws)) (one_write f w s h)
    ∙ reached (eqb (field_number (field_of w.value)) (field_number f)) f w ws (Some (held f s))
