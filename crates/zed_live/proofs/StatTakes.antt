-- A stat takes each edit as if it had come at its place.
use Rattle.std.proofs.Common.{◌≡◌, ◌∙◌, ◌&&◌, ◌||◌, Bool, true, false, not, cond, List, [], ◌∷◌, ◌++◌, eqb, Option, Some, None, refl, ap, sym, subst, true≢false}
use Rattle.std.specs.List.{AllByRecursion, list_any}
use Rattle.std.specs.Option.{option_or, option_map, is_some}
use Rattle.std.proofs.lemmas.Bool.{or_parts}
use Rattle.zed_types.specs.declared.stamp.Stamp.{Stamp}
use Rattle.zed_types.specs.declared.written.Written.{Written}
use Rattle.zed_types.specs.declared.names.StatId.{StatId}
use Rattle.zed_types.specs.declared.stat_field.StatByte.{StatByte}
use Rattle.zed_types.specs.declared.stat_field.StatByte.TheVariants.{X, Y, P1, P2, UnderElement, UnderColour}
use Rattle.zed_types.specs.declared.stat_field.StatNumber.{StatNumber}
use Rattle.zed_types.specs.declared.stat_field.StatNumber.TheVariants.{StepX, StepY, Cycle, Position}
use Rattle.zed_types.specs.declared.stat_field.StatSetting.{StatSetting}
use Rattle.zed_types.specs.Stamp.{before}
use Rattle.zed_types.specs.Names.{same_stat}
use Rattle.zed_types.specs.Stat.{stat_number_index}
use Rattle.zed_types.specs.Register.{keep_later, latest_of, written_at}
use Rattle.zed_types.proofs.Facts.{none_is}
use Rattle.zed_op.specs.declared.op.Op.{Op}
use Rattle.zed_op.specs.declared.op.Op.TheVariants.{StatRemove, SetStat}
use Rattle.zed_op.specs.declared.op.Edit.{Edit}
use Rattle.zed_op.specs.Set.{IsRising}
use Rattle.zed_edit.specs.declared.plain.Stat.{Stat}
use Rattle.zed_laws.specs.Registers.{kept_after}
use Rattle.zed_laws.specs.Fields.{Field, by_stat, stat_byte, stat_byte_set, stat_number, stat_number_set, third_parameter, third_parameter_set, follower, follower_set, leader, leader_set, stat_text, stat_text_set, is_player}
use Rattle.zed_laws.specs.Winners.{Register, of_stat, find_stat, made_stats, changes_stat}
use Rattle.zed_stats.specs.declared.field.StatField.{StatField}
use Rattle.zed_stats.specs.declared.field.StatField.TheVariants as field
use Rattle.zed_stats.specs.declared.stat.LiveStat.{LiveStat}
use Rattle.zed_stats.specs.Fields.{field_of, field_number, number_at, value_of, stamp_of, overwrite, write, new_stat}
use Rattle.zed_stats.specs.Arrivals.{held, writes_of, IsWhole, FieldsHoldTheLatest}
use Rattle.zed_stats.proofs.FieldWrites.{whole_write}
use Rattle.zed_live.specs.Shows.{latest_in}
use Rattle.zed_live.specs.Stat.{values_of, stat_after, removes, held_as, StatShows, touches_stat, StatIsMade, StatTakes, StatPassesOthers}
use Rattle.zed_live.proofs.HeaderTakes.{put-late}
use Rattle.zed_live.proofs.PropertiesTake.{wrote}
use Rattle.zed_live.proofs.StatSettings.{of_field, byte_in, number_in, p3_in, follower_in, leader_in, text_in, byte-set, number-set, p3-set, follower-set, leader-set, text-set}

-- ---- a field after a setting

abbrev map_value : {U V : Type 0} → (U → V) → Option (Written U) → Option (Written V)
map_value f None = None
map_value f (Some w) = Some (written_at w.stamp (f w.value))

kept-mapped : {U V : Type 0} (f : U → V) (k w : Written U)
    → map_value f (keep_later (Some k) w) ≡ keep_later (Some (written_at k.stamp (f k.value))) (written_at w.stamp (f w.value))
kept-mapped {V = V} f k w = go (before k.stamp w.stamp)
  where
    go : (b : Bool)
        → map_value f (cond b (Some w) (Some k)) ≡ cond b (Some (written_at w.stamp (f w.value))) (Some (written_at k.stamp (f k.value)))
    go true = refl
    go false = refl

module _ {V : Type 0} (latest : FieldsHoldTheLatest) (value : StatSetting → V) (f : StatField) where
  -- the field keeps the later of what it has and the setting, if that is of it
  field-after : (at : Stamp) (w : StatSetting) (s : LiveStat) → IsWhole s
      → held_as f (value (value_of f (write at w s).values)) (write at w s)
      ≡ kept_after at (held_as f (value (value_of f s.values)) s) (of_field value f w)
  field-after at w s whole =
      ap (map_value value) (latest f (written_at at w ∷ []) s whole) ∙ go (eqb (field_number (field_of w)) (field_number f)) refl
    where
      go : (b : Bool) → eqb (field_number (field_of w)) (field_number f) ≡ b
          → map_value value (latest_of (Some (held f s)) (writes_of f (written_at at w ∷ [])))
          ≡ kept_after at (held_as f (value (value_of f s.values)) s) (cond b (Some (value w)) None)
      go true b = rw b (kept-mapped value (held f s) (written_at at w))
      go false b = rw b refl

-- ---- what an edit writes

untouched-parts : (x : StatId) (e : Edit) → touches_stat x e ≡ false
    → (find_stat x (made_stats e.stamp e.op) ≡ None) × (changes_stat x e.op ≡ false)
untouched-parts x e h =
    let p = or_parts (is_some (find_stat x (made_stats e.stamp e.op))) (changes_stat x e.op) h in
    (none_is (find_stat x (made_stats e.stamp e.op)) p.0, p.1)

module _ {V : Type 0} (f : Field Stat V) (x : StatId) where
  beside-writes : (e : Edit) → touches_stat x e ≡ false → (of_stat x f).writes e ≡ None
  beside-writes e h =
      let p = untouched-parts x e h in
      ap (λ m. option_or (option_map f.value m) (cond (changes_stat x e.op) (f.set e.op) None)) p.0
      ∙ ap (λ (c : Bool). cond c (f.set e.op) None) p.1

  none-latest : (es : List Edit) → AllByRecursion (λ e. touches_stat x e ≡ false) es → latest_in (of_stat x f) es ≡ None
  none-latest [] a = refl
  none-latest (e ∷ es) a = rw (beside-writes e a.0) (none-latest es a.1)

  -- what an edit doesn't write stays
  keeps : (e : Edit) (low high : List Edit) (kept : Option (Written V)) → IsRising (low ++ e ∷ high) → (of_stat x f).writes e ≡ None
      → kept ≡ latest_in (of_stat x f) (low ++ high)
      → kept ≡ latest_in (of_stat x f) (low ++ e ∷ high)
  keeps e low high kept rises none was =
      put-late (of_stat x f) e low high kept kept rises was (wrote (of_stat x f) e kept kept None none refl)

  made-writes : (e : Edit) (made : Stat) → find_stat x (made_stats e.stamp e.op) ≡ Some made → (of_stat x f).writes e ≡ Some (f.value made)
  made-writes e made is = ap (λ m. option_or (option_map f.value m) (cond (changes_stat x e.op) (f.set e.op) None)) is

  -- the making of a stat that nothing else touches is the latest write
  written-first : (e : Edit) (made : Stat) (low high : List Edit) → IsRising (low ++ e ∷ high)
      → find_stat x (made_stats e.stamp e.op) ≡ Some made → AllByRecursion (λ g. touches_stat x g ≡ false) (low ++ high)
      → Some (written_at e.stamp (f.value made)) ≡ latest_in (of_stat x f) (low ++ e ∷ high)
  written-first e made low high rises is none =
      put-late (of_stat x f) e low high None (Some (written_at e.stamp (f.value made))) rises (sym (none-latest (low ++ high) none))
      (wrote (of_stat x f) e None (Some (written_at e.stamp (f.value made))) (Some (f.value made)) (made-writes e made is) refl)

-- a setting of the stat is put into a field
module _ {V : Type 0} (latest : FieldsHoldTheLatest) (value : StatSetting → V) (f : StatField) (read : Stat → V) (give : StatSetting → Option V) (same : (w : StatSetting) → of_field value f w ≡ give w) where
  setting-put : (x y : StatId) (at : Stamp) (w : StatSetting) (low high : List Edit) (s : LiveStat)
      → IsRising (low ++ record { stamp = at; op = SetStat y w } ∷ high)
      → same_stat y x ≡ true
      → IsWhole s
      → held_as f (value (value_of f s.values)) s ≡ latest_in (of_stat x (record { value = read; set = by_stat give })) (low ++ high)
      → held_as f (value (value_of f (write at w s).values)) (write at w s)
      ≡ latest_in (of_stat x (record { value = read; set = by_stat give })) (low ++ record { stamp = at; op = SetStat y w } ∷ high)
  setting-put x y at w low high s rises is whole was =
      let e : Edit = record { stamp = at; op = SetStat y w } in
      let r : Register V = of_stat x (record { value = read; set = by_stat give }) in
      let old = held_as f (value (value_of f s.values)) s in
      let new = held_as f (value (value_of f (write at w s).values)) (write at w s) in
      put-late r e low high old new rises was
      (wrote r e old new (give w) (ap (λ (c : Bool). cond c (give w) None) is) (field-after latest value f at w s whole ∙ ap (kept_after at old) (same w)))

-- ---- the mark, and what stays

any-insert : (x : StatId) (low : List Edit) (e : Edit) (high : List Edit)
    → list_any (λ f. removes x f.op) (low ++ e ∷ high) ≡ (removes x e.op || list_any (λ f. removes x f.op) (low ++ high))
any-insert x [] e high = refl
any-insert x (f ∷ low) e high =
    ap (λ v. removes x f.op || v) (any-insert x low e high)
    ∙ swap (removes x f.op) (removes x e.op) (list_any (λ g. removes x g.op) (low ++ high))
  where
    swap : (a b c : Bool) → (a || (b || c)) ≡ (b || (a || c))
    swap true true c = refl
    swap true false c = refl
    swap false b c = refl

-- an edit that doesn't remove the stat leaves the mark
mark-kept : (x : StatId) (e : Edit) (low high : List Edit) (m p : Bool) → removes x e.op ≡ false
    → m ≡ (not p && list_any (λ f. removes x f.op) (low ++ high))
    → m ≡ (not p && list_any (λ f. removes x f.op) (low ++ e ∷ high))
mark-kept x e low high m p h was =
    was ∙ ap (λ v. not p && v) (sym (any-insert x low e high ∙ ap (λ v. v || list_any (λ f. removes x f.op) (low ++ high)) h))

and-true : (p : Bool) → p ≡ (p && true)
and-true true = refl
and-true false = refl

none-removes : (x : StatId) (op : Op) → changes_stat x op ≡ false → removes x op ≡ false
none-removes x (StatRemove y) h = h
none-removes x _ h = refl

player-kept : (at : Stamp) (w : StatSetting) (s : LiveStat) → (write at w s).is_player ≡ s.is_player
player-kept at w s = go (before (stamp_of (field_of w) s) at)
  where
    go : (b : Bool) → (cond b (overwrite at w s) s).is_player ≡ s.is_player
    go true = refl
    go false = refl

removed-kept : (at : Stamp) (w : StatSetting) (s : LiveStat) → (write at w s).removed ≡ s.removed
removed-kept at w s = go (before (stamp_of (field_of w) s) at)
  where
    go : (b : Bool) → (cond b (overwrite at w s) s).removed ≡ s.removed
    go true = refl
    go false = refl

-- ---- edits of the stat

abbrev edit_of : Stamp → Op → Edit
edit_of s op = record { stamp = s; op = op }

module _ (latest : FieldsHoldTheLatest) where
  op-takes : (x : StatId) (at : Stamp) (op : Op) (low high : List Edit) (s : LiveStat) → IsRising (low ++ edit_of at op ∷ high)
      → changes_stat x op ≡ true → StatShows x (low ++ high) s
      → StatShows x (low ++ edit_of at op ∷ high) (stat_after at op s)
  op-takes x at (SetStat y w) low high s rises h was = record {
    whole = whole_write at w s was.whole;
    bytes = λ f. setting-put latest byte_in (field.Byte f) (λ z. (stat_byte f).value z) (stat_byte_set f) (byte-set f) x y at w low high s rises h was.whole (was.bytes f);
    numbers = λ f. setting-put latest number_in (field.Number f) (λ z. (stat_number f).value z) (stat_number_set f) (number-set f) x y at w low high s rises h was.whole (was.numbers f);
    p3 = setting-put latest p3_in field.P3 (λ z. third_parameter.value z) third_parameter_set p3-set x y at w low high s rises h was.whole was.p3;
    follower = setting-put latest follower_in field.Follower (λ z. follower.value z) follower_set follower-set x y at w low high s rises h was.whole was.follower;
    leader = setting-put latest leader_in field.Leader (λ z. leader.value z) leader_set leader-set x y at w low high s rises h was.whole was.leader;
    text = setting-put latest text_in field.Text (λ z. stat_text.value z) stat_text_set text-set x y at w low high s rises h was.whole was.text;
    player =
        ap Some (player-kept at w s) ∙ was.player
        ∙ ap (option_map (λ z. z.value)) (keeps is_player x (edit_of at (SetStat y w)) low high (latest_in (of_stat x is_player) (low ++ high)) rises (ap (λ (c : Bool). cond c None None) h) refl);
    removed =
        removed-kept at w s
        ∙ subst (λ p. s.removed ≡ (not p && list_any (λ f. removes x f.op) (low ++ edit_of at (SetStat y w) ∷ high))) (sym (player-kept at w s))
        (mark-kept x (edit_of at (SetStat y w)) low high s.removed s.is_player refl was.removed);
  }
  op-takes x at (StatRemove y) low high s rises h was =
      let e = edit_of at (StatRemove y) in
      record {
        whole = record { stamps = was.whole.stamps; bytes = was.whole.bytes; numbers = was.whole.numbers };
        bytes = λ f. keeps (stat_byte f) x e low high _ rises (ap (λ (c : Bool). cond c None None) h) (was.bytes f);
        numbers = λ f. keeps (stat_number f) x e low high _ rises (ap (λ (c : Bool). cond c None None) h) (was.numbers f);
        p3 = keeps third_parameter x e low high _ rises (ap (λ (c : Bool). cond c None None) h) was.p3;
        follower = keeps follower x e low high _ rises (ap (λ (c : Bool). cond c None None) h) was.follower;
        leader = keeps leader x e low high _ rises (ap (λ (c : Bool). cond c None None) h) was.leader;
        text = keeps stat_text x e low high _ rises (ap (λ (c : Bool). cond c None None) h) was.text;
        player = was.player ∙ ap (option_map (λ z. z.value)) (keeps is_player x e low high (latest_in (of_stat x is_player) (low ++ high)) rises (ap (λ (c : Bool). cond c None None) h) refl);
        removed =
            and-true (not s.is_player)
            ∙ ap (λ v. not s.is_player && v) (sym (any-insert x low e high ∙ ap (λ v. v || list_any (λ f. removes x f.op) (low ++ high)) h));
      }
  op-takes x at _ low high s rises h was = absurd (true≢false (sym h))

  pub stat_takes : StatTakes
  stat_takes x e low high s rises h was = op-takes x e.stamp e.op low high s rises h was

-- ---- other edits

pub stat_passes_others : StatPassesOthers
stat_passes_others x e low high s rises h was = record {
  whole = was.whole;
  bytes = λ f. keeps (stat_byte f) x e low high _ rises (beside-writes (stat_byte f) x e h) (was.bytes f);
  numbers = λ f. keeps (stat_number f) x e low high _ rises (beside-writes (stat_number f) x e h) (was.numbers f);
  p3 = keeps third_parameter x e low high _ rises (beside-writes third_parameter x e h) was.p3;
  follower = keeps follower x e low high _ rises (beside-writes follower x e h) was.follower;
  leader = keeps leader x e low high _ rises (beside-writes leader x e h) was.leader;
  text = keeps stat_text x e low high _ rises (beside-writes stat_text x e h) was.text;
  player = was.player ∙ ap (option_map (λ z. z.value)) (keeps is_player x e low high (latest_in (of_stat x is_player) (low ++ high)) rises (beside-writes is_player x e h) refl);
  removed = mark-kept x e low high s.removed s.is_player (none-removes x e.op (untouched-parts x e h).1) was.removed;
}

-- ---- the making

-- all fields of a new stat have its stamp
byte-stamp : (p : Bool) (at : Stamp) (made : Stat) (f : StatByte) → stamp_of (field.Byte f) (new_stat p at (values_of made)) ≡ at
byte-stamp p at made X = refl
byte-stamp p at made Y = refl
byte-stamp p at made P1 = refl
byte-stamp p at made P2 = refl
byte-stamp p at made UnderElement = refl
byte-stamp p at made UnderColour = refl

number-held : (p : Bool) (at : Stamp) (made : Stat) (f : StatNumber)
    → held_as (field.Number f) (number_at (stat_number_index f) (values_of made)) (new_stat p at (values_of made))
    ≡ Some (written_at at ((stat_number f).value made))
number-held p at made StepX = refl
number-held p at made StepY = refl
number-held p at made Cycle = refl
number-held p at made Position = refl

none-removed : (x : StatId) (es : List Edit) → AllByRecursion (λ f. touches_stat x f ≡ false) es → list_any (λ f. removes x f.op) es ≡ false
none-removed x [] a = refl
none-removed x (e ∷ es) a =
    ap (λ v. v || list_any (λ f. removes x f.op) es) (none-removes x e.op (untouched-parts x e a.0).1) ∙ none-removed x es a.1

-- an edit that makes a stat removes none
pub made-removes : (x : StatId) (s : Stamp) (op : Op) (made : Stat) → find_stat x (made_stats s op) ≡ Some made → removes x op ≡ false
made-removes x s (StatRemove y) made is = absurd (cc)
made-removes x s _ made is = refl

and-false : (p : Bool) → false ≡ (p && false)
and-false true = refl
and-false false = refl

pub stat_is_made : StatIsMade
stat_is_made x e made low high rises is whole none = record {
  whole = record { stamps = refl; bytes = whole.bytes; numbers = whole.numbers };
  bytes = λ f. ap (λ t. Some (written_at t ((stat_byte f).value made))) (byte-stamp made.is_player e.stamp made f) ∙ written-first (stat_byte f) x e made low high rises is none;
  numbers = λ f. number-held made.is_player e.stamp made f ∙ written-first (stat_number f) x e made low high rises is none;
  p3 = written-first third_parameter x e made low high rises is none;
  follower = written-first follower x e made low high rises is none;
  leader = written-first leader x e made low high rises is none;
  text = written-first stat_text x e made low high rises is none;
  player = ap (option_map (λ z. z.value)) (written-first is_player x e made low high rises is none);
  removed =
      and-false (not made.is_player)
      ∙ ap (λ v. not made.is_player && v) (sym (any-insert x low e high ∙ ap (λ v. v || list_any (λ f. removes x f.op) (low ++ high)) (made-removes x e.stamp e.op made is) ∙ none-removed x (low ++ high) none));
}
