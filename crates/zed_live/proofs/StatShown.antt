-- A stat that has the latest writes shows the one of the replay.
use Rattle.std.proofs.Common.{◌≡◌, ◌∙◌, ◌<◌, ◌+◌, ◌&&◌, ◌||◌, ℕ, ℤ, pos, zero, suc, Bool, true, false, not, cond, List, [], ◌∷◌, length, get_or, Option, Some, None, Result, Ok, Err, refl, ap, sym, subst, true≢false, arith}
use Rattle.std.specs.List.{AllByRecursion, list_any}
use Rattle.std.specs.Option.{option_or, option_map, is_some}
use Rattle.std.proofs.lemmas.Bool.{and_parts}
use mathlib.Core.Logic.{◌⊎◌, inl, inr}
use Rattle.zed_types.specs.declared.stamp.Stamp.{Stamp}
use Rattle.zed_types.specs.declared.written.Written.{Written}
use Rattle.zed_types.specs.declared.names.Name.{Name}
use Rattle.zed_types.specs.declared.names.StatId.{StatId}
use Rattle.zed_types.specs.declared.names.TextId.{TextId}
use Rattle.zed_types.specs.declared.stat_field.StatFields.{StatFields}
use Rattle.zed_types.specs.declared.stat_field.ThirdParameter.{ThirdParameter}
use Rattle.zed_types.specs.declared.stat_field.StatByte.{StatByte}
use Rattle.zed_types.specs.declared.stat_field.StatByte.TheVariants.{X, Y, P1, P2, UnderElement, UnderColour}
use Rattle.zed_types.specs.declared.stat_field.StatNumber.TheVariants.{StepX, StepY, Cycle, Position}
use Rattle.zed_types.specs.Stamp.{before, same_stamp}
use Rattle.zed_types.specs.Names.{same_stat}
use Rattle.zed_types.specs.Stat.{stat_byte_index}
use Rattle.zed_types.specs.Table.{map_from}
use Rattle.zed_types.specs.Register.{last_value, written_at}
use Rattle.zed_types.proofs.StampOrder.{same_name-true, same_stamp-true, same_stamp-itself, before_irrefl, before_trans}
use Rattle.zed_types.proofs.Facts.{all_joined}
use Rattle.zed_world.specs.Contents.{Contents}
use Rattle.zed_world.specs.Reading.{world_at}
use Rattle.zed_world.specs.declared.error.WorldError.{WorldError}
use Rattle.zed_world.specs.declared.board.BoardData.{BoardData}
use Rattle.zed_world.specs.declared.stat.StatData.{StatData}
use Rattle.zed_op.specs.declared.op.Op.{Op}
use Rattle.zed_op.specs.declared.op.Op.TheVariants.{Genesis, BoardAdd, StatAdd, StatRemove}
use Rattle.zed_op.specs.declared.op.Edit.{Edit}
use Rattle.zed_op.specs.Fit.{Fits}
use Rattle.zed_op.specs.Set.{IsRising, AllFit}
use Rattle.zed_op.specs.Sizes.{HaveSizes}
use Rattle.zed_op.proofs.FitParts.{fit_is_each_part}
use Rattle.zed_edit.specs.declared.plain.Stat.{Stat}
use Rattle.zed_edit.specs.declared.plain.Plain.{Plain}
use Rattle.zed_edit.specs.Document.{empty_document, all_stats}
use Rattle.zed_edit.specs.Genesis.{programs_before, opened_stat, opened_boards_from}
use Rattle.zed_edit.specs.Replay.{can, step, replay, taken_on, taken}
use Rattle.zed_laws.specs.Registers.{writes_of}
use Rattle.zed_laws.proofs.LatestWrites.{latest_of-rising, writes-rising, taken-rising}
use Rattle.zed_laws.proofs.NamesInOrder.{StampsAre}
use Rattle.zed_laws.proofs.RegularSteps.{ReadIsNormal}
use Rattle.zed_laws.specs.Fields.{Field, stat_byte, stat_number, third_parameter, follower, leader, stat_text, is_player, removed_or_player}
use Rattle.zed_laws.specs.Winners.{GreatestStampWins, of_stat, find_stat, made_boards, made_stats, changes_stat, stats_of, opened_from, latest_or}
use Rattle.zed_laws.specs.Whole.{IsWholeStat}
use Rattle.zed_laws.proofs.Found.{found-holds, unfound}
use Rattle.zed_laws.proofs.Fresh.{boards-pass, stats-pass}
use Rattle.zed_laws.proofs.StatFields.{is_byte, is_number, is_third_parameter, is_follower, is_leader, is_text, is_for_player, is_removed, stat-wins}
use Rattle.zed_laws.proofs.WholeSteps.{replay_whole}
use Rattle.zed_stats.specs.declared.stat.LiveStat.{LiveStat}
use Rattle.zed_laws.proofs.StatReads.{whole-stats}
use Rattle.zed_live.specs.Shows.{latest_in}
use Rattle.zed_live.specs.Stat.{removes, StatShows, shown_stat, ReplayedStatIsShown}
use Rattle.zed_live.proofs.Lists.{found-passes}
use Rattle.zed_live.proofs.PropertiesShown.{latest-value}
use Rattle.zed_live.proofs.Shown.{same-each, inside}
use Rattle.zed_live.proofs.StatTakes.{made-removes}

or-none : (v : Bool) → v ≡ (v || false)
or-none true = refl
or-none false = refl

or-true : (v : Bool) → (v || true) ≡ true
or-true true = refl
or-true false = refl

-- ---- what an edit makes

-- no stat is made removed
opened-stays : (s : Stamp) (m t : ℕ) (b : BoardData) (j : ℕ) (xs : List StatData)
    → AllByRecursion (λ (y : Stat). y.removed ≡ false) (map_from (opened_stat s m t b) j xs)
opened-stays s m t b j [] = tt
opened-stays s m t b j (x ∷ xs) = (refl, opened-stays s m t b (j + 1) xs)

opened-stay : (s : Stamp) (n m t : ℕ) (bs : List BoardData)
    → AllByRecursion (λ (y : Stat). y.removed ≡ false) (stats_of (opened_boards_from s n m t bs))
opened-stay s n m t [] = tt
opened-stay s n m t (b ∷ bs) =
    all_joined (λ (y : Stat). y.removed ≡ false) (map_from (opened_stat s m t b) 0 b.stats) (stats_of (opened_boards_from s (n + 1) (m + length b.stats) (t + programs_before (length b.stats) b.stats) bs))
    (opened-stays s m t b 0 b.stats) (opened-stay s (n + 1) (m + length b.stats) (t + programs_before (length b.stats) b.stats) bs)

world-stays : (s : Stamp) (r : Result Contents WorldError) → AllByRecursion (λ (y : Stat). y.removed ≡ false) (stats_of (opened_from s r))
world-stays s (Ok w) = opened-stay s 0 0 0 w.boards
world-stays s (Err e) = tt

made-stays : (s : Stamp) (op : Op) → AllByRecursion (λ (y : Stat). y.removed ≡ false) (made_stats s op)
made-stays s (Genesis bytes) = world-stays s (world_at bytes)
made-stays s (BoardAdd name) = (refl, tt)
made-stays s (StatAdd b fields) = (refl, tt)
made-stays s _ = tt

made-pass : (test : Stamp → Bool) (s : Stamp) (op : Op) → test s ≡ true → StampsAre (λ (y : Stat). y.id.name.stamp) test (made_stats s op)
made-pass test s (StatAdd b fields) h = (h, tt)
made-pass test s op h = stats-pass test (made_boards s op) (boards-pass test s op h)

-- a stat has the stamp of the edit that makes it
made-stamp : (x : StatId) (e : Edit) (made : Stat) → find_stat x (made_stats e.stamp e.op) ≡ Some made → x.name.stamp ≡ e.stamp
made-stamp x e made is = go (same_stamp x.name.stamp e.stamp) refl
  where
    go : (v : Bool) → same_stamp x.name.stamp e.stamp ≡ v → x.name.stamp ≡ e.stamp
    go true v = same_stamp-true x.name.stamp e.stamp v
    go false v =
        let none = unfound (λ (y : Stat). y.id.name) (λ q. same_stamp q e.stamp) x.name (made_stats e.stamp e.op) (made-pass (λ q. same_stamp q e.stamp) e.stamp e.op (same_stamp-itself e.stamp)) v in
        absurd (true≢false (ap is_some (sym is ∙ none)))

-- an edit that fits removes only what was made before it
removal-later : (x : StatId) (e : Edit) → Fits e → removes x e.op ≡ true → before x.name.stamp e.stamp ≡ true
removal-later x e fits h = go e.op refl h
  where
    go : (op : Op) → e.op ≡ op → removes x op ≡ true → before x.name.stamp e.stamp ≡ true
    go (StatRemove y) is h =
        let earlier = rw is at ((fit_is_each_part e).0 fits).2 in
        ap (λ n. before n.stamp e.stamp) (sym (same_name-true y.name x.name h)) ∙ (and_parts (before y.name.stamp e.stamp) true earlier).0
    go _ is h = absurd (true≢false (sym h))

-- ---- the mark follows the player and the removals

module _ (marks plays : Edit → Option Bool) (gone : Edit → Bool) where
  -- an edit that makes the stat, one that removes it, which no later one makes, or another
  abbrev Kind : Edit → List Edit → Type 0
  Kind e es =
      ((p : Bool) × (marks e ≡ Some p) × (plays e ≡ Some p) × (gone e ≡ false))
      ⊎ (((marks e ≡ Some true) × (plays e ≡ None) × (gone e ≡ true) × AllByRecursion (λ f. plays f ≡ None) es)
      ⊎ ((marks e ≡ None) × (plays e ≡ None) × (gone e ≡ false)))

  abbrev Kinds : List Edit → Type 0
  Kinds [] = Unit {0}
  Kinds (e ∷ es) = Kind e es × Kinds es

  no-plays : (v : Bool) (es : List Edit) → AllByRecursion (λ f. plays f ≡ None) es → last_value v (writes_of plays es) ≡ v
  no-plays v [] a = refl
  no-plays v (e ∷ es) a = rw a.0 (no-plays v es a.1)

  follows : (v : Bool) (es : List Edit) → Kinds es
      → last_value v (writes_of marks es) ≡ (last_value v (writes_of plays es) || list_any gone es)
  follows v [] k = or-none v
  follows v (e ∷ es) k =
      elim k.0 [
        | inl a ↦ rw (a.1, a.2, a.3) (follows a.0 es k.1)
        | inr b ↦ elim b [
          | inl c ↦ rw (c.0, c.1, c.2) (follows true es k.1 ∙ ap (λ z. z || list_any gone es) (no-plays true es c.3) ∙ sym (or-true (last_value v (writes_of plays es))))
          | inr c ↦ rw (c.0, c.1, c.2) (follows v es k.1)
        ]
      ]

-- ---- what the edits of a stat are

module _ (x : StatId) where
  abbrev marks : Edit → Option Bool
  marks e = (of_stat x removed_or_player).writes e

  abbrev plays : Edit → Option Bool
  plays e = (of_stat x is_player).writes e

  abbrev gone : Edit → Bool
  gone e = removes x e.op

  set-marks : (op : Op) → cond (changes_stat x op) (removed_or_player.set op) None ≡ cond (removes x op) (Some true) None
  set-marks (StatRemove y) = refl
  set-marks op = either (changes_stat x op) None
    where
      either : (b : Bool) (o : Option Bool) → cond b o o ≡ o
      either true o = refl
      either false o = refl

  unmade-marks : (e : Edit) → find_stat x (made_stats e.stamp e.op) ≡ None → marks e ≡ cond (gone e) (Some true) None
  unmade-marks e is =
      ap (λ m. option_or (option_map removed_or_player.value m) (cond (changes_stat x e.op) (removed_or_player.set e.op) None)) is
      ∙ set-marks e.op

  unmade-plays : (e : Edit) → find_stat x (made_stats e.stamp e.op) ≡ None → plays e ≡ None
  unmade-plays e is =
      ap (λ m. option_or (option_map is_player.value m) (cond (changes_stat x e.op) None None)) is ∙ either (changes_stat x e.op) None
    where
      either : (b : Bool) (o : Option Bool) → cond b o o ≡ o
      either true o = refl
      either false o = refl

  -- an edit after the name of the stat doesn't make it
  later-unmade : (e : Edit) → before x.name.stamp e.stamp ≡ true → plays e ≡ None
  later-unmade e h = unmade-plays e (go (find_stat x (made_stats e.stamp e.op)) refl)
    where
      go : (o : Option Stat) → find_stat x (made_stats e.stamp e.op) ≡ o → o ≡ None
      go None is = refl
      go (Some made) is = absurd (true≢false (sym h ∙ ap (λ t. before t e.stamp) (made-stamp x e made is) ∙ before_irrefl e.stamp))

  all-unmade : (e : Edit) (es : List Edit) → before x.name.stamp e.stamp ≡ true → AllByRecursion (λ f. before e.stamp f.stamp ≡ true) es
      → AllByRecursion (λ f. plays f ≡ None) es
  all-unmade e [] h a = tt
  all-unmade e (f ∷ es) h a = (later-unmade f (before_trans x.name.stamp e.stamp f.stamp h a.0), all-unmade e es h a.1)

  kind : (e : Edit) (es : List Edit) → Fits e → AllByRecursion (λ f. before e.stamp f.stamp ≡ true) es → Kind marks plays gone e es
  kind e es fits later = go (find_stat x (made_stats e.stamp e.op)) refl
    where
      unmade : (v : Bool) → gone e ≡ v → find_stat x (made_stats e.stamp e.op) ≡ None → Kind marks plays gone e es
      unmade true v is = inr (inl (unmade-marks e is ∙ ap (λ (c : Bool). cond c (Some true) None) v, unmade-plays e is, v, all-unmade e es (removal-later x e fits v) later))
      unmade false v is = inr (inr (unmade-marks e is ∙ ap (λ (c : Bool). cond c (Some true) None) v, unmade-plays e is, v))

      go : (o : Option Stat) → find_stat x (made_stats e.stamp e.op) ≡ o → Kind marks plays gone e es
      go None is = unmade (gone e) refl is
      go (Some made) is = inl (
        made.is_player,
        ap (λ m. option_or (option_map removed_or_player.value m) (cond (changes_stat x e.op) (removed_or_player.set e.op) None)) is
            ∙ ap (λ v. Some (v || made.is_player)) (found-holds (λ (y : Stat). y.removed ≡ false) (λ y. same_stat y.id x) (made_stats e.stamp e.op) (made-stays e.stamp e.op) made is),
        ap (λ m. option_or (option_map is_player.value m) (cond (changes_stat x e.op) None None)) is,
        made-removes x e.stamp e.op made is,
      )

  kinds : (es : List Edit) → IsRising es → AllFit es → Kinds marks plays gone es
  kinds [] r f = tt
  kinds (e ∷ es) r f = (kind e es f.0 r.0, kinds es r.1 f.1)

-- the edits taken fit where all do
pub taken-fit : (p : Plain) (es : List Edit) → AllFit es → AllFit (taken_on p es)
taken-fit p [] a = tt
taken-fit p (e ∷ es) a = go (can p e) (taken-fit (step p e) es a.1)
  where
    go : (b : Bool) → AllFit (taken_on (step p e) es) → AllFit (cond b (e ∷ taken_on (step p e) es) (taken_on (step p e) es))
    go true more = (a.0, more)
    go false more = more

-- ---- the stat of the replay

each-byte : (P : ℕ → Type 0) → ((f : StatByte) → P (stat_byte_index f)) → (i : ℕ) → i < 6 → P i
each-byte P all zero h = all X
each-byte P all (suc zero) h = all Y
each-byte P all (suc (suc zero)) h = all P1
each-byte P all (suc (suc (suc zero))) h = all P2
each-byte P all (suc (suc (suc (suc zero)))) h = all UnderElement
each-byte P all (suc (suc (suc (suc (suc zero))))) h = all UnderColour
each-byte P all (suc (suc (suc (suc (suc (suc i)))))) h = absurd (omega arith)

each-three : (P : ℕ → Type 0) → P 0 → P 1 → P 2 → (i : ℕ) → i < 3 → P i
each-three P a b c zero h = a
each-three P a b c (suc zero) h = b
each-three P a b c (suc (suc zero)) h = c
each-three P a b c (suc (suc (suc i))) h = absurd (omega arith)

of-latest : {V : Type 0} (o : Option (Written V)) → latest_or None o ≡ option_map (λ w. w.value) o
of-latest None = refl
of-latest (Some w) = refl

mark-of : (r p a : Bool) → (p ≡ true → r ≡ false) → (r || p) ≡ (p || a) → (not p && a) ≡ r
mark-of r true a h e = sym (h refl)
mark-of true false a h e = sym e
mark-of false false a h e = sym e

module _ (normal : ReadIsNormal) (x : StatId) (es : List Edit) (stat : Stat) (rises : IsRising es) (sizes : HaveSizes es) (there : find_stat x (all_stats (replay es)) ≡ Some stat) where
  read : {V : Type 0} (f : Field Stat V) → GreatestStampWins (of_stat x f)
      → Some (f.value stat) ≡ latest_or None (latest_in (of_stat x f) (taken es))
  read f wins = sym (ap (option_map f.value) there) ∙ wins es rises sizes

  field-shown : {V : Type 0} (f : Field Stat V) (v : V) (at : Stamp) → GreatestStampWins (of_stat x f)
      → Some (written_at at v) ≡ latest_in (of_stat x f) (taken es)
      → v ≡ f.value stat
  field-shown f v at wins was = inside v (f.value stat) (sym (read f wins ∙ ap (latest_or None) (sym was)))

  is_whole : IsWholeStat stat
  is_whole = found-holds IsWholeStat (λ y. same_stat y.id x) (all_stats (replay es)) (whole-stats (replay es).boards (replay_whole normal es sizes).boards) stat there

  -- the last value that edits write
  last-read : (f : Field Stat Bool) → GreatestStampWins (of_stat x f)
      → last_value false (writes_of (of_stat x f).writes (taken es)) ≡ f.value stat
  last-read f wins =
      sym (latest_of-rising false (writes_of (of_stat x f).writes (taken es)) (writes-rising (of_stat x f).writes (taken es) (taken-rising empty_document es rises)))
      ∙ latest-value false (f.value stat) (latest_in (of_stat x f) (taken es)) (read f wins)

  removed-shown : AllFit es → (not stat.is_player && list_any (λ e. removes x e.op) (taken es)) ≡ stat.removed
  removed-shown fits =
      mark-of stat.removed stat.is_player (list_any (λ e. removes x e.op) (taken es)) is_whole.stays
      (sym (last-read removed_or_player (stat-wins removed_or_player is_removed x normal))
      ∙ follows (marks x) (plays x) (gone x) false (taken es) (kinds x (taken es) (taken-rising empty_document es rises) (taken-fit empty_document es fits))
      ∙ ap (λ v. v || list_any (λ e. removes x e.op) (taken es)) (last-read is_player (stat-wins is_player is_for_player x normal)))

abbrev fields_of : List ℕ → List ℤ → ThirdParameter → Option TextId → StatFields
fields_of b n p t = record { bytes = b; numbers = n; p3 = p; text = t }

abbrev make : StatId → Bool → StatFields → ℤ → Option StatId → Option StatId → Bool → Stat
make i p f n a b r = record { id = i; is_player = p; fields = f; position = n; follower = a; leader = b; removed = r }

abbrev stat_named : Name → StatId
stat_named n = record { name = n }

module _ (normal : ReadIsNormal) (x : StatId) (es : List Edit) (s : LiveStat) (stat : Stat) (rises : IsRising es) (fits : AllFit es) (sizes : HaveSizes es) (there : find_stat x (all_stats (replay es)) ≡ Some stat) (was : StatShows x (taken es) s) where
  shown : {V : Type 0} (f : Field Stat V) (v : V) (at : Stamp) → GreatestStampWins (of_stat x f)
      → Some (written_at at v) ≡ latest_in (of_stat x f) (taken es)
      → v ≡ f.value stat
  shown f v at wins h = field-shown normal x es stat rises sizes there f v at wins h

  bytes-shown : s.values.fields.bytes ≡ stat.fields.bytes
  bytes-shown =
      same-each 0 s.values.fields.bytes stat.fields.bytes (was.whole.bytes ∙ sym (is_whole normal x es stat rises sizes there).bytes)
      (λ i l. each-byte (λ j. get_or s.values.fields.bytes j 0 ≡ get_or stat.fields.bytes j 0)
      (λ f. shown (stat_byte f) (get_or s.values.fields.bytes (stat_byte_index f) 0) _ (stat-wins (stat_byte f) (is_byte f) x normal) (was.bytes f))
      i (subst (λ n. i < n) was.whole.bytes l))

  numbers-shown : s.values.fields.numbers ≡ stat.fields.numbers
  numbers-shown =
      same-each (pos 0) s.values.fields.numbers stat.fields.numbers (was.whole.numbers ∙ sym (is_whole normal x es stat rises sizes there).numbers)
      (λ i l. each-three (λ j. get_or s.values.fields.numbers j (pos 0) ≡ get_or stat.fields.numbers j (pos 0))
      (shown (stat_number StepX) (get_or s.values.fields.numbers 0 (pos 0)) _ (stat-wins (stat_number StepX) (is_number StepX) x normal) (was.numbers StepX))
      (shown (stat_number StepY) (get_or s.values.fields.numbers 1 (pos 0)) _ (stat-wins (stat_number StepY) (is_number StepY) x normal) (was.numbers StepY))
      (shown (stat_number Cycle) (get_or s.values.fields.numbers 2 (pos 0)) _ (stat-wins (stat_number Cycle) (is_number Cycle) x normal) (was.numbers Cycle))
      i (subst (λ n. i < n) was.whole.numbers l))

  player-shown : s.is_player ≡ stat.is_player
  player-shown =
      inside s.is_player stat.is_player
      (was.player ∙ sym (of-latest (latest_in (of_stat x is_player) (taken es))) ∙ sym (read normal x es stat rises sizes there is_player (stat-wins is_player is_for_player x normal)))

  removed-is : s.removed ≡ stat.removed
  removed-is =
      was.removed
      ∙ ap (λ p. not p && list_any (λ e. removes x e.op) (taken es)) player-shown
      ∙ removed-shown normal x es stat rises sizes there fits

pub replayed_stat_is_shown : ReadIsNormal → ReplayedStatIsShown
replayed_stat_is_shown normal x es s stat rises fits sizes there was =
    let a = shown_stat x s in
    let id : x ≡ stat.id = sym (ap stat_named (same_name-true stat.id.name x.name (found-passes (λ y. same_stat y.id x) (all_stats (replay es)) stat there))) in
    let p3 : s.values.fields.p3 ≡ stat.fields.p3 = shown normal x es s stat rises fits sizes there was third_parameter s.values.fields.p3 _ (stat-wins third_parameter is_third_parameter x normal) was.p3 in
    let text : s.values.fields.text ≡ stat.fields.text = shown normal x es s stat rises fits sizes there was stat_text s.values.fields.text _ (stat-wins stat_text is_text x normal) was.text in
    let position : s.values.position ≡ stat.position = shown normal x es s stat rises fits sizes there was (stat_number Position) s.values.position _ (stat-wins (stat_number Position) (is_number Position) x normal) (was.numbers Position) in
    let follows_it : s.values.follower ≡ stat.follower = shown normal x es s stat rises fits sizes there was follower s.values.follower _ (stat-wins follower is_follower x normal) was.follower in
    let leads_it : s.values.leader ≡ stat.leader =
    shown normal x es s stat rises fits sizes there was leader s.values.leader _ (stat-wins leader is_leader x normal) was.leader in
    let fields : fields_of s.values.fields.bytes s.values.fields.numbers s.values.fields.p3 s.values.fields.text ≡ fields_of stat.fields.bytes stat.fields.numbers stat.fields.p3 stat.fields.text =
    ap (λ b. fields_of b s.values.fields.numbers s.values.fields.p3 s.values.fields.text) (bytes-shown normal x es s stat rises fits sizes there was)
    ∙ ap (λ n. fields_of stat.fields.bytes n s.values.fields.p3 s.values.fields.text) (numbers-shown normal x es s stat rises fits sizes there was)
    ∙ ap (λ p. fields_of stat.fields.bytes stat.fields.numbers p s.values.fields.text) p3
    ∙ ap (λ t. fields_of stat.fields.bytes stat.fields.numbers stat.fields.p3 t) text in
    let path : make x s.is_player s.values.fields s.values.position s.values.follower s.values.leader s.removed ≡ make stat.id stat.is_player stat.fields stat.position stat.follower stat.leader stat.removed =
    ap (λ i. make i s.is_player s.values.fields s.values.position s.values.follower s.values.leader s.removed) id
    ∙ ap (λ p. make stat.id p s.values.fields s.values.position s.values.follower s.values.leader s.removed) (player-shown normal x es s stat rises fits sizes there was)
    ∙ ap (λ f. make stat.id stat.is_player f s.values.position s.values.follower s.values.leader s.removed) fields
    ∙ ap (λ n. make stat.id stat.is_player stat.fields n s.values.follower s.values.leader s.removed) position
    ∙ ap (λ o. make stat.id stat.is_player stat.fields stat.position o s.values.leader s.removed) follows_it
    ∙ ap (λ o. make stat.id stat.is_player stat.fields stat.position stat.follower o s.removed) leads_it
    ∙ ap (λ r. make stat.id stat.is_player stat.fields stat.position stat.follower stat.leader r) (removed-is normal x es s stat rises fits sizes there was) in
    path
