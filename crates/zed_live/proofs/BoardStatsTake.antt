-- The stats of a board take each edit as if it had come at its place.
use Rattle.std.proofs.Common.{◌≡◌, ◌∙◌, ◌||◌, Bool, true, false, cond, List, [], ◌∷◌, ◌++◌, Option, Some, None, refl, ap, sym, subst, true≢false}
use Rattle.std.specs.List.{list_any}
use Rattle.std.specs.Option.{option_or, option_map, is_some}
use Rattle.std.proofs.lemmas.Bool.{or_parts}
use Rattle.zed_types.specs.declared.stamp.Stamp.{Stamp}
use Rattle.zed_types.specs.declared.names.BoardId.{BoardId}
use Rattle.zed_types.specs.declared.names.StatId.{StatId}
use Rattle.zed_types.specs.declared.stat_field.StatFields.{StatFields}
use Rattle.zed_types.specs.Names.{stat_of, same_board, same_stat}
use Rattle.zed_types.proofs.StampOrder.{same_stamp-true}
use Rattle.zed_types.proofs.Facts.{none_is}
use Rattle.zed_op.specs.declared.op.Op.{Op}
use Rattle.zed_op.specs.declared.op.Op.TheVariants.{StatAdd, StatRemove, SetStat}
use Rattle.zed_op.specs.declared.op.Edit.{Edit}
use Rattle.zed_op.specs.declared.thing.Thing.TheVariants as thing
use Rattle.zed_op.specs.Set.{IsRising}
use Rattle.zed_op.specs.Sizes.{IsStatFields}
use Rattle.zed_edit.specs.declared.plain.Board.{Board}
use Rattle.zed_edit.specs.declared.plain.Stat.{Stat}
use Rattle.zed_edit.specs.Stat.{new_stat as plain_stat}
use Rattle.zed_laws.proofs.MadeThings.{find-any}
use Rattle.zed_laws.specs.Making.{makes}
use Rattle.zed_laws.specs.Winners.{made_boards, made_stats, changes_stat, find_board, find_stat}
use Rattle.zed_laws.specs.Whole.{IsWholeBoard, IsWholeStat}
use Rattle.zed_laws.proofs.Found.{found-holds}
use Rattle.zed_stats.specs.declared.stat.LiveStat.{LiveStat}
use Rattle.zed_stats.specs.Fields.{new_stat}
use Rattle.zed_stats.specs.Stats.{stat_name, change}
use Rattle.zed_stats.specs.Arrivals.{FieldsHoldTheLatest}
use Rattle.zed_live.specs.declared.board.LiveBoard.{LiveBoard}
use Rattle.zed_live.specs.Stat.{values_of, stat_after, touches_stat, StatShows}
use Rattle.zed_live.specs.Board.{is_of, touches, stat_changed, IsUntouched, MakesNewStats}
use Rattle.zed_live.specs.BoardStats.{Entries, stat_in, add_made, add_each, is_board, puts, IsLeftOn, StatsShow}
use Rattle.zed_live.proofs.Lists.{any-here, any-insert, any-beside, any-follows, any-none, found-passes}
use Rattle.zed_live.proofs.Homes.{puts-made, finds-made, puts-none, puts-makes}
use Rattle.zed_live.proofs.MadeOnce.{stat-stamp, stat-made-once}
use Rattle.zed_live.proofs.StatTakes.{stat_takes, stat_passes_others, stat_is_made}
use Rattle.zed_stats.proofs.Found.{in-change, rise-change, or-none}
use Rattle.zed_live.proofs.StatsByName.{only_stat, as_live, in-add_made, in-add_each, rise-add_made, rise-add_each, stat-true, stat-itself, stat-apart}

-- ---- a board that edits don't touch

pub beside-puts : (b : BoardId) (x : StatId) (e : Edit) → touches b e ≡ false → puts x b e ≡ false
beside-puts b x e h =
    let p = or_parts (is_some (find_board b (made_boards e.stamp e.op))) (is_of b e.op) h in
    puts-none b x e (none_is (find_board b (made_boards e.stamp e.op)) p.0) p.1

pub none-put : (b : BoardId) (x : StatId) (es : List Edit) → IsUntouched b es → list_any (puts x b) es ≡ false
none-put b x es a = any-none (λ e. touches b e ≡ false) (puts x b) (λ e h. beside-puts b x e h) es a

-- what is put on a board is made
pub put-made : (b : BoardId) (x : StatId) (es : List Edit) → list_any (puts x b) es ≡ true
    → list_any (λ e. makes e (thing.Stat x)) es ≡ true
put-made b x es h = any-follows (puts x b) (λ e. makes e (thing.Stat x)) (λ e k. puts-makes b x e k) es h

-- ---- under each name

-- an edit that makes a stat that is on the board already there is none
unmade : (b : BoardId) (x : StatId) (e : Edit) (low high : List Edit) → IsRising (low ++ e ∷ high)
    → list_any (puts x b) (low ++ high) ≡ true
    → find_stat x (made_stats e.stamp e.op) ≡ None
unmade b x e low high rises h = go (makes e (thing.Stat x)) refl
  where
    go : (v : Bool) → makes e (thing.Stat x) ≡ v → find_stat x (made_stats e.stamp e.op) ≡ None
    go true v = absurd (true≢false (sym (put-made b x (low ++ high) h) ∙ stat-made-once x e low high rises v))
    go false v = none_is (find_stat x (made_stats e.stamp e.op)) (find-any (λ y. same_stat y.id x) (made_stats e.stamp e.op) ∙ v)

-- a name that an edit neither puts on the board nor changes
left-beside : (b : BoardId) (x : StatId) (e : Edit) (low high : List Edit) (o : Option LiveStat) → IsRising (low ++ e ∷ high)
    → puts x b e ≡ false → changes_stat x e.op ≡ false → IsLeftOn b (low ++ high) x o
    → IsLeftOn b (low ++ e ∷ high) x o
left-beside b x e low high None rises h k was = any-beside (puts x b) low e high h ∙ was
left-beside b x e low high (Some t) rises h k was =
    let none : touches_stat x e ≡ false = ap (λ m. is_some m || changes_stat x e.op) (unmade b x e low high rises was.0) ∙ k in
    (any-insert (puts x b) low e high was.0, stat_passes_others x e low high t rises none was.1)

-- a name that an edit changes
left-changed : FieldsHoldTheLatest → (b : BoardId) (x : StatId) (e : Edit) (low high : List Edit) (o : Option LiveStat)
    → IsRising (low ++ e ∷ high) → puts x b e ≡ false → changes_stat x e.op ≡ true → IsLeftOn b (low ++ high) x o
    → IsLeftOn b (low ++ e ∷ high) x (option_map (stat_after e.stamp e.op) o)
left-changed latest b x e low high None rises h k was = any-beside (puts x b) low e high h ∙ was
left-changed latest b x e low high (Some t) rises h k was =
    (any-insert (puts x b) low e high was.0, stat_takes latest x e low high t rises k was.1)

-- a name that an edit puts on the board
left-put : (b : BoardId) (x : StatId) (e : Edit) (made : Stat) (low high : List Edit) (o : Option LiveStat) → IsRising (low ++ e ∷ high)
    → puts x b e ≡ true → find_stat x (made_stats e.stamp e.op) ≡ Some made → made.id ≡ x → IsWholeStat made → MakesNewStats e (low ++ high)
    → IsLeftOn b (low ++ high) x o
    → IsLeftOn b (low ++ e ∷ high) x (option_or o (Some (as_live made)))
left-put b x e made low high o rises h is named whole new was = go o was
  where
    makes_it : makes e (thing.Stat x) ≡ true
    makes_it = puts-makes b x e h

    stamp : made.id.name.stamp ≡ e.stamp
    stamp = ap (λ (i : StatId). i.name.stamp) named ∙ same_stamp-true x.name.stamp e.stamp (stat-stamp x e makes_it)

    go : (p : Option LiveStat) → IsLeftOn b (low ++ high) x p → IsLeftOn b (low ++ e ∷ high) x (option_or p (Some (as_live made)))
    go (Some t) k = absurd (true≢false (sym (put-made b x (low ++ high) k.0) ∙ stat-made-once x e low high rises makes_it))
    go None k = (
      any-here (puts x b) low e high h,
      subst (λ s. StatShows x (low ++ e ∷ high) (new_stat made.is_player s (values_of made))) (sym stamp) (stat_is_made x e made low high rises is whole (new x makes_it)),
    )

-- ---- every edit

-- one that neither puts a stat on the board nor changes one
pub stats_pass : (b : BoardId) (e : Edit) (low high : List Edit) (ts : Entries) → IsRising (low ++ e ∷ high)
    → ((x : StatId) → puts x b e ≡ false) → ((x : StatId) → changes_stat x e.op ≡ false) → StatsShow b (low ++ high) ts
    → StatsShow b (low ++ e ∷ high) ts
stats_pass b e low high ts rises h k was = record {
  rise = was.rise;
  each = λ x. left-beside b x e low high (stat_in x ts) rises (h x) (k x) (was.each x);
}

abbrev edit_of : Stamp → Op → Edit
edit_of s op = record { stamp = s; op = op }

-- one that changes the stat of a name
stats_change : FieldsHoldTheLatest → (b : BoardId) (y : StatId) (e : Edit) (low high : List Edit) (ts : Entries)
    → IsRising (low ++ e ∷ high) → ((x : StatId) → puts x b e ≡ false) → ((x : StatId) → changes_stat x e.op ≡ same_stat y x)
    → StatsShow b (low ++ high) ts
    → StatsShow b (low ++ e ∷ high) (change y (stat_after e.stamp e.op) ts)
stats_change latest b y e low high ts rises h changes was = record {
  rise = rise-change stat_name only_stat y (stat_after e.stamp e.op) ts was.rise;
  each = λ x. subst (IsLeftOn b (low ++ e ∷ high) x) (sym (in-change stat_name only_stat x y (stat_after e.stamp e.op) ts)) (go x (same_stat x y) refl);
}
  where
    go : (x : StatId) (v : Bool) → same_stat x y ≡ v
        → IsLeftOn b (low ++ e ∷ high) x (cond v (option_map (stat_after e.stamp e.op) (stat_in x ts)) (stat_in x ts))
    go x true v =
        let w : same_stat y x ≡ true = ap (λ d. same_stat d x) (sym (stat-true x y v)) ∙ stat-itself x in
        left-changed latest b x e low high (stat_in x ts) rises (h x) (changes x ∙ w) (was.each x)
    go x false v = left-beside b x e low high (stat_in x ts) rises (h x) (changes x ∙ stat-apart x y v) (was.each x)

-- the stats of a board after an edit that isn't of it
op-changes : FieldsHoldTheLatest → (b : BoardId) (s : Stamp) (op : Op) (low high : List Edit) (x : LiveBoard)
    → IsRising (low ++ edit_of s op ∷ high) → ((z : StatId) → puts z b (edit_of s op) ≡ false) → StatsShow b (low ++ high) x.stats
    → StatsShow b (low ++ edit_of s op ∷ high) (stat_changed s op x).stats
op-changes latest b s (StatRemove y) low high x rises h was =
    stats_change latest b y (edit_of s (StatRemove y)) low high x.stats rises h (λ z. refl) was
op-changes latest b s (SetStat y w) low high x rises h was =
    stats_change latest b y (edit_of s (SetStat y w)) low high x.stats rises h (λ z. refl) was
op-changes latest b s op low high x rises h was = stats_pass b (edit_of s op) low high x.stats rises h (λ z. refl) was

pub stats_beside : FieldsHoldTheLatest → (b : BoardId) (e : Edit) (low high : List Edit) (x : LiveBoard) → IsRising (low ++ e ∷ high)
    → touches b e ≡ false → StatsShow b (low ++ high) x.stats
    → StatsShow b (low ++ e ∷ high) (stat_changed e.stamp e.op x).stats
stats_beside latest b e low high x rises h was = op-changes latest b e.stamp e.op low high x rises (λ z. beside-puts b z e h) was

-- one that adds a stat to the board
pub stats_add : (b c : BoardId) (s : Stamp) (fields : StatFields) (low high : List Edit) (ts : Entries)
    → IsRising (low ++ edit_of s (StatAdd c fields) ∷ high) → same_board c b ≡ true → IsStatFields fields
    → MakesNewStats (edit_of s (StatAdd c fields)) (low ++ high) → StatsShow b (low ++ high) ts
    → StatsShow b (low ++ edit_of s (StatAdd c fields) ∷ high) (add_made (plain_stat (stat_of s 0) false fields) ts)
stats_add b c s fields low high ts rises here sizes new was = record {
  rise = rise-add_made n ts was.rise;
  each = λ x. subst (IsLeftOn b (low ++ e ∷ high) x) (sym (in-add_made x n ts)) (go x (same_stat x n.id) refl);
}
  where
    e : Edit
    e = edit_of s (StatAdd c fields)

    n : Stat
    n = plain_stat (stat_of s 0) false fields

    whole : IsWholeStat n
    whole = record { bytes = sizes.all_bytes; numbers = sizes.all_numbers; stays = λ h. refl }

    go : (x : StatId) (v : Bool) → same_stat x n.id ≡ v
        → IsLeftOn b (low ++ e ∷ high) x (option_or (stat_in x ts) (cond v (Some (as_live n)) None))
    go x true v =
        let i : n.id ≡ x = sym (stat-true x n.id v) in
        let w : same_stat n.id x ≡ true = ap (λ d. same_stat d x) i ∙ stat-itself x in
        let put : puts x b e ≡ true = ap (λ (u : Bool). is_board b (cond u (Some c) None)) w ∙ here in
        let is : find_stat x (n ∷ []) ≡ Some n = rw w refl in
        left-put b x e n low high (stat_in x ts) rises put is i whole new (was.each x)
    go x false v =
        let w : same_stat n.id x ≡ false = stat-apart x n.id v in
        let put : puts x b e ≡ false = ap (λ (u : Bool). is_board b (cond u (Some c) None)) w in
        subst (IsLeftOn b (low ++ e ∷ high) x) (or-none (stat_in x ts)) (left-beside b x e low high (stat_in x ts) rises put refl (was.each x))

-- one that makes the board
pub stats_made : (b : BoardId) (e : Edit) (made : Board) (low high : List Edit) → IsRising (low ++ e ∷ high)
    → find_board b (made_boards e.stamp e.op) ≡ Some made → IsWholeBoard made → IsUntouched b (low ++ high) → MakesNewStats e (low ++ high)
    → StatsShow b (low ++ e ∷ high) (add_each made.stats [])
stats_made b e made low high rises is whole none new = record {
  rise = rise-add_each made.stats [] tt;
  each = λ x. subst (IsLeftOn b (low ++ e ∷ high) x) (sym (in-add_each x made.stats [])) (go x (find_stat x made.stats) refl);
}
  where
    go : (x : StatId) (o : Option Stat) → find_stat x made.stats ≡ o → IsLeftOn b (low ++ e ∷ high) x (option_map as_live o)
    go x None k = any-beside (puts x b) low e high (puts-made b x e.stamp e.op made is ∙ ap is_some k) ∙ none-put b x (low ++ high) none
    go x (Some st) k =
        left-put b x e st low high None rises (puts-made b x e.stamp e.op made is ∙ ap is_some k) (finds-made b x e.stamp e.op made st is k) (stat-true st.id x (found-passes (λ y. same_stat y.id x) made.stats st k))
        (found-holds IsWholeStat (λ y. same_stat y.id x) made.stats whole.stats st k) new (none-put b x (low ++ high) none)
