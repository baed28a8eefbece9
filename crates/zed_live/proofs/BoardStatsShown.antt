-- The stats of a board that have the latest writes of the edits taken are those of the replay.
use Rattle.std.proofs.Common.{◌≡◌, ◌∙◌, ◌||◌, Bool, true, false, cond, List, [], ◌∷◌, Option, Some, None, refl, ap, sym, true≢false}
use Rattle.std.specs.List.{list_any}
use Rattle.std.specs.Option.{option_map, is_some}
use Rattle.zed_types.specs.declared.names.Name.{Name}
use Rattle.zed_types.specs.declared.names.BoardId.{BoardId}
use Rattle.zed_types.specs.declared.names.StatId.{StatId}
use Rattle.zed_types.specs.declared.stamp.Stamp.{Stamp}
use Rattle.zed_types.specs.declared.written.Written.{Written}
use Rattle.zed_types.specs.Names.{same_board}
use Rattle.zed_types.specs.Register.{keep_later, latest_of, written_at}
use Rattle.zed_types.specs.Stamp.{before}
use Rattle.zed_types.proofs.StampOrder.{same_name-itself}
use Rattle.zed_types.proofs.Facts.{or_right}
use Rattle.zed_op.specs.declared.op.Edit.{Edit}
use Rattle.zed_op.specs.declared.thing.Thing.TheVariants as thing
use Rattle.zed_op.specs.Set.{IsRising, AllFit}
use Rattle.zed_op.specs.Sizes.{HaveSizes}
use Rattle.zed_edit.specs.declared.plain.Board.{Board}
use Rattle.zed_edit.specs.declared.plain.Stat.{Stat}
use Rattle.zed_edit.specs.Document.{empty_document}
use Rattle.zed_edit.specs.Replay.{replay, taken}
use Rattle.zed_laws.specs.NameOrder.{StatsRise}
use Rattle.zed_laws.specs.Registers.{writes_of}
use Rattle.zed_laws.proofs.LatestWrites.{taken-rising}
use Rattle.zed_laws.proofs.NamesInOrder.{replay_ordered}
use Rattle.zed_laws.proofs.RegularSteps.{ReadIsNormal}
use Rattle.zed_laws.specs.Homes.{made_home, home}
use Rattle.zed_laws.specs.Making.{makes}
use Rattle.zed_laws.specs.Winners.{find_board, find_stat, latest_or}
use Rattle.zed_laws.proofs.Found.{found-holds}
use Rattle.zed_laws.proofs.Homes.{home-wins}
use Rattle.zed_laws.proofs.OrderedLists.{ordered_are_their_members}
use Rattle.zed_laws.proofs.OwnNames.{boards_have_own_names, stats_have_own_names}
use Rattle.zed_stats.specs.declared.stat.LiveStat.{LiveStat}
use Rattle.zed_live.specs.Shows.{latest_in}
use Rattle.zed_live.specs.Stat.{shown_stat}
use Rattle.zed_live.specs.BoardStats.{Entries, stat_in, is_board, puts, IsLeftOn, StatsShow, shown_stats}
use Rattle.zed_live.proofs.BoardStatsTake.{put-made}
use Rattle.zed_live.proofs.Homes.{OwnNames, on-it, home-on, puts-makes}
use Rattle.zed_live.proofs.MadeOnce.{stat-made-once}
use Rattle.zed_live.proofs.NamesMapped.{rise-mapped}
use Rattle.zed_live.proofs.StatShown.{replayed_stat_is_shown}
use Rattle.zed_live.proofs.StatsByName.{find-shown}

-- ---- the latest that puts a stat on a board

-- the board that a write has
abbrev pub home_of : Option (Written BoardId) → Option BoardId
home_of w = latest_or None w

abbrev homes : StatId → List Edit → List (Written BoardId)
homes x es = writes_of (home x).writes es

-- the writes with one more, if that is one
abbrev with_write : Stamp → Option BoardId → List (Written BoardId) → List (Written BoardId)
with_write s None ws = ws
with_write s (Some c) ws = written_at s c ∷ ws

homes-next : (x : StatId) (e : Edit) (es : List Edit) (m : Option BoardId) → made_home x e.stamp e.op ≡ m
    → homes x (e ∷ es) ≡ with_write e.stamp m (homes x es)
homes-next x e es None m = rw m refl
homes-next x e es (Some c) m = rw m refl

or-between : (a b c : Bool) → (a || c) ≡ true → (a || (b || c)) ≡ true
or-between true b c h = refl
or-between false b c h = or_right b c h

or-false : (a : Bool) → a ≡ true → (a || false) ≡ true
or-false true h = refl
or-false false h = h

-- a latest write is one of them, or what was there before
pub latest-among : (b : BoardId) (x : StatId) (o : Option (Written BoardId)) (es : List Edit)
    → is_board b (home_of (latest_of o (homes x es))) ≡ true
    → (is_board b (home_of o) || list_any (puts x b) es) ≡ true
latest-among b x o [] h = or-false (is_board b (home_of o)) h
latest-among b x o (e ∷ es) h =
    go (made_home x e.stamp e.op) (sym (ap (λ ws. is_board b (home_of (latest_of o ws))) (homes-next x e es (made_home x e.stamp e.op) refl)) ∙ h) (λ w k. latest-among b x w es k)
  where
    later : (c : BoardId) (p : Option (Written BoardId))
        → (is_board b (home_of (keep_later p (written_at e.stamp c))) || list_any (puts x b) es) ≡ true
        → (is_board b (home_of p) || (same_board c b || list_any (puts x b) es)) ≡ true
    later c None k = k
    later c (Some w) k = either (before w.stamp e.stamp) k
      where
        either : (v : Bool) → (is_board b (home_of (cond v (Some (written_at e.stamp c)) (Some w))) || list_any (puts x b) es) ≡ true
            → (same_board w.value b || (same_board c b || list_any (puts x b) es)) ≡ true
        either true j = or_right (same_board w.value b) (same_board c b || list_any (puts x b) es) j
        either false j = or-between (same_board w.value b) (same_board c b) (list_any (puts x b) es) j

    go : (m : Option BoardId) → is_board b (home_of (latest_of o (with_write e.stamp m (homes x es)))) ≡ true
        → ((w : Option (Written BoardId)) → is_board b (home_of (latest_of w (homes x es))) ≡ true → (is_board b (home_of w) || list_any (puts x b) es) ≡ true)
        → (is_board b (home_of o) || (is_board b m || list_any (puts x b) es)) ≡ true
    go None k more = more o k
    go (Some c) k more = later c o (more (keep_later o (written_at e.stamp c)) k)

-- what an edit puts on a board it makes
home-makes : (x : StatId) (e : Edit) (c : BoardId) → made_home x e.stamp e.op ≡ Some c → makes e (thing.Stat x) ≡ true
home-makes x e c m = puts-makes c x e (ap (is_board c) m ∙ same_name-itself c.name)

-- where none makes it none puts it anywhere
none-home : (x : StatId) (es : List Edit) → list_any (λ f. makes f (thing.Stat x)) es ≡ false → homes x es ≡ []
none-home x [] h = refl
none-home x (e ∷ es) h = go (made_home x e.stamp e.op) refl (makes e (thing.Stat x)) refl h (λ k. none-home x es k)
  where
    go : (m : Option BoardId) → made_home x e.stamp e.op ≡ m → (v : Bool) → makes e (thing.Stat x) ≡ v
        → (v || list_any (λ f. makes f (thing.Stat x)) es) ≡ false → (list_any (λ f. makes f (thing.Stat x)) es ≡ false → homes x es ≡ [])
        → homes x (e ∷ es) ≡ []
    go m is true v k more = absurd (true≢false k)
    go None is false v k more = homes-next x e es None is ∙ more k
    go (Some c) is false v k more = absurd (true≢false (sym (home-makes x e c is) ∙ v))

-- the one that puts a stat on a board is the latest
pub put-latest : (b : BoardId) (x : StatId) (es : List Edit) → IsRising es → list_any (puts x b) es ≡ true
    → is_board b (home_of (latest_in (home x) es)) ≡ true
put-latest b x [] rises h = absurd (true≢false (sym h))
put-latest b x (e ∷ es) rises h = go (made_home x e.stamp e.op) refl h (λ k. put-latest b x es rises.1 k)
  where
    go : (m : Option BoardId) → made_home x e.stamp e.op ≡ m → (is_board b m || list_any (puts x b) es) ≡ true
        → (list_any (puts x b) es ≡ true → is_board b (home_of (latest_in (home x) es)) ≡ true)
        → is_board b (home_of (latest_of None (homes x (e ∷ es)))) ≡ true
    go None is k more = ap (λ ws. is_board b (home_of (latest_of None ws))) (homes-next x e es None is) ∙ more k
    go (Some c) is k more =
        let once = stat-made-once x e [] es rises (home-makes x e c is) in
        ap (λ ws. is_board b (home_of (latest_of None ws))) (homes-next x e es (Some c) is)
        ∙ ap (λ ws. is_board b (home_of (latest_of (Some (written_at e.stamp c)) ws))) (none-home x es once)
        ∙ left (same_board c b) (list_any (puts x b) es) refl k
      where
        left : (u v : Bool) → list_any (puts x b) es ≡ v → (u || v) ≡ true → u ≡ true
        left true v j q = refl
        left false v j q = absurd (true≢false (sym (put-made b x es (j ∙ q)) ∙ stat-made-once x e [] es rises (home-makes x e c is)))

-- ---- the stats of a board of the replay

abbrev stat_at : Name → StatId
stat_at n = record { name = n }

module _ (normal : ReadIsNormal) (b : BoardId) (es : List Edit) (board : Board) (ts : Entries) (rises : IsRising es) (fits : AllFit es) (sizes : HaveSizes es) (there : find_board b (replay es).boards ≡ Some board) (was : StatsShow b (taken es) ts) where
  own : OwnNames (replay es).boards
  own = record { boards = boards_have_own_names es rises; stats = stats_have_own_names es rises }

  -- a stat is on the board where the latest edit that makes it says so
  here : (x : StatId) → is_some (find_stat x board.stats) ≡ is_board b (home_of (latest_in (home x) (taken es)))
  here x = sym (home-on b x (replay es).boards board own there) ∙ ap (is_board b) (home-wins x normal es rises sizes)

  each-shown : (x : StatId) → option_map (shown_stat x) (stat_in x ts) ≡ find_stat x board.stats
  each-shown x = go (stat_in x ts) (was.each x) (find_stat x board.stats) refl
    where
      go : (o : Option LiveStat) → IsLeftOn b (taken es) x o → (r : Option Stat) → find_stat x board.stats ≡ r
          → option_map (shown_stat x) o ≡ r
      go None k None r = refl
      go None k (Some st) r = absurd (true≢false (sym (latest-among b x None (taken es) (sym (here x) ∙ ap is_some r)) ∙ k))
      go (Some t) k None r =
          absurd (true≢false (sym (put-latest b x (taken es) (taken-rising empty_document es rises) k.0) ∙ sym (here x) ∙ ap is_some r))
      go (Some t) k (Some st) r =
          ap Some (replayed_stat_is_shown normal x es t st rises fits sizes (on-it b x (replay es).boards board st own there r).1 k.1)

  pub replayed_stats_are_shown : shown_stats ts ≡ board.stats
  replayed_stats_are_shown =
      ordered_are_their_members (λ (x : Stat). x.id.name) (shown_stats ts) board.stats
      (rise-mapped (λ (t : StatId × LiveStat). (t.0).name) (λ (x : Stat). x.id.name) (λ t. shown_stat t.0 t.1) (λ t. refl) ts was.rise)
      (found-holds StatsRise (λ c. same_board c.id b) (replay es).boards (replay_ordered es rises).stats board there)
      (λ n. find-shown (stat_at n) ts ∙ each-shown (stat_at n))
