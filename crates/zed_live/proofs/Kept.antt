-- What is listed stays listed, and boards stay listed with their stats through each edit.
use Rattle.std.proofs.Common.{◌≡◌, ◌∙◌, ◌⊎◌, inl, inr, ⊎_elim, ℕ, ◌+◌, ◌<◌, length, get_or, drop, Bool, true, false, cond, List, [], ◌∷◌, find, IsSorted, Option, Some, None, Result, Ok, Err, OnOk, OnErr, refl, ap, sym, subst, true≢false, arith}
use Rattle.std.proofs.lemmas.Bool.Decides.{nat_tests}
use Rattle.std.proofs.lemmas.List.{drop_more}
use Rattle.std.proofs.lemmas.Cmp.{on_total, then_total}
use Rattle.std.specs.Cmp.{IsTotalOrder}
use Rattle.std.specs.declared.cmp.Ordering.{Ordering}
use Rattle.std.specs.declared.cmp.Ordering.TheVariants.{Less, Equal, Greater}
use Rattle.std.specs.declared.ops.Bound.TheVariants.{Included, Unbounded}
use Rattle.std.specs.Ordering.{is_eq, is_gt, is_le, nat_cmp, ordering_then}
use Rattle.std.specs.BTreeMap.{is_at}
use Rattle.std.specs.BTreeMap.Range.{range_contains}
use Rattle.std.specs.List.{filter, list_any, AllByRecursion}
use Rattle.std.specs.List.Sorted.{IsStrictlySortedBy}
use Rattle.std.specs.Map.{keys_of}
use Rattle.std.specs.Option.{is_some, option_or, option_map, option_map_or}
use Rattle.zed_types.specs.declared.stamp.Stamp.{Stamp}
use Rattle.zed_types.specs.declared.names.BoardId.{BoardId}
use Rattle.zed_types.specs.declared.names.StatId.{StatId}
use Rattle.zed_types.specs.Names.{board_of, stat_of, same_board, same_stat, NamesRise, is_earlier}
use Rattle.zed_types.specs.Stamp.{stamp_cmp}
use Rattle.zed_types.proofs.StampOrder.{same_board-true}
use Rattle.zed_types.proofs.Facts.{is_some-map, all_weaker}
use Rattle.zed_types.proofs.Orderings.{name_same, name_total}
use Rattle.zed_stats.specs.ByName.{put, add}
use Rattle.zed_stats.proofs.Changed.{change-none}
use Rattle.zed_stats.proofs.Found.{in-change, rise-change, rise-add_all}
use Rattle.zed_op.specs.declared.op.Op.{Op}
use Rattle.zed_op.specs.declared.op.Op.TheVariants.{BoardRemove, SetBoard, SetCells, StatAdd, StatRemove, SetStat}
use Rattle.zed_edit.specs.declared.plain.Board.{Board}
use Rattle.zed_edit.specs.declared.plain.Stat.{Stat}
use Rattle.zed_edit.specs.Stat.{new_stat as plain_stat}
use Rattle.zed_laws.specs.Winners.{changes_stat, find_stat}
use Rattle.zed_stats.specs.declared.stat.LiveStat.{LiveStat}
use Rattle.zed_stats.specs.Fields.{write, remove}
use Rattle.zed_stats.specs.Stats.{has, stat_name, stat_cmp, change as change_stat}
use Rattle.zed_live.specs.declared.board.LiveBoard.{LiveBoard}
use Rattle.zed_live.specs.Board.{board_after, stat_changed}
use Rattle.zed_live.specs.BoardStats.{Entries, stat_in}
use Rattle.zed_live.specs.Boards.{Boards, board_name, board_cmp, board_in, home_in, change, change_all, add_all, all_as_made}
use Rattle.zed_live.specs.Listed.{Homes, home_cmp, is_listed, boards_with, StayListed, AreOn, AreMadeOn, adds_stat, IsAddedOn, StatsAreListed, AreKept}
use Rattle.zed_live.proofs.BoardsByName.{only_board, rise-change_all}
use Rattle.zed_live.proofs.StatsByName.{only_stat, as_live, in-add_made, in-add_each, stat-true, stat-apart}
use Rattle.zed_live.proofs.Listed.{is_among, change_each, all_changed, first_found}
use Rattle.zed_live.proofs.Pairs.{run, stays, is_put, sorted_none, sorted_cons, any_listed, sorted_listed, run_listed}

-- ---- what is listed

pub stay_through : (a b c : Homes) → StayListed a b → StayListed b c → StayListed a c
stay_through a b c h k = record { each = λ x d l. k.each x d (h.each x d l) }

stats_total : IsTotalOrder stat_cmp
stats_total = on_total stat_name name_total

boards_total : IsTotalOrder board_cmp
boards_total = on_total board_name name_total

homes_total : IsTotalOrder home_cmp
homes_total = then_total (on_total (λ (w : StatId × BoardId). w.0) stats_total) (on_total (λ (w : StatId × BoardId). w.1) boards_total)

-- after a set took one more
abbrev pub TakesOne : StatId → BoardId → Homes → Homes → Type 0
TakesOne x b old new =
    (q : StatId × BoardId) → list_any (is_at (home_cmp q)) new ≡ cond (is_at (home_cmp (x, b)) q) true (list_any (is_at (home_cmp q)) old)

pub stay_with : (x : StatId) (b : BoardId) (old new : Homes) → TakesOne x b old new → StayListed old new
stay_with x b old new h = record { each = λ y c l. stays home_cmp (x, b) old new h (y, c) l }

pub now_listed : (x : StatId) (b : BoardId) (old new : Homes) → TakesOne x b old new → is_listed x b new ≡ true
now_listed x b old new h = is_put home_cmp (x, b) old new homes_total h

-- what stays listed is on its board
pub still_on : (b : BoardId) (xs : List Stat) (old new : Homes) → StayListed old new → AreOn b xs old → AreOn b xs new
still_on b xs old new stay a =
    all_weaker (λ x. is_listed x.id b old ≡ true) (λ x. is_listed x.id b new ≡ true) xs (λ x h. stay.each x.id b h) a

-- one place back in a list, where what stands there has a property and what comes behind has it
pub one_back : {X : Type 0} (P : X → Type 0) (xs : List X) (i : ℕ) (d : X) → i < length xs → P (get_or xs i d)
    → AllByRecursion P (drop (i + 1) xs)
    → AllByRecursion P (drop i xs)
one_back P xs i d h p a = subst (AllByRecursion P) (sym (drop_more xs i d h)) (p, a)

-- ---- the boards that a stat is listed with

told : (x y : StatId) → is_eq (stat_cmp x y) ≡ same_stat y x
told x y = name_same x.name y.name ∙ go (same_stat y x) refl
  where
    go : (v : Bool) → same_stat y x ≡ v → same_stat x y ≡ v
    go true v = ap (λ (z : StatId). same_stat x z) (stat-true y x v) ∙ ap (λ (z : StatId). same_stat z x) (sym (stat-true y x v)) ∙ v
    go false v = stat-apart y x v

-- no name of a board comes before this one
abbrev pub first_board : BoardId
first_board = board_of (record { time = 0; replica = 0 }) 0

least : (n : ℕ) → is_gt (nat_cmp 0 n) ≡ false
least n = grind (arith, nat_tests)

both_least : (a b : Ordering) → is_gt a ≡ false → is_gt b ≡ false → is_gt (ordering_then a b) ≡ false
both_least Less b h k = refl
both_least Equal b h k = k
both_least Greater b h k = absurd (true≢false h)

no_later : (o : Ordering) → is_gt o ≡ false → is_le o ≡ true
no_later Less h = refl
no_later Equal h = refl
no_later Greater h = absurd (true≢false h)

from_first : (b : BoardId) → is_le (board_cmp first_board b) ≡ true
from_first b =
    no_later (board_cmp first_board b)
    (both_least (stamp_cmp (first_board.name).stamp b.name.stamp) (nat_cmp 0 b.name.index)
    (both_least (nat_cmp 0 b.name.stamp.time) (nat_cmp 0 b.name.stamp.replica) (least b.name.stamp.time) (least b.name.stamp.replica))
    (least b.name.index))

-- the boards that a stat is listed with, at the head of a list
abbrev pub boards_here : StatId → Homes → List BoardId
boards_here x ws = run same_stat x ws

pub from_range : (x : StatId) (homes : Homes) → IsStrictlySortedBy home_cmp homes
    → boards_here x (filter (range_contains home_cmp (Included (x, first_board)) Unbounded) homes) ≡ boards_with x homes
from_range x homes up = run_listed stat_cmp board_cmp same_stat stats_total told first_board from_first x homes up

pub sorted_boards : (x : StatId) (homes : Homes) → IsStrictlySortedBy home_cmp homes → IsStrictlySortedBy board_cmp (boards_with x homes)
sorted_boards x homes up = sorted_listed stat_cmp board_cmp same_stat stats_total told x homes up

-- one board is in order
sorted_one : (x : StatId) (b : BoardId) (homes : Homes) → boards_with x homes ≡ b ∷ [] → IsStrictlySortedBy board_cmp (boards_with x homes)
sorted_one x b homes one =
    subst (IsStrictlySortedBy board_cmp) (sym one) (sorted_cons board_cmp true b [] (λ h. tt) (sorted_none board_cmp))

-- the one board that was found so far, if one was
abbrev pub found_one : Option BoardId → List BoardId
found_one None = []
found_one (Some b) = b ∷ []

among : (x : StatId) (b : BoardId) (homes : Homes) → is_among board_name b (boards_with x homes) ≡ is_listed x b homes
among x b homes = any_listed stat_cmp board_cmp same_stat stats_total told x b homes

-- ---- the first board that a stat is on

-- whether a stat is on the board of a name
abbrev pub is_on : StatId → Boards → BoardId → Bool
is_on x ys b = option_map_or (λ z. has x z.stats) (board_in b ys) false

in-listed : (x : StatId) (b : BoardId) (homes : Homes) (ys : Boards) → AllByRecursion (StatsAreListed homes) ys → is_on x ys b ≡ true
    → is_listed x b homes ≡ true
in-listed x b homes [] a h = absurd (true≢false (sym h))
in-listed x b homes (y ∷ ys) a h = go (same_board b y.0) refl h (in-listed x b homes ys a.1)
  where
    go : (v : Bool) → same_board b y.0 ≡ v → option_map_or (λ z. has x z.stats) (cond v (Some y.1) (board_in b ys)) false ≡ true
        → (is_on x ys b ≡ true → is_listed x b homes ≡ true)
        → is_listed x b homes ≡ true
    go true v h more = subst (λ c. is_listed x c homes ≡ true) (sym (same_board-true b y.0 v)) (a.0 x h)
    go false v h more = more h

pub found_home : (x : StatId) (homes : Homes) (ys : Boards) → IsStrictlySortedBy board_cmp (boards_with x homes) → AreKept ys homes
    → find (is_on x ys) (boards_with x homes) ≡ home_in x ys
found_home x homes ys up kept =
    first_found board_name only_board (λ z. has x z.stats) (boards_with x homes) ys up kept.rise (λ b h. among x b homes ∙ in-listed x b homes ys kept.listed h)

-- where a stat is listed with one board alone, it is on that or on none
pub only_home : (x : StatId) (b : BoardId) (homes : Homes) (ys : Boards) → boards_with x homes ≡ b ∷ [] → AreKept ys homes
    → cond (is_on x ys b) (Some b) None ≡ home_in x ys
only_home x b homes ys one kept = ap (find (is_on x ys)) (sym one) ∙ found_home x homes ys (sorted_one x b homes one) kept

-- ---- an edit of a stat

has-change : (x y : StatId) (f : LiveStat → LiveStat) (ts : Entries) → has x (change_stat y f ts) ≡ has x ts
has-change x y f ts = ap is_some (in-change stat_name only_stat x y f ts) ∙ go (same_stat x y) (stat_in x ts)
  where
    go : (v : Bool) (o : Option LiveStat) → is_some (cond v (option_map f o) o) ≡ is_some o
    go true None = refl
    go true (Some z) = refl
    go false o = refl

pub has-passed : (x : StatId) (s : Stamp) (op : Op) (z : LiveBoard) → has x (stat_changed s op z).stats ≡ has x z.stats
has-passed x s (StatRemove y) z = has-change x y remove z.stats
has-passed x s (SetStat y setting) z = has-change x y (write s setting) z.stats
has-passed x s _ z = refl

unchanged : (x y : StatId) (f : LiveStat → LiveStat) (ts : Entries) → same_stat y x ≡ true → has x ts ≡ false → change_stat y f ts ≡ ts
unchanged x y f ts h k = sym (change-none stat_name y f ts (ap (λ (z : StatId). has z ts) (stat-true y x h) ∙ k))

-- a board without the stat stays as it is
same-without : (x : StatId) (s : Stamp) (op : Op) (z : LiveBoard) → changes_stat x op ≡ true → has x z.stats ≡ false
    → stat_changed s op z ≡ z
same-without x s (StatRemove y) z h k = ap (λ ts. record z { stats = ts }) (unchanged x y remove z.stats h k)
same-without x s (SetStat y setting) z h k = ap (λ ts. record z { stats = ts }) (unchanged x y (write s setting) z.stats h k)
same-without x s _ z h k = absurd (true≢false (sym h))

-- all boards are changed once those that the stat is listed with are
pub all_passed : (x : StatId) (s : Stamp) (op : Op) (homes : Homes) (ys : Boards) → IsStrictlySortedBy board_cmp (boards_with x homes)
    → AreKept ys homes → changes_stat x op ≡ true
    → change_each board_name (stat_changed s op) (boards_with x homes) ys ≡ change_all (stat_changed s op) ys
all_passed x s op homes ys up kept h =
    all_changed board_name only_board (stat_changed s op) (boards_with x homes) ys up kept.rise
    (all_weaker (StatsAreListed homes) (λ y. is_among board_name y.0 (boards_with x homes) ≡ false → stat_changed s op y.1 ≡ y.1) ys (λ y l n. others y l n) kept.listed)
  where
    others : (y : BoardId × LiveBoard) → StatsAreListed homes y → is_among board_name y.0 (boards_with x homes) ≡ false
        → stat_changed s op y.1 ≡ y.1
    others y l n = go (has x (y.1).stats) refl
      where
        go : (v : Bool) → has x (y.1).stats ≡ v → stat_changed s op y.1 ≡ y.1
        go true v = absurd (true≢false (sym (among x y.0 homes ∙ l x v) ∙ n))
        go false v = same-without x s op y.1 h v

-- where it is listed with one alone, once that one is
pub one_passed : (x : StatId) (b : BoardId) (s : Stamp) (op : Op) (homes : Homes) (ys : Boards) → boards_with x homes ≡ b ∷ []
    → AreKept ys homes → changes_stat x op ≡ true
    → change b (stat_changed s op) ys ≡ change_all (stat_changed s op) ys
one_passed x b s op homes ys one kept h =
    ap (λ bs. change_each board_name (stat_changed s op) bs ys) (sym one) ∙ all_passed x s op homes ys (sorted_one x b homes one) kept h

listed-all : (s : Stamp) (op : Op) (homes : Homes) (ys : Boards) → AllByRecursion (StatsAreListed homes) ys
    → AllByRecursion (StatsAreListed homes) (change_all (stat_changed s op) ys)
listed-all s op homes [] a = tt
listed-all s op homes (y ∷ ys) a = (λ x h. a.0 x (sym (has-passed x s op y.1) ∙ h), listed-all s op homes ys a.1)

-- ---- boards stay kept

pub kept_more : (ys : Boards) (homes more : Homes) → StayListed homes more → AreKept ys homes → AreKept ys more
kept_more ys homes more stay kept = record {
  sorted = kept.sorted;
  rise = kept.rise;
  listed = all_weaker (StatsAreListed homes) (StatsAreListed more) ys (λ y l x h. stay.each x y.0 (l x h)) kept.listed;
}

-- where an edit of a stat was passed
pub kept_passed : (s : Stamp) (op : Op) (homes : Homes) (ys zs : Boards) → zs ≡ change_all (stat_changed s op) ys
    → IsSorted board_cmp (keys_of zs) → AreKept ys homes
    → AreKept zs homes
kept_passed s op homes ys zs e sorted kept = record {
  sorted = sorted;
  rise = subst (NamesRise (λ y. (y.0).name)) (sym e) (rise-change_all (stat_changed s op) ys kept.rise);
  listed = subst (AllByRecursion (StatsAreListed homes)) (sym e) (listed-all s op homes ys kept.listed);
}

or-parts : {X : Type 0} (o p : Option X) → is_some (option_or o p) ≡ true → (is_some o ≡ true) ⊎ (is_some p ≡ true)
or-parts None p h = inr h
or-parts (Some z) p h = inl refl

when-some : {X : Type 0} (v : Bool) (z : X) → is_some (cond v (Some z) None) ≡ true → v ≡ true
when-some true z h = refl
when-some false z h = absurd (true≢false (sym h))

-- what stands on a board after an edit of it stood there, or is added
has-after : (x : StatId) (s : Stamp) (op : Op) (z : LiveBoard) → has x (board_after s op z).stats ≡ true
    → (has x z.stats ≡ true) ⊎ (adds_stat x s op ≡ true)
has-after x s (StatAdd b fields) z h =
    let made = plain_stat (stat_of s 0) false fields in
    ⊎_elim (λ k. inl k) (λ k. inr (when-some (same_stat x (stat_of s 0)) (as_live made) k))
    (or-parts (stat_in x z.stats) (cond (same_stat x (stat_of s 0)) (Some (as_live made)) None) (ap is_some (sym (in-add_made x made z.stats)) ∙ h))
has-after x s (StatRemove y) z h = inl (sym (has-passed x s (StatRemove y) z) ∙ h)
has-after x s (SetStat y setting) z h = inl (sym (has-passed x s (SetStat y setting) z) ∙ h)
has-after x s (BoardRemove b) z h = inl h
has-after x s (SetBoard b setting) z h = inl h
has-after x s (SetCells b cells tile) z h = inl h
has-after x s _ z h = inl h

listed-change : (b : BoardId) (s : Stamp) (op : Op) (homes : Homes) → IsAddedOn b s op homes → (ys : Boards)
    → AllByRecursion (StatsAreListed homes) ys
    → AllByRecursion (StatsAreListed homes) (change b (board_after s op) ys)
listed-change b s op homes on [] a = tt
listed-change b s op homes on (y ∷ ys) a = go (same_board b y.0) refl (listed-change b s op homes on ys a.1)
  where
    here : same_board b y.0 ≡ true → StatsAreListed homes (y.0, board_after s op y.1)
    here v x h =
        ⊎_elim (λ k. a.0 x k) (λ k. subst (λ c. is_listed x c homes ≡ true) (same_board-true b y.0 v) (on x k)) (has-after x s op y.1 h)

    go : (v : Bool) → same_board b y.0 ≡ v → AllByRecursion (StatsAreListed homes) (change b (board_after s op) ys)
        → AllByRecursion (StatsAreListed homes) (cond v ((y.0, board_after s op y.1) ∷ ys) (y ∷ change b (board_after s op) ys))
    go true v more = (here v, a.1)
    go false v more = (a.0, more)

-- where an edit of a board was put in
pub kept_changed : (b : BoardId) (s : Stamp) (op : Op) (homes : Homes) (ys zs : Boards) → zs ≡ change b (board_after s op) ys
    → keys_of zs ≡ keys_of ys → IsAddedOn b s op homes → AreKept ys homes
    → AreKept zs homes
kept_changed b s op homes ys zs e names on kept = record {
  sorted = subst (IsSorted board_cmp) (sym names) kept.sorted;
  rise = subst (NamesRise (λ y. (y.0).name)) (sym e) (rise-change board_name only_board b (board_after s op) ys kept.rise);
  listed = subst (AllByRecursion (StatsAreListed homes)) (sym e) (listed-change b s op homes on ys kept.listed);
}

-- where it was put in, or refused
pub kept_either : {A E : Type 0} (r : Result A E) (b : BoardId) (s : Stamp) (op : Op) (homes : Homes) (ys zs : Boards)
    → OnOk r (zs ≡ change b (board_after s op) ys) → OnErr r (zs ≡ ys) → keys_of zs ≡ keys_of ys → IsAddedOn b s op homes → AreKept ys homes
    → AreKept zs homes
kept_either (Ok x) b s op homes ys zs e n names on kept = kept_changed b s op homes ys zs e names on kept
kept_either (Err x) b s op homes ys zs o e names on kept = subst (λ ws. AreKept ws homes) (sym e) kept

-- ---- boards that are made

all-put : (P : BoardId × LiveBoard → Type 0) (b : BoardId) (z : LiveBoard) (ys : Boards) → P (b, z) → AllByRecursion P ys
    → AllByRecursion P (put board_name b z ys)
all-put P b z [] p a = (p, tt)
all-put P b z (y ∷ ys) p a = go (is_earlier b.name (y.0).name) (all-put P b z ys p a.1)
  where
    go : (v : Bool) → AllByRecursion P (put board_name b z ys) → AllByRecursion P (cond v ((b, z) ∷ y ∷ ys) (y ∷ put board_name b z ys))
    go true more = (p, a)
    go false more = (a.0, more)

all-add : (P : BoardId × LiveBoard → Type 0) (b : BoardId) (z : LiveBoard) (ys : Boards) → P (b, z) → AllByRecursion P ys
    → AllByRecursion P (add board_name b z ys)
all-add P b z ys p a = go (is_some (board_in b ys))
  where
    go : (v : Bool) → AllByRecursion P (cond v ys (put board_name b z ys))
    go true = a
    go false = all-put P b z ys p a

all-add_all : (P : BoardId × LiveBoard → Type 0) (xs ys : Boards) → AllByRecursion P xs → AllByRecursion P ys
    → AllByRecursion P (add_all xs ys)
all-add_all P [] ys h a = a
all-add_all P (x ∷ xs) ys h a = all-add_all P xs (add board_name x.0 x.1 ys) h.1 (all-add P x.0 x.1 ys h.0 a)

on-made : (x : StatId) (b : BoardId) (xs : List Stat) (homes : Homes) → AreOn b xs homes → is_some (find_stat x xs) ≡ true
    → is_listed x b homes ≡ true
on-made x b [] homes a h = absurd (true≢false (sym h))
on-made x b (z ∷ xs) homes a h = go (same_stat z.id x) refl h (on-made x b xs homes a.1)
  where
    go : (v : Bool) → same_stat z.id x ≡ v → is_some (cond v (Some z) (find_stat x xs)) ≡ true
        → (is_some (find_stat x xs) ≡ true → is_listed x b homes ≡ true)
        → is_listed x b homes ≡ true
    go true v h more = subst (λ c. is_listed c b homes ≡ true) (stat-true z.id x v) a.0
    go false v h more = more h

made-listed : (s : Stamp) (bs : List Board) (homes : Homes) → AreMadeOn bs homes → AllByRecursion (StatsAreListed homes) (all_as_made s bs)
made-listed s [] homes a = tt
made-listed s (b ∷ bs) homes a =
    ((λ x h. on-made x b.id b.stats homes a.0 (sym (ap is_some (in-add_each x b.stats []) ∙ is_some-map as_live (find_stat x b.stats)) ∙ h)), made-listed s bs homes a.1)

-- where boards were added
pub kept_made : (s : Stamp) (bs : List Board) (homes : Homes) (ys zs : Boards) → zs ≡ add_all (all_as_made s bs) ys
    → IsSorted board_cmp (keys_of zs) → AreMadeOn bs homes → AreKept ys homes
    → AreKept zs homes
kept_made s bs homes ys zs e sorted on kept = record {
  sorted = sorted;
  rise = subst (NamesRise (λ y. (y.0).name)) (sym e) (rise-add_all board_name only_board (all_as_made s bs) ys kept.rise);
  listed = subst (AllByRecursion (StatsAreListed homes)) (sym e) (all-add_all (StatsAreListed homes) (all_as_made s bs) ys (made-listed s bs homes on) kept.listed);
}
