-- What is made stands in the order of its names.
use Rattle.std.proofs.Common.{◌≡◌, ℕ, ℤ, ◌+◌, ◌<◌, Bool, true, false, cond, ltb, List, [], ◌∷◌, ◌++◌, length, map, refl, arith, Option, Some, None, Result, Ok, Err}
use Rattle.std.specs.List.{AllByRecursion}
use Rattle.std.proofs.lemmas.Bool.{lt-ltb}
use Rattle.zed_types.specs.declared.stamp.Stamp.{Stamp}
use Rattle.zed_types.specs.declared.names.Name.{Name}
use Rattle.zed_types.specs.declared.names.StatId.{StatId}
use Rattle.zed_types.specs.declared.names.TextId.{TextId}
use Rattle.zed_types.specs.declared.text.TextByte.{TextByte}
use Rattle.zed_types.specs.declared.stat_field.StatSetting.{StatSetting}
use Rattle.zed_types.specs.declared.stat_field.StatSetting.TheVariants as stat
use Rattle.zed_types.specs.Stamp.{before}
use Rattle.zed_types.specs.Stat.{stat_number_index}
use Rattle.zed_types.specs.Names.{name_of, board_of, stat_of, text_of, same_board, same_stat, same_text, NamesRise, is_earlier}
use Rattle.zed_types.specs.Table.{map_from}
use Rattle.zed_types.specs.Text.{run_from, put_after, kill}
use Rattle.zed_types.proofs.StampOrder.{same_stamp-itself, before_irrefl}
use Rattle.zed_types.proofs.Facts.{all_joined, all_weaker}
use Rattle.zed_world.specs.Contents.{Contents}
use Rattle.zed_world.specs.Reading.{world_at}
use Rattle.zed_world.specs.declared.board.BoardData.{BoardData}
use Rattle.zed_world.specs.declared.stat.StatData.{StatData}
use Rattle.zed_world.specs.declared.error.WorldError.{WorldError}
use Rattle.zed_op.specs.declared.op.Op.{Op}
use Rattle.zed_op.specs.declared.op.Op.TheVariants.{Genesis, SetHeader, BoardAdd, BoardRemove, SetBoard, SetCells, StatAdd, StatRemove, SetStat, TextAdd, TextInsert, TextDelete}
use Rattle.zed_op.specs.declared.op.Edit.{Edit}
use Rattle.zed_op.specs.Set.{IsRising}
use Rattle.zed_edit.specs.declared.plain.Board.{Board}
use Rattle.zed_edit.specs.declared.plain.Stat.{Stat}
use Rattle.zed_edit.specs.declared.plain.Text.{Text}
use Rattle.zed_edit.specs.declared.plain.Plain.{Plain}
use Rattle.zed_edit.specs.Board.{new_board, set_board_property, set_board_cells, add_stat, change_stats, remove_board}
use Rattle.zed_edit.specs.Stat.{with_number, set_stat, new_stat, remove_stat}
use Rattle.zed_edit.specs.Document.{empty_document, change_such, change_elements}
use Rattle.zed_edit.specs.Genesis.{programs_of, programs_before, opened_stat, opened_boards, opened_boards_from, opened_text, opened_texts}
use Rattle.zed_edit.specs.Replay.{can, do_op, open_world, step, replay_on}
use Rattle.zed_laws.specs.NameOrder.{StatsRise, IsOrdered, ReplayIsOrdered}

-- ---- lists of named things

pub by_stamp : (a b : Name) → before a.stamp b.stamp ≡ true → is_earlier a b ≡ true
by_stamp a b h = rw h refl

by_index : (s : Stamp) (m n : ℕ) → m < n → is_earlier (name_of s m) (name_of s n) ≡ true
by_index s m n lt =
    let less : ltb m n ≡ true = lt-ltb m n lt in
    rw (before_irrefl s, same_stamp-itself s, less) refl

-- all of a list changed by what keeps a test
pub All-map : {X : Type 0} (P Q : X → Type 0) (f : X → X) (xs : List X) → ((x : X) → P x → Q (f x)) → AllByRecursion P xs
    → AllByRecursion Q (map f xs)
All-map P Q f [] keeps h = tt
All-map P Q f (x ∷ xs) keeps h = (keeps x h.0, All-map P Q f xs keeps h.1)

pub All-both : {X : Type 0} (P Q : X → Type 0) (xs : List X) → AllByRecursion P xs → AllByRecursion Q xs
    → AllByRecursion (λ x. P x × Q x) xs
All-both P Q [] h k = tt
All-both P Q (x ∷ xs) h k = ((h.0, k.0), All-both P Q xs h.1 k.1)

-- things whose stamps pass a test
abbrev pub StampsAre : {X : Type 0} → (X → Stamp) → (Stamp → Bool) → List X → Type 0
StampsAre stamp test xs = AllByRecursion (λ x. test (stamp x) ≡ true) xs

-- later things behind earlier ones
rise-append : {X : Type 0} (name : X → Name) (s : Stamp) (xs ys : List X)
    → StampsAre (λ x. (name x).stamp) (λ r. before r s) xs
    → ((test : Stamp → Bool) → test s ≡ true → StampsAre (λ x. (name x).stamp) test ys)
    → NamesRise name xs → NamesRise name ys → NamesRise name (xs ++ ys)
rise-append name s [] ys low high h k = k
rise-append name s (x ∷ xs) ys low high h k =
    let later = all_weaker (λ y. before (name x).stamp (name y).stamp ≡ true) (λ y. is_earlier (name x) (name y) ≡ true) ys (λ y e. by_stamp (name x) (name y) e) (high (λ r. before (name x).stamp r) low.0) in
    (all_joined (λ y. is_earlier (name x) (name y) ≡ true) xs ys h.0 later, rise-append name s xs ys low.1 high h.1 k)

-- a change that keeps names
rise-map : {X : Type 0} (name : X → Name) (f : X → X) (xs : List X) → ((x : X) → name (f x) ≡ name x) → NamesRise name xs
    → NamesRise name (map f xs)
rise-map name f [] names h = tt
rise-map name f (x ∷ xs) names h = (
  All-map (λ y. is_earlier (name x) (name y) ≡ true) (λ y. is_earlier (name (f x)) (name y) ≡ true) f xs (λ y e. rw (names x, names y) e) h.0,
  rise-map name f xs names h.1,
)

-- what is kept by a change is kept by a change of some
such : {X Y : Type 0} (g : X → Y) (test : X → Bool) (f : X → X) → ((x : X) → g (f x) ≡ g x) → (x : X) → g (cond (test x) (f x) x) ≡ g x
such g test f keeps x = go (test x)
  where
    go : (t : Bool) → g (cond t (f x) x) ≡ g x
    go true = keeps x
    go false = refl

-- ---- the things of a document

-- a board whose stamp passes a test, as those of its stats
abbrev pub IsBoardOf : (Stamp → Bool) → Board → Type 0
IsBoardOf test b = (test b.id.name.stamp ≡ true) × StampsAre (λ (s : Stat). s.id.name.stamp) test b.stats

-- a document whose stamps pass a test
pub record NamesPass (test : Stamp → Bool) (p : Plain) : Type 0 where
  pub texts : StampsAre (λ (t : Text). t.id.name.stamp) test p.texts
  pub boards : AllByRecursion (IsBoardOf test) p.boards

-- a change that keeps names keeps the test
pass-map : {X : Type 0} (stamp : X → Stamp) (test : Stamp → Bool) (f : X → X) (xs : List X) → ((x : X) → stamp (f x) ≡ stamp x)
    → StampsAre stamp test xs
    → StampsAre stamp test (map f xs)
pass-map stamp test f xs keeps h = All-map (λ x. test (stamp x) ≡ true) (λ x. test (stamp x) ≡ true) f xs (λ x e. rw (keeps x) e) h

-- ---- what edits make

with_number-id : (o : Option ℕ) (n : ℤ) (x : Stat) → (with_number o n x).id ≡ x.id
with_number-id (Some i) n x = refl
with_number-id None n x = refl

pub set_stat-stamp : (setting : StatSetting) (x : Stat) → (set_stat setting x).id ≡ x.id
set_stat-stamp (stat.Byte f n) x = refl
set_stat-stamp (stat.Number f n) x = with_number-id (stat_number_index f) n x
set_stat-stamp (stat.P3 o) x = refl
set_stat-stamp (stat.Follower o) x = refl
set_stat-stamp (stat.Leader o) x = refl
set_stat-stamp (stat.Text o) x = refl

pub pass-opened_texts : (test : Stamp → Bool) (s : Stamp) (n : ℕ) (programs : List (List ℕ)) → test s ≡ true
    → StampsAre (λ (t : Text). t.id.name.stamp) test (map_from (opened_text s) n programs)
pass-opened_texts test s n [] h = tt
pass-opened_texts test s n (bytes ∷ programs) h = (h, pass-opened_texts test s (n + 1) programs h)

pass-opened_stats : (test : Stamp → Bool) (s : Stamp) (m t : ℕ) (b : BoardData) (j : ℕ) (xs : List StatData) → test s ≡ true
    → StampsAre (λ (x : Stat). x.id.name.stamp) test (map_from (opened_stat s m t b) j xs)
pass-opened_stats test s m t b j [] h = tt
pass-opened_stats test s m t b j (x ∷ xs) h = (h, pass-opened_stats test s m t b (j + 1) xs h)

pub pass-opened_boards : (test : Stamp → Bool) (s : Stamp) (n m t : ℕ) (bs : List BoardData) → test s ≡ true
    → AllByRecursion (IsBoardOf test) (opened_boards_from s n m t bs)
pass-opened_boards test s n m t [] h = tt
pass-opened_boards test s n m t (b ∷ bs) h = ((h, pass-opened_stats test s m t b 0 b.stats h), pass-opened_boards test s (n + 1) (m + length b.stats) (t + programs_before (length b.stats) b.stats) bs h)

above-opened_texts : (s : Stamp) (k n : ℕ) (programs : List (List ℕ)) → k < n
    → AllByRecursion (λ (t : Text). is_earlier (name_of s k) t.id.name ≡ true) (map_from (opened_text s) n programs)
above-opened_texts s k n [] lt = tt
above-opened_texts s k n (bytes ∷ programs) lt = (by_index s k n lt, above-opened_texts s k (n + 1) programs (omega arith))

rise-opened_texts : (s : Stamp) (n : ℕ) (programs : List (List ℕ))
    → NamesRise (λ (t : Text). t.id.name) (map_from (opened_text s) n programs)
rise-opened_texts s n [] = tt
rise-opened_texts s n (bytes ∷ programs) = (above-opened_texts s n (n + 1) programs (omega arith), rise-opened_texts s (n + 1) programs)

pub above-opened_stats : (s : Stamp) (k m t : ℕ) (b : BoardData) (j : ℕ) (xs : List StatData) → k < m + j
    → AllByRecursion (λ (x : Stat). is_earlier (name_of s k) x.id.name ≡ true) (map_from (opened_stat s m t b) j xs)
above-opened_stats s k m t b j [] lt = tt
above-opened_stats s k m t b j (x ∷ xs) lt = (by_index s k (m + j) lt, above-opened_stats s k m t b (j + 1) xs (omega arith))

pub rise-opened_stats : (s : Stamp) (m t : ℕ) (b : BoardData) (j : ℕ) (xs : List StatData)
    → NamesRise (λ (x : Stat). x.id.name) (map_from (opened_stat s m t b) j xs)
rise-opened_stats s m t b j [] = tt
rise-opened_stats s m t b j (x ∷ xs) = (above-opened_stats s (m + j) m t b (j + 1) xs (omega arith), rise-opened_stats s m t b (j + 1) xs)

above-opened_boards : (s : Stamp) (k n m t : ℕ) (bs : List BoardData) → k < n
    → AllByRecursion (λ (b : Board). is_earlier (name_of s k) b.id.name ≡ true) (opened_boards_from s n m t bs)
above-opened_boards s k n m t [] lt = tt
above-opened_boards s k n m t (b ∷ bs) lt = (by_index s k n lt, above-opened_boards s k (n + 1) (m + length b.stats) (t + programs_before (length b.stats) b.stats) bs (omega arith))

rise-opened_boards : (s : Stamp) (n m t : ℕ) (bs : List BoardData) → NamesRise (λ (b : Board). b.id.name) (opened_boards_from s n m t bs)
rise-opened_boards s n m t [] = tt
rise-opened_boards s n m t (b ∷ bs) =
    let u = t + programs_before (length b.stats) b.stats in
    (above-opened_boards s n (n + 1) (m + length b.stats) u bs (omega arith), rise-opened_boards s (n + 1) (m + length b.stats) u bs)

each-opened_board : (s : Stamp) (n m t : ℕ) (bs : List BoardData) → AllByRecursion StatsRise (opened_boards_from s n m t bs)
each-opened_board s n m t [] = tt
each-opened_board s n m t (b ∷ bs) = (rise-opened_stats s m t b 0 b.stats, each-opened_board s (n + 1) (m + length b.stats) (t + programs_before (length b.stats) b.stats) bs)

-- ---- every edit keeps a test that its stamp passes

pass-world : (test : Stamp → Bool) (s : Stamp) (r : Result Contents WorldError) (p : Plain) → test s ≡ true → NamesPass test p
    → NamesPass test (open_world s r p)
pass-world test s (Err e) p h a = a
pass-world test s (Ok w) p h a = record {
  texts = all_joined (λ t. test t.id.name.stamp ≡ true) p.texts (opened_texts s w.boards) a.texts (pass-opened_texts test s 0 (programs_of w.boards) h);
  boards = all_joined (IsBoardOf test) p.boards (opened_boards s w.boards) a.boards (pass-opened_boards test s 0 0 0 w.boards h);
}

pass-each : (test : Stamp → Bool) (p : Plain) (f : Board → Board) → ((b : Board) → IsBoardOf test b → IsBoardOf test (f b))
    → NamesPass test p
    → NamesPass test (record p { boards = map f p.boards })
pass-each test p f keeps a = record { texts = a.texts; boards = All-map (IsBoardOf test) (IsBoardOf test) f p.boards keeps a.boards }

pass-such : (test : Stamp → Bool) (this : Board → Bool) (f : Board → Board) → ((b : Board) → IsBoardOf test b → IsBoardOf test (f b))
    → (b : Board) → IsBoardOf test b
    → IsBoardOf test (cond (this b) (f b) b)
pass-such test this f keeps b h = go (this b)
  where
    go : (t : Bool) → IsBoardOf test (cond t (f b) b)
    go true = keeps b h
    go false = h

pass-stats : (test : Stamp → Bool) (x : StatId) (f : Stat → Stat) → ((y : Stat) → (f y).id ≡ y.id) → (b : Board) → IsBoardOf test b
    → IsBoardOf test (change_stats (change_such (λ y. same_stat y.id x) f) b)
pass-stats test x f keeps b h =
    let g = λ (y : Stat). cond (same_stat y.id x) (f y) y in
    let stays : (y : Stat) → (g y).id ≡ y.id = such (λ (y : Stat). y.id) (λ (y : Stat). same_stat y.id x) f keeps in
    (h.0, pass-map (λ (y : Stat). y.id.name.stamp) test g b.stats (λ y. rw (stays y) refl) h.1)

pass-texts : (test : Stamp → Bool) (p : Plain) (t : TextId) (f : List TextByte → List TextByte) → NamesPass test p
    → NamesPass test (record p { texts = change_such (λ x. same_text x.id t) (change_elements f) p.texts })
pass-texts test p t f a =
    let g = λ (x : Text). cond (same_text x.id t) (change_elements f x) x in
    let stays : (x : Text) → (g x).id ≡ x.id = such (λ (x : Text). x.id) (λ (x : Text). same_text x.id t) (change_elements f) (λ x. refl) in
    record { texts = pass-map (λ (x : Text). x.id.name.stamp) test g p.texts (λ x. rw (stays x) refl) a.texts; boards = a.boards }

pass-do_op : (test : Stamp → Bool) (s : Stamp) (op : Op) (p : Plain) → test s ≡ true → NamesPass test p → NamesPass test (do_op s op p)
pass-do_op test s (Genesis bytes) p h a = pass-world test s (world_at bytes) p h a
pass-do_op test s (SetHeader setting) p h a = record { texts = a.texts; boards = a.boards }
pass-do_op test s (BoardAdd name) p h a = record { texts = a.texts; boards = all_joined (IsBoardOf test) p.boards (new_board (board_of s 0) (stat_of s 0) name ∷ []) a.boards ((h, (h, tt)), tt) }
pass-do_op test s (BoardRemove b) p h a = pass-each test p _ (pass-such test (λ x. same_board x.id b) remove_board (λ x k. k)) a
pass-do_op test s (SetBoard b setting) p h a =
    pass-each test p _ (pass-such test (λ x. same_board x.id b) (set_board_property setting) (λ x k. k)) a
pass-do_op test s (SetCells b r tile) p h a =
    pass-each test p _ (pass-such test (λ x. same_board x.id b) (set_board_cells r tile) (λ x k. k)) a
pass-do_op test s (StatAdd b fields) p h a =
    let new = new_stat (stat_of s 0) false fields in
    pass-each test p _ (pass-such test (λ x. same_board x.id b) (add_stat new) (λ x k. (k.0, all_joined (λ y. test y.id.name.stamp ≡ true) x.stats (new ∷ []) k.1 (h, tt)))) a
pass-do_op test s (StatRemove x) p h a = pass-each test p _ (pass-stats test x remove_stat (λ y. refl)) a
pass-do_op test s (SetStat x setting) p h a = pass-each test p _ (pass-stats test x (set_stat setting) (set_stat-stamp setting)) a
pass-do_op test s TextAdd p h a = record { texts = all_joined (λ t. test t.id.name.stamp ≡ true) p.texts (record { id = text_of s 0; elements = [] } ∷ []) a.texts (h, tt); boards = a.boards }
pass-do_op test s (TextInsert t after bytes) p h a = pass-texts test p t (put_after after (run_from s 0 bytes)) a
pass-do_op test s (TextDelete t r) p h a = pass-texts test p t (kill r) a

pub pass-step : (test : Stamp → Bool) (p : Plain) (e : Edit) → test e.stamp ≡ true → NamesPass test p → NamesPass test (step p e)
pass-step test p e h a = go (can p e) refl
  where
    go : (b : Bool) → can p e ≡ b → NamesPass test (step p e)
    go true b = rw b (pass-do_op test e.stamp e.op p h a)
    go false b = rw b (record { texts = a.texts; boards = a.boards })

-- ---- every edit that is later than all that is there keeps the order

order-world : (s : Stamp) (r : Result Contents WorldError) (p : Plain) → NamesPass (λ q. before q s) p → IsOrdered p
    → IsOrdered (open_world s r p)
order-world s (Err e) p a o = o
order-world s (Ok w) p a o = record {
  texts = rise-append (λ (t : Text). t.id.name) s p.texts (opened_texts s w.boards) a.texts (λ test h. pass-opened_texts test s 0 (programs_of w.boards) h) o.texts (rise-opened_texts s 0 (programs_of w.boards));
  boards = rise-append (λ (b : Board). b.id.name) s p.boards (opened_boards s w.boards)
      (all_weaker (IsBoardOf (λ q. before q s)) (λ (b : Board). before b.id.name.stamp s ≡ true) p.boards (λ b k. k.0) a.boards)
      (λ test h. all_weaker (IsBoardOf test) (λ (b : Board). test b.id.name.stamp ≡ true) (opened_boards s w.boards) (λ b k. k.0) (pass-opened_boards test s 0 0 0 w.boards h))
      o.boards (rise-opened_boards s 0 0 0 w.boards);
  stats = all_joined StatsRise p.boards (opened_boards s w.boards) o.stats (each-opened_board s 0 0 0 w.boards);
}

-- a change of boards that keeps their names, and the order of stats
order-each : (s : Stamp) (p : Plain) (f : Board → Board) → ((b : Board) → (f b).id ≡ b.id)
    → ((b : Board) → IsBoardOf (λ q. before q s) b × StatsRise b → StatsRise (f b)) → NamesPass (λ q. before q s) p → IsOrdered p
    → IsOrdered (record p { boards = map f p.boards })
order-each s p f ids keeps a o = record {
  texts = o.texts;
  boards = rise-map (λ (b : Board). b.id.name) f p.boards (λ b. rw (ids b) refl) o.boards;
  stats = All-map (λ (b : Board). IsBoardOf (λ q. before q s) b × StatsRise b) StatsRise f p.boards keeps (All-both (IsBoardOf (λ q. before q s)) StatsRise p.boards a.boards o.stats);
}

order-such : (s : Stamp) (this : Board → Bool) (f : Board → Board)
    → ((b : Board) → IsBoardOf (λ q. before q s) b × StatsRise b → StatsRise (f b)) → (b : Board)
    → IsBoardOf (λ q. before q s) b × StatsRise b
    → StatsRise (cond (this b) (f b) b)
order-such s this f keeps b h = go (this b)
  where
    go : (t : Bool) → StatsRise (cond t (f b) b)
    go true = keeps b h
    go false = h.1

order-stats : (x : StatId) (f : Stat → Stat) → ((y : Stat) → (f y).id ≡ y.id) → (b : Board) → StatsRise b
    → StatsRise (change_stats (change_such (λ y. same_stat y.id x) f) b)
order-stats x f keeps b h =
    let g = λ (y : Stat). cond (same_stat y.id x) (f y) y in
    let stays : (y : Stat) → (g y).id ≡ y.id = such (λ (y : Stat). y.id) (λ (y : Stat). same_stat y.id x) f keeps in
    rise-map (λ (y : Stat). y.id.name) g b.stats (λ y. rw (stays y) refl) h

order-texts : (p : Plain) (t : TextId) (f : List TextByte → List TextByte) → IsOrdered p
    → IsOrdered (record p { texts = change_such (λ x. same_text x.id t) (change_elements f) p.texts })
order-texts p t f o =
    let g = λ (x : Text). cond (same_text x.id t) (change_elements f x) x in
    let stays : (x : Text) → (g x).id ≡ x.id = such (λ (x : Text). x.id) (λ (x : Text). same_text x.id t) (change_elements f) (λ x. refl) in
    record { texts = rise-map (λ (x : Text). x.id.name) g p.texts (λ x. rw (stays x) refl) o.texts; boards = o.boards; stats = o.stats }

order-do_op : (s : Stamp) (op : Op) (p : Plain) → NamesPass (λ q. before q s) p → IsOrdered p → IsOrdered (do_op s op p)
order-do_op s (Genesis bytes) p a o = order-world s (world_at bytes) p a o
order-do_op s (SetHeader setting) p a o = record { texts = o.texts; boards = o.boards; stats = o.stats }
order-do_op s (BoardAdd name) p a o =
    let new = new_board (board_of s 0) (stat_of s 0) name in
    record {
      texts = o.texts;
      boards = rise-append (λ (b : Board). b.id.name) s p.boards (new ∷ []) (all_weaker (IsBoardOf (λ q. before q s)) (λ (b : Board). before b.id.name.stamp s ≡ true) p.boards (λ b k. k.0) a.boards) (λ test h. (h, tt)) o.boards (tt, tt);
      stats = all_joined StatsRise p.boards (new ∷ []) o.stats ((tt, tt), tt);
    }
order-do_op s (BoardRemove b) p a o = order-each s p _ (such (λ (x : Board). x.id) (λ x. same_board x.id b) remove_board (λ x. refl)) (order-such s (λ x. same_board x.id b) remove_board (λ x k. k.1)) a o
order-do_op s (SetBoard b setting) p a o = order-each s p _ (such (λ (x : Board). x.id) (λ x. same_board x.id b) (set_board_property setting) (λ x. refl)) (order-such s (λ x. same_board x.id b) (set_board_property setting) (λ x k. k.1)) a o
order-do_op s (SetCells b r tile) p a o = order-each s p _ (such (λ (x : Board). x.id) (λ x. same_board x.id b) (set_board_cells r tile) (λ x. refl)) (order-such s (λ x. same_board x.id b) (set_board_cells r tile) (λ x k. k.1)) a o
order-do_op s (StatAdd b fields) p a o =
    let new = new_stat (stat_of s 0) false fields in
    let rises = λ (x : Board) (k : IsBoardOf (λ q. before q s) x × StatsRise x). rise-append (λ (y : Stat). y.id.name) s x.stats (new ∷ []) k.0.1 (λ test h. (h, tt)) k.1 (tt, tt) in
    order-each s p _ (such (λ (x : Board). x.id) (λ x. same_board x.id b) (add_stat new) (λ x. refl)) (order-such s (λ x. same_board x.id b) (add_stat new) rises) a o
order-do_op s (StatRemove x) p a o = order-each s p _ (λ b. refl) (λ b k. order-stats x remove_stat (λ y. refl) b k.1) a o
order-do_op s (SetStat x setting) p a o =
    order-each s p _ (λ b. refl) (λ b k. order-stats x (set_stat setting) (set_stat-stamp setting) b k.1) a o
order-do_op s TextAdd p a o = record {
  texts = rise-append (λ (t : Text). t.id.name) s p.texts (record { id = text_of s 0; elements = [] } ∷ []) a.texts (λ test h. (h, tt)) o.texts (tt, tt);
  boards = o.boards;
  stats = o.stats;
}
order-do_op s (TextInsert t after bytes) p a o = order-texts p t (put_after after (run_from s 0 bytes)) o
order-do_op s (TextDelete t r) p a o = order-texts p t (kill r) o

pub order-step : (p : Plain) (e : Edit) → NamesPass (λ q. before q e.stamp) p → IsOrdered p → IsOrdered (step p e)
order-step p e a o = go (can p e) refl
  where
    go : (b : Bool) → can p e ≡ b → IsOrdered (step p e)
    go true b = rw b (order-do_op e.stamp e.op p a o)
    go false b = rw b (record { texts = o.texts; boards = o.boards; stats = o.stats })

-- ---- the replay

-- all that is there comes before each of these edits
abbrev pub IsBefore : Plain → List Edit → Type 0
IsBefore p es = AllByRecursion (λ e. NamesPass (λ q. before q e.stamp) p) es

pub before-next : (p : Plain) (e : Edit) (es : List Edit) → AllByRecursion (λ f. before e.stamp f.stamp ≡ true) es → IsBefore p es
    → IsBefore (step p e) es
before-next p e [] r a = tt
before-next p e (f ∷ es) r a = (pass-step (λ q. before q f.stamp) p e r.0 a.0, before-next p e es r.1 a.1)

order-on : (p : Plain) (es : List Edit) → IsRising es → IsBefore p es → IsOrdered p → IsOrdered (replay_on p es)
order-on p [] r a o = o
order-on p (e ∷ es) r a o = order-on (step p e) es r.1 (before-next p e es r.0 a.1) (order-step p e a.0 o)

pub none-before : (es : List Edit) → IsBefore empty_document es
none-before [] = tt
none-before (e ∷ es) = (record { texts = tt; boards = tt }, none-before es)

pub replay_ordered : ReplayIsOrdered
replay_ordered es r = order-on empty_document es r (none-before es) (record { texts = tt; boards = tt; stats = tt })
