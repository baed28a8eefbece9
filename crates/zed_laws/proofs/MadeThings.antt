-- What is there after an edit: what was there, and what the edit makes.
use Rattle.std.proofs.Common.{◌≡◌, sym, ℕ, Bool, true, false, cond, ◌&&◌, ◌||◌, List, [], ◌∷◌, ◌++◌, map, Option, Some, None, Result, Ok, Err, refl, ap, ◌∙◌}
use Rattle.std.specs.List.{list_any, find}
use Rattle.std.specs.Option.{option_or, is_some}
use Rattle.std.proofs.lemmas.Bool.{and_parts}
use Rattle.std.proofs.lemmas.List.Folds.{list_any-append, find-append}
use Rattle.std.proofs.Math.Bool.{or_assoc, or_comm}
use Rattle.zed_types.specs.declared.stamp.Stamp.{Stamp}
use Rattle.zed_types.specs.declared.names.BoardId.{BoardId}
use Rattle.zed_types.specs.declared.names.StatId.{StatId}
use Rattle.zed_types.specs.declared.names.TextId.{TextId}
use Rattle.zed_types.specs.declared.names.ElemId.{ElemId}
use Rattle.zed_types.specs.declared.stat_field.StatSetting.{StatSetting}
use Rattle.zed_types.specs.declared.stat_field.StatSetting.TheVariants.{Byte, Number}
use Rattle.zed_types.specs.Stat.{stat_number_index}
use Rattle.zed_types.specs.declared.text.TextByte.{TextByte}
use Rattle.zed_types.specs.declared.text.ByteRange.{ByteRange}
use Rattle.zed_types.specs.Names.{board_of, stat_of, text_of, same_board, same_stat, same_text, same_element}
use Rattle.zed_types.specs.Text.{run_from, put_after, behind, kill}
use Rattle.zed_world.specs.Contents.{Contents}
use Rattle.zed_world.specs.Reading.{world_at}
use Rattle.zed_world.specs.declared.error.WorldError.{WorldError}
use Rattle.zed_op.specs.declared.op.Op.{Op}
use Rattle.zed_op.specs.declared.op.Op.TheVariants.{Genesis, BoardAdd, BoardRemove, SetBoard, SetCells, StatAdd, StatRemove, SetStat, TextAdd, TextInsert, TextDelete}
use Rattle.zed_edit.specs.declared.plain.Board.{Board}
use Rattle.zed_edit.specs.declared.plain.Stat.{Stat}
use Rattle.zed_edit.specs.declared.plain.Text.{Text}
use Rattle.zed_edit.specs.declared.plain.Plain.{Plain as Document}
use Rattle.zed_op.specs.declared.thing.Thing.{Thing}
use Rattle.zed_op.specs.declared.thing.Thing.TheVariants.{Board as board, Stat as stat, Text as text, Element as element}
use Rattle.zed_edit.specs.Board.{new_board, set_board_property, set_board_cells, add_stat, change_stats, remove_board}
use Rattle.zed_edit.specs.Stat.{with_number, set_stat, new_stat, remove_stat}
use Rattle.zed_edit.specs.Document.{change_such, change_elements, elements_in, find_text, has}
use Rattle.zed_edit.specs.Genesis.{opened_boards, opened_texts}
use Rattle.zed_op.specs.Names.{element_named, target_named, text_named, names_of}
use Rattle.zed_edit.specs.Replay.{has_all, open_world, do_op}
use Rattle.zed_types.proofs.StampOrder.{same_text-true}
use Rattle.zed_laws.proofs.ChangedTexts.{map_option, find_text-do_op}

pub or_false : (b : Bool) → (b || false) ≡ b
or_false true = refl
or_false false = refl

or_swap : (a b c : Bool) → (a || (b || c)) ≡ (b || (a || c))
or_swap true true c = refl
or_swap true false c = refl
or_swap false b c = refl

or_rotate : (a b c : Bool) → (a || (b || c)) ≡ (c || (a || b))
or_rotate a b c = sym (or_assoc a b c) ∙ or_comm (a || b) c

or_turned : {X : Type 0} (q : X → Bool) (xs ys : List X) → list_any q (xs ++ ys) ≡ (list_any q ys || list_any q xs)
or_turned q xs ys = list_any-append q xs ys ∙ or_comm (list_any q xs) (list_any q ys)

list_any-push : {X : Type 0} (q : X → Bool) (xs : List X) (y : X) → list_any q (xs ++ y ∷ []) ≡ (q y || list_any q xs)
list_any-push q xs y = or_turned q xs (y ∷ []) ∙ ap (λ b. b || list_any q xs) (or_false (q y))

-- members that keep a test
list_any-map_kept : {X : Type 0} (q : X → Bool) (f : X → X) → ((x : X) → q (f x) ≡ q x) → (xs : List X)
    → list_any q (map f xs) ≡ list_any q xs
list_any-map_kept q f k [] = refl
list_any-map_kept q f k (x ∷ xs) = ap (λ b. b || list_any q (map f xs)) (k x) ∙ ap (λ b. q x || b) (list_any-map_kept q f k xs)

such_kept : {X : Type 0} (q p : X → Bool) (f : X → X) → ((x : X) → q (f x) ≡ q x) → (x : X) → q (cond (p x) (f x) x) ≡ q x
such_kept q p f k x = go (p x)
  where
    go : (b : Bool) → q (cond b (f x) x) ≡ q x
    go true = k x
    go false = refl

pub list_any-change : {X : Type 0} (q p : X → Bool) (f : X → X) → ((x : X) → q (f x) ≡ q x) → (xs : List X)
    → list_any q (change_such p f xs) ≡ list_any q xs
list_any-change q p f k xs = list_any-map_kept q (λ x. cond (p x) (f x) x) (such_kept q p f k) xs

pub find-any : {X : Type 0} (q : X → Bool) (xs : List X) → is_some (find q xs) ≡ list_any q xs
find-any q [] = refl
find-any q (x ∷ xs) = go (q x) (find-any q xs)
  where
    go : (b : Bool) → is_some (find q xs) ≡ list_any q xs → is_some (cond b (Some x) (find q xs)) ≡ (b || list_any q xs)
    go true more = refl
    go false more = more

-- a member that passes is found
pub list_any-first : {X : Type 0} (q : X → Bool) (xs : List X) → list_any q xs ≡ true → (x : X) × (find q xs ≡ Some x)
list_any-first {X = X} q xs h = go (find q xs) (find-any q xs ∙ h) refl
  where
    go : (o : Option X) → is_some o ≡ true → find q xs ≡ o → (x : X) × (find q xs ≡ Some x)
    go (Some x) s e = (x, e)
    go None s e = absurd (cc)

-- the stats of boards
abbrev pub any_stat : StatId → Board → Bool
any_stat s b = list_any (λ x. same_stat x.id s) b.stats

or_stat : (h k r x : Bool) → ((k || h) || ((x && k) || r)) ≡ (k || (h || r))
or_stat h true r x = refl
or_stat true false r x = refl
or_stat false false r true = refl
or_stat false false r false = refl

or_other : (h y r : Bool) → (h || (y || r)) ≡ (y || (h || r))
or_other true true r = refl
or_other true false r = refl
or_other false y r = refl

list_any-add_stat : (s : StatId) (n : Stat) (b : BoardId) (bs : List Board)
    → list_any (any_stat s) (change_such (λ c. same_board c.id b) (add_stat n) bs)
    ≡ ((list_any (λ c. same_board c.id b) bs && same_stat n.id s) || list_any (any_stat s) bs)
list_any-add_stat s n b [] = refl
list_any-add_stat s n b (c ∷ cs) = go (same_board c.id b) (list_any-add_stat s n b cs)
  where
    go : (v : Bool)
        → list_any (any_stat s) (change_such (λ d. same_board d.id b) (add_stat n) cs)
        ≡ ((list_any (λ d. same_board d.id b) cs && same_stat n.id s) || list_any (any_stat s) cs)
        → (any_stat s (cond v (add_stat n c) c) || list_any (any_stat s) (change_such (λ d. same_board d.id b) (add_stat n) cs))
        ≡ (((v || list_any (λ d. same_board d.id b) cs) && same_stat n.id s) || (any_stat s c || list_any (any_stat s) cs))
    go true more =
        ap (λ m. m || list_any (any_stat s) (change_such (λ d. same_board d.id b) (add_stat n) cs)) (list_any-push (λ x. same_stat x.id s) c.stats n)
        ∙ ap (λ m. (same_stat n.id s || any_stat s c) || m) more
        ∙ or_stat (any_stat s c) (same_stat n.id s) (list_any (any_stat s) cs) (list_any (λ d. same_board d.id b) cs)
    go false more =
        ap (λ m. any_stat s c || m) more
        ∙ or_other (any_stat s c) (list_any (λ d. same_board d.id b) cs && same_stat n.id s) (list_any (any_stat s) cs)

pub set_stat-id : (b : StatId) (setting : StatSetting) (x : Stat) → same_stat (set_stat setting x).id b ≡ same_stat x.id b
set_stat-id b (Byte f n) x = refl
set_stat-id b (Number f n) x = with_number-id (stat_number_index f)
  where
    with_number-id : (o : Option ℕ) → same_stat (with_number o n x).id b ≡ same_stat x.id b
    with_number-id (Some i) = refl
    with_number-id None = refl
set_stat-id b _ x = refl

change_stats-any : (s y : StatId) (f : Stat → Stat) → ((x : Stat) → same_stat (f x).id s ≡ same_stat x.id s) → (bs : List Board)
    → list_any (any_stat s) (map (change_stats (change_such (λ x. same_stat x.id y) f)) bs) ≡ list_any (any_stat s) bs
change_stats-any s y f k bs =
    list_any-map_kept (any_stat s) (change_stats (change_such (λ x. same_stat x.id y) f)) (λ b. list_any-change (λ x. same_stat x.id s) (λ x. same_stat x.id y) f k b.stats) bs

-- the bytes of texts
abbrev pub has_in : Option Text → ElemId → Bool
has_in o a = list_any (λ x. same_element x.id a) (elements_in o)

list_any-behind : (q : TextByte → Bool) (a : ElemId) (run xs : List TextByte) → list_any (λ x. same_element x.id a) xs ≡ true
    → list_any q (behind a (λ rest. run ++ rest) xs) ≡ (list_any q run || list_any q xs)
list_any-behind q a run [] h = absurd (cc)
list_any-behind q a run (x ∷ xs) h = go (λ e. list_any-behind q a run xs e) (same_element x.id a) refl
  where
    go : (list_any (λ x. same_element x.id a) xs ≡ true → list_any q (behind a (λ rest. run ++ rest) xs) ≡ (list_any q run || list_any q xs))
        → (b : Bool) → same_element x.id a ≡ b
        → list_any q (behind a (λ rest. run ++ rest) (x ∷ xs)) ≡ (list_any q run || list_any q (x ∷ xs))
    go more true b = rw b (ap (λ c. q x || c) (or_turned q run xs) ∙ or_rotate (q x) (list_any q xs) (list_any q run))
    go more false b = rw b (ap (λ c. q x || c) (more (rw b at h)) ∙ or_swap (q x) (list_any q run) (list_any q xs))

list_any-kill : (a : ElemId) (r : ByteRange) (xs : List TextByte)
    → list_any (λ y. same_element y.id a) (kill r xs) ≡ list_any (λ y. same_element y.id a) xs
list_any-kill a r [] = refl
list_any-kill a r (y ∷ xs) = ap (λ c. same_element y.id a || c) (list_any-kill a r xs)

-- an insertion makes its bytes, where its text and its place are there
has_in-put : (after : Option ElemId) (a : ElemId) (run : List TextByte) (u : TextId) (p : Document) (x : Text)
    → find_text u p.texts ≡ Some x → has_all p (element_named u after) ≡ true
    → has_in (Some (change_elements (put_after after run) x)) a ≡ (list_any (λ y. same_element y.id a) run || has_in (Some x) a)
has_in-put None a run u p x e c = list_any-append (λ y. same_element y.id a) run x.elements
has_in-put (Some y) a run u p x e c =
    let h = and_parts (has p (element u y)) true c in
    let there = rw e at h.0 in
    list_any-behind (λ z. same_element z.id a) y run x.elements there

has_in-insert : (t u : TextId) (after : Option ElemId) (a : ElemId) (run : List TextByte) (p : Document)
    → has_all p (text u ∷ element_named u after) ≡ true
    → has_in (cond (same_text u t) (map_option (change_elements (put_after after run)) (find_text t p.texts)) (find_text t p.texts)) a
    ≡ ((same_text u t && list_any (λ x. same_element x.id a) run) || has_in (find_text t p.texts) a)
has_in-insert t u after a run p c = go (same_text u t) refl
  where
    there : same_text u t ≡ true
        → has_in (map_option (change_elements (put_after after run)) (find_text t p.texts)) a
        ≡ (list_any (λ x. same_element x.id a) run || has_in (find_text t p.texts) a)
    there same =
        let h = and_parts (has p (text u)) (has_all p (element_named u after)) c in
        let f = list_any-first (λ x. same_text x.id u) p.texts h.0 in
        let same' = same_text-true u t same in
        rw (← same', f.1) (has_in-put after a run u p f.0 f.1 h.1)

    go : (b : Bool) → same_text u t ≡ b
        → has_in (cond (same_text u t) (map_option (change_elements (put_after after run)) (find_text t p.texts)) (find_text t p.texts)) a
        ≡ ((same_text u t && list_any (λ x. same_element x.id a) run) || has_in (find_text t p.texts) a)
    go true b = rw b (there b)
    go false b = rw b

has_in-new : (t : TextId) (s : Stamp) (a : ElemId) (o : Option Text)
    → has_in (option_or o (find_text t (record { id = text_of s 0; elements = [] } ∷ []))) a ≡ has_in o a
has_in-new t s a (Some x) = refl
has_in-new t s a None = go (same_text (text_of s 0) t)
  where
    go : (b : Bool) → has_in (cond b (Some (record { id = text_of s 0; elements = [] })) None) a ≡ false
    go true = refl
    go false = refl

has_in-kill : (b : Bool) (a : ElemId) (r : ByteRange) (o : Option Text)
    → has_in (cond b (map_option (change_elements (kill r)) o) o) a ≡ has_in o a
has_in-kill true a r None = refl
has_in-kill true a r (Some x) = list_any-kill a r x.elements
has_in-kill false a r o = refl

-- what an edit makes of the things that are there
abbrev pub makes : Stamp → Op → Thing → Bool
makes s (BoardAdd name) (board b) = same_board (board_of s 0) b
makes s (BoardAdd name) (stat x) = same_stat (stat_of s 0) x || false
makes s (StatAdd b fields) (stat x) = same_stat (stat_of s 0) x
makes s TextAdd (text t) = same_text (text_of s 0) t
makes s (TextInsert u after bytes) (element t a) = same_text u t && list_any (λ x. same_element x.id a) (run_from s 0 bytes)
makes s _ _ = false

abbrev pub opened : (Thing → Bool) → Stamp → Result Contents WorldError → Thing → Bool
opened made s (Err e) x = made x
opened made s (Ok w) (board b) = made (board b) || list_any (λ x. same_board x.id b) (opened_boards s w.boards)
opened made s (Ok w) (stat x) = made (stat x) || list_any (any_stat x) (opened_boards s w.boards)
opened made s (Ok w) (text t) = made (text t) || list_any (λ x. same_text x.id t) (opened_texts s w.boards)
opened made s (Ok w) (element t a) = cond (made (text t)) (made (element t a)) (has_in (find_text t (opened_texts s w.boards)) a)

abbrev pub grown : (Thing → Bool) → Stamp → Op → Thing → Bool
grown made s (Genesis bytes) x = opened made s (world_at bytes) x
grown made s op x = makes s op x || made x

has-opened : (s : Stamp) (r : Result Contents WorldError) (p : Document) (x : Thing) → has (open_world s r p) x ≡ opened (has p) s r x
has-opened s (Err e) p x = refl
has-opened s (Ok w) p (board b) = list_any-append (λ x. same_board x.id b) p.boards (opened_boards s w.boards)
has-opened s (Ok w) p (stat x) = list_any-append (any_stat x) p.boards (opened_boards s w.boards)
has-opened s (Ok w) p (text t) = list_any-append (λ x. same_text x.id t) p.texts (opened_texts s w.boards)
has-opened s (Ok w) p (element t a) =
    ap (λ o. has_in o a) (find-append (λ x. same_text x.id t) p.texts (opened_texts s w.boards))
    ∙ go (find_text t p.texts)
    ∙ ap (λ b. cond b (has p (element t a)) (has_in (find_text t (opened_texts s w.boards)) a)) (find-any (λ x. same_text x.id t) p.texts)
  where
    go : (o : Option Text)
        → has_in (option_or o (find_text t (opened_texts s w.boards))) a
        ≡ cond (is_some o) (has_in o a) (has_in (find_text t (opened_texts s w.boards)) a)
    go (Some x) = refl
    go None = refl

pub has-do_op : (s : Stamp) (op : Op) (p : Document) (x : Thing) → has_all p (names_of op) ≡ true
    → has (do_op s op p) x ≡ grown (has p) s op x
has-do_op s (Genesis bytes) p x c = has-opened s (world_at bytes) p x
has-do_op s (BoardAdd name) p (board b) c = list_any-push (λ x. same_board x.id b) p.boards (new_board (board_of s 0) (stat_of s 0) name)
has-do_op s (BoardAdd name) p (stat x) c = list_any-push (any_stat x) p.boards (new_board (board_of s 0) (stat_of s 0) name)
has-do_op s (BoardRemove y) p (board b) c =
    list_any-change (λ x. same_board x.id b) (λ x. same_board x.id y) remove_board (λ x. refl) p.boards
has-do_op s (BoardRemove y) p (stat z) c = list_any-change (any_stat z) (λ x. same_board x.id y) remove_board (λ x. refl) p.boards
has-do_op s (SetBoard y setting) p (board b) c =
    list_any-change (λ x. same_board x.id b) (λ x. same_board x.id y) (set_board_property setting) (λ x. refl) p.boards
has-do_op s (SetBoard y setting) p (stat z) c =
    list_any-change (any_stat z) (λ x. same_board x.id y) (set_board_property setting) (λ x. refl) p.boards
has-do_op s (SetCells y r tile) p (board b) c =
    list_any-change (λ x. same_board x.id b) (λ x. same_board x.id y) (set_board_cells r tile) (λ x. refl) p.boards
has-do_op s (SetCells y r tile) p (stat z) c =
    list_any-change (any_stat z) (λ x. same_board x.id y) (set_board_cells r tile) (λ x. refl) p.boards
has-do_op s (StatAdd y fields) p (board b) c =
    list_any-change (λ x. same_board x.id b) (λ x. same_board x.id y) (add_stat (new_stat (stat_of s 0) false fields)) (λ x. refl) p.boards
has-do_op s (StatAdd y fields) p (stat z) c =
    let h = and_parts (has p (board y)) (has_all p (target_named fields.p3 ++ text_named fields.text)) c in
    list_any-add_stat z (new_stat (stat_of s 0) false fields) y p.boards ∙ ap (λ b. (b && same_stat (stat_of s 0) z) || has p (stat z)) h.0
has-do_op s (StatRemove y) p (board b) c =
    list_any-map_kept (λ x. same_board x.id b) (change_stats (change_such (λ x. same_stat x.id y) remove_stat)) (λ x. refl) p.boards
has-do_op s (StatRemove y) p (stat z) c = change_stats-any z y remove_stat (λ x. refl) p.boards
has-do_op s (SetStat y setting) p (board b) c =
    list_any-map_kept (λ x. same_board x.id b) (change_stats (change_such (λ x. same_stat x.id y) (set_stat setting))) (λ x. refl) p.boards
has-do_op s (SetStat y setting) p (stat z) c = change_stats-any z y (set_stat setting) (set_stat-id z setting) p.boards
has-do_op s TextAdd p (text b) c = list_any-push (λ x. same_text x.id b) p.texts (record { id = text_of s 0; elements = [] })
has-do_op s TextAdd p (element t a) c = rw (find_text-do_op t s TextAdd p) (has_in-new t s a (find_text t p.texts))
has-do_op s (TextInsert u after bytes) p (text b) c = list_any-change (λ x. same_text x.id b) (λ x. same_text x.id u) (change_elements (put_after after (run_from s 0 bytes))) (λ x. refl) p.texts
has-do_op s (TextInsert u after bytes) p (element t a) c =
    rw (find_text-do_op t s (TextInsert u after bytes) p) (has_in-insert t u after a (run_from s 0 bytes) p c)
has-do_op s (TextDelete u r) p (text b) c =
    list_any-change (λ x. same_text x.id b) (λ x. same_text x.id u) (change_elements (kill r)) (λ x. refl) p.texts
has-do_op s (TextDelete u r) p (element t a) c =
    rw (find_text-do_op t s (TextDelete u r) p) (has_in-kill (same_text u t) a r (find_text t p.texts))
has-do_op s _ p _ c = refl
