-- All that an edit makes is in the list of it.
use Rattle.std.proofs.Common.{◌≡◌, ◌∙◌, ◌<◌, ◌+◌, ℕ, Bool, true, false, ◌||◌, cond, List, [], ◌∷◌, ◌++◌, map, drop, length, Some, refl, ap, sym, append_assoc}
use Rattle.std.specs.List.{list_any}
use Rattle.std.proofs.lemmas.Bool.{and_parts, and_from}
use Rattle.std.proofs.lemmas.List.{drop_more}
use Rattle.std.proofs.lemmas.List.Folds.{list_any-append}
use Rattle.zed_types.specs.declared.stamp.Stamp.{Stamp}
use Rattle.zed_types.specs.declared.names.StatId.{StatId}
use Rattle.zed_types.specs.declared.names.TextId.{TextId}
use Rattle.zed_types.specs.declared.names.ElemId.{ElemId}
use Rattle.zed_types.specs.declared.text.TextByte.{TextByte}
use Rattle.zed_types.specs.Names.{byte_of, same_board, same_stat, same_text, same_element}
use Rattle.zed_types.specs.Text.{run_from}
use Rattle.zed_types.proofs.StampOrder.{same_name-true, same_text-true, same_board-true}
use Rattle.zed_op.specs.declared.op.Op.{Op}
use Rattle.zed_op.specs.declared.op.Op.TheVariants.{Genesis, SetHeader, BoardAdd, BoardRemove, SetBoard, SetCells, StatAdd, StatRemove, SetStat, TextAdd, TextInsert, TextDelete}
use Rattle.zed_op.specs.declared.op.Edit.{Edit}
use Rattle.zed_op.specs.declared.thing.Thing.{Thing}
use Rattle.zed_op.specs.declared.thing.Thing.TheVariants.{Board as board, Stat as stat, Text as text, Element as element}
use Rattle.zed_edit.specs.declared.plain.Board.{Board}
use Rattle.zed_edit.specs.declared.plain.Stat.{Stat}
use Rattle.zed_edit.specs.declared.plain.Text.{Text}
use Rattle.zed_edit.specs.Document.{find_text, elements_in}
use Rattle.zed_laws.specs.Winners.{made_boards, made_stats, stats_of}
use Rattle.zed_laws.specs.Making.{made_texts, made_bytes, op_makes}
use Rattle.zed_inbox.specs.Waiting.{same_thing}
use Rattle.zed_delivery.specs.Made.{board_thing, text_thing, stat_things, all_stat_things, byte_things, all_byte_things, things_in, things_made, is_among, AreAllMade}
use Rattle.zed_delivery.proofs.Cascades.{or-last}

-- the bytes of a run from one of them on
pub run_more : (t : TextId) (s : Stamp) (i : ℕ) (bytes : List ℕ) → i < length bytes
    → byte_things t (run_from s i (drop i bytes)) ≡ element t (byte_of s i) ∷ byte_things t (run_from s (i + 1) (drop (i + 1) bytes))
run_more t s i bytes l = ap (λ bs. byte_things t (run_from s i bs)) (drop_more bytes i 0 l)

-- one byte more of a run is added
pub inserted_one : (t : TextId) (s : Stamp) (i : ℕ) (bytes : List ℕ) (old new whole : List Thing) (a : ElemId) → i < length bytes
    → a ≡ byte_of s i → new ≡ old ++ element t a ∷ [] → old ++ byte_things t (run_from s i (drop i bytes)) ≡ whole
    → new ++ byte_things t (run_from s (i + 1) (drop (i + 1) bytes)) ≡ whole
inserted_one t s i bytes old new whole a l is added was =
    let rest = byte_things t (run_from s (i + 1) (drop (i + 1) bytes)) in
    ap (λ xs. xs ++ rest) added
    ∙ append_assoc old (element t a ∷ []) rest
    ∙ ap (λ b. old ++ element t b ∷ rest) is
    ∙ ap (λ xs. old ++ xs) (sym (run_more t s i bytes l))
    ∙ was

any-map : {X : Type 0} (f : X → Thing) (q : X → Bool) (x : Thing) → ((y : X) → q y ≡ true → same_thing (f y) x ≡ true) → (ys : List X)
    → list_any q ys ≡ true
    → is_among (map f ys) x ≡ true
any-map f q x k [] h = absurd (cc)
any-map f q x k (y ∷ ys) h = go (q y) refl h (λ l. any-map f q x k ys l)
  where
    go : (b : Bool) → q y ≡ b → (b || list_any q ys) ≡ true → (list_any q ys ≡ true → is_among (map f ys) x ≡ true)
        → (same_thing (f y) x || is_among (map f ys) x) ≡ true
    go true e l more = ap (λ v. v || is_among (map f ys) x) (k y e)
    go false e l more = ap (λ v. same_thing (f y) x || v) (more l) ∙ or-last (same_thing (f y) x)

among-first : (xs ys : List Thing) (x : Thing) → is_among xs x ≡ true → is_among (xs ++ ys) x ≡ true
among-first xs ys x h = list_any-append (λ n. same_thing n x) xs ys ∙ ap (λ v. v || is_among ys x) h

among-last : (xs ys : List Thing) (x : Thing) → is_among ys x ≡ true → is_among (xs ++ ys) x ≡ true
among-last xs ys x h = list_any-append (λ n. same_thing n x) xs ys ∙ ap (λ v. is_among xs x || v) h ∙ or-last (is_among xs x)

in-stats : (x : StatId) (bs : List Board) → list_any (λ (y : Stat). same_stat y.id x) (stats_of bs) ≡ true
    → is_among (all_stat_things bs) (stat x) ≡ true
in-stats x [] h = absurd (cc)
in-stats x (b ∷ bs) h = go (list_any q b.stats) refl (sym (list_any-append q b.stats (stats_of bs)) ∙ h) (λ l. in-stats x bs l)
  where
    q : Stat → Bool
    q y = same_stat y.id x

    go : (v : Bool) → list_any q b.stats ≡ v → (v || list_any q (stats_of bs)) ≡ true
        → (list_any q (stats_of bs) ≡ true → is_among (all_stat_things bs) (stat x) ≡ true)
        → is_among (stat_things b.stats ++ all_stat_things bs) (stat x) ≡ true
    go true e l more =
        among-first (stat_things b.stats) (all_stat_things bs) (stat x) (any-map (λ (y : Stat). stat y.id) q (stat x) (λ y k. k) b.stats e)
    go false e l more = among-last (stat_things b.stats) (all_stat_things bs) (stat x) (more l)

in-run : (t u : TextId) (a : ElemId) (xs : List TextByte) → same_text u t ≡ true
    → list_any (λ (x : TextByte). same_element x.id a) xs ≡ true
    → is_among (byte_things u xs) (element t a) ≡ true
in-run t u a xs e h = any-map (λ (x : TextByte). element u x.id) (λ (x : TextByte). same_element x.id a) (element t a) (λ y k. and_from (same_text u t) (same_element y.id a) e k) xs h

in-bytes : (t : TextId) (a : ElemId) (ts : List Text)
    → list_any (λ (x : TextByte). same_element x.id a) (elements_in (find_text t ts)) ≡ true
    → is_among (all_byte_things ts) (element t a) ≡ true
in-bytes t a [] h = absurd (cc)
in-bytes t a (u ∷ ts) h = go (same_text u.id t) refl h (λ l. in-bytes t a ts l)
  where
    go : (v : Bool) → same_text u.id t ≡ v
        → list_any (λ (x : TextByte). same_element x.id a) (elements_in (cond v (Some u) (find_text t ts))) ≡ true
        → (list_any (λ (x : TextByte). same_element x.id a) (elements_in (find_text t ts)) ≡ true → is_among (all_byte_things ts) (element t a) ≡ true)
        → is_among (byte_things u.id u.elements ++ all_byte_things ts) (element t a) ≡ true
    go true e l more = among-first (byte_things u.id u.elements) (all_byte_things ts) (element t a) (in-run t u.id a u.elements e l)
    go false e l more = among-last (byte_things u.id u.elements) (all_byte_things ts) (element t a) (more l)

-- an op that makes stats and bytes with their boards and texts alone
general : (s : Stamp) (op : Op) → made_stats s op ≡ stats_of (made_boards s op)
    → ((t : TextId) → made_bytes s op t ≡ elements_in (find_text t (made_texts s op))) → (x : Thing) → op_makes s op x ≡ true
    → is_among (things_in (made_boards s op) (made_texts s op)) x ≡ true
general s op p q (board b) h =
    let bs = made_boards s op in
    let ts = made_texts s op in
    among-first (map board_thing bs) (all_stat_things bs ++ (map text_thing ts ++ all_byte_things ts)) (board b)
    (any-map board_thing (λ (x : Board). same_board x.id b) (board b) (λ y k. k) bs h)
general s op p q (stat x) h =
    let bs = made_boards s op in
    let ts = made_texts s op in
    among-last (map board_thing bs) (all_stat_things bs ++ (map text_thing ts ++ all_byte_things ts)) (stat x)
    (among-first (all_stat_things bs) (map text_thing ts ++ all_byte_things ts) (stat x)
    (in-stats x bs (sym (ap (list_any (λ (y : Stat). same_stat y.id x)) p) ∙ h)))
general s op p q (text t) h =
    let bs = made_boards s op in
    let ts = made_texts s op in
    among-last (map board_thing bs) (all_stat_things bs ++ (map text_thing ts ++ all_byte_things ts)) (text t)
    (among-last (all_stat_things bs) (map text_thing ts ++ all_byte_things ts) (text t)
    (among-first (map text_thing ts) (all_byte_things ts) (text t)
    (any-map text_thing (λ (x : Text). same_text x.id t) (text t) (λ y k. k) ts h)))
general s op p q (element t a) h =
    let bs = made_boards s op in
    let ts = made_texts s op in
    among-last (map board_thing bs) (all_stat_things bs ++ (map text_thing ts ++ all_byte_things ts)) (element t a)
    (among-last (all_stat_things bs) (map text_thing ts ++ all_byte_things ts) (element t a)
    (among-last (map text_thing ts) (all_byte_things ts) (element t a)
    (in-bytes t a ts (sym (ap (list_any (λ (x : TextByte). same_element x.id a)) (q t)) ∙ h))))

op_made : (s : Stamp) (op : Op) (x : Thing) → op_makes s op x ≡ true → is_among (things_made s op) x ≡ true
op_made s (Genesis bytes) x h = general s (Genesis bytes) refl (λ t. refl) x h
op_made s (SetHeader setting) x h = general s (SetHeader setting) refl (λ t. refl) x h
op_made s (BoardAdd name) x h = general s (BoardAdd name) refl (λ t. refl) x h
op_made s (BoardRemove b) x h = general s (BoardRemove b) refl (λ t. refl) x h
op_made s (SetBoard b setting) x h = general s (SetBoard b setting) refl (λ t. refl) x h
op_made s (SetCells b r tile) x h = general s (SetCells b r tile) refl (λ t. refl) x h
op_made s (StatAdd b fields) (board c) h = absurd (cc)
op_made s (StatAdd b fields) (stat x) h = h
op_made s (StatAdd b fields) (text t) h = absurd (cc)
op_made s (StatAdd b fields) (element t a) h = absurd (cc)
op_made s (StatRemove x) y h = general s (StatRemove x) refl (λ t. refl) y h
op_made s (SetStat x setting) y h = general s (SetStat x setting) refl (λ t. refl) y h
op_made s TextAdd x h = general s TextAdd refl (λ t. refl) x h
op_made s (TextInsert u after bytes) (board b) h = absurd (cc)
op_made s (TextInsert u after bytes) (stat x) h = absurd (cc)
op_made s (TextInsert u after bytes) (text t) h = absurd (cc)
op_made s (TextInsert u after bytes) (element t a) h = go (same_text u t) refl h
  where
    go : (v : Bool) → same_text u t ≡ v → list_any (λ (x : TextByte). same_element x.id a) (cond v (run_from s 0 bytes) []) ≡ true
        → is_among (byte_things u (run_from s 0 bytes)) (element t a) ≡ true
    go true e l = in-run t u a (run_from s 0 bytes) e l
    go false e l = absurd (cc)
op_made s (TextDelete t r) x h = general s (TextDelete t r) refl (λ u. refl) x h

pub all_made : (e : Edit) → AreAllMade e (things_made e.stamp e.op)
all_made e x h = op_made e.stamp e.op x h

-- of two names of one thing the one is the other
pub same_thing-true : (a b : Thing) → same_thing a b ≡ true → b ≡ a
same_thing-true (board a) (board b) h = sym (ap board (same_board-true a b h))
same_thing-true (stat a) (stat b) h = sym (ap (λ n. stat (record { name = n })) (same_name-true a.name b.name h))
same_thing-true (text a) (text b) h = sym (ap text (same_text-true a b h))
same_thing-true (element t a) (element u b) h =
    let k = and_parts (same_text t u) (same_element a b) h in
    sym (ap (λ v. element v a) (same_text-true t u k.0) ∙ ap (λ n. element u (record { name = n })) (same_name-true a.name b.name k.1))
same_thing-true _ _ h = absurd (cc)
