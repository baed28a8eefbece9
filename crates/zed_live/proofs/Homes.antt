-- The board that an edit puts a stat on, among the boards that it makes and in the replay.
use Rattle.std.proofs.Common.{◌≡◌, ◌∙◌, ◌||◌, Bool, true, false, cond, List, [], ◌∷◌, ◌++◌, find, Option, Some, None, Result, Ok, Err, refl, ap, sym, subst, true≢false}
use Rattle.std.specs.List.{AllByRecursion, list_any}
use Rattle.std.specs.Option.{option_or, option_map, is_some}
use Rattle.std.proofs.lemmas.List.Folds.{find-append}
use Rattle.zed_types.specs.declared.stamp.Stamp.{Stamp}
use Rattle.zed_types.specs.declared.names.BoardId.{BoardId}
use Rattle.zed_types.specs.declared.names.StatId.{StatId}
use Rattle.zed_types.specs.Names.{stat_of, same_name, same_board, same_stat}
use Rattle.zed_types.proofs.StampOrder.{same_board-true, same_name-itself}
use Rattle.zed_types.proofs.Facts.{none_is, some_is}
use Rattle.zed_world.specs.Contents.{Contents}
use Rattle.zed_world.specs.Reading.{world_at}
use Rattle.zed_world.specs.declared.error.WorldError.{WorldError}
use Rattle.zed_op.specs.declared.op.Op.{Op}
use Rattle.zed_op.specs.declared.op.Op.TheVariants.{Genesis, BoardAdd, StatAdd}
use Rattle.zed_op.specs.declared.op.Edit.{Edit}
use Rattle.zed_op.specs.declared.thing.Thing.TheVariants as thing
use Rattle.zed_edit.specs.declared.plain.Board.{Board}
use Rattle.zed_edit.specs.declared.plain.Stat.{Stat}
use Rattle.zed_edit.specs.Document.{empty_document}
use Rattle.zed_edit.specs.Replay.{open_world, replay}
use Rattle.zed_laws.proofs.MadeThings.{find-any}
use Rattle.zed_laws.specs.Homes.{is_on}
use Rattle.zed_laws.specs.Making.{makes, op_makes}
use Rattle.zed_laws.specs.Winners.{opened_from, made_boards, made_stats, stats_of, find_board, find_stat}
use Rattle.zed_laws.specs.OwnNames.{NamesDiffer}
use Rattle.zed_laws.proofs.Found.{found-holds}
use Rattle.zed_laws.proofs.OwnNames.{boards_have_own_names, stats_have_own_names}
use Rattle.zed_laws.proofs.StatReads.{any-stat}
use Rattle.zed_live.specs.Board.{is_of}
use Rattle.zed_live.specs.BoardStats.{is_board, puts}
use Rattle.zed_live.proofs.Lists.{found-passes}
use Rattle.zed_live.proofs.StatsByName.{stat-true}

-- ---- boards and stats of names of their own

abbrev id_of : Board → BoardId
id_of b = b.id

-- no two boards have one name, nor two of their stats
pub record OwnNames (bs : List Board) : Type 0 where
  pub boards : NamesDiffer (λ (b : Board). b.id.name) bs
  pub stats : NamesDiffer (λ (x : Stat). x.id.name) (stats_of bs)

differ-right : (xs ys : List Stat) → NamesDiffer (λ (x : Stat). x.id.name) (xs ++ ys) → NamesDiffer (λ (x : Stat). x.id.name) ys
differ-right [] ys d = d
differ-right (x ∷ xs) ys d = differ-right xs ys d.1

rest : (b : Board) (bs : List Board) → OwnNames (b ∷ bs) → OwnNames bs
rest b bs own = record { boards = own.boards.1; stats = differ-right b.stats (stats_of bs) own.stats }

none-apart : (x : StatId) (z : Stat) (zs ys : List Stat) → z.id ≡ x
    → AllByRecursion (λ (y : Stat). same_name z.id.name y.id.name ≡ false) (zs ++ ys)
    → list_any (λ y. same_stat y.id x) ys ≡ false
none-apart x z (w ∷ zs) ys is a = none-apart x z zs ys is a.1
none-apart x z [] [] is a = refl
none-apart x z [] (y ∷ ys) is a =
    let k : same_stat x y.id ≡ false = subst (λ (i : StatId). same_stat i y.id ≡ false) is a.0 in
    let t : same_stat y.id x ≡ false = turned x y.id k in
    rw t (none-apart x z [] ys is a.1)
  where
    turned : (m n : StatId) → same_stat m n ≡ false → same_stat n m ≡ false
    turned m n h = go (same_stat n m) refl
      where
        go : (v : Bool) → same_stat n m ≡ v → v ≡ false
        go false v = refl
        go true v = absurd (true≢false (sym (same_name-itself n.name) ∙ ap (λ (i : StatId). same_stat i n) (stat-true n m v) ∙ h))

-- a stat among the first is not among the others
alone : (x : StatId) (xs ys : List Stat) → NamesDiffer (λ (z : Stat). z.id.name) (xs ++ ys) → list_any (λ z. same_stat z.id x) xs ≡ true
    → list_any (λ z. same_stat z.id x) ys ≡ false
alone x [] ys d h = absurd (true≢false (sym h))
alone x (z ∷ xs) ys d h = go (same_stat z.id x) refl h (λ k. alone x xs ys d.1 k)
  where
    go : (v : Bool) → same_stat z.id x ≡ v → (v || list_any (λ z. same_stat z.id x) xs) ≡ true
        → (list_any (λ z. same_stat z.id x) xs ≡ true → list_any (λ z. same_stat z.id x) ys ≡ false)
        → list_any (λ z. same_stat z.id x) ys ≡ false
    go true v k more = none-apart x z xs ys (stat-true z.id x v) d.0
    go false v k more = more k

abbrev named : StatId → Stat → Bool
named x z = same_stat z.id x

-- what is found among some is found where others come behind
joined : (x : StatId) (xs ys : List Stat) (st : Stat) → find_stat x xs ≡ Some st → find_stat x (xs ++ ys) ≡ Some st
joined x xs ys st h = find-append (named x) xs ys ∙ ap (λ o. option_or o (find_stat x ys)) h

behind : (x : StatId) (xs ys : List Stat) (st : Stat) → find_stat x xs ≡ None → find_stat x ys ≡ Some st → find_stat x (xs ++ ys) ≡ Some st
behind x xs ys st n h = find-append (named x) xs ys ∙ ap (λ o. option_or o (find_stat x ys)) n ∙ h

-- a stat of the board of a name is on that board alone
pub on-it : (b : BoardId) (x : StatId) (bs : List Board) (made : Board) (st : Stat) → OwnNames bs → find_board b bs ≡ Some made
    → find_stat x made.stats ≡ Some st
    → (find (is_on x) bs ≡ Some made) × (find_stat x (stats_of bs) ≡ Some st)
on-it b x [] made st own h k = absurd (cc)
on-it b x (c ∷ bs) made st own h k = go (same_board c.id b) h (λ m. on-it b x bs made st (rest c bs own) m k)
  where
    go : (v : Bool) → cond v (Some c) (find_board b bs) ≡ Some made
        → (find_board b bs ≡ Some made → (find (is_on x) bs ≡ Some made) × (find_stat x (stats_of bs) ≡ Some st))
        → (find (is_on x) (c ∷ bs) ≡ Some made) × (find_stat x (c.stats ++ stats_of bs) ≡ Some st)
    go true m more =
        let i : c ≡ made = some_is c made m in
        let t : find_stat x c.stats ≡ Some st = ap (λ (d : Board). find_stat x d.stats) i ∙ k in
        let on : is_on x c ≡ true = sym (find-any (named x) c.stats) ∙ ap is_some t in
        (rw on m, joined x c.stats (stats_of bs) st t)
    go false m more =
        let p = more m in
        let there : list_any (named x) (stats_of bs) ≡ true = sym (find-any (named x) (stats_of bs)) ∙ ap is_some p.1 in
        let off : is_on x c ≡ false = beside (is_on x c) refl there in
        (rw off p.0, behind x c.stats (stats_of bs) st (none_is (find_stat x c.stats) (find-any (named x) c.stats ∙ off)) p.1)
      where
        beside : (v : Bool) → is_on x c ≡ v → list_any (named x) (stats_of bs) ≡ true → v ≡ false
        beside false v t = refl
        beside true v t = absurd (true≢false (sym t ∙ alone x c.stats (stats_of bs) own.stats v))

-- a board that has a stat is the one of its name
pub own-board : (x : StatId) (bs : List Board) (d : Board) → OwnNames bs → find (is_on x) bs ≡ Some d
    → (find_board d.id bs ≡ Some d) × (is_on x d ≡ true)
own-board x bs d own h = (its-name x bs d own h, found-passes (is_on x) bs d h)
  where
    its-name : (x : StatId) (bs : List Board) (d : Board) → OwnNames bs → find (is_on x) bs ≡ Some d → find_board d.id bs ≡ Some d
    its-name x [] d own h = absurd (cc)
    its-name x (c ∷ bs) d own h = go (is_on x c) h (λ m. its-name x bs d (rest c bs own) m)
      where
        go : (v : Bool) → cond v (Some c) (find (is_on x) bs) ≡ Some d → (find (is_on x) bs ≡ Some d → find_board d.id bs ≡ Some d)
            → find_board d.id (c ∷ bs) ≡ Some d
        go true m more =
            let i : c ≡ d = some_is c d m in
            let k : same_board c.id d.id ≡ true = ap (λ (a : Board). same_board a.id d.id) i ∙ same_name-itself d.id.name in
            rw k m
        go false m more =
            let k : same_board c.id d.id ≡ false =
            found-holds (λ (y : Board). same_name c.id.name y.id.name ≡ false) (is_on x) bs own.boards.0 d m in
            rw k (more m)

-- ---- where a stat is among boards

abbrev pub home_in : StatId → List Board → Option BoardId
home_in x bs = option_map id_of (find (is_on x) bs)

-- it is on the board of a name where that has it
pub home-on : (b : BoardId) (x : StatId) (bs : List Board) (made : Board) → OwnNames bs → find_board b bs ≡ Some made
    → is_board b (home_in x bs) ≡ is_some (find_stat x made.stats)
home-on b x bs made own h = go (find_stat x made.stats) refl
  where
    its : same_board made.id b ≡ true
    its = found-passes (λ c. same_board c.id b) bs made h

    go : (o : Option Stat) → find_stat x made.stats ≡ o → is_board b (home_in x bs) ≡ is_some o
    go (Some st) k = ap (λ o. is_board b (option_map id_of o)) (on-it b x bs made st own h k).0 ∙ its
    go None k = off (find (is_on x) bs) refl
      where
        off : (o : Option Board) → find (is_on x) bs ≡ o → is_board b (option_map id_of o) ≡ false
        off None m = refl
        off (Some d) m = other (same_board d.id b) refl
          where
            other : (v : Bool) → same_board d.id b ≡ v → v ≡ false
            other false v = refl
            other true v =
                let w = own-board x bs d own m in
                let i : made ≡ d = some_is made d (sym h ∙ ap (λ (n : BoardId). find_board n bs) (sym (same_board-true d.id b v)) ∙ w.0) in
                absurd (true≢false (sym w.1 ∙ ap (is_on x) (sym i) ∙ sym (find-any (named x) made.stats) ∙ ap is_some k))

-- it isn't on a board that isn't there
home-off : (b : BoardId) (x : StatId) (bs : List Board) → OwnNames bs → find_board b bs ≡ None → is_board b (home_in x bs) ≡ false
home-off b x bs own h = off (find (is_on x) bs) refl
  where
    off : (o : Option Board) → find (is_on x) bs ≡ o → is_board b (option_map id_of o) ≡ false
    off None m = refl
    off (Some d) m = other (same_board d.id b) refl
      where
        other : (v : Bool) → same_board d.id b ≡ v → v ≡ false
        other false v = refl
        other true v =
            let w = own-board x bs d own m in
            absurd (true≢false (ap is_some (sym w.0 ∙ ap (λ (n : BoardId). find_board n bs) (same_board-true d.id b v) ∙ h)))

-- it is among their stats where it is on one
home-made : (b : BoardId) (x : StatId) (bs : List Board) → is_board b (home_in x bs) ≡ true → list_any (named x) (stats_of bs) ≡ true
home-made b x bs h = any-stat (named x) bs ∙ sym (find-any (is_on x) bs) ∙ some (find (is_on x) bs) h
  where
    some : (o : Option Board) → is_board b (option_map id_of o) ≡ true → is_some o ≡ true
    some None k = absurd (true≢false (sym k))
    some (Some d) k = refl

-- ---- the boards that an edit makes

replay-own : (e : Edit) → OwnNames (replay (e ∷ [])).boards
replay-own e = record { boards = boards_have_own_names (e ∷ []) (tt, tt); stats = stats_have_own_names (e ∷ []) (tt, tt) }

opened-own : (s : Stamp) (r : Result Contents WorldError) → OwnNames (open_world s r empty_document).boards → OwnNames (opened_from s r)
opened-own s (Ok w) own = own
opened-own s (Err e) own = record { boards = tt; stats = tt }

pub made-own : (s : Stamp) (op : Op) → OwnNames (made_boards s op)
made-own s (Genesis bytes) = opened-own s (world_at bytes) (replay-own (record { stamp = s; op = Genesis bytes }))
made-own s (BoardAdd name) = replay-own (record { stamp = s; op = BoardAdd name })
made-own s _ = record { boards = tt; stats = tt }

abbrev edit_of : Stamp → Op → Edit
edit_of s op = record { stamp = s; op = op }

-- an edit that makes a board puts on it what it makes it with
pub puts-made : (b : BoardId) (x : StatId) (s : Stamp) (op : Op) (made : Board) → find_board b (made_boards s op) ≡ Some made
    → puts x b (edit_of s op) ≡ is_some (find_stat x made.stats)
puts-made b x s (StatAdd c fields) made h = absurd (cc)
puts-made b x s (Genesis bytes) made h = home-on b x (made_boards s (Genesis bytes)) made (made-own s (Genesis bytes)) h
puts-made b x s (BoardAdd name) made h = home-on b x (made_boards s (BoardAdd name)) made (made-own s (BoardAdd name)) h
puts-made b x s _ made h = absurd (cc)

pub finds-made : (b : BoardId) (x : StatId) (s : Stamp) (op : Op) (made : Board) (st : Stat) → find_board b (made_boards s op) ≡ Some made
    → find_stat x made.stats ≡ Some st
    → find_stat x (made_stats s op) ≡ Some st
finds-made b x s (StatAdd c fields) made st h k = absurd (cc)
finds-made b x s (Genesis bytes) made st h k = (on-it b x (made_boards s (Genesis bytes)) made st (made-own s (Genesis bytes)) h k).1
finds-made b x s (BoardAdd name) made st h k = (on-it b x (made_boards s (BoardAdd name)) made st (made-own s (BoardAdd name)) h k).1
finds-made b x s _ made st h k = absurd (cc)

-- one that adds a stat puts that on its board
added-puts : (b c : BoardId) (x y : StatId) → same_board c b ≡ false → is_board b (cond (same_stat y x) (Some c) None) ≡ false
added-puts b c x y h = go (same_stat y x)
  where
    go : (v : Bool) → is_board b (cond v (Some c) None) ≡ false
    go true = h
    go false = refl

-- one that neither makes a board nor is of it puts nothing on it
op-puts-none : (b : BoardId) (x : StatId) (s : Stamp) (op : Op) → find_board b (made_boards s op) ≡ None → is_of b op ≡ false
    → puts x b (edit_of s op) ≡ false
op-puts-none b x s (StatAdd c fields) h k = added-puts b c x (stat_of s 0) k
op-puts-none b x s (Genesis bytes) h k = home-off b x (made_boards s (Genesis bytes)) (made-own s (Genesis bytes)) h
op-puts-none b x s (BoardAdd name) h k = home-off b x (made_boards s (BoardAdd name)) (made-own s (BoardAdd name)) h
op-puts-none b x s _ h k = refl

pub puts-none : (b : BoardId) (x : StatId) (e : Edit) → find_board b (made_boards e.stamp e.op) ≡ None → is_of b e.op ≡ false
    → puts x b e ≡ false
puts-none b x e h k = op-puts-none b x e.stamp e.op h k

-- what is put on a board is made
op-puts-makes : (b : BoardId) (x : StatId) (s : Stamp) (op : Op) → puts x b (edit_of s op) ≡ true → op_makes s op (thing.Stat x) ≡ true
op-puts-makes b x s (StatAdd c fields) h = go (same_stat (stat_of s 0) x) h
  where
    go : (v : Bool) → is_board b (cond v (Some c) None) ≡ true → (v || false) ≡ true
    go true k = refl
    go false k = absurd (true≢false (sym k))
op-puts-makes b x s (Genesis bytes) h = home-made b x (made_boards s (Genesis bytes)) h
op-puts-makes b x s (BoardAdd name) h = home-made b x (made_boards s (BoardAdd name)) h
op-puts-makes b x s _ h = absurd (true≢false (sym h))

pub puts-makes : (b : BoardId) (x : StatId) (e : Edit) → puts x b e ≡ true → makes e (thing.Stat x) ≡ true
puts-makes b x e h = op-puts-makes b x e.stamp e.op h

-- what is made is put on a board
op-makes-puts : (x : StatId) (s : Stamp) (op : Op) → op_makes s op (thing.Stat x) ≡ true → (b : BoardId) × (puts x b (edit_of s op) ≡ true)
op-makes-puts x s (StatAdd c fields) h = (c, go (same_stat (stat_of s 0) x) h)
  where
    go : (v : Bool) → (v || false) ≡ true → is_board c (cond v (Some c) None) ≡ true
    go true k = same_name-itself c.name
    go false k = absurd (true≢false (sym k))
op-makes-puts x s op h =
    go (find (is_on x) (made_boards s op)) (find-any (is_on x) (made_boards s op) ∙ sym (any-stat (named x) (made_boards s op)) ∙ h)
  where
    go : (o : Option Board) → is_some o ≡ true → (b : BoardId) × (is_board b (option_map id_of o) ≡ true)
    go None k = absurd (true≢false (sym k))
    go (Some d) k = (d.id, same_name-itself d.id.name)

pub makes-puts : (x : StatId) (e : Edit) → makes e (thing.Stat x) ≡ true → (b : BoardId) × (puts x b e ≡ true)
makes-puts x e h = op-makes-puts x e.stamp e.op h
