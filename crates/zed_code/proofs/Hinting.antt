-- Hints stay right: runs only move to the right.
use mathlib.Core.Logic.{◌⊎◌, inl, inr}
use Rattle.std.proofs.Common.{◌≡◌, ◌≤◌, ◌<◌, ℕ, zero, suc, ◌+◌, ◌-◌, min, Bool, true, false, cond, ◌&&◌, ◌||◌, Option, Some, None, List, [], ◌∷◌, ◌++◌, length, take, drop, set, get_or, refl, ap, ◌∙◌, sym, subst, arith, ltb, leb}
use Rattle.std.specs.List.{AllByRecursion, list_any}
use Rattle.zed_types.specs.declared.stamp.Stamp.{Stamp}
use Rattle.zed_types.specs.declared.names.ElemId.{ElemId}
use Rattle.zed_types.specs.Stamp.{same_stamp}
use Rattle.zed_types.specs.Names.{byte_of}
use Rattle.zed_code.specs.declared.run.Run.{Run}
use Rattle.zed_code.specs.declared.block.Block.{Block}
use Rattle.zed_code.specs.declared.block.Spot.{Spot}
use Rattle.zed_code.specs.declared.block.Cut.{Cut}
use Rattle.zed_code.specs.declared.insertion.Target.{Target}
use Rattle.zed_code.specs.Targets.{IsTarget, IsCut, cut_bytes}
use Rattle.zed_code.specs.Blocks.{lists, joined, list_at, before_spot, IsIn, NoneEmpty}
use Rattle.zed_code.specs.Halving.{AddsHint, IsNumber, IsMoved}
use Rattle.zed_code.specs.Runs.{lasts, sought, put_in, front, back, has, found}
use Rattle.zed_code.specs.Kept.{NoneFrom, NoneOf, InOrder, AllInOrder, IsHint, AreHints, IsOne, some_of}
use Rattle.zed_code.proofs.Joins.{joined-cut, length-at, none-sought, take-spot, drop-spot}
use Rattle.std.proofs.lemmas.List.{drop_more, get_or_default}
use Rattle.zed_code.specs.Visits.{raised}
use Rattle.zed_code.proofs.Puts.{put-joined}

pub all-left : (P : Run → Type 0) (xs ys : List Run) → AllByRecursion P (xs ++ ys) → AllByRecursion P xs
all-left P [] ys h = tt
all-left P (x ∷ xs) ys h = (h.0, all-left P xs ys h.1)

pub all-right : (P : Run → Type 0) (xs ys : List Run) → AllByRecursion P (xs ++ ys) → AllByRecursion P ys
all-right P [] ys h = h
all-right P (x ∷ xs) ys h = all-right P xs ys h.1

pub all-both : (P : Run → Type 0) (xs ys : List Run) → AllByRecursion P xs → AllByRecursion P ys → AllByRecursion P (xs ++ ys)
all-both P [] ys h k = k
all-both P (x ∷ xs) ys h k = (h.0, all-both P xs ys h.1 k)

-- a run of another edit has none of its bytes
none-of-from : (s : Stamp) (n : ℕ) (rs : List Run) → NoneOf s rs → NoneFrom s n rs
none-of-from s n [] none = tt
none-of-from s n (r ∷ rs) none = (ap (λ b. b && ltb n (r.first + r.len)) none.0, none-of-from s n rs none.1)

pub none-later : (s t : Stamp) (m n : ℕ) (rs : List Run) → s ≡ t → m ≤ n → NoneFrom s m rs → NoneFrom t n rs
none-later s t m n [] e l none = tt
none-later s t m n (r ∷ rs) e l none = (rw (← e) (go (same_stamp r.stamp s) none.0), none-later s t m n rs e l none.1)
  where
    go : (b : Bool) → (b && ltb m (r.first + r.len)) ≡ false → (b && ltb n (r.first + r.len)) ≡ false
    go false h = refl
    go true h = grind (arith)

-- another stamp than that of a run that is new
other-stamp : (t s : Stamp) (rs : List Run) → NoneOf t rs → some_of s rs ≡ true → same_stamp t s ≡ false
other-stamp t s [] none h = absurd (cc)
other-stamp t s (r ∷ rs) none h = go (same_stamp r.stamp s) (same_stamp t s) refl refl h (other-stamp t s rs none.1)
  where
    go : (b d : Bool) → same_stamp r.stamp s ≡ b → same_stamp t s ≡ d → (b || some_of s rs) ≡ true
        → (some_of s rs ≡ true → same_stamp t s ≡ false)
        → same_stamp t s ≡ false
    go b false e f k more = f
    go true true e f k more = let w : true ≡ false = clash r.stamp t s none.0 e f in absurd (cc)
      where
        clash : (r t s : Stamp) → same_stamp r t ≡ false → same_stamp r s ≡ true → same_stamp t s ≡ true → true ≡ false
        clash r t s h e f = grind (arith)
    go false true e f k more = more k

-- an insertion leaves the runs that are there
keeps-some : (s : Stamp) (i n : ℕ) (run : Run) (rs : List Run) → some_of s rs ≡ true → some_of s (put_in i n run rs) ≡ true
keeps-some s i n run [] h = absurd (cc)
keeps-some s zero n run (r ∷ rs) h = go (ltb 0 n) (same_stamp run.stamp s) (same_stamp r.stamp s) h
  where
    go : (b d e : Bool) → (e || some_of s rs) ≡ true → some_of s (cond b (front n r ∷ run ∷ back n r ∷ rs) (run ∷ r ∷ rs)) ≡ true
    go b d e k = more b
      where
        more : (b : Bool) → some_of s (cond b (front n r ∷ run ∷ back n r ∷ rs) (run ∷ r ∷ rs)) ≡ true
        more true = ors (same_stamp r.stamp s) (same_stamp run.stamp s) (some_of s rs) h
          where
            ors : (x y z : Bool) → (x || z) ≡ true → (x || (y || (x || z))) ≡ true
            ors true y z q = refl
            ors false true z q = refl
            ors false false z q = q
        more false = ors (same_stamp r.stamp s) (same_stamp run.stamp s) (some_of s rs) h
          where
            ors : (x y z : Bool) → (x || z) ≡ true → (y || (x || z)) ≡ true
            ors x true z q = refl
            ors x false z q = q
keeps-some s (suc i) n run (r ∷ rs) h = go (same_stamp r.stamp s) h (keeps-some s i n run rs)
  where
    go : (b : Bool) → (b || some_of s rs) ≡ true → (some_of s rs ≡ true → some_of s (put_in i n run rs) ≡ true)
        → (b || some_of s (put_in i n run rs)) ≡ true
    go true k more = refl
    go false k more = more k

same-self : (s : Stamp) → same_stamp s s ≡ true
same-self s = grind (arith)

has-own : (i n : ℕ) (run : Run) (rs : List Run) → some_of run.stamp (put_in i n run rs) ≡ true
has-own i n run [] = ap (λ b. b || false) (same-self run.stamp)
has-own zero n run (r ∷ rs) = go (ltb 0 n) (same_stamp r.stamp run.stamp)
  where
    ors : (x z : Bool) → (x || (same_stamp run.stamp run.stamp || z)) ≡ true
    ors true z = refl
    ors false z = ap (λ b. b || z) (same-self run.stamp)

    go : (b d : Bool) → some_of run.stamp (cond b (front n r ∷ run ∷ back n r ∷ rs) (run ∷ r ∷ rs)) ≡ true
    go true d = ors (same_stamp r.stamp run.stamp) (some_of run.stamp (back n r ∷ rs))
    go false d = ap (λ b. b || some_of run.stamp (r ∷ rs)) (same-self run.stamp)
has-own (suc i) n run (r ∷ rs) = go (same_stamp r.stamp run.stamp) (has-own i n run rs)
  where
    go : (b : Bool) → some_of run.stamp (put_in i n run rs) ≡ true → (b || some_of run.stamp (put_in i n run rs)) ≡ true
    go true more = refl
    go false more = more

-- an insertion of another edit puts none there
none-put : (s : Stamp) (m i n : ℕ) (run : Run) (rs : List Run) → lasts s m run ≡ false
    → ((r : Run) (qs : List Run) → drop i rs ≡ r ∷ qs → n < r.len) → NoneFrom s m rs
    → NoneFrom s m (put_in i n run rs)
none-put s m i n run [] other cut none = (other, tt)
none-put s m zero n run (r ∷ rs) other cut none = go (ltb 0 n)
  where
    shorter : (b : Bool) → (b && ltb m (r.first + r.len)) ≡ false → (b && ltb m (r.first + n)) ≡ false
    shorter false h = refl
    shorter true h = let l : n < r.len = cut r rs refl in grind (arith)

    rest : (b : Bool) → (b && ltb m (r.first + r.len)) ≡ false → (b && ltb m (r.first + n + (r.len - n))) ≡ false
    rest false h = refl
    rest true h = let l : n < r.len = cut r rs refl in let e : r.first + n + (r.len - n) ≡ r.first + r.len = omega (arith, l) in rw e h

    go : (b : Bool) → NoneFrom s m (cond b (front n r ∷ run ∷ back n r ∷ rs) (run ∷ r ∷ rs))
    go true = (shorter (same_stamp r.stamp s) none.0, (other, (rest (same_stamp r.stamp s) none.0, none.1)))
    go false = (other, none)
none-put s m (suc i) n run (r ∷ rs) other cut none = (none.0, none-put s m i n run rs other cut none.1)

none-set : (s : Stamp) (m : ℕ) (ls : List (List Run)) (b p : ℕ) (xs : List Run) → (NoneFrom s m (list_at b ls) → NoneFrom s m xs)
    → NoneFrom s m (joined (take p ls))
    → NoneFrom s m (joined (take p (set ls b xs)))
none-set s m [] b p xs keep none = none
none-set s m (rs ∷ ls) b zero xs keep none = tt
none-set s m (rs ∷ ls) zero (suc p) xs keep none = all-both (λ r. lasts s m r ≡ false) xs (joined (take p ls)) (keep (all-left (λ r. lasts s m r ≡ false) rs (joined (take p ls)) none)) (all-right (λ r. lasts s m r ≡ false) rs (joined (take p ls)) none)
none-set s m (rs ∷ ls) (suc b) (suc p) xs keep none = all-both (λ r. lasts s m r ≡ false) rs (joined (take p (set ls b xs))) (all-left (λ r. lasts s m r ≡ false) rs (joined (take p ls)) none) (none-set s m ls b p xs keep (all-right (λ r. lasts s m r ≡ false) rs (joined (take p ls)) none))

pub take-set : (ls : List (List Run)) (b p : ℕ) (xs : List Run) → p ≤ b → take p (set ls b xs) ≡ take p ls
take-set [] b p xs l = refl
take-set (rs ∷ ls) b zero xs l = refl
take-set (rs ∷ ls) zero (suc p) xs l = absurd (omega (arith, l))
take-set (rs ∷ ls) (suc b) (suc p) xs l = ap (λ qs. rs ∷ qs) (take-set ls b p xs (omega (arith, l)))

-- hints hold as a run is put in, and one of its own that is not behind it
pub put-hints : (hs more : List (ElemId × ℕ)) (places : List ℕ) (ls : List (List Run)) (at : Spot) (n : ℕ) (run : Run)
    → IsIn at (min n 1) ls
    → ((r : Run) (qs : List Run) → drop at.place (list_at at.block ls) ≡ r ∷ qs → n < r.len) → NoneOf run.stamp (joined ls)
    → AreHints hs places ls
    → AddsHint places at.block (byte_of run.stamp 0) hs more
    → AreHints more places (set ls at.block (put_in at.place n run (list_at at.block ls)))
put-hints hs more places ls at n run h cut new are adds hint one = go (adds hint one)
  where
    after : List (List Run)
    after = set ls at.block (put_in at.place n run (list_at at.block ls))

    joins : joined after ≡ put_in (before_spot at ls) n run (joined ls)
    joins = put-joined at n run ls h

    go : (IsOne hs hint ⊎ ((hint.0 ≡ byte_of run.stamp 0) × IsNumber places at.block hint.1)) → IsHint places after hint
    go (inl old) =
        let was = are hint old in
        let differs : same_stamp run.stamp hint.0.name.stamp ≡ false = other-stamp run.stamp hint.0.name.stamp (joined ls) new was.some in
        let other : lasts hint.0.name.stamp hint.0.name.index run ≡ false =
        ap (λ b. b && ltb hint.0.name.index (run.first + run.len)) differs in
        record {
          within = was.within;
          some = rw joins (keeps-some hint.0.name.stamp (before_spot at ls) n run (joined ls) was.some);
          none = λ p g. none-set hint.0.name.stamp hint.0.name.index ls at.block p (put_in at.place n run (list_at at.block ls)) (none-put hint.0.name.stamp hint.0.name.index at.place n run (list_at at.block ls) other cut) (was.none p g);
        }
    go (inr own) =
        let stamp : hint.0.name.stamp ≡ run.stamp = ap (λ (x : ElemId). x.name.stamp) own.0 in
        record {
          within = own.1.within;
          some = rw (stamp, joins) (has-own (before_spot at ls) n run (joined ls));
          none = λ p g.
              let l : p ≤ at.block = own.1.place p g in
              let none : NoneOf run.stamp (joined (take p ls)) = all-left (λ r. same_stamp r.stamp run.stamp ≡ false) (joined (take p ls)) (joined (drop p ls)) (rw (← joined-cut ls p) new) in
              rw (take-set ls at.block p (put_in at.place n run (list_at at.block ls)) l, stamp) (none-of-from run.stamp hint.0.name.index (joined (take p ls)) none);
        }

-- and as one is kept that holds
pub keep-hints : (hs more : List (ElemId × ℕ)) (places : List ℕ) (ls : List (List Run)) (b : ℕ) (id : ElemId)
    → some_of id.name.stamp (joined ls) ≡ true → NoneFrom id.name.stamp id.name.index (joined (take b ls)) → AreHints hs places ls
    → AddsHint places b id hs more
    → AreHints more places ls
keep-hints hs more places ls b id some none are adds hint one = go (adds hint one)
  where
    fewer : (ls : List (List Run)) (p b : ℕ) → p ≤ b → NoneFrom id.name.stamp id.name.index (joined (take b ls))
        → NoneFrom id.name.stamp id.name.index (joined (take p ls))
    fewer ls zero b l k = tt
    fewer [] (suc p) b l k = tt
    fewer (rs ∷ ls) (suc p) zero l k = absurd (omega (arith, l))
    fewer (rs ∷ ls) (suc p) (suc b) l k = all-both (λ r. lasts id.name.stamp id.name.index r ≡ false) rs (joined (take p ls)) (all-left (λ r. lasts id.name.stamp id.name.index r ≡ false) rs (joined (take b ls)) k) (fewer ls p b (omega (arith, l)) (all-right (λ r. lasts id.name.stamp id.name.index r ≡ false) rs (joined (take b ls)) k))

    go : (IsOne hs hint ⊎ ((hint.0 ≡ id) × IsNumber places b hint.1)) → IsHint places ls hint
    go (inl old) = are hint old
    go (inr own) =
        let P : ElemId → Type 0 = λ x. some_of x.name.stamp (joined ls) ≡ true in
        let Q : List Run → ElemId → Type 0 = λ rs x. NoneFrom x.name.stamp x.name.index rs in
        record {
          within = own.1.within;
          some = subst P (sym own.0) some;
          none = λ p g. subst (Q (joined (take p ls))) (sym own.0) (fewer ls p b (own.1.place p g) none);
        }

-- where no run is, no hint is
pub no-hints : (hs : List (ElemId × ℕ)) (places more : List ℕ) (ls : List (List Run)) → AreHints hs places [] → AreHints hs more ls
no-hints hs places more ls are hint one = let h : false ≡ true = (are hint one).some in absurd (cc)

-- the first run that has bytes of an edit from one on has that byte, if one does
some-run : (a : ElemId) (r : Run) → has a r ≡ true → lasts a.name.stamp a.name.index r ≡ true
some-run a r h = go (same_stamp r.stamp a.name.stamp) h
  where
    go : (s : Bool) → (s && (leb r.first a.name.index && ltb a.name.index (r.first + r.len))) ≡ true
        → (s && ltb a.name.index (r.first + r.len)) ≡ true
    go false k = absurd (cc)
    go true k = grind (arith)

none-behind : (a : ElemId) (r : Run) (rs : List Run) → lasts a.name.stamp a.name.index r ≡ true → has a r ≡ false
    → AllByRecursion (InOrder r) rs
    → list_any (has a) rs ≡ false
none-behind a r [] h k ordered = refl
none-behind a r (q ∷ rs) h k ordered = rw (misses (same_stamp q.stamp a.name.stamp) refl) (none-behind a r rs h k ordered.1)
  where
    both-same : (q r a : Stamp) → same_stamp q a ≡ true → same_stamp r a ≡ true → same_stamp q r ≡ true
    both-same q r a h k = grind (arith)

    stamped : (s : Bool) (n m : ℕ) → (s && ltb n m) ≡ true → (s ≡ true) × (n < m)
    stamped false n m e = absurd (cc)
    stamped true n m e = (refl, grind (arith))

    starts : (s : Bool) (f i l : ℕ) → s ≡ true → i < l → (s && (leb f i && ltb i l)) ≡ false → i < f
    starts false f i l e m e2 = absurd (cc)
    starts true f i l e m e2 = grind (arith)

    misses : (s : Bool) → same_stamp q.stamp a.name.stamp ≡ s
        → (s && (leb q.first a.name.index && ltb a.name.index (q.first + q.len))) ≡ false
    misses false e = refl
    misses true e =
        let l = stamped (same_stamp r.stamp a.name.stamp) a.name.index (r.first + r.len) h in
        let b : r.first + r.len ≤ q.first = ordered.0 (both-same r.stamp q.stamp a.name.stamp l.0 e) in
        let n : a.name.index < q.first = omega (arith, l.1, b) in
        grind (arith)

pub found-sought : (a : ElemId) (rs : List Run) → AllInOrder rs → list_any (has a) rs ≡ true
    → sought a.name.stamp a.name.index rs ≡ found a rs
found-sought a [] ordered h = refl
found-sought a (r ∷ rs) ordered h = go (has a r) (lasts a.name.stamp a.name.index r) refl refl h (found-sought a rs ordered.1)
  where
    go : (b d : Bool) → has a r ≡ b → lasts a.name.stamp a.name.index r ≡ d → (b || list_any (has a) rs) ≡ true
        → (list_any (has a) rs ≡ true → sought a.name.stamp a.name.index rs ≡ found a rs)
        → cond d 0 (suc (sought a.name.stamp a.name.index rs)) ≡ cond b 0 (suc (found a rs))
    go true true e f k more = refl
    go true false e f k more = let m = some-run a r e in absurd (cc)
    go false true e f k more = let m = none-behind a r rs f e ordered.0 in absurd (cc)
    go false false e f k more = ap suc (more k)

pub found-any : (a : ElemId) (rs : List Run) → found a rs < length rs → list_any (has a) rs ≡ true
found-any a [] l = absurd (omega (arith, l))
found-any a (r ∷ rs) l = go (has a r) l (found-any a rs)
  where
    go : (b : Bool) → cond b 0 (suc (found a rs)) < suc (length rs) → (found a rs < length rs → list_any (has a) rs ≡ true)
        → (b || list_any (has a) rs) ≡ true
    go true k more = refl
    go false k more = more (omega (arith, k))

-- whether some run has a byte, as the first does that has such ones
pub any-sought : (a : ElemId) (rs : List Run) (r : Run) (qs : List Run) → AllInOrder rs
    → drop (sought a.name.stamp a.name.index rs) rs ≡ r ∷ qs
    → list_any (has a) rs ≡ has a r
any-sought a [] r qs ordered e = absurd (cc)
any-sought a (p ∷ rs) r qs ordered e = go (lasts a.name.stamp a.name.index p) refl e (any-sought a rs r qs ordered.1)
  where
    first : List Run → Run
    first [] = r
    first (x ∷ xs) = x

    last : (b : Bool) → has a p ≡ b → lasts a.name.stamp a.name.index p ≡ true → (b || list_any (has a) rs) ≡ b
    last true k f = refl
    last false k f = none-behind a p rs f k ordered.0

    go : (b : Bool) → lasts a.name.stamp a.name.index p ≡ b → drop (cond b 0 (suc (sought a.name.stamp a.name.index rs))) (p ∷ rs) ≡ r ∷ qs
        → (drop (sought a.name.stamp a.name.index rs) rs ≡ r ∷ qs → list_any (has a) rs ≡ has a r)
        → list_any (has a) (p ∷ rs) ≡ has a r
    go true f k more = last (has a p) refl f ∙ ap (has a) (ap first k)
    go false f k more = rw (misses (has a p) refl) (more k)
      where
        misses : (b : Bool) → has a p ≡ b → has a p ≡ false
        misses false e = e
        misses true e = let m = some-run a p e in absurd (cc)

pub any-none : (a : ElemId) (rs : List Run) → sought a.name.stamp a.name.index rs ≡ length rs → list_any (has a) rs ≡ false
any-none a [] e = refl
any-none a (p ∷ rs) e = go (has a p) (lasts a.name.stamp a.name.index p) refl refl e (any-none a rs)
  where
    go : (b d : Bool) → has a p ≡ b → lasts a.name.stamp a.name.index p ≡ d
        → cond d 0 (suc (sought a.name.stamp a.name.index rs)) ≡ suc (length rs)
        → (sought a.name.stamp a.name.index rs ≡ length rs → list_any (has a) rs ≡ false)
        → (b || list_any (has a) rs) ≡ false
    go b true f g k more = absurd (omega (arith, k))
    go true false f g k more = let m = some-run a p f in absurd (cc)
    go false false f g k more = more (omega (arith, k))

-- the run that is found is of the edit
pub sought-some : (s : Stamp) (n : ℕ) (rs : List Run) → sought s n rs < length rs → some_of s rs ≡ true
sought-some s n [] l = absurd (omega (arith, l))
sought-some s n (r ∷ rs) l = go (same_stamp r.stamp s) (ltb n (r.first + r.len)) l (sought-some s n rs)
  where
    go : (b d : Bool) → cond (b && d) 0 (suc (sought s n rs)) < suc (length rs) → (sought s n rs < length rs → some_of s rs ≡ true)
        → (b || some_of s rs) ≡ true
    go true d k more = refl
    go false d k more = more (omega (arith, k))

-- blocks that have runs
pub full-some : (ls : List (List Run)) (i : ℕ) → i < length ls → NoneEmpty ls → 0 < length (list_at i ls)
full-some [] i l full = absurd (omega (arith, l))
full-some (rs ∷ ls) zero l full = full.0
full-some (rs ∷ ls) (suc i) l full = full-some ls i (omega (arith, l)) full.1

-- a place has a run
pub inside-runs : (at : Spot) (ls : List (List Run)) → IsIn at 1 ls → before_spot at ls < length (joined ls)
inside-runs at ls h = omega (arith, length-at ls at.block h.block, h.place)

pub some-blocks : (ls : List (List Run)) → 0 < length (joined ls) → 0 < length ls
some-blocks [] l = absurd (omega (arith, l))
some-blocks (rs ∷ ls) l = omega arith

-- the hint of a run that is found
pub hint-holds : (hs more : List (ElemId × ℕ)) (places : List ℕ) (ls : List (List Run)) (at : Spot) (id : ElemId) → IsIn at 1 ls
    → before_spot at ls ≡ sought id.name.stamp id.name.index (joined ls) → AreHints hs places ls → AddsHint places at.block id hs more
    → AreHints more places ls
hint-holds hs more places ls at id h e are adds =
    let l = inside-runs at ls h in
    let zero-in : IsIn at 0 ls = record { block = h.block; place = omega (arith, h.place) } in
    let Q : List Run → Type 0 = λ rs. NoneFrom id.name.stamp id.name.index rs in
    let none : Q (take (before_spot at ls) (joined ls)) = rw e (none-sought id.name.stamp id.name.index (joined ls)) in
    let front : Q (joined (take at.block ls) ++ take at.place (list_at at.block ls)) = subst Q (take-spot at ls zero-in) none in
    keep-hints hs more places ls at.block id (sought-some id.name.stamp id.name.index (joined ls) (omega (arith, e, l))) (all-left (λ r. lasts id.name.stamp id.name.index r ≡ false) (joined (take at.block ls)) (take at.place (list_at at.block ls)) front) are adds

-- how many runs a search looks at
pub looks : (ls : List (List Run)) (start v w : ℕ) (at : Spot) → NoneEmpty ls → (0 < length ls → start < length ls)
    → length (joined (take start ls)) ≤ before_spot at ls
    → w ≡ raised v (min (before_spot at ls + 1) (length (joined ls)) - length (joined (take start ls)))
    → (k : ℕ) × (w ≡ raised v k) × (k ≤ before_spot at ls + 1) × (k ≤ length (joined ls)) × (0 < length (joined ls) → 0 < k)
looks ls start v w at full some l e = (
  min (before_spot at ls + 1) (length (joined ls)) - length (joined (take start ls)),
  e,
  omega arith,
  omega arith,
  λ m. let b = some (some-blocks ls m) in omega (arith, l, length-at ls start b, full-some ls start b full),
)

-- the run at a place
pub spot-run : (at : Spot) (ls : List (List Run)) (r : Run) → IsIn at 1 ls → r ≡ get_or (list_at at.block ls) at.place r
    → drop (before_spot at ls) (joined ls) ≡ r ∷ (drop (at.place + 1) (list_at at.block ls) ++ joined (drop (at.block + 1) ls))
spot-run at ls r h e =
    let zero-in : IsIn at 0 ls = record { block = h.block; place = omega (arith, h.place) } in
    drop-spot at ls zero-in
    ∙ ap (λ xs. xs ++ joined (drop (at.block + 1) ls)) (drop_more (list_at at.block ls) at.place r (omega (arith, h.place)))
    ∙ ap (λ q. q ∷ (drop (at.place + 1) (list_at at.block ls) ++ joined (drop (at.block + 1) ls))) (sym e)

-- what has of all runs has of those of each block
pub each-at : (P : Run → Type 0) (ls : List (List Run)) (i : ℕ) → AllByRecursion P (joined ls) → AllByRecursion P (list_at i ls)
each-at P [] i h = tt
each-at P (rs ∷ ls) zero h = all-left P rs (joined ls) h
each-at P (rs ∷ ls) (suc i) h = each-at P ls i (all-right P rs (joined ls) h)

-- a run that is cut is cut within, as its block shows it
pub cut-inside : (aim : Target) (ls : List (List Run)) (r : Run) (rs : List Run) → IsTarget aim ls
    → drop aim.at.place (list_at aim.at.block ls) ≡ r ∷ rs
    → cut_bytes aim.cut < r.len
cut-inside aim ls r rs h e =
    let zero-in : IsIn aim.at 0 ls = record { block = h.within.block; place = omega (arith, h.within.place) } in
    h.cut r (rs ++ joined (drop (aim.at.block + 1) ls)) (drop-spot aim.at ls zero-in ∙ ap (λ xs. xs ++ joined (drop (aim.at.block + 1) ls)) e)

cut-front : (o : Option Cut) (xs ys : List Run) → IsCut o (xs ++ ys) → IsCut o xs
cut-front None xs ys h = tt
cut-front (Some c) xs ys h = (h.0, λ r qs e. h.1 r (qs ++ ys) (ap (λ zs. zs ++ ys) e))

-- the run that is cut, as its block shows it
pub cut-there : (aim : Target) (ls : List (List Run)) → IsTarget aim ls → IsCut aim.cut (drop aim.at.place (list_at aim.at.block ls))
cut-there aim ls h =
    let zero-in : IsIn aim.at 0 ls = record { block = h.within.block; place = omega (arith, h.within.place) } in
    let P : List Run → Type 0 = λ rs. IsCut aim.cut rs in
    cut-front aim.cut (drop aim.at.place (list_at aim.at.block ls)) (joined (drop (aim.at.block + 1) ls)) (subst P (drop-spot aim.at ls zero-in) h.there)

-- the run that was looked at in a block, among all runs
pub spot-looked : (at : Spot) (ls : List (List Run)) (rs : List Run) (r : Run) → IsIn at 1 ls → rs ≡ list_at at.block ls
    → drop at.place rs ≡ r ∷ drop (at.place + 1) rs
    → drop (before_spot at ls) (joined ls) ≡ r ∷ (drop (at.place + 1) rs ++ joined (drop (at.block + 1) ls))
spot-looked at ls rs r h e looked =
    let zero-in : IsIn at 0 ls = record { block = h.block; place = omega (arith, h.place) } in
    drop-spot at ls zero-in ∙ ap (λ xs. xs ++ joined (drop (at.block + 1) ls)) (ap (drop at.place) (sym e) ∙ looked)

pub spot-read : (at : Spot) (ls : List (List Run)) (rs : List Run) (d : Run) → IsIn at 1 ls → rs ≡ list_at at.block ls
    → drop (before_spot at ls) (joined ls)
    ≡ get_or rs at.place d ∷ (drop (at.place + 1) (list_at at.block ls) ++ joined (drop (at.block + 1) ls))
spot-read at ls rs d h e = spot-run at ls (get_or rs at.place d) h (ap (λ xs. get_or xs at.place d) e ∙ get_or_default (list_at at.block ls) at.place d (get_or rs at.place d) (omega (arith, h.place)))

-- the run that was found has the byte
pub found-run : (a : ElemId) (r : Run) (rs qs : List Run) → found a rs < length rs → drop (found a rs) rs ≡ r ∷ qs → has a r ≡ true
found-run a r [] qs l e = absurd (omega (arith, l))
found-run a r (q ∷ rs) qs l e = go (has a q) refl l e (found-run a r rs qs)
  where
    first : List Run → Run
    first [] = r
    first (x ∷ xs) = x

    go : (b : Bool) → has a q ≡ b → cond b 0 (suc (found a rs)) < suc (length rs) → drop (cond b 0 (suc (found a rs))) (q ∷ rs) ≡ r ∷ qs
        → (found a rs < length rs → drop (found a rs) rs ≡ r ∷ qs → has a r ≡ true)
        → has a r ≡ true
    go true b k f more = ap (has a) (sym (ap first f)) ∙ b
    go false b k f more = more (omega (arith, k)) f

pub first-is : (r q : Run) (rs qs : List Run) → r ∷ rs ≡ q ∷ qs → r ≡ q
first-is r q rs qs e = ap first e
  where
    first : List Run → Run
    first [] = r
    first (x ∷ xs) = x

-- where a run goes, once its place is elsewhere
pub target-moved : (aim : Target) (old new : List (List Run)) (to : Spot) → IsTarget aim old → IsMoved old new aim.at to
    → joined new ≡ joined old
    → IsTarget (record { at = to; cut = aim.cut }) new
target-moved aim old new to h moves same = record {
  within = moves.within (min (cut_bytes aim.cut) 1) (omega arith) h.within;
  cut = λ r rs e. h.cut r rs (ap (λ n. drop n (joined old)) (sym moves.place) ∙ ap (drop (before_spot to new)) (sym same) ∙ e);
  there = let P : List Run → Type 0 = λ rs. IsCut aim.cut rs in subst P (ap (λ n. drop n (joined old)) (sym moves.place) ∙ ap (drop (before_spot to new)) (sym same)) h.there;
}

-- a place before which not all runs stand is in a block
pub is-inside : (at : Spot) (ls : List (List Run)) (n : ℕ) → before_spot at ls < length (joined ls) → (at.block < n → IsIn at 1 ls)
    → (n ≤ at.block → before_spot at ls ≡ length (joined ls))
    → IsIn at 1 ls
is-inside at ls n l inside end = go (ltb at.block n) refl
  where
    go : (b : Bool) → ltb at.block n ≡ b → IsIn at 1 ls
    go true e = inside (grind (arith))
    go false e = let far : n ≤ at.block = grind (arith) in let m = end far in absurd (omega (arith, l, m))

pub hints-of : (hs : List (ElemId × ℕ)) (ps qs : List ℕ) (bs cs : List Block) → ps ≡ qs → bs ≡ cs → AreHints hs ps (lists bs)
    → AreHints hs qs (lists cs)
hints-of hs ps qs bs cs e f are =
    let P : List ℕ → Type 0 = λ xs. AreHints hs xs (lists bs) in
    let Q : List Block → Type 0 = λ xs. AreHints hs qs (lists xs) in
    subst Q f (subst P e are)
