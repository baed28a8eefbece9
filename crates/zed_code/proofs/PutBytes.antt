-- What an insertion makes of a text, said of its elements.
use Rattle.std.proofs.Common.{◌≡◌, ◌≤◌, ◌<◌, ℕ, suc, ◌+◌, Bool, true, false, cond, ◌&&◌, List, [], ◌∷◌, ◌++◌, map, length, take, drop, Option, Some, None, append-nil, refl, ap, ◌∙◌, sym, subst, arith, eqb, leb, ltb}
use Rattle.std.specs.List.{AllByRecursion, list_any}
use Rattle.std.proofs.lemmas.List.{drop_at, take_all, drop-append-le, take-append-le, length-drop, length-map}
use Rattle.zed_types.specs.declared.stamp.Stamp.{Stamp}
use Rattle.zed_types.specs.declared.names.ElemId.{ElemId}
use Rattle.zed_types.specs.declared.text.TextByte.{TextByte}
use Rattle.zed_types.specs.Stamp.{before, same_stamp}
use Rattle.zed_types.specs.Names.{same_element}
use Rattle.zed_types.specs.Text.{run_from, behind, pass_later, put_late}
use Rattle.zed_code.specs.declared.run.Run.{Run}
use Rattle.zed_code.specs.Runs.{has, found, put_run, whole, if_any}
use Rattle.zed_code.specs.Pieces.{Shown, run_of, written_out}
use Rattle.zed_code.specs.Cutting.{bytes_in, elements_in, piece_in, spelled}
use Rattle.zed_code.specs.There.{IsThere}
use Rattle.zed_code.specs.Kept.{IsRun, NoneOf, AreKept}
use Rattle.zed_code.specs.Text.{elements, StandsAfter, IsNewStamp}
use Rattle.zed_code.proofs.Spelling.{run_from-is, bytes-count, spelled-pass_runs, spelled-put_at}
use Rattle.zed_code.proofs.Keeping.{kept-put_run, length-put_run, is-longer}

-- the cutting that contracts see spells what the runs do
pub spelled-cutting : (store : List ℕ) (rs : List Run) → written_out (map (piece_in store) rs) ≡ spelled store rs
spelled-cutting store [] = refl
spelled-cutting store (r ∷ rs) = ap (λ xs. elements_in store r ++ xs) (spelled-cutting store rs)

-- the same, under a name that a function can use
pub cutting_spells : (store : List ℕ) (rs : List Run) → written_out (map (piece_in store) rs) ≡ spelled store rs
cutting_spells store rs = spelled-cutting store rs

-- a byte that no run has isn't in the text
none-here : (a : ElemId) (r : Stamp) (alive : Bool) (n : ℕ) (bs : List ℕ) (rest : List TextByte)
    → (same_stamp r a.name.stamp && (leb n a.name.index && ltb a.name.index (n + length bs))) ≡ false
    → list_any (λ x. same_element x.id a) (run_of r alive n bs ++ rest) ≡ list_any (λ x. same_element x.id a) rest
none-here a r alive n [] rest h = refl
none-here a r alive n (b ∷ bs) rest h = rw (first (same_stamp r a.name.stamp) n a.name.index (length bs) h) (none-here a r alive (n + 1) bs rest (more (same_stamp r a.name.stamp) n a.name.index (length bs) h))
  where
    first : (s : Bool) (n i l : ℕ) → (s && (leb n i && ltb i (n + suc l))) ≡ false → (s && eqb n i) ≡ false
    first false n i l h = refl
    first true n i l h = grind (arith)

    more : (s : Bool) (n i l : ℕ) → (s && (leb n i && ltb i (n + suc l))) ≡ false → (s && (leb (n + 1) i && ltb i (n + 1 + l))) ≡ false
    more false n i l h = refl
    more true n i l h = grind (arith)

-- a byte that a run has is in the text
some-here : (a : ElemId) (r : Stamp) (alive : Bool) (n : ℕ) (bs : List ℕ) (rest : List TextByte)
    → (same_stamp r a.name.stamp && (leb n a.name.index && ltb a.name.index (n + length bs))) ≡ true
    → list_any (λ x. same_element x.id a) (run_of r alive n bs ++ rest) ≡ true
some-here a r alive n [] rest h = absurd (none (same_stamp r a.name.stamp) n a.name.index h)
  where
    none : (s : Bool) (n i : ℕ) → (s && (leb n i && ltb i (n + 0))) ≡ true → ⊥
    none false n i k = absurd (cc)
    none true n i k = grind (arith)
some-here a r alive n (b ∷ bs) rest h =
    go (λ k. some-here a r alive (n + 1) bs rest k) (same_stamp r a.name.stamp && eqb n a.name.index) refl
  where
    more : (s : Bool) (n i l : ℕ) → (s && (leb n i && ltb i (n + suc l))) ≡ true → (s && eqb n i) ≡ false
        → (s && (leb (n + 1) i && ltb i (n + 1 + l))) ≡ true
    more false n i l k e = absurd (cc)
    more true n i l k e = grind (arith)

    go : ((same_stamp r a.name.stamp && (leb (n + 1) a.name.index && ltb a.name.index (n + 1 + length bs))) ≡ true → list_any (λ x. same_element x.id a) (run_of r alive (n + 1) bs ++ rest) ≡ true)
        → (v : Bool) → (same_stamp r a.name.stamp && eqb n a.name.index) ≡ v
        → list_any (λ x. same_element x.id a) (run_of r alive n (b ∷ bs) ++ rest) ≡ true
    go behind true e = rw e refl
    go behind false e = rw e (behind (more (same_stamp r a.name.stamp) n a.name.index (length bs) h e))

-- what runs spell has a byte just where one of them has it
pub spelled-has : (store : List ℕ) (a : ElemId) (rs : List Run) → AllByRecursion (IsRun store) rs
    → list_any (λ x. same_element x.id a) (spelled store rs) ≡ list_any (has a) rs
spelled-has store a [] each = refl
spelled-has store a (r ∷ rs) each = go (spelled-has store a rs each.1) (has a r) refl
  where
    go : list_any (λ x. same_element x.id a) (spelled store rs) ≡ list_any (has a) rs → (b : Bool) → has a r ≡ b
        → list_any (λ x. same_element x.id a) (spelled store (r ∷ rs)) ≡ list_any (has a) (r ∷ rs)
    go more true b = rw b (some-here a r.stamp r.alive r.first (bytes_in store r) (spelled store rs) (rw (bytes-count store r each.0) b))
    go more false b =
        rw b (none-here a r.stamp r.alive r.first (bytes_in store r) (spelled store rs) (rw (bytes-count store r each.0) b) ∙ more)

held-there : (store : List ℕ) (a : ElemId) (rs : List Run) → AllByRecursion (IsRun store) rs
    → list_any (λ x. same_element x.id a) (spelled store rs) ≡ true
    → found a rs < length rs
held-there store a [] each h = absurd (cc)
held-there store a (r ∷ rs) each h = go (λ k. held-there store a rs each.1 k) (has a r) refl
  where
    go : (list_any (λ x. same_element x.id a) (spelled store rs) ≡ true → found a rs < length rs) → (b : Bool) → has a r ≡ b
        → cond b 0 (suc (found a rs)) < suc (length rs)
    go more true b = omega arith
    go more false b =
        let n = none-here a r.stamp r.alive r.first (bytes_in store r) (spelled store rs) (rw (bytes-count store r each.0) b) in
        omega (arith, more (sym n ∙ h))

held-after : (store : List ℕ) (after : Option ElemId) (s : Stamp) (rs : List Run) → AllByRecursion (IsRun store) rs
    → StandsAfter after s (spelled store rs)
    → IsThere after rs
held-after store None s rs each h = tt
held-after store (Some a) s rs each h = held-there store a rs each h.1

-- no run has a stamp that no element has
first-stamp : (s r : Stamp) (alive : Bool) (n : ℕ) (bs : List ℕ) (rest : List TextByte) → 0 < length bs
    → IsNewStamp s (run_of r alive n bs ++ rest)
    → same_stamp r s ≡ false
first-stamp s r alive n [] rest l h = absurd (omega (arith, l))
first-stamp s r alive n (b ∷ bs) rest l h = h.0

rest-new : (s r : Stamp) (alive : Bool) (n : ℕ) (bs : List ℕ) (rest : List TextByte) → IsNewStamp s (run_of r alive n bs ++ rest)
    → IsNewStamp s rest
rest-new s r alive n [] rest h = h
rest-new s r alive n (b ∷ bs) rest h = rest-new s r alive (n + 1) bs rest h.1

none-of : (store : List ℕ) (s : Stamp) (rs : List Run) → AllByRecursion (IsRun store) rs → IsNewStamp s (spelled store rs) → NoneOf s rs
none-of store s [] each h = tt
none-of store s (r ∷ rs) each h = (
  first-stamp s r.stamp r.alive r.first (bytes_in store r) (spelled store rs) (rw (bytes-count store r each.0) each.0.some) h,
  none-of store s rs each.1 (rest-new s r.stamp r.alive r.first (bytes_in store r) (spelled store rs) h),
)

-- what the runs spell doesn't change as the store grows
bytes-longer : (store more : List ℕ) (r : Run) → IsRun store r → bytes_in (store ++ more) r ≡ bytes_in store r
bytes-longer store more r h =
    let d : drop r.start (store ++ more) ≡ drop r.start store ++ more = drop-append-le r.start store more (omega (arith, h.within)) in
    let l : r.len ≤ length (drop r.start store) = rw length-drop (omega (arith, h.within)) in
    ap (take r.len) d ∙ take-append-le r.len (drop r.start store) more l

pub spelled-longer : (store more : List ℕ) (rs : List Run) → AllByRecursion (IsRun store) rs → spelled (store ++ more) rs ≡ spelled store rs
spelled-longer store more [] h = refl
spelled-longer store more (r ∷ rs) h = rw (bytes-longer store more r h.0, spelled-longer store more rs h.1) refl

new-bytes : (store bytes : List ℕ) (run : Run) → run.start ≡ length store → run.len ≡ length bytes → bytes_in (store ++ bytes) run ≡ bytes
new-bytes store bytes run s l =
    ap (take run.len) (drop_at store bytes run.start (sym s)) ∙ take_all run.len bytes (omega (arith, l))

new-elements : (store bytes : List ℕ) (run : Run) → run.start ≡ length store → run.len ≡ length bytes → run.first ≡ 0 → run.alive ≡ true
    → elements_in (store ++ bytes) run ≡ run_from run.stamp 0 bytes
new-elements store bytes run s l f a = rw (new-bytes store bytes run s l, f, a) (sym (run_from-is run.stamp 0 bytes))

spelled-put_run : (store : List ℕ) (after : Option ElemId) (run : Run) (rs : List Run) (xs : List TextByte)
    → AllByRecursion (IsRun store) rs → StandsAfter after run.stamp xs
    → spelled store (put_run after run rs) ≡ put_late after run.stamp (elements_in store run) (spelled store rs)
spelled-put_run store None run rs xs each h = spelled-pass_runs store run rs each
spelled-put_run store (Some a) run rs xs each h = spelled-put_at store a run rs each h.0

-- the new run of an insertion
abbrev pub new_run : Stamp → List ℕ → ℕ → Run
new_run s store n = whole s (length store) n

-- what contracts see of a text spells what its runs do
pub shown : (store : List ℕ) (rs : List Run) (s t : Shown) → s.cutting ≡ map (piece_in store) rs → s ≡ t → elements t ≡ spelled store rs
shown store rs s t e f = ap elements (sym f) ∙ ap written_out e ∙ spelled-cutting store rs

-- the runs that were made are those with the new run
pub put-made : (store bytes : List ℕ) (after : Option ElemId) (s : Stamp) (rs news : List Run) (run : Run) (n : ℕ)
    → run ≡ whole s n (length bytes) → n ≡ length store → news ≡ put_run after run rs
    → news ≡ put_run after (new_run s store (length bytes)) rs
put-made store bytes after s rs news run n e f made = made ∙ rw (e, f) refl

-- what an insertion finds in a text, and what it makes of it
module _ (store bytes : List ℕ) (after : Option ElemId) (s : Stamp) (rs : List Run) (t : Shown) (v : elements t ≡ spelled store rs) (h : AreKept store rs) where
  pub names-there : StandsAfter after s (elements t) → IsThere after rs
  names-there there = held-after store after s rs h.each (let P : List TextByte → Type 0 = λ xs. StandsAfter after s xs in subst P v there)

  pub none-yet : IsNewStamp s (elements t) → NoneOf s rs
  none-yet new = none-of store s rs h.each (let P : List TextByte → Type 0 = λ xs. IsNewStamp s xs in subst P v new)

  pub put-spells : StandsAfter after s (elements t)
      → spelled (store ++ bytes) (put_run after (new_run s store (length bytes)) rs) ≡ put_late after s (run_from s 0 bytes) (elements t)
  put-spells there =
      let run = new_run s store (length bytes) in
      spelled-put_run (store ++ bytes) after run rs (elements t) (is-longer store bytes rs h.each) there
      ∙ rw (new-elements store bytes run refl refl refl refl, spelled-longer store bytes rs h.each) refl
      ∙ ap (put_late after s (run_from s 0 bytes)) (sym v)

  pub put-keeps : StandsAfter after s (elements t) → IsNewStamp s (elements t) → 0 < length bytes → length bytes ≤ 32767
      → AreKept (store ++ bytes) (put_run after (new_run s store (length bytes)) rs)
  put-keeps there new some most =
      kept-put_run store bytes after (new_run s store (length bytes)) rs h (none-yet new) (names-there there) some refl refl (omega (arith, most))

pub put-more : (store bytes : List ℕ) (after : Option ElemId) (run : Run) (rs : List Run)
    → length (map (piece_in (store ++ bytes)) (put_run after run rs)) ≤ length (map (piece_in store) rs) + 2
put-more store bytes after run rs = rw (length-map, length-map) (length-put_run after run rs)

-- a text with one run, and one with none
pub one-run : (s : Stamp) (bytes : List ℕ) → spelled bytes (new_run s [] (length bytes) ∷ []) ≡ run_from s 0 bytes
one-run s bytes =
    let run = new_run s [] (length bytes) in
    append-nil (elements_in bytes run) ∙ new-elements [] bytes run refl refl refl refl

pub first-spells : (s : Stamp) (bytes : List ℕ) → spelled bytes (if_any (whole s 0 (length bytes))) ≡ run_from s 0 bytes
first-spells s [] = refl
first-spells s (b ∷ bytes) = let some : ltb 0 (length (b ∷ bytes)) ≡ true = grind (arith) in rw some (one-run s (b ∷ bytes))

-- an insertion of no byte changes nothing
pass_later-nothing : (s : Stamp) (xs : List TextByte) → pass_later s [] xs ≡ xs
pass_later-nothing s [] = refl
pass_later-nothing s (x ∷ xs) = go (before s x.id.name.stamp) (pass_later-nothing s xs)
  where
    go : (b : Bool) → pass_later s [] xs ≡ xs → cond b (x ∷ pass_later s [] xs) (x ∷ xs) ≡ x ∷ xs
    go true more = ap (λ ys. x ∷ ys) more
    go false more = refl

behind-nothing : (a : ElemId) (s : Stamp) (xs : List TextByte) → behind a (pass_later s []) xs ≡ xs
behind-nothing a s [] = refl
behind-nothing a s (x ∷ xs) = go (same_element x.id a) (behind-nothing a s xs)
  where
    go : (b : Bool) → behind a (pass_later s []) xs ≡ xs → x ∷ cond b (pass_later s [] xs) (behind a (pass_later s []) xs) ≡ x ∷ xs
    go true more = ap (λ ys. x ∷ ys) (pass_later-nothing s xs)
    go false more = ap (λ ys. x ∷ ys) more

pub put_late-nothing : (after : Option ElemId) (s : Stamp) (xs : List TextByte) → put_late after s [] xs ≡ xs
put_late-nothing None s xs = pass_later-nothing s xs
put_late-nothing (Some a) s xs = behind-nothing a s xs
