-- What runs spell after an insertion.
use Rattle.std.proofs.Common.{◌≡◌, ◌≤◌, ◌<◌, ℕ, zero, suc, ◌+◌, ◌-◌, Bool, true, false, ◌&&◌, List, [], ◌∷◌, ◌++◌, length, take, drop, refl, ap, ◌∙◌, sym, append-nil, arith, eqb, leb, ltb}
use Rattle.std.specs.List.{AllByRecursion}
use Rattle.zed_types.specs.declared.stamp.Stamp.{Stamp}
use Rattle.zed_types.specs.declared.names.ElemId.{ElemId}
use Rattle.zed_types.specs.declared.text.TextByte.{TextByte}
use Rattle.zed_types.specs.Stamp.{before, same_stamp}
use Rattle.zed_types.specs.Names.{byte_of}
use Rattle.zed_types.specs.Text.{run_from, behind, pass_later}
use Rattle.zed_code.specs.declared.run.Run.{Run}
use Rattle.zed_code.specs.Runs.{has, pass_runs, put_behind, put_at, up_to, front, back}
use Rattle.zed_code.specs.Pieces.{run_of}
use Rattle.zed_code.specs.Cutting.{bytes_in, elements_in, spelled}
use Rattle.zed_code.specs.Kept.{IsRun}
use Rattle.std.proofs.lemmas.List.{take-take, drop-drop, drop-take, length-take-le, length-drop, drop_all, take_all}

-- the bytes of an insertion are a run that is alive
pub run_from-is : (s : Stamp) (n : ℕ) (bs : List ℕ) → run_from s n bs ≡ run_of s true n bs
run_from-is s n [] = refl
run_from-is s n (b ∷ bs) = ap (λ xs. record { id = byte_of s n; byte = b; alive = true } ∷ xs) (run_from-is s (n + 1) bs)

-- past a run of a later edit, and in front of one that isn't
pub pass_later-run_of : (s r : Stamp) (alive : Bool) (n : ℕ) (bs : List ℕ) (new rest : List TextByte) → before s r ≡ true
    → pass_later s new (run_of r alive n bs ++ rest) ≡ run_of r alive n bs ++ pass_later s new rest
pass_later-run_of s r alive n [] new rest h = refl
pass_later-run_of s r alive n (b ∷ bs) new rest h = rw (h, pass_later-run_of s r alive (n + 1) bs new rest h) refl

pub pass_later-stops : (s r : Stamp) (alive : Bool) (n : ℕ) (bs : List ℕ) (new rest : List TextByte) → 0 < length bs → before s r ≡ false
    → pass_later s new (run_of r alive n bs ++ rest) ≡ new ++ (run_of r alive n bs ++ rest)
pass_later-stops s r alive n [] new rest l h = absurd (omega (arith, l))
pass_later-stops s r alive n (b ∷ bs) new rest l h = rw (h) refl

-- a run has as many bytes in its store
pub bytes-count : (store : List ℕ) (r : Run) → IsRun store r → length (bytes_in store r) ≡ r.len
bytes-count store r h = length-take-le r.len (drop r.start store) (rw length-drop (omega (arith, h.within)))

some-bytes : (store : List ℕ) (r : Run) → IsRun store r → 0 < length (bytes_in store r)
some-bytes store r h = rw (bytes-count store r h) h.some

pub spelled-pass_runs : (store : List ℕ) (run : Run) (rs : List Run) → AllByRecursion (IsRun store) rs
    → spelled store (pass_runs run rs) ≡ pass_later run.stamp (elements_in store run) (spelled store rs)
spelled-pass_runs store run [] h = append-nil (elements_in store run)
spelled-pass_runs store run (r ∷ rs) h = go (spelled-pass_runs store run rs h.1) (before run.stamp r.stamp) refl
  where
    go : spelled store (pass_runs run rs) ≡ pass_later run.stamp (elements_in store run) (spelled store rs) → (b : Bool)
        → before run.stamp r.stamp ≡ b
        → spelled store (pass_runs run (r ∷ rs)) ≡ pass_later run.stamp (elements_in store run) (spelled store (r ∷ rs))
    go more true b = rw b (ap (λ xs. elements_in store r ++ xs) more ∙ sym (pass_later-run_of run.stamp r.stamp r.alive r.first (bytes_in store r) (elements_in store run) (spelled store rs) b))
    go more false b = rw b (sym (pass_later-stops run.stamp r.stamp r.alive r.first (bytes_in store r) (elements_in store run) (spelled store rs) (some-bytes store r h.0) b))

-- a byte that isn't one of a row isn't the first, and isn't one of the rest
not-first : (s : Bool) (n i l : ℕ) → (s && (leb n i && ltb i (n + suc l))) ≡ false → (s && eqb n i) ≡ false
not-first false n i l h = refl
not-first true n i l h = grind (arith)

not-rest : (s : Bool) (n i l : ℕ) → (s && (leb n i && ltb i (n + suc l))) ≡ false → (s && (leb (n + 1) i && ltb i (n + 1 + l))) ≡ false
not-rest false n i l h = refl
not-rest true n i l h = grind (arith)

-- behind a byte that a run doesn't have
pub behind-not_held : (a : ElemId) (r : Stamp) (alive : Bool) (n : ℕ) (bs : List ℕ) (f : List TextByte → List TextByte) (rest : List TextByte)
    → (same_stamp r a.name.stamp && (leb n a.name.index && ltb a.name.index (n + length bs))) ≡ false
    → behind a f (run_of r alive n bs ++ rest) ≡ run_of r alive n bs ++ behind a f rest
behind-not_held a r alive n [] f rest h = refl
behind-not_held a r alive n (b ∷ bs) f rest h =
    let first : (same_stamp r a.name.stamp && eqb n a.name.index) ≡ false =
    not-first (same_stamp r a.name.stamp) n a.name.index (length bs) h in
    let more = behind-not_held a r alive (n + 1) bs f rest (not-rest (same_stamp r a.name.stamp) n a.name.index (length bs) h) in
    rw (first, more) refl

is-first : (s : Bool) (n i : ℕ) → s ≡ true → n ≡ i → (s && eqb n i) ≡ true
is-first false n i h e = h
is-first true n i h e = grind (arith)

isnt-first : (s : Bool) (n i : ℕ) → n < i → (s && eqb n i) ≡ false
isnt-first false n i e = refl
isnt-first true n i e = grind (arith)

-- behind a byte that a run has
pub behind-held : (a : ElemId) (r : Stamp) (alive : Bool) (n : ℕ) (bs : List ℕ) (k : ℕ) (f : List TextByte → List TextByte) (rest : List TextByte)
    → same_stamp r a.name.stamp ≡ true → n + k ≡ a.name.index → k < length bs
    → behind a f (run_of r alive n bs ++ rest)
    ≡ run_of r alive n (take (suc k) bs) ++ f (run_of r alive (n + suc k) (drop (suc k) bs) ++ rest)
behind-held a r alive n [] k f rest s e l = absurd (omega (arith, l))
behind-held a r alive n (b ∷ bs) zero f rest s e l =
    let first : (same_stamp r a.name.stamp && eqb n a.name.index) ≡ true =
    is-first (same_stamp r a.name.stamp) n a.name.index s (omega (arith, e)) in
    rw (first) refl
behind-held a r alive n (b ∷ bs) (suc k) f rest s e l =
    let first : (same_stamp r a.name.stamp && eqb n a.name.index) ≡ false =
    isnt-first (same_stamp r a.name.stamp) n a.name.index (omega (arith, e)) in
    let more = behind-held a r alive (n + 1) bs k f rest s (omega (arith, e)) (omega (arith, l)) in
    let same : n + 1 + suc k ≡ n + suc (suc k) = omega arith in
    rw (first, more, same) refl

-- the bytes of the two parts of a run
pub bytes-front : (store : List ℕ) (k : ℕ) (r : Run) → k ≤ r.len → bytes_in store (front k r) ≡ take k (bytes_in store r)
bytes-front store k r h = sym (take-take k r.len (drop r.start store) h)

drop-take-le : (k n : ℕ) (xs : List ℕ) → k ≤ n → drop k (take n xs) ≡ take (n - k) (drop k xs)
drop-take-le k n xs h = let e : n ≡ k + (n - k) = omega (arith, h) in ap (λ m. drop k (take m xs)) e ∙ drop-take k (n - k) xs

pub bytes-back : (store : List ℕ) (k : ℕ) (r : Run) → k ≤ r.len → bytes_in store (back k r) ≡ drop k (bytes_in store r)
bytes-back store k r h = ap (take (r.len - k)) (sym (drop-drop k r.start store)) ∙ sym (drop-take-le k r.len (drop r.start store) h)

-- `run` behind a byte of a run
held-parts : (s : Bool) (n i l : ℕ) → (s && (leb n i && ltb i (n + l))) ≡ true → (s ≡ true) × (n + (i - n) ≡ i) × (i - n < l)
held-parts false n i l h = absurd (cc)
held-parts true n i l h = (refl, grind (arith), grind (arith))

same-before : (r a s : Stamp) → same_stamp r a ≡ true → before a s ≡ true → before s r ≡ false
same-before r a s e h = grind (arith)

spelled-put_behind : (store : List ℕ) (a : ElemId) (run r : Run) (rs : List Run) → IsRun store r → AllByRecursion (IsRun store) rs
    → before a.name.stamp run.stamp ≡ true → has a r ≡ true
    → spelled store (put_behind a run r rs) ≡ behind a (pass_later run.stamp (elements_in store run)) (spelled store (r ∷ rs))
spelled-put_behind store a run r rs is each later held = go (ltb (up_to a r) r.len) refl
  where
    p : (same_stamp r.stamp a.name.stamp ≡ true) × (r.first + (a.name.index - r.first) ≡ a.name.index) × (a.name.index - r.first < r.len)
    p = held-parts (same_stamp r.stamp a.name.stamp) r.first a.name.index r.len held

    n : length (bytes_in store r) ≡ r.len
    n = bytes-count store r is

    new : List TextByte
    new = elements_in store run

    at : behind a (pass_later run.stamp new) (spelled store (r ∷ rs))
        ≡ run_of r.stamp r.alive r.first (take (up_to a r) (bytes_in store r)) ++ pass_later run.stamp new (run_of r.stamp r.alive (r.first + up_to a r) (drop (up_to a r) (bytes_in store r)) ++ spelled store rs)
    at = behind-held a r.stamp r.alive r.first (bytes_in store r) (a.name.index - r.first) (pass_later run.stamp new) (spelled store rs) p.0 p.1 (rw n p.2)

    go : (b : Bool) → ltb (up_to a r) r.len ≡ b
        → spelled store (put_behind a run r rs) ≡ behind a (pass_later run.stamp new) (spelled store (r ∷ rs))
    go true b =
        let l : up_to a r < r.len = grind (arith) in
        let k : up_to a r ≤ r.len = omega (arith, l) in
        let bs : length (drop (up_to a r) (bytes_in store r)) ≡ r.len - up_to a r =
        length-drop (up_to a r) (bytes_in store r) ∙ ap (λ m. m - up_to a r) n in
        let stops = pass_later-stops run.stamp r.stamp r.alive (r.first + up_to a r) (drop (up_to a r) (bytes_in store r)) new (spelled store rs) (omega (arith, bs, l)) (same-before r.stamp a.name.stamp run.stamp p.0 later) in
        rw b (rw (bytes-front store (up_to a r) r k, bytes-back store (up_to a r) r k)
        (sym (at ∙ ap (λ xs. run_of r.stamp r.alive r.first (take (up_to a r) (bytes_in store r)) ++ xs) stops)))
    go false b =
        let l : r.len ≤ up_to a r = grind (arith) in
        let none : drop (up_to a r) (bytes_in store r) ≡ [] = drop_all (up_to a r) (bytes_in store r) (omega (arith, n, l)) in
        let whole : take (up_to a r) (bytes_in store r) ≡ bytes_in store r =
        take_all (up_to a r) (bytes_in store r) (omega (arith, n, l)) in
        let at' : behind a (pass_later run.stamp new) (spelled store (r ∷ rs)) ≡ run_of r.stamp r.alive r.first (bytes_in store r) ++ pass_later run.stamp new (spelled store rs) = at ∙ rw (none, whole) refl in
        rw b (ap (λ xs. elements_in store r ++ xs) (spelled-pass_runs store run rs each) ∙ sym at')

pub spelled-put_at : (store : List ℕ) (a : ElemId) (run : Run) (rs : List Run) → AllByRecursion (IsRun store) rs
    → before a.name.stamp run.stamp ≡ true
    → spelled store (put_at a run rs) ≡ behind a (pass_later run.stamp (elements_in store run)) (spelled store rs)
spelled-put_at store a run [] each later = refl
spelled-put_at store a run (r ∷ rs) each later = go (spelled-put_at store a run rs each.1 later) (has a r) refl
  where
    go : spelled store (put_at a run rs) ≡ behind a (pass_later run.stamp (elements_in store run)) (spelled store rs) → (b : Bool)
        → has a r ≡ b
        → spelled store (put_at a run (r ∷ rs)) ≡ behind a (pass_later run.stamp (elements_in store run)) (spelled store (r ∷ rs))
    go more true b = rw b (spelled-put_behind store a run r rs each.0 each.1 later b)
    go more false b =
        let h = rw (← bytes-count store r each.0) at b in
        rw b (ap (λ xs. elements_in store r ++ xs) more ∙ sym (behind-not_held a r.stamp r.alive r.first (bytes_in store r) (pass_later run.stamp (elements_in store run)) (spelled store rs) h))
