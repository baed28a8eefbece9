-- How many runs a deletion touches.
use Rattle.std.proofs.Common.{◌≡◌, ◌≤◌, ◌<◌, ◌∙◌, ℕ, zero, suc, ◌+◌, Bool, true, false, cond, List, [], ◌∷◌, ◌++◌, length, take, drop, refl, ap, subst, arith}
use Rattle.std.specs.List.{AllByRecursion, list_any}
use Rattle.std.proofs.lemmas.List.{take_all}
use Rattle.std.proofs.lemmas.List.Sums.{sum_by-cons}
use Rattle.zed_types.specs.declared.text.ByteRange.{ByteRange}
use Rattle.zed_code.specs.declared.run.Run.{Run}
use Rattle.zed_code.specs.Blocks.{joined, list_at}
use Rattle.zed_code.specs.Runs.{reaches, sought, touched, touches}
use Rattle.zed_code.specs.Kept.{AllInOrder, InOrder, NoneFrom}
use Rattle.zed_code.proofs.Joins.{joined-at, joined-cut, joined-drop, drop-none, none-sought}
use Rattle.zed_code.proofs.Kills.{beyond, order-right, reach-touch, spared, missed}

-- what a run that passes counts
abbrev one : Bool → ℕ
one b = cond b 1 0

touched-cons : (x : ByteRange) (r : Run) (rs : List Run) → touched x (r ∷ rs) ≡ cond (touches x r) 1 0 + touched x rs
touched-cons x r rs = sum_by-cons (λ q. cond (touches x q) 1 0) r rs

pub touched-one : (x : ByteRange) (r : Run) (rs : List Run) → touched x (r ∷ rs) ≤ 1 + touched x rs
touched-one x r rs = omega (arith, touched-cons x r rs, most (touches x r))
  where
    most : (b : Bool) → cond b 1 0 ≤ 1
    most true = omega arith
    most false = omega arith

touched-append : (x : ByteRange) (rs qs : List Run) → touched x (rs ++ qs) ≡ touched x rs + touched x qs
touched-append x [] qs = omega arith
touched-append x (r ∷ rs) qs = omega (arith, touched-cons x r (rs ++ qs), touched-cons x r rs, touched-append x rs qs)

pub touched-none : (x : ByteRange) (rs : List Run) → AllByRecursion (λ r. touches x r ≡ false) rs → touched x rs ≡ 0
touched-none x [] none = refl
touched-none x (r ∷ rs) none = let e : cond (touches x r) 1 0 ≡ 0 = ap one none.0 in omega (arith, touched-cons x r rs, e, touched-none x rs none.1)

-- runs that end before a range
pub touched-front : (x : ByteRange) (rs : List Run) → NoneFrom x.stamp x.first rs → touched x rs ≡ 0
touched-front x [] none = refl
touched-front x (r ∷ rs) none = let e : cond (touches x r) 1 0 ≡ 0 = ap one (spared x r none.0) in omega (arith, touched-cons x r rs, e, touched-front x rs none.1)

pub touched-from : (x : ByteRange) (rs : List Run) (n : ℕ) → NoneFrom x.stamp x.first (take n rs) → touched x rs ≡ touched x (drop n rs)
touched-from x rs zero none = refl
touched-from x [] (suc n) none = refl
touched-from x (r ∷ rs) (suc n) none = let e : cond (touches x r) 1 0 ≡ 0 = ap one (spared x r none.0) in omega (arith, touched-cons x r rs, e, touched-from x rs n none.1)

pub touched-past : (x : ByteRange) (rs : List Run) (n : ℕ) → length rs ≤ n → touched x (drop n rs) ≡ 0
touched-past x [] zero l = refl
touched-past x [] (suc n) l = refl
touched-past x (r ∷ rs) zero l = absurd (omega (arith, l))
touched-past x (r ∷ rs) (suc n) l = touched-past x rs n (omega (arith, l))

-- behind a run that reaches the end of a range none is touched
pub touched-done : (x : ByteRange) (q : Run) (rs : List Run) → reaches x q ≡ true → AllByRecursion (InOrder q) rs → touched x rs ≡ 0
touched-done x q [] h behind = refl
touched-done x q (r ∷ rs) h behind = let e : cond (touches x r) 1 0 ≡ 0 = ap one (beyond x q r h behind.0) in omega (arith, touched-cons x r rs, e, touched-done x q rs h behind.1)

-- where none was found, none is touched
pub touched-nowhere : (x : ByteRange) (rs : List Run) (n : ℕ) → n ≡ sought x.stamp x.first rs → n ≡ length rs → touched x rs ≡ 0
touched-nowhere x rs n e l =
    let N : List Run → Type 0 = λ qs. NoneFrom x.stamp x.first qs in
    let all : take (sought x.stamp x.first rs) rs ≡ rs = take_all (sought x.stamp x.first rs) rs (omega (arith, e, l)) in
    touched-front x rs (subst N all (none-sought x.stamp x.first rs))

-- an empty range touches none
pub touched-empty : (x : ByteRange) (rs : List Run) → x.last < x.first → touched x rs ≡ 0
touched-empty x [] l = refl
touched-empty x (r ∷ rs) l = let e : cond (touches x r) 1 0 ≡ 0 = ap one (missed x r l) in omega (arith, touched-cons x r rs, e, touched-empty x rs l)

-- ---- over blocks

pub blocks-from : (x : ByteRange) (ls : List (List Run)) (b : ℕ) → NoneFrom x.stamp x.first (joined (take b ls))
    → touched x (joined ls) ≡ touched x (joined (drop b ls))
blocks-from x ls b none =
    let cut = ap (touched x) (joined-cut ls b) in
    omega (arith, cut, touched-append x (joined (take b ls)) (joined (drop b ls)), touched-front x (joined (take b ls)) none)

pub blocks-next : (x : ByteRange) (ls : List (List Run)) (b : ℕ) → b < length ls
    → touched x (joined (drop b ls)) ≡ touched x (list_at b ls) + touched x (joined (drop (b + 1) ls))
blocks-next x ls b l = ap (touched x) (joined-drop ls b l) ∙ touched-append x (list_at b ls) (joined (drop (b + 1) ls))

pub blocks-past : (x : ByteRange) (ls : List (List Run)) (b : ℕ) → length ls ≤ b → touched x (joined (drop b ls)) ≡ 0
blocks-past x ls b l = ap (touched x) (drop-none ls b l)

pub blocks-done : (x : ByteRange) (ls : List (List Run)) (b : ℕ) → b < length ls → list_any (reaches x) (list_at b ls) ≡ true
    → AllInOrder (joined ls)
    → touched x (joined (drop (b + 1) ls)) ≡ 0
blocks-done x ls b l h ordered =
    let P : List Run → Type 0 = λ rs. AllInOrder rs in
    let here = order-right (joined (take b ls)) (list_at b ls ++ joined (drop (b + 1) ls)) (subst P (joined-at ls b l) ordered) in
    touched-none x (joined (drop (b + 1) ls)) (reach-touch x (list_at b ls) (joined (drop (b + 1) ls)) h here)
