-- How many bytes reads hand over, by the pace of their link.
use Rattle.std.proofs.Common.{◌≡◌, ◌∙◌, ◌++◌, ◌+◌, ◌-◌, ◌*◌, ◌<◌, ◌≤◌, ◌⊎◌, min, max, ℕ, List, [], Option, Some, None, ap, sym, subst, arith, length, suc}
use mathlib.Core.Logic.{inl, inr}
use Rattle.std.proofs.lemmas.List.{length-append}
use Rattle.std.proofs.Math.Nat.{le-max_left, max-le, min-le_left, min-le_right, suc-mul}
use Rattle.zed_link.specs.Ends.{Changed, HandedOver, KeepsPace, LinkEnds, Promise}
use Rattle.zed_link.specs.Pull.{FromReads, least_read, most_reads}

-- so many reads of a link handed over these bytes, each at least so many, unless they are all
abbrev pub AtPace : Option LinkEnds → ℕ → List ℕ → Type 0
AtPace None n bytes = n ≤ length bytes
AtPace (Some t) n bytes = (length t.left ≤ length bytes) ⊎ (n * least_read (Some t) ≤ length bytes)

some_read : (link : Option LinkEnds) → 1 ≤ least_read link
some_read None = omega arith
some_read (Some t) = le-max_left 1 (min 4096 t.promise.pace)

-- no reads yet
pub at_pace_first : (link : Option LinkEnds) → AtPace link 0 []
at_pace_first None = omega arith
at_pace_first (Some t) = inr (omega arith)

pub from_no_reads : (link : Option LinkEnds) → FromReads (least_read link) 0 []
from_no_reads link = let some = some_read link in (omega arith, omega arith)

-- what the link handed over is of what was left
handed_length : (t : LinkEnds) (bytes : List ℕ) (now : Option LinkEnds) → (h : Changed (HandedOver bytes) (Some t) now)
    → length t.left ≡ length bytes + length h.0.left
handed_length t bytes now h = ap length h.1.0 ∙ length-append bytes h.0.left

-- one more read of some bytes
pub more_reads : (old mid now : Option LinkEnds) (n : ℕ) (xs ys : List ℕ) → AtPace old n xs → FromReads (least_read old) n xs
    → Changed (HandedOver xs) old mid → Changed (HandedOver ys) mid now → 1 ≤ length ys → length ys ≤ 4096
    → FromReads (least_read old) (n + 1) (xs ++ ys)
more_reads None mid now n xs ys pace size before then some few =
    let sum = length-append xs ys in let high = size.1 in (omega arith, omega arith)
more_reads (Some t) mid now n xs ys pace size before then some few =
    let sum = length-append xs ys in
    let high = size.1 in
    let q : ℕ = least_read (Some t) in
    let times : suc n * q ≡ n * q + q = suc-mul n q in
    let over = subst (λ (o : Option LinkEnds). Changed (HandedOver ys) o now) before.2 then in
    let all = handed_length t xs mid before in
    let rest = handed_length before.0 ys now over in
    elim pace [
      | inl whole ↦ absurd (omega arith)
      | inr kept ↦ (omega arith, omega arith)
    ]

at_least : (p k : ℕ) → p ≤ k → 1 ≤ k → max 1 (min 4096 p) ≤ k
at_least p k few some = max-le some (let low = min-le_right 4096 p in omega arith)

at_most : (p : ℕ) → max 1 (min 4096 p) ≤ 4096
at_most p = max-le (omega arith) (min-le_left 4096 p)

-- one more read at the pace
pub at_pace_more : (old mid now : Option LinkEnds) (n : ℕ) (xs ys : List ℕ) → AtPace old n xs
    → Changed (HandedOver xs) old mid → Changed (HandedOver ys) mid now → 1 ≤ length ys → KeepsPace (length ys) 4096 mid
    → AtPace old (n + 1) (xs ++ ys)
at_pace_more None mid now n xs ys pace before then some keeps = let sum = length-append xs ys in omega arith
at_pace_more (Some t) mid now n xs ys pace before then some keeps =
    let sum = length-append xs ys in
    let q : ℕ = least_read (Some t) in
    let times : suc n * q ≡ n * q + q = suc-mul n q in
    let over = subst (λ (o : Option LinkEnds). Changed (HandedOver ys) o now) before.2 then in
    let all = handed_length t xs mid before in
    let rest = handed_length before.0 ys now over in
    let kept = subst (λ (o : Option LinkEnds). KeepsPace (length ys) 4096 o) before.2 keeps in
    let more : q ≤ length ys → n * q ≤ length xs → AtPace (Some t) (n + 1) (xs ++ ys) = λ one all. inr (omega arith) in
    elim pace [
      | inl whole ↦ absurd (omega arith)
      | inr so_far ↦ elim kept [
        | inl fast ↦ more (at_least t.promise.pace (length ys) (subst (λ (p : Promise). p.pace ≤ length ys) before.1.2 fast) some) so_far
        | inr rest ↦ elim rest [
          | inl full ↦ more (let most = at_most t.promise.pace in omega arith) so_far
          | inr last ↦ inl (omega arith)
        ]
      ]
    ]

-- the piece is what the read handed over, where there was room for 4,096 bytes
pub piece_keeps_pace : (count long room : ℕ) (link : Option LinkEnds) → long ≡ count → room ≡ 4096 → KeepsPace count room link
    → KeepsPace long 4096 link
piece_keeps_pace count long room link same full keeps =
    subst (λ (n : ℕ). KeepsPace n 4096 link) (sym same) (subst (λ (r : ℕ). KeepsPace count r link) full keeps)

-- as many reads as a pull makes
pub is_long : (q left : ℕ) → most_reads * q < left + q → (most_reads - 1) * q < left
is_long q left h = let times : suc 1048575 * q ≡ 1048575 * q + q = suc-mul 1048575 q in omega (arith, h)
