-- What the orders of numbers, stamps and names answer, by the tests on them.
use Rattle.std.proofs.Common.{◌≡◌, ◌∙◌, ℕ, Bool, true, false, cond, ◌||◌, ◌&&◌, eqb, ltb, refl, sym, true≢false, arith}
use Rattle.std.specs.Cmp.{IsTotalOrder, on_total, then_total}
use Rattle.std.proofs.lemmas.Cmp.{nat_cmp_total}
use Rattle.std.proofs.lemmas.Bool.Decides.{nat_tests}
use Rattle.std.specs.declared.cmp.Ordering.{Ordering}
use Rattle.std.specs.declared.cmp.Ordering.TheVariants.{Less, Equal, Greater}
use Rattle.std.specs.Ordering.{is_eq, is_lt, match_ordering, nat_cmp, ordering_then}
use Rattle.zed_types.specs.declared.stamp.Stamp.{Stamp}
use Rattle.zed_types.specs.declared.names.Name.{Name}
use Rattle.zed_types.specs.Stamp.{before, same_stamp, stamp_cmp}
use Rattle.zed_types.specs.Names.{is_earlier, name_cmp, same_name}

pub equal_from : (r : Ordering) → is_eq r ≡ true → r ≡ Equal
equal_from Less h = absurd (true≢false (sym h))
equal_from Equal h = refl
equal_from Greater h = absurd (true≢false (sym h))

pub less_from : (r : Ordering) → is_lt r ≡ true → r ≡ Less
less_from Less h = refl
less_from Equal h = absurd (true≢false (sym h))
less_from Greater h = absurd (true≢false (sym h))

pub then_eq : (o p : Ordering) → is_eq (ordering_then o p) ≡ (is_eq o && is_eq p)
then_eq Less p = refl
then_eq Equal p = refl
then_eq Greater p = refl

pub both : {p q r s : Bool} → p ≡ q → r ≡ s → (p && r) ≡ (q && s)
both e f = λ i. e i && f i

pub either : {p q r s : Bool} → p ≡ q → r ≡ s → (p || r) ≡ (q || s)
either e f = λ i. e i || f i

nat_same : (x y : ℕ) → is_eq (nat_cmp x y) ≡ eqb x y
nat_same x y = grind (arith, nat_tests)

-- stamps, and names, compare as equal where they are one
pub stamp_same : (a b : Stamp) → is_eq (stamp_cmp a b) ≡ same_stamp a b
stamp_same a b =
    then_eq (nat_cmp a.time b.time) (nat_cmp a.replica b.replica) ∙ both (nat_same a.time b.time) (nat_same a.replica b.replica)

pub name_same : (a b : Name) → is_eq (ordering_then (stamp_cmp a.stamp b.stamp) (nat_cmp a.index b.index)) ≡ same_name a b
name_same a b = then_eq (stamp_cmp a.stamp b.stamp) (nat_cmp a.index b.index) ∙ both (stamp_same a.stamp b.stamp) (nat_same a.index b.index)

-- a choice by the order of two stamps, by the tests on them
pub by_tests : {X : Type 0} (a b : Stamp) (x y z : X)
    → match_ordering (stamp_cmp a b) x y z ≡ cond (before a b) x (cond (same_stamp a b) y z)
by_tests {X} a b x y z = go (ltb a.time b.time) (eqb a.time b.time) (ltb a.replica b.replica) (eqb a.replica b.replica)
  where
    go : (p q r s : Bool) → match_ordering (ordering_then (cond p Less (cond q Equal Greater)) (cond r Less (cond s Equal Greater))) x y z
        ≡ cond (p || (q && r)) x (cond (q && s) y z)
    go true q r s = refl
    go false true true s = refl
    go false true false true = refl
    go false true false false = refl
    go false false r s = refl

-- names are in one order
pub name_total : IsTotalOrder name_cmp
name_total =
    then_total
    (then_total (on_total (λ (x : Name). x.stamp.time) nat_cmp_total) (on_total (λ (x : Name). x.stamp.replica) nat_cmp_total))
    (on_total (λ (x : Name). x.index) nat_cmp_total)

-- what comparing says of three parts, by the tests on each
three_parts : (a b c d e f : Bool)
    → is_lt (ordering_then (ordering_then (cond a Less (cond b Equal Greater)) (cond c Less (cond d Equal Greater))) (cond e Less (cond f Equal Greater)))
    ≡ ((a || (b && c)) || ((b && d) && e))
three_parts true b c d e f = refl
three_parts false true true d e f = refl
three_parts false true false true true f = refl
three_parts false true false true false true = refl
three_parts false true false true false false = refl
three_parts false true false false e f = refl
three_parts false false c d e f = refl

-- a name compares as less where it is earlier
pub name_less : (a b : Name) → is_lt (name_cmp a b) ≡ is_earlier a b
name_less a b =
    three_parts (ltb a.stamp.time b.stamp.time) (eqb a.stamp.time b.stamp.time) (ltb a.stamp.replica b.stamp.replica) (eqb a.stamp.replica b.stamp.replica)
    (ltb a.index b.index) (eqb a.index b.index)
