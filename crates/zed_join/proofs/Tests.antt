-- Tests of values: what passes is the same.
use Rattle.std.proofs.Common.{◌≡◌, ℕ, Bool, true, false, ◌&&◌, nat_eq, refl}
use Rattle.std.proofs.lemmas.Bool.{eqb-true}
use Rattle.zed_types.specs.declared.names.BoardId.{BoardId}
use Rattle.zed_types.specs.declared.names.Name.{Name}
use Rattle.zed_types.specs.declared.names.StatId.{StatId}
use Rattle.zed_types.specs.declared.stamp.Stamp.{Stamp}
use Rattle.zed_types.specs.Names.{same_board, same_name, same_stat}
use Rattle.zed_types.specs.Stamp.{same_stamp}
use Rattle.zed_types.proofs.StampOrder.{same_stamp-true}

-- what passes the test is the same
abbrev pub Tells : {V : Type 0} → (V → V → Bool) → Type 0
Tells {V} same = (x y : V) → same x y ≡ true → x ≡ y

pub nat_tells : Tells nat_eq
nat_tells x y is = eqb-true x y is

pub both_true : (a b : Bool) → (a && b) ≡ true → (a ≡ true) × (b ≡ true)
both_true true true is = (refl, refl)
both_true true false is = cc
both_true false b is = cc

pub name_tells : Tells same_name
name_tells a b is =
    let p = both_true (same_stamp a.stamp b.stamp) (nat_eq a.index b.index) is in
    equal a b (same_stamp-true a.stamp b.stamp p.0) (nat_tells a.index b.index p.1)
  where
    equal : (a b : Name) → a.stamp ≡ b.stamp → a.index ≡ b.index → a ≡ b
    equal a b p q =
        let make : Stamp → ℕ → Name = λ x y. record { stamp = x; index = y } in
        let path : make a.stamp a.index ≡ make b.stamp b.index = rw (p, q) refl in path

pub board_tells : Tells same_board
board_tells a b is =
    let make : Name → BoardId = λ x. record { name = x } in
    let path : make a.name ≡ make b.name = rw (name_tells a.name b.name is) refl in path

pub stat_tells : Tells same_stat
stat_tells a b is =
    let make : Name → StatId = λ x. record { name = x } in
    let path : make a.name ≡ make b.name = rw (name_tells a.name b.name is) refl in path
