-- A push has reach enough: along a step no more than 60 places follow one another.
use Rattle.std.proofs.Common.{◌≡◌, ◌∙◌, ℕ, ℤ, pos, negsuc, zero, suc, ◌+◌, ◌-◌, ◌<◌, ◌≤◌, Bool, true, false, cond, Option, Some, None, refl, sym, ap, arith, nat_le, ltb}
use Rattle.std.specs.Prelude.{◌&&◌, ◌+ℤ◌}
use Rattle.std.specs.Ordering.{int_eq}
use Rattle.std.proofs.lemmas.Bool.{leb-true}
use Rattle.zed_types.specs.declared.tile.Place.{Place}
use Rattle.zed_scene.specs.declared.step.Step.{Step}
use Rattle.zed_scene.specs.Places.{◌>>=◌, ahead, moved, up_to}
use Rattle.zed_scene.specs.Scene.{Scene, element_at}
use Rattle.zed_scene.specs.Moving.{is_pushable, pushed, pushed_by}
use Rattle.zed_scene.specs.Trying.{is_nowhere, push_rule}

-- a number that a step leads to is in the table
in_table : (most k to : ℕ) (a b : Bool) → nat_le 1 k ≡ a → nat_le k most ≡ b → cond (a && b) (Some k) None ≡ Some to
    → (k ≡ to) × (1 ≤ k) × (k ≤ most)
in_table most k to true true x y e =
    let same : k ≡ to = cc in
    (same, leb-true 1 k x, leb-true k most y)
in_table most k to true false x y e = absurd (cc)
in_table most k to false b x y e = absurd (cc)

to_number : (most : ℕ) (z : ℤ) (to : ℕ) → up_to most z ≡ Some to → (z ≡ pos to) × (1 ≤ to) × (to ≤ most)
to_number most (pos k) to e =
    let w = in_table most k to (nat_le 1 k) (nat_le k most) refl refl e in
    let same = w.0 in
    let low = w.1 in
    let high = w.2 in
    (ap pos same, omega arith, omega arith)
to_number most (negsuc k) to e = absurd (cc)

-- below where it began, where the step is negative
fallen : (from k to : ℕ) (b : Bool) → ltb from (suc k) ≡ b → cond b (negsuc (suc k - suc from)) (pos (from - suc k)) ≡ pos to → 1 ≤ to
    → to < from
fallen from k to true x e h = absurd (cc)
fallen from k to false x e h =
    let is : from - suc k ≡ to = cc in
    omega arith

-- how many places are left along a line
room_on : ℕ → ℕ → ℤ → ℕ
room_on most v (pos zero) = 0
room_on most v (pos (suc k)) = most - v
room_on most v (negsuc k) = v - 1

less_on : (most from : ℕ) (by : ℤ) (to : ℕ) → moved most from by ≡ Some to → int_eq by (pos 0) ≡ false
    → room_on most to by < room_on most from by
unfolding room_on
less_on most from (pos zero) to e h = absurd (cc)
less_on most from (pos (suc k)) to e h =
    let w = to_number most (pos (from + suc k)) to e in
    let z = w.0 in
    let same : from + suc k ≡ to = cc in
    let high = w.2 in
    omega arith
less_on most from (negsuc k) to e h =
    let w = to_number most (pos from +ℤ negsuc k) to e in
    let low = w.1 in
    let less : to < from = fallen from k to (ltb from (suc k)) refl w.0 low in
    omega arith

within_on : (most v : ℕ) (by : ℤ) → 1 ≤ v → v ≤ most → room_on most v by ≤ most - 1
unfolding room_on
within_on most v (pos zero) a b = omega arith
within_on most v (pos (suc k)) a b = omega arith
within_on most v (negsuc k) a b = omega arith

-- how many places are left along a step
room : Place → Step → ℕ
room p d = cond (int_eq d.x (pos 0)) (room_on 25 p.y d.y) (room_on 60 p.x d.x)

joined : (a b : Option ℕ) (n : Place) → (a >>= (λ x. b >>= (λ y. Some (record { x = x; y = y })))) ≡ Some n
    → (a ≡ Some n.x) × (b ≡ Some n.y)
joined None b n e = absurd (cc)
joined (Some x) None n e = absurd (cc)
joined (Some x) (Some y) n e =
    let make : ℕ → ℕ → Place = λ u v. record { x = u; y = v } in
    let path : make x y ≡ n = cc in
    (ap (λ (q : Place). Some q.x) path, ap (λ (q : Place). Some q.y) path)

less_ahead : (p n : Place) (d : Step) → is_nowhere d ≡ false → ahead p d ≡ Some n → room n d < room p d
unfolding room
less_ahead p n d h e = by_x (int_eq d.x (pos 0)) refl
  where
    both : (moved 60 p.x d.x ≡ Some n.x) × (moved 25 p.y d.y ≡ Some n.y)
    both = joined (moved 60 p.x d.x) (moved 25 p.y d.y) n e

    by_x : (b : Bool) → int_eq d.x (pos 0) ≡ b
        → cond b (room_on 25 n.y d.y) (room_on 60 n.x d.x) < cond b (room_on 25 p.y d.y) (room_on 60 p.x d.x)
    by_x true x =
        let rest : int_eq d.y (pos 0) ≡ false = sym (ap (λ b. b && int_eq d.y (pos 0)) x) ∙ h in
        less_on 25 p.y d.y n.y both.1 rest
    by_x false x = less_on 60 p.x d.x n.x both.0 x

within_ahead : (p n : Place) (d : Step) → ahead p d ≡ Some n → room n d ≤ 59
unfolding room
within_ahead p n d e = by_x (int_eq d.x (pos 0))
  where
    both : (moved 60 p.x d.x ≡ Some n.x) × (moved 25 p.y d.y ≡ Some n.y)
    both = joined (moved 60 p.x d.x) (moved 25 p.y d.y) n e

    by_x : (b : Bool) → cond b (room_on 25 n.y d.y) (room_on 60 n.x d.x) ≤ 59
    by_x true =
        let w = to_number 25 (pos p.y +ℤ d.y) n.y both.1 in
        let r = within_on 25 n.y d.y w.1 w.2 in
        omega arith
    by_x false =
        let w = to_number 60 (pos p.x +ℤ d.x) n.x both.0 in
        let r = within_on 60 n.x d.x w.1 w.2 in
        omega arith

cond_same : (b : Bool) (s : Scene) → cond b s s ≡ s
cond_same true s = refl
cond_same false s = refl

-- more reach than there is room changes nothing
enough : (k : ℕ) (p : Place) (d : Step) (s : Scene) → room p d ≤ k → is_nowhere d ≡ false → pushed_by k p d s ≡ pushed_by (suc k) p d s
enough zero p d s h e = by_place (ahead p d) refl
  where
    by_place : (o : Option Place) → ahead p d ≡ o → s ≡ pushed_by 1 p d s
    by_place None x = rw x (sym (cond_same (is_pushable (element_at s p) d) s))
    by_place (Some n) x = let less = less_ahead p n d e x in absurd (omega arith)
enough (suc k) p d s h e = by_place (ahead p d) refl (λ n x. enough k n d s (let less = less_ahead p n d e x in omega arith) e)
  where
    by_place : (o : Option Place) → ahead p d ≡ o → ((n : Place) → ahead p d ≡ Some n → pushed_by k n d s ≡ pushed_by (suc k) n d s)
        → pushed_by (suc k) p d s ≡ pushed_by (suc (suc k)) p d s
    by_place None x further = rw x refl
    by_place (Some n) x further = let same = further n x in rw (x, same) refl

-- a push meets its rule, with itself inside
pub push_meets : (p : Place) (d : Step) (s : Scene) → is_nowhere d ≡ false → pushed p d s ≡ push_rule p d s
unfolding pushed
push_meets p d s e = by_place (ahead p d) refl
  where
    by_place : (o : Option Place) → ahead p d ≡ o → pushed_by 60 p d s ≡ push_rule p d s
    by_place None x = rw x refl
    by_place (Some n) x = let same = enough 59 n d s (within_ahead p n d x) e in rw (x, same) refl
