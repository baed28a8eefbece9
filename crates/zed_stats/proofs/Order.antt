-- The order of names.
use Rattle.std.proofs.Common.{◌≡◌, ◌∙◌, ℕ, true, false, eqb, refl, ap, sym, true≢false, arith}
use Rattle.std.proofs.lemmas.Bool.Decides.{nat_tests}
use Rattle.std.specs.Ordering.{is_lt, ordering_reverse, ordering_then, nat_cmp}
use Rattle.std.specs.declared.cmp.Ordering.{Ordering}
use Rattle.std.specs.declared.cmp.Ordering.TheVariants.{Less, Equal, Greater}
use Rattle.zed_types.specs.declared.names.Name.{Name}
use Rattle.zed_types.specs.Names.{same_name, is_earlier, name_cmp}
use Rattle.zed_types.proofs.Orderings.{less_from, name_less, name_total}

pub earlier-through : (a b c : Name) → is_earlier a b ≡ true → is_earlier b c ≡ true → is_earlier a c ≡ true
earlier-through a b c h k =
    sym (name_less a c) ∙ ap is_lt (name_total.trans a b c (less_from (name_cmp a b) (name_less a b ∙ h)) (less_from (name_cmp b c) (name_less b c ∙ k)))

then_equal : (o p : Ordering) → ordering_then o p ≡ Equal → (o ≡ Equal) × (p ≡ Equal)
then_equal Less p h = absurd (cc)
then_equal Equal p h = (refl, h)
then_equal Greater p h = absurd (cc)

nat_same : (x y : ℕ) → nat_cmp x y ≡ Equal → eqb y x ≡ true
nat_same x y h = grind (arith, nat_tests)

name_same : (a b : Name) → name_cmp a b ≡ Equal → same_name b a ≡ true
name_same a b h =
    let outer = then_equal (ordering_then (nat_cmp a.stamp.time b.stamp.time) (nat_cmp a.stamp.replica b.stamp.replica)) (nat_cmp a.index b.index) h in
    let inner = then_equal (nat_cmp a.stamp.time b.stamp.time) (nat_cmp a.stamp.replica b.stamp.replica) outer.0 in
    let t = nat_same a.stamp.time b.stamp.time inner.0 in
    let r = nat_same a.stamp.replica b.stamp.replica inner.1 in
    let i = nat_same a.index b.index outer.1 in
    rw (t, r, i) refl

-- of two names one is earlier
pub other-earlier : (a b : Name) → is_earlier a b ≡ false → same_name b a ≡ false → is_earlier b a ≡ true
other-earlier a b h d = go (name_cmp a b) refl (name_less a b ∙ h)
  where
    go : (o : Ordering) → name_cmp a b ≡ o → is_lt o ≡ false → is_earlier b a ≡ true
    go Less e h = absurd (true≢false h)
    go Equal e h = absurd (true≢false (sym (name_same a b e) ∙ d))
    go Greater e h = sym (name_less b a) ∙ ap is_lt (name_total.antisymm b a ∙ ap ordering_reverse e)
