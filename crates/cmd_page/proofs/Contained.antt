-- What is written for each byte.
use Rattle.std.proofs.Common.{◌≡◌, ◌+◌, ◌<◌, ℕ, zero, suc, Bool, true, false, ◌&&◌, arith, refl, subst}
use Rattle.std.specs.List.{flat_map, list_all, range_with_len}
use Rattle.zed_plaintext.specs.CodePage.{code_point}
use Rattle.zed_look.specs.Glyphs.{glyph}
use Rattle.cmd_page.specs.Escaping.{escape}
use Rattle.cmd_page.specs.Laws.{is_contained}

all_contained : list_all is_contained (range_with_len 0 256) ≡ true
unfolding escape glyph code_point lib.Utf8.encode
all_contained = refl

and_first : (p q : Bool) → (p && q) ≡ true → p ≡ true
and_first true q h = refl
and_first false q h = absurd (cc)

and_second : (p q : Bool) → (p && q) ≡ true → q ≡ true
and_second true q h = h
and_second false q h = absurd (cc)

each_at : (p : ℕ → Bool) (n a k : ℕ) → list_all p (range_with_len a n) ≡ true → k < n → p (a + k) ≡ true
each_at p zero a k all lt = absurd (omega (arith, lt))
each_at p (suc n) a zero all lt =
    let e : a ≡ a + 0 = omega arith in
    subst (λ m. p m ≡ true) e (and_first (p a) (list_all p (range_with_len (a + 1) n)) all)
each_at p (suc n) a (suc k) all lt =
    let e : (a + 1) + k ≡ a + suc k = omega arith in
    subst (λ m. p m ≡ true) e (each_at p n (a + 1) k (and_second (p a) (list_all p (range_with_len (a + 1) n)) all) (omega (arith, lt)))

pub contained : (b : ℕ) → b < 256 → is_contained b ≡ true
contained b lt = let e : 0 + b ≡ b = omega arith in subst (λ m. is_contained m ≡ true) e (each_at is_contained 256 0 b all_contained lt)
