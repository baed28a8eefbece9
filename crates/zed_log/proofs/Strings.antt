-- Strings are read from their signs.
use Rattle.std.proofs.Common.{◌≡◌, ℕ, ◌+◌, ◌-◌, ◌*◌, ◌/◌, ◌%◌, ◌<◌, ◌≤◌, Bool, true, false, cond, List, [], ◌∷◌, ◌++◌, get_or, drop, refl, sym, ap, ◌∙◌, append_assoc, arith, eqb, nat_le, nat_lt, ◌&&◌}
use Rattle.std.specs.List.{flat_map}
use Rattle.std.specs.Fmt.{digit_glyph}
use Rattle.std.proofs.lemmas.Bool.Decides.{nat_tests}
use Rattle.zed_log.specs.Fields.{hex, colour, escape, quoted}
use Rattle.zed_log.proofs.Codes.{IsCode, IsWord}

-- ---- hexadecimal digits

abbrev unglyph : ℕ → ℕ
unglyph g = cond (nat_lt g 58) (g - 48) (g - 87)

low : (d : ℕ) → d < 10 → unglyph (48 + d) ≡ d
low d lt = grind (arith, nat_tests)

high : (d : ℕ) → 10 ≤ d → unglyph (87 + d) ≡ d
high d le = grind (arith, nat_tests)

is_lt : (a b : ℕ) → true ≡ nat_lt a b → a < b
is_lt a b h = grind (arith, nat_tests)

is_ge : (a b : ℕ) → false ≡ nat_lt a b → b ≤ a
is_ge a b h = grind (arith, nat_tests)

glyph_with : (t : Bool) (d : ℕ) → t ≡ nat_lt d 10 → unglyph (cond t (48 + d) (87 + d)) ≡ d
glyph_with true d h = low d (is_lt d 10 h)
glyph_with false d h = high d (is_ge d 10 h)

glyph_back : (d : ℕ) → unglyph (digit_glyph false d) ≡ d
glyph_back d = glyph_with (nat_lt d 10) d refl

abbrev unhex : List ℕ → ℕ
unhex l = 16 * unglyph (get_or l 0 0) + unglyph (get_or l 1 0)

hex_back : (b : ℕ) (x : List ℕ) → unhex (hex b ++ x) ≡ b
unfolding hex
hex_back b x = omega (arith, glyph_back (b / 16), glyph_back (b % 16))

hex_behind : (b : ℕ) (x : List ℕ) → drop 2 (hex b ++ x) ≡ x
unfolding hex
hex_behind b x = refl

hex_word : IsWord hex
hex_word a b x y h =
    (sym (hex_back a x) ∙ ap unhex h ∙ hex_back b y, sym (hex_behind a x) ∙ ap (drop 2) h ∙ hex_behind b y)

pub colour_code : IsCode colour
colour_code a b x y p q h = hex_word a b x y (ap (drop 2) h)

-- ---- escapes

abbrev made : ℕ → List ℕ → ℕ × List ℕ
made n l = (n, l)

abbrev behind_backslash : List ℕ → ℕ × List ℕ
behind_backslash l = cond (eqb (get_or l 0 0) 120) (made (unhex (drop 1 l)) (drop 3 l)) (cond (eqb (get_or l 0 0) 114) (made 13 (drop 1 l)) (made (get_or l 0 0) (drop 1 l)))

abbrev unescape : List ℕ → ℕ × List ℕ
unescape l = cond (eqb (get_or l 0 0) 92) (behind_backslash (drop 1 l)) (made (get_or l 0 0) (drop 1 l))

is_eq : (a b : ℕ) → true ≡ eqb a b → a ≡ b
is_eq a b h = grind (arith, nat_tests)

abbrev pub escape_with : Bool → Bool → Bool → Bool → ℕ → List ℕ
escape_with p q r s b = cond p (92 ∷ 34 ∷ []) (cond q (92 ∷ 92 ∷ []) (cond r (92 ∷ 114 ∷ []) (cond s (b ∷ []) (92 ∷ 120 ∷ hex b))))

back_with : (p q r s : Bool) (b : ℕ) (x : List ℕ) → p ≡ eqb b 34 → q ≡ eqb b 92 → r ≡ eqb b 13
    → unescape (escape_with p q r s b ++ x) ≡ made b x
back_with true q r s b x hp hq hr = ap (λ (c : ℕ). made c x) (sym (is_eq b 34 hp))
back_with false true r s b x hp hq hr = ap (λ (c : ℕ). made c x) (sym (is_eq b 92 hq))
back_with false false true s b x hp hq hr = ap (λ (c : ℕ). made c x) (sym (is_eq b 13 hr))
back_with false false false true b x hp hq hr = ap (λ (t : Bool). cond t (behind_backslash x) (made b x)) (sym hq)
back_with false false false false b x hp hq hr =
    ap (λ (c : ℕ). made c (drop 2 (hex b ++ x))) (hex_back b x) ∙ ap (made b) (hex_behind b x)

escape_back : (b : ℕ) (x : List ℕ) → unescape (escape b ++ x) ≡ made b x
unfolding escape
escape_back b x = back_with (eqb b 34) (eqb b 92) (eqb b 13) (nat_le 32 b && nat_lt b 127) b x refl refl refl

escape_word : IsWord escape
escape_word a b x y h =
    let e : made a x ≡ made b y = sym (escape_back a x) ∙ ap unescape h ∙ escape_back b y in
    (ap (λ (k : ℕ × List ℕ). k.0) e, ap (λ (k : ℕ × List ℕ). k.1) e)

not_both : (b : Bool) → b ≡ true → false ≡ b → ⊥
not_both b h k = absurd cc

quote_with : (p q r s : Bool) (b : ℕ) (x : List ℕ) → p ≡ eqb b 34 → get_or (escape_with p q r s b ++ x) 0 0 ≡ 34 → ⊥
quote_with true q r s b x hp h = absurd (omega (arith, h))
quote_with false true r s b x hp h = absurd (omega (arith, h))
quote_with false false true s b x hp h = absurd (omega (arith, h))
quote_with false false false true b x hp h = not_both (eqb b 34) (ap (λ (c : ℕ). eqb c 34) h) hp
quote_with false false false false b x hp h = absurd (omega (arith, h))

no_quote : (b : ℕ) (x : List ℕ) → get_or (escape b ++ x) 0 0 ≡ 34 → ⊥
unfolding escape
no_quote b x h = quote_with (eqb b 34) (eqb b 92) (eqb b 13) (nat_le 32 b && nat_lt b 127) b x refl h

-- ---- strings

same_signs : (s t x y : List ℕ) → flat_map escape s ++ 34 ∷ x ≡ flat_map escape t ++ 34 ∷ y → (s ≡ t) × (x ≡ y)
same_signs [] [] x y h = (refl, ap (drop 1) h)
same_signs [] (b ∷ t) x y h =
    absurd (no_quote b (flat_map escape t ++ 34 ∷ y) (ap (λ (l : List ℕ). get_or l 0 0) (sym (append_assoc (escape b) (flat_map escape t) (34 ∷ y)) ∙ sym h)))
same_signs (a ∷ s) [] x y h =
    absurd (no_quote a (flat_map escape s ++ 34 ∷ x) (ap (λ (l : List ℕ). get_or l 0 0) (sym (append_assoc (escape a) (flat_map escape s) (34 ∷ x)) ∙ h)))
same_signs (a ∷ s) (b ∷ t) x y h =
    let e = sym (append_assoc (escape a) (flat_map escape s) (34 ∷ x)) ∙ h ∙ append_assoc (escape b) (flat_map escape t) (34 ∷ y) in
    let first = escape_word a b (flat_map escape s ++ 34 ∷ x) (flat_map escape t ++ 34 ∷ y) e in
    let others = same_signs s t x y first.1 in
    (ap (λ (c : ℕ). c ∷ s) first.0 ∙ ap (λ (l : List ℕ). b ∷ l) others.0, others.1)

pub quoted_code : IsCode quoted
unfolding quoted
quoted_code s t x y p q h =
    same_signs s t x y (sym (append_assoc (flat_map escape s) (34 ∷ []) x) ∙ ap (drop 1) h ∙ append_assoc (flat_map escape t) (34 ∷ []) y)
