-- Where reading stops in a head, however many bytes follow.
use Rattle.std.proofs.Common.{◌≡◌, ℕ, ◌^◌, ◌<◌, ◌≤◌, Bool, true, false, not, cond, ltb, eqb, ◌&&◌, List, [], ◌∷◌, ◌++◌, length, drop, get_or, Option, None, refl, sym, ap, ◌∙◌, arith, inl, inr}
use Rattle.std.proofs.lemmas.Bool.{ltb-true, ltb-false, lt-ltb, le-ltb, eqb-true}
use Rattle.std.proofs.lemmas.List.{append-nil, take_all, length-append}
use Rattle.byteorder.specs.Endian.{little_number}
use Rattle.byteorder.specs.Numbers.{little_from-append}
use Rattle.zed_editfile.specs.declared.error.EditFileError.{EditFileError}
use Rattle.zed_editfile.specs.declared.error.EditFileError.TheVariants.{Magic, NewVersion, OtherWorld}
use Rattle.zed_editfile.specs.Spelling.{number, head_text}
use Rattle.zed_editfile.specs.Stream.{Stop, waits, fails, has_letters, is_other, is_version, head_stop}
use Rattle.zed_editfile.proofs.Numbers.{IsBytes, IsBytes-behind, length_number, number_is, number_below, number_back}
use Rattle.zed_editfile.proofs.Codec.{chosen}
use Rattle.zed_editfile.proofs.Cuts.{waits_not_fails, waits_same}

-- a head of which four bytes are there
abbrev behind_four : Option ℕ → ℕ → List ℕ → List ℕ → Option Stop
behind_four asked d t whole =
    cond (not (is_version d)) (fails NewVersion) (cond (ltb (length whole) 12) (waits whole) (cond (is_other asked (little_number 8 t)) (fails OtherWorld) None))

abbrev four : ℕ → ℕ → ℕ → ℕ → List ℕ → List ℕ
four a b c d t = a ∷ b ∷ c ∷ d ∷ t

four_long : (a b c d : ℕ) (t : List ℕ) → ltb (length (four a b c d t)) 4 ≡ false
four_long a b c d t = le-ltb _ _ (omega arith)

at_four : (asked : Option ℕ) (a b c d : ℕ) (t : List ℕ)
    → head_stop asked (four a b c d t) ≡ cond (not (has_letters (four a b c d t))) (fails Magic) (behind_four asked d t (four a b c d t))
unfolding head_stop
at_four asked a b c d t = rw (four_long a b c d t) refl

short_stop : (asked : Option ℕ) (h : List ℕ) → length h < 4 → head_stop asked h ≡ cond (not (has_letters h)) (fails Magic) (waits h)
unfolding head_stop
short_stop asked h lt = let t : ltb (length h) 4 ≡ true = lt-ltb _ _ lt in rw t refl

lost_1 : (p q : Bool) → (p && true) ≡ false → (p && q) ≡ false
lost_1 true q e = absurd cc
lost_1 false q e = refl

lost_2 : (p q r : Bool) → (p && (q && true)) ≡ false → (p && (q && r)) ≡ false
lost_2 true true r e = absurd cc
lost_2 true false r e = refl
lost_2 false q r e = refl

letters_lost : (h x : List ℕ) → has_letters h ≡ false → has_letters (h ++ x) ≡ false
letters_lost [] x e = absurd cc
letters_lost (a ∷ []) x e = lost_1 (eqb a 90) _ e
letters_lost (a ∷ b ∷ []) x e = lost_2 (eqb a 90) (eqb b 69) _ e
letters_lost (a ∷ b ∷ c ∷ t) x e = e

lost : (asked : Option ℕ) (h : List ℕ) → has_letters h ≡ false → head_stop asked h ≡ fails Magic
unfolding head_stop
lost asked h e = rw e refl

not_true : (b : Bool) → not b ≡ true → b ≡ false
not_true true e = absurd cc
not_true false e = refl

not_false : (b : Bool) → not b ≡ false → b ≡ true
not_false true e = refl
not_false false e = absurd cc

short_stays : (asked : Option ℕ) (h x : List ℕ) (e : EditFileError) → length h < 4 → head_stop asked h ≡ fails e
    → head_stop asked (h ++ x) ≡ fails e
short_stays asked h x e lt s = elim (chosen (not (has_letters h)) (fails Magic) (waits h) (fails e) (sym (short_stop asked h lt) ∙ s)) [
  | inl m ↦ lost asked (h ++ x) (letters_lost h x (not_true (has_letters h) m.0)) ∙ m.1
  | inr w ↦ absurd (waits_not_fails h e w.1)
]

four_stays : (asked : Option ℕ) (a b c d : ℕ) (t x : List ℕ) (e : EditFileError) → head_stop asked (four a b c d t) ≡ fails e
    → head_stop asked (four a b c d (t ++ x)) ≡ fails e
four_stays asked a b c d t x e s = elim (chosen (not (has_letters (four a b c d t))) (fails Magic) (behind_four asked d t (four a b c d t)) (fails e) (sym (at_four asked a b c d t) ∙ s)) [
  | inl m ↦ at_four asked a b c d (t ++ x) ∙ rw (m.0) (m.1)
  | inr w ↦
      elim (chosen (not (is_version d)) (fails NewVersion) (cond (ltb (length (four a b c d t)) 12) (waits (four a b c d t)) (cond (is_other asked (little_number 8 t)) (fails OtherWorld) None)) (fails e) w.1) [
        | inl v ↦ at_four asked a b c d (t ++ x) ∙ rw (w.0, v.0) (v.1)
        | inr v ↦
            elim (chosen (ltb (length (four a b c d t)) 12) (waits (four a b c d t)) (cond (is_other asked (little_number 8 t)) (fails OtherWorld) None) (fails e) v.1) [
              | inl u ↦ absurd (waits_not_fails (four a b c d t) e u.1)
              | inr u ↦
                  let long : 12 ≤ length (four a b c d t) = ltb-false _ _ u.0 in
                  let longer : ltb (length (four a b c d (t ++ x))) 12 ≡ false = le-ltb _ _ (omega (arith, length-append t x)) in
                  let same : little_number 8 (t ++ x) ≡ little_number 8 t = little_from-append 8 t x (omega arith) in
                  at_four asked a b c d (t ++ x) ∙ rw (w.0, v.0, longer, same) (u.1)
            ]
      ]
]

-- a fault that shows stays
pub head_stays : (asked : Option ℕ) (h x : List ℕ) (e : EditFileError) → head_stop asked h ≡ fails e → head_stop asked (h ++ x) ≡ fails e
head_stays asked [] x e s = short_stays asked [] x e (omega arith) s
head_stays asked (a ∷ []) x e s = short_stays asked (a ∷ []) x e (omega arith) s
head_stays asked (a ∷ b ∷ []) x e s = short_stays asked (a ∷ b ∷ []) x e (omega arith) s
head_stays asked (a ∷ b ∷ c ∷ []) x e s = short_stays asked (a ∷ b ∷ c ∷ []) x e (omega arith) s
head_stays asked (a ∷ b ∷ c ∷ d ∷ t) x e s = four_stays asked a b c d t x e s

fails_not_waits : (e : EditFileError) (rest : List ℕ) → fails e ≡ waits rest → ⊥
fails_not_waits e rest h = waits_not_fails rest e (sym h)

none_not_waits : (rest : List ℕ) → None ≡ waits rest → ⊥
none_not_waits rest h = absurd cc

short_waits : (asked : Option ℕ) (h rest : List ℕ) → length h < 4 → head_stop asked h ≡ waits rest → (h ≡ rest) × (length h < 12)
short_waits asked h rest lt s = elim (chosen (not (has_letters h)) (fails Magic) (waits h) (waits rest) (sym (short_stop asked h lt) ∙ s)) [
  | inl m ↦ absurd (fails_not_waits Magic rest m.1)
  | inr w ↦ (waits_same h rest w.1, omega arith)
]

four_waits : (asked : Option ℕ) (a b c d : ℕ) (t rest : List ℕ) → head_stop asked (four a b c d t) ≡ waits rest
    → (four a b c d t ≡ rest) × (length (four a b c d t) < 12)
four_waits asked a b c d t rest s = elim (chosen (not (has_letters (four a b c d t))) (fails Magic) (behind_four asked d t (four a b c d t)) (waits rest) (sym (at_four asked a b c d t) ∙ s)) [
  | inl m ↦ absurd (fails_not_waits Magic rest m.1)
  | inr w ↦
      elim (chosen (not (is_version d)) (fails NewVersion) (cond (ltb (length (four a b c d t)) 12) (waits (four a b c d t)) (cond (is_other asked (little_number 8 t)) (fails OtherWorld) None)) (waits rest) w.1) [
        | inl v ↦ absurd (fails_not_waits NewVersion rest v.1)
        | inr v ↦
            elim (chosen (ltb (length (four a b c d t)) 12) (waits (four a b c d t)) (cond (is_other asked (little_number 8 t)) (fails OtherWorld) None) (waits rest) v.1) [
              | inl u ↦ (waits_same (four a b c d t) rest u.1, ltb-true _ _ u.0)
              | inr u ↦
                  elim (chosen (is_other asked (little_number 8 t)) (fails OtherWorld) None (waits rest) u.1) [
                    | inl o ↦ absurd (fails_not_waits OtherWorld rest o.1)
                    | inr o ↦ absurd (none_not_waits rest o.1)
                  ]
            ]
      ]
]

-- what waits is less than a head, and all of it is kept
pub head_waits : (asked : Option ℕ) (h rest : List ℕ) → head_stop asked h ≡ waits rest → (h ≡ rest) × (length h < 12)
head_waits asked [] rest s = short_waits asked [] rest (omega arith) s
head_waits asked (a ∷ []) rest s = short_waits asked (a ∷ []) rest (omega arith) s
head_waits asked (a ∷ b ∷ []) rest s = short_waits asked (a ∷ b ∷ []) rest (omega arith) s
head_waits asked (a ∷ b ∷ c ∷ []) rest s = short_waits asked (a ∷ b ∷ c ∷ []) rest (omega arith) s
head_waits asked (a ∷ b ∷ c ∷ d ∷ t) rest s = four_waits asked a b c d t rest s

waits_not_none : (h : List ℕ) → waits h ≡ None → ⊥
waits_not_none h e = absurd cc

fails_not_none : (f : EditFileError) → fails f ≡ None → ⊥
fails_not_none f e = absurd cc

short_whole : (asked : Option ℕ) (h : List ℕ) → length h < 4 → head_stop asked h ≡ None → ⊥
short_whole asked h lt s = elim (chosen (not (has_letters h)) (fails Magic) (waits h) None (sym (short_stop asked h lt) ∙ s)) [
  | inl m ↦ fails_not_none Magic m.1
  | inr w ↦ waits_not_none h w.1
]

-- what a good head says
pub record IsHead (asked : Option ℕ) (h : List ℕ) (v n : ℕ) : Type 0 where
  pub known : is_version v ≡ true
  pub text : h ≡ head_text v n
  pub fits : n < 2 ^ 64
  pub asked_for : is_other asked n ≡ false

two_true : (p q r : Bool) → (p && (q && (r && true))) ≡ true → (p ≡ true) × (q ≡ true) × (r ≡ true)
two_true true true true e = (refl, refl, refl)
two_true true true false e = absurd cc
two_true true false r e = absurd cc
two_true false q r e = absurd cc

four_whole : (asked : Option ℕ) (a b c d : ℕ) (t : List ℕ) → IsBytes t → length (four a b c d t) ≤ 12
    → head_stop asked (four a b c d t) ≡ None
    → IsHead asked (four a b c d t) d (little_number 8 t)
unfolding head_text
four_whole asked a b c d t fits short s = elim (chosen (not (has_letters (four a b c d t))) (fails Magic) (behind_four asked d t (four a b c d t)) None (sym (at_four asked a b c d t) ∙ s)) [
  | inl m ↦ absurd (fails_not_none Magic m.1)
  | inr w ↦
      elim (chosen (not (is_version d)) (fails NewVersion) (cond (ltb (length (four a b c d t)) 12) (waits (four a b c d t)) (cond (is_other asked (little_number 8 t)) (fails OtherWorld) None)) None w.1) [
        | inl v ↦ absurd (fails_not_none NewVersion v.1)
        | inr v ↦
            elim (chosen (ltb (length (four a b c d t)) 12) (waits (four a b c d t)) (cond (is_other asked (little_number 8 t)) (fails OtherWorld) None) None v.1) [
              | inl u ↦ absurd (waits_not_none (four a b c d t) u.1)
              | inr u ↦
                  elim (chosen (is_other asked (little_number 8 t)) (fails OtherWorld) None None u.1) [
                    | inl o ↦ absurd (fails_not_none OtherWorld o.1)
                    | inr o ↦
                        let letters = two_true (eqb a 90) (eqb b 69) (eqb c 68) (not_false _ w.0) in
                        let ea : a ≡ 90 = eqb-true a 90 letters.0 in
                        let eb : b ≡ 69 = eqb-true b 69 letters.1 in
                        let ec : c ≡ 68 = eqb-true c 68 letters.2 in
                        let known : is_version d ≡ true = not_false _ v.0 in
                        let long : 12 ≤ length (four a b c d t) = ltb-false _ _ u.0 in
                        let eight : 8 ≤ length t = omega arith in
                        let et : t ≡ number 8 (little_number 8 t) = sym (number_is 8 t fits eight ∙ take_all 8 t (omega arith)) in
                        record {
                          known = known;
                          text =
                              ap (λ (k : ℕ). four k b c d t) ea ∙ ap (λ (k : ℕ). four 90 k c d t) eb ∙ ap (λ (k : ℕ). four 90 69 k d t) ec
                              ∙ ap (λ (k : List ℕ). four 90 69 68 d k) et;
                          fits = number_below 8 t fits;
                          asked_for = o.0;
                        }
                  ]
            ]
      ]
]

pub head_whole : (asked : Option ℕ) (h : List ℕ) → IsBytes h → length h ≤ 12 → head_stop asked h ≡ None
    → IsHead asked h (get_or h 3 0) (little_number 8 (drop 4 h))
head_whole asked [] fits le s = absurd (short_whole asked [] (omega arith) s)
head_whole asked (a ∷ []) fits le s = absurd (short_whole asked (a ∷ []) (omega arith) s)
head_whole asked (a ∷ b ∷ []) fits le s = absurd (short_whole asked (a ∷ b ∷ []) (omega arith) s)
head_whole asked (a ∷ b ∷ c ∷ []) fits le s = absurd (short_whole asked (a ∷ b ∷ c ∷ []) (omega arith) s)
head_whole asked (a ∷ b ∷ c ∷ d ∷ t) fits le s = four_whole asked a b c d t (IsBytes-behind (four a b c d []) t fits) le s

-- ---- as the code goes

pub head_fault : (asked : Option ℕ) (total k l : List ℕ) (e : EditFileError) → k ++ l ≡ total → head_stop asked k ≡ fails e
    → head_stop asked total ≡ fails e
head_fault asked total k l e whole s = ap (head_stop asked) (sym whole) ∙ head_stays asked k l e s

pub head_short : (asked : Option ℕ) (total k l : List ℕ) → k ++ l ≡ total → (length k < 12 → l ≡ []) → head_stop asked k ≡ waits k
    → (k ≡ total) × (head_stop asked k ≡ waits k)
head_short asked total k l whole none s =
    (sym (append-nil k) ∙ ap (λ (t : List ℕ). k ++ t) (sym (none (head_waits asked k k s).1)) ∙ whole, s)

pub head_done : (asked : Option ℕ) (old total k l : List ℕ) (v n : ℕ) → k ++ l ≡ total → IsBytes k → head_stop asked old ≡ waits old
    → (length old ≤ 12 → length k ≤ 12) → (head_stop asked k ≡ None) × (v ≡ get_or k 3 0) × (n ≡ little_number 8 (drop 4 k))
    → (is_other asked n ≡ false) × (n < 2 ^ 64) × (is_version v ≡ true) × (total ≡ head_text v n ++ l)
head_done asked old total k l v n whole fits stop size h =
    let lt : length old < 12 = (head_waits asked old old stop).1 in
    let is = head_whole asked k fits (size (omega arith)) h.0 in
    rw (h.1, h.2) (is.asked_for, is.fits, is.known, sym whole ∙ ap (λ (t : List ℕ). t ++ l) is.text)

-- a good head stands at the front
pub head_front : (asked : Option ℕ) (v n : ℕ) (x : List ℕ) → n < 2 ^ 64 → is_version v ≡ true → is_other asked n ≡ false
    → head_stop asked (head_text v n ++ x) ≡ None
unfolding head_text
head_front asked v n x lt known other =
    let t : List ℕ = number 8 n ++ x in
    let long : ltb (length (four 90 69 68 v t)) 12 ≡ false = le-ltb _ _ (omega (arith, length-append (number 8 n) x, length_number 8 n)) in
    at_four asked 90 69 68 v t ∙ rw (known, long, number_back 8 n x lt, other) refl
