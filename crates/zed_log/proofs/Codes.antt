-- Texts from which what they spell can be read, from left to right.
use Rattle.std.proofs.Common.{◌≡◌, ℕ, Bool, false, List, ◌++◌, get_or, Option, Some, sym, ap, ◌∙◌, append_assoc, nat_le, nat_lt, ◌&&◌}
use Rattle.std.proofs.lemmas.List.{append_cancel_left}

-- a decimal digit
abbrev pub is_digit : ℕ → Bool
is_digit c = nat_le 48 c && nat_lt c 58

-- no digit stands first
abbrev pub Stops : List ℕ → Type 0
Stops x = is_digit (get_or x 0 0) ≡ false

-- no text begins another, where what follows begins with no digit
abbrev pub IsCode : {A : Type 0} → (A → List ℕ) → Type 0
IsCode {A} f = (a b : A) (x y : List ℕ) → Stops x → Stops y → f a ++ x ≡ f b ++ y → (a ≡ b) × (x ≡ y)

-- each begins with no digit, whatever follows
abbrev pub StopsAll : List ℕ → Type 0
StopsAll w = (t : List ℕ) → Stops (w ++ t)

-- a word in front
pub led : {A : Type 0} (w : List ℕ) (f : A → List ℕ) → IsCode f → IsCode (λ (a : A). w ++ f a)
led w f code a b x y p q h =
    let e : w ++ (f a ++ x) ≡ w ++ (f b ++ y) = sym (append_assoc w (f a) x) ∙ h ∙ append_assoc w (f b) y in
    code a b x y p q (append_cancel_left w (f a ++ x) (f b ++ y) e)

-- a word behind
pub ended : {A : Type 0} (f : A → List ℕ) (w : List ℕ) → StopsAll w → IsCode f → IsCode (λ (a : A). f a ++ w)
ended f w stop code a b x y p q h =
    let e : f a ++ (w ++ x) ≡ f b ++ (w ++ y) = sym (append_assoc (f a) w x) ∙ h ∙ append_assoc (f b) w y in
    let r = code a b (w ++ x) (w ++ y) (stop x) (stop y) e in
    (r.0, append_cancel_left w x y r.1)

-- two fields and a word between them
pub two : {A B : Type 0} (f : A → List ℕ) (w : List ℕ) (g : B → List ℕ) → StopsAll w → IsCode f → IsCode g
    → IsCode (λ (p : A × B). f p.0 ++ (w ++ g p.1))
two {A} {B} f w g stop first second a b x y p q h =
    let e : f a.0 ++ ((w ++ g a.1) ++ x) ≡ f b.0 ++ ((w ++ g b.1) ++ y) =
    sym (append_assoc (f a.0) (w ++ g a.1) x) ∙ h ∙ append_assoc (f b.0) (w ++ g b.1) y in
    let k : f a.0 ++ (w ++ (g a.1 ++ x)) ≡ f b.0 ++ (w ++ (g b.1 ++ y)) =
    ap (λ (t : List ℕ). f a.0 ++ t) (sym (append_assoc w (g a.1) x)) ∙ e ∙ ap (λ (t : List ℕ). f b.0 ++ t) (append_assoc w (g b.1) y) in
    let r = first a.0 b.0 (w ++ (g a.1 ++ x)) (w ++ (g b.1 ++ y)) (stop (g a.1 ++ x)) (stop (g b.1 ++ y)) k in
    let s = second a.1 b.1 x y p q (append_cancel_left w (g a.1 ++ x) (g b.1 ++ y) r.1) in
    let same : a ≡ b = ap (λ (k : A). let made : A × B = (k, a.1) in made) r.0 ∙ ap (λ (k : B). let made : A × B = (b.0, k) in made) s.0 in
    (same, s.1)

-- the same, where the word belongs to the first
pub joined : {A B : Type 0} (f : A → List ℕ) (w : List ℕ) (g : B → List ℕ) → StopsAll w → IsCode f → IsCode g
    → IsCode (λ (p : A × B). (f p.0 ++ w) ++ g p.1)
joined f w g stop first second a b x y p q h =
    let l = ap (λ (t : List ℕ). t ++ x) (append_assoc (f a.0) w (g a.1)) in
    let r = ap (λ (t : List ℕ). t ++ y) (append_assoc (f b.0) w (g b.1)) in
    two f w g stop first second a b x y p q (sym l ∙ h ∙ r)

-- what has the parts of a code
pub through : {A B : Type 0} (f : A → List ℕ) (g : B → List ℕ) (to : A → B) (from : B → A) → ((a : A) → from (to a) ≡ a)
    → ((a : A) → f a ≡ g (to a)) → IsCode g
    → IsCode f
through f g to from back same code a b x y p q h =
    let e : g (to a) ++ x ≡ g (to b) ++ y = ap (λ (t : List ℕ). t ++ x) (sym (same a)) ∙ h ∙ ap (λ (t : List ℕ). t ++ y) (same b) in
    let r = code (to a) (to b) x y p q e in
    (sym (back a) ∙ ap from r.0 ∙ back b, r.1)

pub some_is : {A : Type 0} (a b : A) → Some a ≡ Some b → a ≡ b
some_is a b h = cc

-- no text begins another, whatever follows
abbrev pub IsWord : {A : Type 0} → (A → List ℕ) → Type 0
IsWord {A} f = (a b : A) (x y : List ℕ) → f a ++ x ≡ f b ++ y → (a ≡ b) × (x ≡ y)

-- words that can be picked out by what they begin with
pub words : {A : Type 0} (word : A → List ℕ) (pick : List ℕ → Option A) → ((a : A) (x : List ℕ) → pick (word a ++ x) ≡ Some a) → IsWord word
words word pick back a b x y h =
    let same : a ≡ b = some_is a b (sym (back a x) ∙ ap pick h ∙ back b y) in
    (same, append_cancel_left (word b) x y (ap (λ t. word t ++ x) (sym same) ∙ h))

pub word_code : {A : Type 0} (f : A → List ℕ) → IsWord f → IsCode f
word_code f word a b x y p q h = word a b x y h

-- a word, and a field
pub worded : {A B : Type 0} (f : A → List ℕ) (g : B → List ℕ) → IsWord f → IsCode g → IsCode (λ (p : A × B). f p.0 ++ g p.1)
worded {A} {B} f g first second a b x y p q h =
    let e : f a.0 ++ (g a.1 ++ x) ≡ f b.0 ++ (g b.1 ++ y) = sym (append_assoc (f a.0) (g a.1) x) ∙ h ∙ append_assoc (f b.0) (g b.1) y in
    let r = first a.0 b.0 (g a.1 ++ x) (g b.1 ++ y) e in
    let s = second a.1 b.1 x y p q r.1 in
    let same : a ≡ b = ap (λ (k : A). let made : A × B = (k, a.1) in made) r.0 ∙ ap (λ (k : B). let made : A × B = (b.0, k) in made) s.0 in
    (same, s.1)

-- what is known by a part that has a code
pub known : {A B : Type 0} (f : A → B) (pick : B → Option A) (g : B → List ℕ) → ((a : A) → pick (f a) ≡ Some a) → IsCode g
    → IsCode (λ (a : A). g (f a))
known f pick g back code a b x y p q h =
    let r = code (f a) (f b) x y p q h in
    (some_is a b (sym (back a) ∙ ap pick r.0 ∙ back b), r.1)
