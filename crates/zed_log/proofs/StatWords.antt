-- What a new stat is given is read from its text.
use Rattle.std.proofs.Common.{◌≡◌, ℕ, ℤ, pos, ◌<◌, List, [], ◌∷◌, ◌++◌, length, get_or, drop, Option, codes, refl, sym, ap, ◌∙◌, append_assoc, arith, below_none, below_more}
use Rattle.std.proofs.lemmas.List.{ext_get_or}
use Rattle.zed_types.specs.declared.names.TextId.{TextId}
use Rattle.zed_types.specs.declared.stat_field.StatFields.{StatFields}
use Rattle.zed_types.specs.declared.stat_field.ThirdParameter.{ThirdParameter}
use Rattle.zed_log.specs.Fields.{number, integer, colour, text_name, optional, element, place, third_parameter}
use Rattle.zed_log.specs.Line.{stat_bytes, stat_numbers, stat_fields}
use Rattle.zed_log.proofs.Codes.{Stops, IsCode, led, two, joined}
use Rattle.zed_log.proofs.Numerals.{number_code, integer_code}
use Rattle.zed_log.proofs.Strings.{colour_code}
use Rattle.zed_log.proofs.Elements.{element_code}
use Rattle.zed_log.proofs.Parts.{place_code, text_option_code, third_code}

-- ---- bytes

abbrev Placed : Type 0
Placed = (ℕ × ℕ) × ℕ

abbrev placed_text : Placed → List ℕ
placed_text p = (place p.0.0 p.0.1 ++ codes " p1 ") ++ number p.1

placed_code : IsCode placed_text
placed_code =
    joined (λ (p : ℕ × ℕ). place p.0 p.1) (codes " p1 ") number (λ t. refl) place_code number_code

abbrev Given : Type 0
Given = ((Placed × ℕ) × ℕ) × ℕ

abbrev given_text : Given → List ℕ
given_text p = ((((placed_text p.0.0.0 ++ codes " p2 ") ++ number p.0.0.1) ++ codes " under ") ++ element p.0.1) ++ (32 ∷ colour p.1)

given_code : IsCode given_text
given_code =
    two (λ (p : (Placed × ℕ) × ℕ). (((placed_text p.0.0 ++ codes " p2 ") ++ number p.0.1) ++ codes " under ") ++ element p.1) (32 ∷ []) colour (λ t. refl) (joined (λ (p : Placed × ℕ). (placed_text p.0 ++ codes " p2 ") ++ number p.1) (codes " under ") element (λ t. refl) (joined placed_text (codes " p2 ") number (λ t. refl) placed_code number_code) element_code) colour_code

abbrev given : List ℕ → Given
given b = (((((get_or b 0 0, get_or b 1 0), get_or b 2 0), get_or b 3 0), get_or b 4 0), get_or b 5 0)

same_six : (a b : List ℕ) → length a ≡ 6 → length b ≡ 6 → given a ≡ given b → a ≡ b
same_six a b m n e =
    let P : ℕ → Type 0 = λ k. get_or a k 0 ≡ get_or b k 0 in
    let all : (k : ℕ) → k < 6 → P k = below_more P 5 (below_more P 4 (below_more P 3 (below_more P 2 (below_more P 1 (below_more P 0 (below_none P) (ap (λ (g : Given). g.0.0.0.0.0) e)) (ap (λ (g : Given). g.0.0.0.0.1) e)) (ap (λ (g : Given). g.0.0.0.1) e)) (ap (λ (g : Given). g.0.0.1) e)) (ap (λ (g : Given). g.0.1) e)) (ap (λ (g : Given). g.1) e) in
    ext_get_or 0 a b (m ∙ sym n) (λ k lt. all k (omega arith))

pub stat_bytes_code : (a b x y : List ℕ) → length a ≡ 6 → length b ≡ 6 → Stops x → Stops y → stat_bytes a ++ x ≡ stat_bytes b ++ y
    → (a ≡ b) × (x ≡ y)
unfolding stat_bytes
stat_bytes_code a b x y m n p q h =
    let r = given_code (given a) (given b) x y p q h in
    (same_six a b m n r.0, r.1)

-- ---- numbers

abbrev Steps : Type 0
Steps = (ℤ × ℤ) × ℤ

abbrev steps_text : Steps → List ℕ
steps_text p = (((codes "step " ++ integer p.0.0) ++ (44 ∷ integer p.0.1)) ++ codes " cycle ") ++ integer p.1

steps_code : IsCode steps_text
steps_code =
    joined (λ (p : ℤ × ℤ). (codes "step " ++ integer p.0) ++ (44 ∷ integer p.1)) (codes " cycle ") integer (λ t. refl) (two (λ (n : ℤ). codes "step " ++ integer n) (44 ∷ []) integer (λ t. refl) (led (codes "step ") integer integer_code) integer_code) integer_code

abbrev steps : List ℤ → Steps
steps n = ((get_or n 0 (pos 0), get_or n 1 (pos 0)), get_or n 2 (pos 0))

same_three : (a b : List ℤ) → length a ≡ 3 → length b ≡ 3 → steps a ≡ steps b → a ≡ b
same_three a b m n e =
    let P : ℕ → Type 0 = λ k. get_or a k (pos 0) ≡ get_or b k (pos 0) in
    let all : (k : ℕ) → k < 3 → P k = below_more P 2 (below_more P 1 (below_more P 0 (below_none P) (ap (λ (g : Steps). g.0.0) e)) (ap (λ (g : Steps). g.0.1) e)) (ap (λ (g : Steps). g.1) e) in
    ext_get_or (pos 0) a b (m ∙ sym n) (λ k lt. all k (omega arith))

pub stat_numbers_code : (a b : List ℤ) (x y : List ℕ) → length a ≡ 3 → length b ≡ 3 → Stops x → Stops y
    → stat_numbers a ++ x ≡ stat_numbers b ++ y
    → (a ≡ b) × (x ≡ y)
unfolding stat_numbers
stat_numbers_code a b x y m n p q h =
    let r = steps_code (steps a) (steps b) x y p q h in
    (same_three a b m n r.0, r.1)

-- ---- all that a stat is given

abbrev targets_text : ThirdParameter × Option TextId → List ℕ
targets_text p = (codes " p3 " ++ third_parameter p.0) ++ (codes " text " ++ optional text_name p.1)

targets_code : IsCode targets_text
targets_code =
    two (λ (t : ThirdParameter). codes " p3 " ++ third_parameter t) (codes " text ") (optional text_name) (λ t. refl) (led (codes " p3 ") third_parameter third_code) text_option_code

regroup : (a p t w o : List ℕ) → (((a ++ p) ++ t) ++ w) ++ o ≡ a ++ ((p ++ t) ++ (w ++ o))
regroup a p t w o =
    append_assoc ((a ++ p) ++ t) w o ∙ ap (λ (k : List ℕ). k ++ (w ++ o)) (append_assoc a p t) ∙ append_assoc a (p ++ t) (w ++ o)

fields_text : (f : StatFields) (x : List ℕ)
    → stat_fields f ++ x ≡ stat_bytes f.bytes ++ (32 ∷ (stat_numbers f.numbers ++ (targets_text (f.p3, f.text) ++ x)))
unfolding stat_fields
fields_text f x =
    let front = stat_bytes f.bytes ++ (32 ∷ stat_numbers f.numbers) in
    ap (λ (k : List ℕ). k ++ x) (regroup front (codes " p3 ") (third_parameter f.p3) (codes " text ") (optional text_name f.text)) ∙ append_assoc front (targets_text (f.p3, f.text)) x ∙ append_assoc (stat_bytes f.bytes) (32 ∷ stat_numbers f.numbers) (targets_text (f.p3, f.text) ++ x)

abbrev make : List ℕ → List ℤ → ThirdParameter × Option TextId → StatFields
make b n t = record { bytes = b; numbers = n; p3 = t.0; text = t.1 }

pub stat_fields_code : (f g : StatFields) (x y : List ℕ) → (length f.bytes ≡ 6) × (length f.numbers ≡ 3)
    → (length g.bytes ≡ 6) × (length g.numbers ≡ 3) → Stops x → Stops y → stat_fields f ++ x ≡ stat_fields g ++ y
    → (f ≡ g) × (x ≡ y)
stat_fields_code f g x y m n p q h =
    let e = sym (fields_text f x) ∙ h ∙ fields_text g y in
    let r = stat_bytes_code f.bytes g.bytes (32 ∷ (stat_numbers f.numbers ++ (targets_text (f.p3, f.text) ++ x))) (32 ∷ (stat_numbers g.numbers ++ (targets_text (g.p3, g.text) ++ y))) m.0 n.0 refl refl e in
    let s = stat_numbers_code f.numbers g.numbers (targets_text (f.p3, f.text) ++ x) (targets_text (g.p3, g.text) ++ y) m.1 n.1 refl refl (ap (drop 1) r.1) in
    let t = targets_code (f.p3, f.text) (g.p3, g.text) x y p q s.1 in
    let same : f ≡ g =
    ap (λ (b : List ℕ). make b f.numbers (f.p3, f.text)) r.0 ∙ ap (λ (k : List ℤ). make g.bytes k (f.p3, f.text)) s.0
    ∙ ap (make g.bytes g.numbers) t.0 in
    (same, t.1)
