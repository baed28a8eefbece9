-- A field that is read is spelled so, and a field that is spelled is read again, whatever follows it.
use Rattle.std.proofs.Common.{◌≡◌, ℕ, ℤ, suc, ◌^◌, ◌<◌, ◌≤◌, Bool, true, false, cond, ltb, eqb, Option, Some, None, List, [], ◌∷◌, ◌++◌, length, take, drop, Ok, Err, SFits, w16, pos, negsuc, ◌-◌, refl, sym, ap, subst, ◌∙◌, append_assoc, arith, ◌⊎◌, inl, inr}
use Rattle.std.specs.Int.{cast_signed, cast_unsigned}
use Rattle.std.proofs.lemmas.Bool.{ltb-true, ltb-false, le-ltb, eqb-true}
use Rattle.std.proofs.lemmas.Int.{to_z-of_z}
use Rattle.std.proofs.lemmas.List.{take_at, drop_at, take-append-drop, length-append, length-take}
use Rattle.byteorder.specs.Endian.{little_number}
use Rattle.zed_types.specs.declared.stamp.Stamp.{Stamp}
use Rattle.zed_op.specs.declared.cause.Cause.TheVariants.{Short, Tag}
use Rattle.zed_editfile.specs.declared.error.EditFileError.{EditFileError}
use Rattle.zed_editfile.specs.declared.error.EditFileError.TheVariants.{BadEdit}
use Rattle.zed_editfile.specs.Spelling.{number, integer, boolean, string, stamp, tile, rectangle}
use Rattle.zed_types.specs.Steps.{◌>>=◌}
use Rattle.zed_types.proofs.Steps.{bind_ok, ok_is, guard_ok}
use Rattle.zed_world.proofs.FieldsAgain.{of_z_fits}
use Rattle.zed_editfile.specs.Reading.{Field, mapped, by_kind, byte_at, number_at, integer_at, boolean_at, string_at, stamp_at, tile_at, rectangle_at}
use Rattle.zed_op.specs.Sizes.{IsString, IsStamp, IsTile, IsRectangle}
use Rattle.zed_editfile.proofs.Numbers.{IsBytes, IsBytes-drop, IsBytes-rest, length_number, number_is, number_below, number_back}

-- which way a test went
pub chosen : {A : Type 0} (b : Bool) (x y : A) (z : A) → cond b x y ≡ z → ((b ≡ true) × (x ≡ z)) ⊎ ((b ≡ false) × (y ≡ z))
chosen true x y z h = inl (refl, h)
chosen false x y z h = inr (refl, h)

-- ---- fields one after the other

-- what was read from the front of the bytes
pub record Takes {A : Type 0} (good : A → Type 0) (spell : A → List ℕ) (bytes : List ℕ) (x : A × List ℕ) : Type 0 where
  pub parts : bytes ≡ spell x.0 ++ x.1
  pub behind : IsBytes x.1
  pub fits : good x.0

pub record IsField {A : Type 0} (good : A → Type 0) (spell : A → List ℕ) (read : List ℕ → Field A) : Type 0 where
  pub again : (a : A) (rest : List ℕ) → good a → read (spell a ++ rest) ≡ Ok (a, rest)
  pub takes : (bytes : List ℕ) (x : A × List ℕ) → IsBytes bytes → read bytes ≡ Ok x → Takes good spell bytes x

-- what reads on behind a front completes the spelling of a value
pub record Completes {C : Type 0} (good : C → Type 0) (spell : C → List ℕ) (front : List ℕ → List ℕ) (read : List ℕ → Field C) : Type 0 where
  pub takes : (bytes : List ℕ) (x : C × List ℕ) → IsBytes bytes → read bytes ≡ Ok x
      → (front bytes ≡ spell x.0 ++ x.1) × IsBytes x.1 × good x.0

pub takes_then : {A C : Type 0} {good_a : A → Type 0} {spell_a : A → List ℕ} {read_a : List ℕ → Field A} (field : IsField good_a spell_a read_a) (good : C → Type 0) (spell : C → List ℕ) (front : List ℕ → List ℕ) (k : A × List ℕ → Field C)
    → ((a : A) → good_a a → Completes good spell (λ t. front (spell_a a ++ t)) (λ t. k (a, t)))
    → Completes good spell front (λ bytes. read_a bytes >>= k)
takes_then {A} {C} {good_a} {spell_a} {read_a} field good spell front k h = record {
  takes = λ bytes x fits e.
      let b = bind_ok (read_a bytes) k x e in
      let t = field.takes bytes b.0 fits b.1 in
      let r = (h b.0.0 t.fits).takes b.0.1 x t.behind b.2 in
      (ap front t.parts ∙ r.0, r.1, r.2);
}

pub takes_end : {C : Type 0} (good : C → Type 0) (spell : C → List ℕ) (front : List ℕ → List ℕ) (c : C) → good c
    → ((t : List ℕ) → front t ≡ spell c ++ t)
    → Completes good spell front (λ t. Ok (c, t))
takes_end {C} good spell front c g same = record {
  takes = λ bytes x fits e.
      let P : C × List ℕ → Type 0 = λ y. (front bytes ≡ spell y.0 ++ y.1) × IsBytes y.1 × good y.0 in
      subst P (ok_is (c, bytes) x e) (same bytes, fits, g);
}

pub takes_mapped : {A C : Type 0} {good_a : A → Type 0} {spell_a : A → List ℕ} {read_a : List ℕ → Field A} (field : IsField good_a spell_a read_a) (good : C → Type 0) (spell : C → List ℕ) (front : List ℕ → List ℕ) (f : A → C)
    → ((a : A) → good_a a → good (f a)) → ((a : A) (t : List ℕ) → front (spell_a a ++ t) ≡ spell (f a) ++ t)
    → Completes good spell front (λ bytes. mapped f (read_a bytes))
takes_mapped {A} {C} {good_a} {spell_a} {read_a} field good spell front f g same =
    takes_then field good spell front (λ x. Ok (f x.0, x.1)) (λ a ga. takes_end good spell (λ t. front (spell_a a ++ t)) (f a) (g a ga) (same a))

pub takes_choice : {C : Type 0} (good : C → Type 0) (spell : C → List ℕ) (front : List ℕ → List ℕ) (b : Bool) (r s : List ℕ → Field C)
    → (b ≡ true → Completes good spell front r) → (b ≡ false → Completes good spell front s)
    → Completes good spell front (λ bytes. cond b (r bytes) (s bytes))
takes_choice good spell front true r s g h = g refl
takes_choice good spell front false r s g h = h refl

-- a register of a kind, if the number is of that kind
pub takes_kind : {A C : Type 0} (good : C → Type 0) (spell : C → List ℕ) (front : List ℕ → List ℕ) (o : Option A) (r : A → List ℕ → Field C) (s : List ℕ → Field C)
    → ((a : A) → o ≡ Some a → Completes good spell front (r a)) → (o ≡ None → Completes good spell front s)
    → Completes good spell front (λ bytes. by_kind o (λ a. r a bytes) (s bytes))
takes_kind good spell front None r s g h = h refl
takes_kind good spell front (Some a) r s g h = g a refl

-- a value that is found where a test holds, or else elsewhere
pub some_if : {A : Type 0} (P : A → Type 0) (b : Bool) (x y : A) (o : Option A) → (b ≡ true → P x) → (o ≡ Some y → P y)
    → cond b (Some x) o ≡ Some y
    → P y
some_if P true x y o g h e = let same : x ≡ y = cc in subst P same (g refl)
some_if P false x y o g h e = h e

pub takes_none : {C : Type 0} (good : C → Type 0) (spell : C → List ℕ) (front : List ℕ → List ℕ) (d : EditFileError)
    → Completes good spell front (λ bytes. Err d)
takes_none good spell front d = record { takes = λ bytes x fits e. absurd cc }

-- a value that completes itself
pub takes_all : {C : Type 0} (good : C → Type 0) (spell : C → List ℕ) (read : List ℕ → Field C) → Completes good spell (λ t. t) read
    → (bytes : List ℕ) (x : C × List ℕ) → IsBytes bytes → read bytes ≡ Ok x
    → Takes good spell bytes x
takes_all good spell read c bytes x fits e = let t = c.takes bytes x fits e in record { parts = t.0; behind = t.1; fits = t.2 }

-- a field that is read again, and what is read behind it
pub again_then : {A C : Type 0} {good_a : A → Type 0} {spell_a : A → List ℕ} {read_a : List ℕ → Field A} (field : IsField good_a spell_a read_a) (k : A × List ℕ → Field C) (text : List ℕ) (r : Field C) (a : A)
    → good_a a → k (a, text) ≡ r → (read_a (spell_a a ++ text) >>= k) ≡ r
again_then {A} {C} field k text r a g h = ap (λ (x : Field A). x >>= k) (field.again a text g) ∙ h

pub again_mapped : {A C : Type 0} {good_a : A → Type 0} {spell_a : A → List ℕ} {read_a : List ℕ → Field A} (field : IsField good_a spell_a read_a) (f : A → C) (text : List ℕ) (a : A)
    → good_a a
    → mapped f (read_a (spell_a a ++ text)) ≡ Ok (f a, text)
again_mapped {A} {C} field f text a g = ap (λ (x : Field A). mapped f x) (field.again a text g)

-- ---- kinds of fields

abbrev pub IsByte : ℕ → Type 0
IsByte b = b < 256

abbrev pub one : ℕ → List ℕ
one b = b ∷ []

byte_takes : (bytes : List ℕ) (x : ℕ × List ℕ) → IsBytes bytes → byte_at bytes ≡ Ok x → Takes IsByte one bytes x
unfolding byte_at
byte_takes [] x fits e = absurd cc
byte_takes (b ∷ bytes) x fits e =
    let P : ℕ × List ℕ → Type 0 = λ y. Takes IsByte one (b ∷ bytes) y in
    subst P (ok_is (b, bytes) x e) (record { parts = refl; behind = IsBytes-rest b bytes fits; fits = fits 0 })

pub byte_field : IsField IsByte one byte_at
unfolding byte_at
byte_field = record { again = λ b rest g. refl; takes = byte_takes }

abbrev pub IsNumber : ℕ → ℕ → Type 0
IsNumber n x = x < 256 ^ n

number_takes : (n : ℕ) (bytes : List ℕ) (x : ℕ × List ℕ) → IsBytes bytes → number_at n bytes ≡ Ok x → Takes (IsNumber n) (number n) bytes x
unfolding number_at
number_takes n bytes x fits e =
    let g = guard_ok (ltb (length bytes) n) (BadEdit Short) (Ok (little_number n bytes, drop n bytes)) x e in
    let long : n ≤ length bytes = ltb-false _ _ g.0 in
    let P : ℕ × List ℕ → Type 0 = λ y. Takes (IsNumber n) (number n) bytes y in
    let parts : bytes ≡ number n (little_number n bytes) ++ drop n bytes =
    sym (take-append-drop n bytes) ∙ ap (λ (t : List ℕ). t ++ drop n bytes) (sym (number_is n bytes fits long)) in
    subst P (ok_is (little_number n bytes, drop n bytes) x g.1) (record { parts = parts; behind = IsBytes-drop n bytes fits; fits = number_below n bytes fits })

number_again : (n x : ℕ) (rest : List ℕ) → x < 256 ^ n → number_at n (number n x ++ rest) ≡ Ok (x, rest)
unfolding number_at
number_again n x rest lt =
    let len : length (number n x) ≡ n = length_number n x in
    let long : ltb (length (number n x ++ rest)) n ≡ false = le-ltb _ _ (omega (arith, length-append (number n x) rest)) in
    let behind : drop n (number n x ++ rest) ≡ rest = drop_at (number n x) rest n len in
    rw (long, number_back n x rest lt, behind) refl

pub number_field : (n : ℕ) → IsField (IsNumber n) (number n) (number_at n)
number_field n = record { again = number_again n; takes = number_takes n }

-- ---- signed numbers

fits_either : (b : Bool) (n : ℕ) → n < 2 ^ 16 → ltb n (2 ^ 15) ≡ b → SFits w16 (cond b (pos n) (negsuc (2 ^ 16 - suc n)))
fits_either true n lt e = record { sfits = ltb-true n (2 ^ 15) e }
fits_either false n lt e = let above : 2 ^ 15 ≤ n = ltb-false n (2 ^ 15) e in record { sfits = omega arith }

unsigned_again : (b : Bool) (n : ℕ) → n < 2 ^ 16 → ltb n (2 ^ 15) ≡ b → cast_unsigned w16 (cond b (pos n) (negsuc (2 ^ 16 - suc n))) ≡ n
unsigned_again true n lt e = omega arith
unsigned_again false n lt e = omega arith

integer_completes : Completes (SFits w16) integer (λ t. t) integer_at
unfolding integer_at
integer_completes =
    takes_then (number_field 2) (SFits w16) integer (λ t. t) (λ n. Ok (cast_signed w16 n.0, n.1))
    (λ n lt.
    let back : cast_unsigned w16 (cast_signed w16 n) ≡ n = unsigned_again (ltb n (2 ^ 15)) n lt refl in
    takes_end (SFits w16) integer (λ t. number 2 n ++ t) (cast_signed w16 n) (fits_either (ltb n (2 ^ 15)) n lt refl) (λ t. ap (λ (m : ℕ). number 2 m ++ t) (sym back)))

integer_again : (z : ℤ) (rest : List ℕ) → SFits w16 z → integer_at (integer z ++ rest) ≡ Ok (z, rest)
unfolding integer_at
integer_again z rest f = again_then (number_field 2) (λ n. Ok (cast_signed w16 n.0, n.1)) rest (Ok (z, rest)) (cast_unsigned w16 z) (of_z_fits z f) (ap (λ (y : ℤ). Ok (y, rest)) (to_z-of_z w16 z f))

pub integer_field : IsField (SFits w16) integer integer_at
integer_field = record { again = integer_again; takes = takes_all (SFits w16) integer integer_at integer_completes }

-- ---- booleans

abbrev pub AnyBool : Bool → Type 0
AnyBool b = Unit {0}

boolean_completes : Completes AnyBool boolean (λ t. t) boolean_at
unfolding boolean_at
boolean_completes =
    takes_then byte_field AnyBool boolean (λ t. t) (λ b. cond (eqb b.0 0) (Ok (false, b.1)) (cond (eqb b.0 1) (Ok (true, b.1)) (Err (BadEdit Tag))))
    (λ b lt.
    takes_choice AnyBool boolean (λ t. b ∷ t) (eqb b 0) (λ t. Ok (false, t)) (λ t. cond (eqb b 1) (Ok (true, t)) (Err (BadEdit Tag)))
    (λ e. takes_end AnyBool boolean (λ t. b ∷ t) false tt (λ t. ap (λ (n : ℕ). n ∷ t) (eqb-true b 0 e)))
    (λ n.
    takes_choice AnyBool boolean (λ t. b ∷ t) (eqb b 1) (λ t. Ok (true, t)) (λ t. Err (BadEdit Tag))
    (λ e. takes_end AnyBool boolean (λ t. b ∷ t) true tt (λ t. ap (λ (n : ℕ). n ∷ t) (eqb-true b 1 e)))
    (λ n. takes_none AnyBool boolean (λ t. b ∷ t) (BadEdit Tag))))

boolean_again : (b : Bool) (rest : List ℕ) → AnyBool b → boolean_at (boolean b ++ rest) ≡ Ok (b, rest)
unfolding boolean_at byte_at
boolean_again true rest g = refl
boolean_again false rest g = refl

pub boolean_field : IsField AnyBool boolean boolean_at
boolean_field = record { again = boolean_again; takes = takes_all AnyBool boolean boolean_at boolean_completes }

-- ---- strings

string_takes : (bytes : List ℕ) (x : List ℕ × List ℕ) → IsBytes bytes → string_at bytes ≡ Ok x → Takes IsString string bytes x
unfolding string_at
string_takes bytes x fits e =
    let b = bind_ok (byte_at bytes) (λ n. cond (ltb (length n.1) n.0) (Err (BadEdit Short)) (Ok (take n.0 n.1, drop n.0 n.1))) x e in
    let n = b.0 in
    let t = byte_field.takes bytes n fits b.1 in
    let g = guard_ok (ltb (length n.1) n.0) (BadEdit Short) (Ok (take n.0 n.1, drop n.0 n.1)) x b.2 in
    let long : n.0 ≤ length n.1 = ltb-false _ _ g.0 in
    let len : length (take n.0 n.1) ≡ n.0 = omega (arith, length-take n.0 n.1) in
    let whole : bytes ≡ string (take n.0 n.1) ++ drop n.0 n.1 =
    t.parts ∙ ap (λ (r : List ℕ). n.0 ∷ r) (sym (take-append-drop n.0 n.1))
    ∙ ap (λ (k : ℕ). k ∷ (take n.0 n.1 ++ drop n.0 n.1)) (sym len) in
    let lt : n.0 < 256 = t.fits in
    let short : length (take n.0 n.1) < 256 = omega (arith, len) in
    let P : List ℕ × List ℕ → Type 0 = λ y. Takes IsString string bytes y in
    subst P (ok_is (take n.0 n.1, drop n.0 n.1) x g.1) (record { parts = whole; behind = IsBytes-drop n.0 n.1 t.behind; fits = short })

string_again : (s rest : List ℕ) → IsString s → string_at (string s ++ rest) ≡ Ok (s, rest)
unfolding string_at byte_at
string_again s rest lt =
    let long : ltb (length (s ++ rest)) (length s) ≡ false = le-ltb _ _ (omega (arith, length-append s rest)) in
    rw (long, take_at s rest (length s) refl, drop_at s rest (length s) refl) refl

pub string_field : IsField IsString string string_at
string_field = record { again = string_again; takes = string_takes }

-- ---- stamps, tiles and rectangles

stamp_completes : Completes IsStamp stamp (λ t. t) stamp_at
unfolding stamp_at
stamp_completes =
    takes_then (number_field 6) IsStamp stamp (λ t. t) _
    (λ time gt. takes_then (number_field 2) IsStamp stamp (λ t. number 6 time ++ t) _
    (λ replica gr. takes_end IsStamp stamp (λ t. number 6 time ++ (number 2 replica ++ t)) (record { time = time; replica = replica }) (gt, gr) (λ t. sym (append_assoc (number 6 time) (number 2 replica) t))))

stamp_again : (s : Stamp) (rest : List ℕ) → IsStamp s → stamp_at (stamp s ++ rest) ≡ Ok (s, rest)
unfolding stamp_at
stamp_again s rest g =
    ap stamp_at (append_assoc (number 6 s.time) (number 2 s.replica) rest)
    ∙ again_then (number_field 6) _ (number 2 s.replica ++ rest) (Ok (s, rest)) s.time g.0 (again_then (number_field 2) _ rest (Ok (s, rest)) s.replica g.1 refl)

pub stamp_field : IsField IsStamp stamp stamp_at
stamp_field = record { again = stamp_again; takes = takes_all IsStamp stamp stamp_at stamp_completes }

tile_completes : Completes IsTile tile (λ t. t) tile_at
unfolding tile_at
tile_completes =
    takes_then byte_field IsTile tile (λ t. t) _
    (λ element ge. takes_then byte_field IsTile tile (λ t. element ∷ t) _
    (λ colour gc. takes_end IsTile tile (λ t. element ∷ colour ∷ t) (record { element = element; colour = colour }) (ge, gc) (λ t. refl)))

pub tile_field : IsField IsTile tile tile_at
unfolding tile_at byte_at
tile_field = record { again = λ a rest g. refl; takes = takes_all IsTile tile tile_at tile_completes }

rectangle_completes : Completes IsRectangle rectangle (λ t. t) rectangle_at
unfolding rectangle_at
rectangle_completes =
    takes_then byte_field IsRectangle rectangle (λ t. t) _
    (λ left gl. takes_then byte_field IsRectangle rectangle (λ t. left ∷ t) _
    (λ top gt. takes_then byte_field IsRectangle rectangle (λ t. left ∷ top ∷ t) _
    (λ right gr. takes_then byte_field IsRectangle rectangle (λ t. left ∷ top ∷ right ∷ t) _
    (λ bottom gb. takes_end IsRectangle rectangle (λ t. left ∷ top ∷ right ∷ bottom ∷ t) (record { left = left; top = top; right = right; bottom = bottom }) (gl, gt, gr, gb) (λ t. refl)))))

pub rectangle_field : IsField IsRectangle rectangle rectangle_at
unfolding rectangle_at byte_at
rectangle_field = record { again = λ a rest g. refl; takes = takes_all IsRectangle rectangle rectangle_at rectangle_completes }
