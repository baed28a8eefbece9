-- Names, places and tiles are read from their texts.
use Rattle.std.proofs.Common.{◌≡◌, ℕ, Bool, true, false, List, [], ◌∷◌, ◌++◌, get_or, drop, Option, Some, None, codes, refl, sym, ap, ◌∙◌, append_assoc, eqb, cond}
use Rattle.zed_types.specs.declared.stamp.Stamp.{Stamp}
use Rattle.zed_types.specs.declared.names.Name.{Name as ThingName}
use Rattle.zed_types.specs.declared.names.BoardId.{BoardId}
use Rattle.zed_types.specs.declared.names.StatId.{StatId}
use Rattle.zed_types.specs.declared.names.TextId.{TextId}
use Rattle.zed_types.specs.declared.names.ElemId.{ElemId}
use Rattle.zed_types.specs.declared.tile.Tile.{Tile}
use Rattle.zed_types.specs.declared.tile.Rectangle.{Rectangle}
use Rattle.zed_types.specs.declared.text.ByteRange.{ByteRange}
use Rattle.zed_types.specs.declared.stat_field.ThirdParameter.TheVariants.{Byte, Board}
use Rattle.zed_log.specs.Fields.{number, colour, boolean, stamp, name, board_name, stat_name, text_name, element_name, optional, element, tile, place, rectangle, range, third_parameter}
use Rattle.zed_log.proofs.Codes.{is_digit, IsCode, IsWord, led, ended, two, through, words}
use Rattle.zed_log.proofs.Numerals.{number_code, number_starts}
use Rattle.zed_log.proofs.Strings.{colour_code}
use Rattle.zed_log.proofs.Elements.{element_code}

abbrev pick_boolean : List ℕ → Option Bool
pick_boolean l = cond (eqb (get_or l 0 0) 121) (Some true) (Some false)

boolean_back : (b : Bool) (x : List ℕ) → pick_boolean (boolean b ++ x) ≡ Some b
boolean_back true x = refl
boolean_back false x = refl

pub boolean_word : IsWord boolean
boolean_word = words boolean pick_boolean boolean_back

-- ---- names

abbrev of_stamp : Stamp → ℕ × ℕ
of_stamp s = (s.time, s.replica)

abbrev to_stamp : ℕ × ℕ → Stamp
to_stamp p = record { time = p.0; replica = p.1 }

pub stamp_code : IsCode stamp
unfolding stamp
stamp_code =
    through stamp (λ (p : ℕ × ℕ). number p.0 ++ (46 ∷ number p.1)) of_stamp to_stamp (λ s. refl) (λ s. refl) (two number (46 ∷ []) number (λ t. refl) number_code number_code)

abbrev of_name : ThingName → Stamp × ℕ
of_name n = (n.stamp, n.index)

abbrev to_name : Stamp × ℕ → ThingName
to_name p = record { stamp = p.0; index = p.1 }

pub name_code : IsCode name
unfolding name
name_code =
    through name (λ (p : Stamp × ℕ). stamp p.0 ++ (58 ∷ number p.1)) of_name to_name (λ n. refl) (λ n. refl) (two stamp (58 ∷ []) number (λ t. refl) stamp_code number_code)

pub name_starts : (n : ThingName) (x : List ℕ) → is_digit (get_or (name n ++ x) 0 0) ≡ true
unfolding name stamp
name_starts n x =
    let a = append_assoc (number n.stamp.time ++ 46 ∷ number n.stamp.replica) (58 ∷ number n.index) x in
    let b = append_assoc (number n.stamp.time) (46 ∷ number n.stamp.replica) (58 ∷ (number n.index ++ x)) in
    ap (λ (l : List ℕ). is_digit (get_or l 0 0)) (a ∙ b) ∙ number_starts n.stamp.time (46 ∷ (number n.stamp.replica ++ 58 ∷ (number n.index ++ x)))

abbrev to_board : ThingName → BoardId
to_board n = record { name = n }

abbrev to_stat : ThingName → StatId
to_stat n = record { name = n }

abbrev to_text : ThingName → TextId
to_text n = record { name = n }

abbrev to_element : ThingName → ElemId
to_element n = record { name = n }

pub board_code : IsCode board_name
board_code = through board_name name (λ b. b.name) to_board (λ b. refl) (λ b. refl) name_code

pub stat_code : IsCode stat_name
stat_code = through stat_name name (λ b. b.name) to_stat (λ b. refl) (λ b. refl) name_code

pub text_code : IsCode text_name
text_code = through text_name name (λ b. b.name) to_text (λ b. refl) (λ b. refl) name_code

pub element_name_code : IsCode element_name
element_name_code = through element_name name (λ b. b.name) to_element (λ b. refl) (λ b. refl) name_code

pub digit_or_not : (b : Bool) → b ≡ true → b ≡ false → ⊥
digit_or_not b h k = absurd cc

-- a name is no `none`
pub optional_code : {A : Type 0} (f : A → List ℕ) → IsCode f → ((a : A) (x : List ℕ) → is_digit (get_or (f a ++ x) 0 0) ≡ true)
    → IsCode (optional f)
optional_code f code starts None None x y p q h = (refl, ap (drop 4) h)
optional_code f code starts None (Some b) x y p q h =
    absurd (digit_or_not (is_digit (get_or (f b ++ y) 0 0)) (starts b y) (ap (λ (l : List ℕ). is_digit (get_or l 0 0)) (sym h)))
optional_code f code starts (Some a) None x y p q h =
    absurd (digit_or_not (is_digit (get_or (f a ++ x) 0 0)) (starts a x) (ap (λ (l : List ℕ). is_digit (get_or l 0 0)) h))
optional_code f code starts (Some a) (Some b) x y p q h = let r = code a b x y p q h in (ap Some r.0, r.1)

pub board_option_code : IsCode (optional board_name)
board_option_code = optional_code board_name board_code (λ b x. name_starts b.name x)

pub stat_option_code : IsCode (optional stat_name)
stat_option_code = optional_code stat_name stat_code (λ b x. name_starts b.name x)

pub text_option_code : IsCode (optional text_name)
text_option_code = optional_code text_name text_code (λ b x. name_starts b.name x)

pub third_code : IsCode third_parameter
unfolding third_parameter
third_code (Byte m) (Byte n) x y p q h = let r = number_code m n x y p q h in (ap Byte r.0, r.1)
third_code (Byte m) (Board b) x y p q h =
    absurd (digit_or_not (is_digit (get_or (number m ++ x) 0 0)) (number_starts m x) (ap (λ (l : List ℕ). is_digit (get_or l 0 0)) h))
third_code (Board a) (Byte n) x y p q h =
    absurd (digit_or_not (is_digit (get_or (number n ++ y) 0 0)) (number_starts n y) (ap (λ (l : List ℕ). is_digit (get_or l 0 0)) (sym h)))
third_code (Board a) (Board b) x y p q h =
    let r = led (codes "board ") board_name board_code a b x y p q h in (ap Board r.0, r.1)

-- ---- places and tiles

pub place_code : IsCode (λ (p : ℕ × ℕ). place p.0 p.1)
unfolding place
place_code =
    ended (λ (p : ℕ × ℕ). (40 ∷ number p.0) ++ (44 ∷ number p.1)) (41 ∷ []) (λ t. refl) (two (λ (n : ℕ). 40 ∷ number n) (44 ∷ []) number (λ t. refl) (led (40 ∷ []) number number_code) number_code)

abbrev of_rectangle : Rectangle → (ℕ × ℕ) × (ℕ × ℕ)
of_rectangle r = ((r.left, r.top), (r.right, r.bottom))

abbrev to_rectangle : (ℕ × ℕ) × (ℕ × ℕ) → Rectangle
to_rectangle p = record { left = p.0.0; top = p.0.1; right = p.1.0; bottom = p.1.1 }

pub rectangle_code : IsCode rectangle
unfolding rectangle
rectangle_code =
    through rectangle (λ (p : (ℕ × ℕ) × (ℕ × ℕ)). place p.0.0 p.0.1 ++ (45 ∷ place p.1.0 p.1.1)) of_rectangle to_rectangle (λ r. refl) (λ r. refl) (two (λ (p : ℕ × ℕ). place p.0 p.1) (45 ∷ []) (λ (p : ℕ × ℕ). place p.0 p.1) (λ t. refl) place_code place_code)

abbrev of_tile : Tile → ℕ × ℕ
of_tile t = (t.element, t.colour)

abbrev to_tile : ℕ × ℕ → Tile
to_tile p = record { element = p.0; colour = p.1 }

pub tile_code : IsCode tile
unfolding tile
tile_code =
    through tile (λ (p : ℕ × ℕ). element p.0 ++ (32 ∷ colour p.1)) of_tile to_tile (λ t. refl) (λ t. refl) (two element (32 ∷ []) colour (λ t. refl) element_code colour_code)

abbrev of_range : ByteRange → (Stamp × ℕ) × ℕ
of_range r = ((r.stamp, r.first), r.last)

abbrev to_range : (Stamp × ℕ) × ℕ → ByteRange
to_range p = record { stamp = p.0.0; first = p.0.1; last = p.1 }

pub range_code : IsCode range
unfolding range
range_code =
    through range (λ (p : (Stamp × ℕ) × ℕ). (stamp p.0.0 ++ (58 ∷ number p.0.1)) ++ (45 ∷ number p.1)) of_range to_range (λ r. refl) (λ r. refl) (two (λ (p : Stamp × ℕ). stamp p.0 ++ (58 ∷ number p.1)) (45 ∷ []) number (λ t. refl) (two stamp (58 ∷ []) number (λ t. refl) stamp_code number_code) number_code)
