-- The text for a terminal without its codes, and the lines of the text without colour.
use Rattle.std.proofs.Common.{◌≡◌, ◌∙◌, ℕ, ◌+◌, Bool, true, false, List, [], ◌∷◌, ◌++◌, map, refl, sym, ap, append_assoc, append-nil, codes, Option, Some, None}
use Rattle.std.specs.Prelude.{◌==◌, if◌then◌else◌}
use Rattle.std.specs.List.{flat_map}
use Rattle.zed_look.specs.declared.look.Picture.{Picture}
use Rattle.zed_look.specs.declared.look.Spot.{Spot}
use Rattle.zed_look.specs.Colours.{blinks, hue, ink, paper}
use Rattle.zed_look.specs.Coloured.{change, coloured_row, coloured_text, ink_code, sgr}
use Rattle.zed_look.specs.Glyphs.{glyph}
use Rattle.zed_look.specs.Laws.{lines_after, stripped}
use Rattle.zed_look.specs.Parts.{number}
use Rattle.zed_look.specs.Plain.{characters_of, plain_row, plain_text}
use Rattle.zed_look.proofs.Lacking.{Lacks, lacks-append, number_lacks, glyph_lacks_escape, row_lacks_feed}

-- a text without escapes stays
stays : (g x : List ℕ) → Lacks 27 g → stripped false (g ++ x) ≡ g ++ stripped false x
stays [] x h = refl
stays (c ∷ g) x h = rw h.0 (ap (λ (t : List ℕ). c ∷ t) (stays g x h.1))

-- the rest of a code goes
goes : (g x : List ℕ) → Lacks 109 g → stripped true (g ++ 109 ∷ x) ≡ stripped false x
goes [] x h = refl
goes (c ∷ g) x h = ap (λ (p : Bool). stripped (if p then false else true) (g ++ 109 ∷ x)) h.0 ∙ goes g x h.1

-- ---- codes

blinking_lacks : (b : Bool) → Lacks 109 (if b then codes "5;" else [])
blinking_lacks true = (refl, (refl, tt))
blinking_lacks false = tt

-- a code without its first and its last byte
abbrev body : ℕ → List ℕ
body a = codes "[0;" ++ (if blinks a then codes "5;" else []) ++ number (ink_code (ink a)) ++ codes ";" ++ number (40 + hue (paper a))

body_lacks : (a : ℕ) → Lacks 109 (body a)
body_lacks a =
    let b = codes "[0;" ++ (if blinks a then codes "5;" else []) in
    let c = b ++ number (ink_code (ink a)) in
    let d = c ++ codes ";" in
    let first : Lacks 109 b =
    lacks-append 109 (codes "[0;") (if blinks a then codes "5;" else []) (refl, (refl, (refl, tt))) (blinking_lacks (blinks a)) in
    let second : Lacks 109 c = lacks-append 109 b (number (ink_code (ink a))) first (number_lacks (ink_code (ink a))) in
    let third : Lacks 109 d = lacks-append 109 c (codes ";") second (refl, tt) in
    lacks-append 109 d (number (40 + hue (paper a))) third (number_lacks (40 + hue (paper a)))

sgr_goes : (a : ℕ) (x : List ℕ) → stripped false (sgr a ++ x) ≡ stripped false x
unfolding sgr
sgr_goes a x = ap (stripped true) (append_assoc (body a) (109 ∷ []) x) ∙ goes (body a) x (body_lacks a)

unless : (c : Bool) (t x : List ℕ) → stripped false (t ++ x) ≡ stripped false x
    → stripped false ((if c then [] else t) ++ x) ≡ stripped false x
unless true t x h = refl
unless false t x h = h

change_goes : (before : Option ℕ) (a : ℕ) (x : List ℕ) → stripped false (change before a ++ x) ≡ stripped false x
change_goes None a x = sgr_goes a x
change_goes (Some b) a x = unless (b == a) (sgr a) x (sgr_goes a x)

-- ---- rows

row_stripped : (before : Option ℕ) (row : List Spot) (x : List ℕ)
    → stripped false (coloured_row before row ++ x) ≡ plain_row row ++ stripped false x
row_stripped before [] x = refl
row_stripped before (s ∷ row) x =
    let e = change before s.attribute in
    let g = glyph s.character in
    let r = coloured_row (Some s.attribute) row in
    let grouped : e ++ g ++ r ++ x ≡ e ++ (g ++ (r ++ x)) = append_assoc (e ++ g) r x ∙ append_assoc e g (r ++ x) in
    let regrouped : g ++ characters_of row ++ 10 ∷ [] ++ stripped false x ≡ g ++ (plain_row row ++ stripped false x) =
    ap (λ (t : List ℕ). t ++ stripped false x) (append_assoc g (characters_of row) (10 ∷ [])) ∙ append_assoc g (plain_row row) (stripped false x)
    in
    ap (stripped false) grouped ∙ change_goes before s.attribute (g ++ (r ++ x)) ∙ stays g (r ++ x) (glyph_lacks_escape s.character) ∙ ap (λ (t : List ℕ). g ++ t) (row_stripped (Some s.attribute) row x) ∙ sym regrouped

rows_stripped : (rows : List (List Spot)) → stripped false (flat_map (coloured_row None) rows) ≡ flat_map plain_row rows
rows_stripped [] = refl
rows_stripped (row ∷ rows) =
    row_stripped None row (flat_map (coloured_row None) rows) ∙ ap (λ (t : List ℕ). plain_row row ++ t) (rows_stripped rows)

pub codes_only_colour : (picture : Picture) → stripped false (coloured_text picture) ≡ plain_text picture
codes_only_colour picture = rows_stripped picture.rows

-- ---- lines

passed : (front g x : List ℕ) → Lacks 10 g → lines_after front (g ++ x) ≡ lines_after (front ++ g) x
passed front [] x h = ap (λ (t : List ℕ). lines_after t x) (sym (append-nil front))
passed front (c ∷ g) x h = rw h.0 (passed (front ++ c ∷ []) g x h.1 ∙ ap (λ (t : List ℕ). lines_after t x) (append_assoc front (c ∷ []) g))

rows_are_lines : (rows : List (List Spot)) → lines_after [] (flat_map plain_row rows) ≡ map characters_of rows
rows_are_lines [] = refl
rows_are_lines (row ∷ rows) =
    ap (lines_after []) (append_assoc (characters_of row) (10 ∷ []) (flat_map plain_row rows))
    ∙ passed [] (characters_of row) (10 ∷ flat_map plain_row rows) (row_lacks_feed row)
    ∙ ap (λ (t : List (List ℕ)). characters_of row ∷ t) (rows_are_lines rows)

pub lines_are_rows : (picture : Picture) → lines_after [] (plain_text picture) ≡ map characters_of picture.rows
lines_are_rows picture = rows_are_lines picture.rows
