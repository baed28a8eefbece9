-- An edit is read from its line.
use Rattle.std.proofs.Common.{◌≡◌, ℕ, ◌+◌, true, List, [], ◌∷◌, ◌++◌, length, get_or, drop, Option, Some, None, codes, refl, sym, ap, ◌∙◌, append_assoc, eqb, cond, arith, Bool, false}
use Rattle.zed_types.specs.declared.names.BoardId.{BoardId}
use Rattle.zed_types.specs.declared.names.StatId.{StatId}
use Rattle.zed_types.specs.declared.names.TextId.{TextId}
use Rattle.zed_types.specs.declared.names.ElemId.{ElemId}
use Rattle.zed_types.specs.declared.tile.Tile.{Tile}
use Rattle.zed_types.specs.declared.tile.Rectangle.{Rectangle}
use Rattle.zed_types.specs.declared.text.ByteRange.{ByteRange}
use Rattle.zed_types.specs.declared.property.BoardSetting.{BoardSetting}
use Rattle.zed_types.specs.declared.stat_field.StatSetting.{StatSetting}
use Rattle.zed_types.specs.declared.stat_field.StatFields.{StatFields}
use Rattle.zed_op.specs.declared.op.Op.{Op}
use Rattle.zed_op.specs.declared.op.Op.TheVariants.{Genesis, SetHeader, BoardAdd, BoardRemove, SetBoard, SetCells, StatAdd, StatRemove, SetStat, TextAdd, TextInsert, TextDelete}
use Rattle.zed_op.specs.declared.op.Edit.{Edit}
use Rattle.zed_log.specs.Fields.{number, quoted, board_name, stat_name, text_name, element_name, tile, rectangle, range}
use Rattle.zed_log.specs.declared.length.Length.{Length}
use Rattle.zed_log.specs.declared.length.Length.TheVariants.{Full}
use Rattle.zed_log.specs.Line.{header_setting, board_setting, stat_setting, stat_fields, after_text, op_at, op_text, line_text, marked_line, text_at}
use Rattle.zed_log.specs.Laws.{IsWhole, AreWhole, IsKnownByLines, log_text, marked_log}
use Rattle.zed_log.proofs.Codes.{is_digit, Stops, IsCode, led, two, joined}
use Rattle.zed_log.proofs.Numerals.{number_code, number_starts}
use Rattle.zed_log.proofs.Strings.{quoted_code}
use Rattle.zed_log.proofs.Parts.{digit_or_not, board_code, stat_code, text_code, element_name_code, rectangle_code, tile_code, range_code}
use Rattle.zed_log.proofs.Registers.{header_code, property_code, field_code}
use Rattle.zed_log.proofs.StatWords.{stat_fields_code}

-- what tells the ops apart: the first letter, with `a` the fifth, with `r` the eighth
abbrev pub op_kind_at : List ℕ → ℕ
op_kind_at l = cond (eqb (get_or l 0 0) 97) (get_or l 4 0) (cond (eqb (get_or l 0 0) 114) (200 + get_or l 7 0) (300 + get_or l 0 0))

-- ---- the fields of each op

world_code : IsCode (λ (p : ℕ × List ℕ). ((codes "genesis " ++ number p.0) ++ codes " bytes ") ++ quoted p.1)
world_code =
    joined (λ (n : ℕ). codes "genesis " ++ number n) (codes " bytes ") quoted (λ t. refl) (led (codes "genesis ") number number_code) quoted_code

property_of_code : IsCode (λ (p : BoardId × BoardSetting). (codes "board " ++ board_name p.0) ++ (32 ∷ board_setting p.1))
property_of_code =
    two (λ (b : BoardId). codes "board " ++ board_name b) (32 ∷ []) board_setting (λ t. refl) (led (codes "board ") board_name board_code) property_code

cells_code : IsCode (λ (p : (BoardId × Rectangle) × Tile). ((codes "cells board " ++ board_name p.0.0) ++ (32 ∷ rectangle p.0.1)) ++ (32 ∷ tile p.1))
cells_code =
    two (λ (p : BoardId × Rectangle). (codes "cells board " ++ board_name p.0) ++ (32 ∷ rectangle p.1)) (32 ∷ []) tile (λ t. refl) (two (λ (b : BoardId). codes "cells board " ++ board_name b) (32 ∷ []) rectangle (λ t. refl) (led (codes "cells board ") board_name board_code) rectangle_code) tile_code

field_of_code : IsCode (λ (p : StatId × StatSetting). (codes "stat " ++ stat_name p.0) ++ (32 ∷ stat_setting p.1))
field_of_code =
    two (λ (s : StatId). codes "stat " ++ stat_name s) (32 ∷ []) stat_setting (λ t. refl) (led (codes "stat ") stat_name stat_code) field_code

deleted_code : IsCode (λ (p : TextId × ByteRange). ((codes "delete text " ++ text_name p.0) ++ codes " bytes ") ++ range p.1)
deleted_code =
    joined (λ (t : TextId). codes "delete text " ++ text_name t) (codes " bytes ") range (λ t. refl) (led (codes "delete text ") text_name text_code) range_code

after_code : IsCode after_text
after_code None None x y p q h = (refl, ap (drop 5) h)
after_code None (Some b) x y p q h = absurd (omega (arith, ap (λ (l : List ℕ). get_or l 0 0) h))
after_code (Some a) None x y p q h = absurd (omega (arith, ap (λ (l : List ℕ). get_or l 0 0) h))
after_code (Some a) (Some b) x y p q h =
    let r = led (codes "after ") element_name element_name_code a b x y p q h in (ap Some r.0, r.1)

inserted_code : IsCode (λ (p : (TextId × Option ElemId) × List ℕ). ((codes "insert text " ++ text_name p.0.0) ++ (32 ∷ after_text p.0.1)) ++ (32 ∷ quoted p.1))
inserted_code =
    two (λ (p : TextId × Option ElemId). (codes "insert text " ++ text_name p.0) ++ (32 ∷ after_text p.1)) (32 ∷ []) quoted (λ t. refl) (two (λ (t : TextId). codes "insert text " ++ text_name t) (32 ∷ []) after_text (λ t. refl) (led (codes "insert text ") text_name text_code) after_code) quoted_code

stat_text : (b : BoardId) (f : StatFields) (x : List ℕ)
    → op_text (StatAdd b f) ++ x ≡ (codes "add stat board " ++ board_name b) ++ (32 ∷ (stat_fields f ++ x))
stat_text b f x = append_assoc (codes "add stat board " ++ board_name b) (32 ∷ stat_fields f) x

-- ---- ops

pub op_code : (a b : Op) (x y : List ℕ) → IsWhole a → IsWhole b → Stops x → Stops y → op_text a ++ x ≡ op_text b ++ y → (a ≡ b) × (x ≡ y)
op_code (Genesis s) (Genesis t) x y v w p q h =
    let r = world_code (length s, s) (length t, t) x y p q h in (ap (λ (k : ℕ × List ℕ). Genesis k.1) r.0, r.1)
op_code (SetHeader s) (SetHeader t) x y v w p q h =
    let r = led (codes "header ") header_setting header_code s t x y p q h in (ap SetHeader r.0, r.1)
op_code (BoardAdd s) (BoardAdd t) x y v w p q h =
    let r = led (codes "add board ") quoted quoted_code s t x y p q h in (ap BoardAdd r.0, r.1)
op_code (BoardRemove b) (BoardRemove c) x y v w p q h =
    let r = led (codes "remove board ") board_name board_code b c x y p q h in (ap BoardRemove r.0, r.1)
op_code (SetBoard b s) (SetBoard c t) x y v w p q h =
    let r = property_of_code (b, s) (c, t) x y p q h in (ap (λ (k : BoardId × BoardSetting). SetBoard k.0 k.1) r.0, r.1)
op_code (SetCells b m s) (SetCells c n t) x y v w p q h =
    let r = cells_code ((b, m), s) ((c, n), t) x y p q h in
    (ap (λ (k : (BoardId × Rectangle) × Tile). SetCells k.0.0 k.0.1 k.1) r.0, r.1)
op_code (StatAdd b f) (StatAdd c g) x y v w p q h =
    let e = sym (stat_text b f x) ∙ h ∙ stat_text c g y in
    let r = led (codes "add stat board ") board_name board_code b c (32 ∷ (stat_fields f ++ x)) (32 ∷ (stat_fields g ++ y)) refl refl e in
    let s = stat_fields_code f g x y v w p q (ap (drop 1) r.1) in
    (ap (λ (k : BoardId). StatAdd k f) r.0 ∙ ap (StatAdd c) s.0, s.1)
op_code (StatRemove s) (StatRemove t) x y v w p q h =
    let r = led (codes "remove stat ") stat_name stat_code s t x y p q h in (ap StatRemove r.0, r.1)
op_code (SetStat a s) (SetStat b t) x y v w p q h =
    let r = field_of_code (a, s) (b, t) x y p q h in (ap (λ (k : StatId × StatSetting). SetStat k.0 k.1) r.0, r.1)
op_code TextAdd TextAdd x y v w p q h = (refl, ap (drop 8) h)
op_code (TextInsert a m s) (TextInsert b n t) x y v w p q h =
    let r = inserted_code ((a, m), s) ((b, n), t) x y p q h in
    (ap (λ (k : (TextId × Option ElemId) × List ℕ). TextInsert k.0.0 k.0.1 k.1) r.0, r.1)
op_code (TextDelete a m) (TextDelete b n) x y v w p q h =
    let r = deleted_code (a, m) (b, n) x y p q h in (ap (λ (k : TextId × ByteRange). TextDelete k.0 k.1) r.0, r.1)
op_code a b x y v w p q h = absurd (omega (arith, ap op_kind_at h))

-- ---- lines

abbrev pub stamp_text : ℕ × ℕ → List ℕ
stamp_text p = number p.0 ++ (32 ∷ number p.1)

pub stamp_text_code : IsCode stamp_text
stamp_text_code = two number (32 ∷ []) number (λ t. refl) number_code number_code

pub parts_at : (l : Length) (e : Edit) (x : List ℕ)
    → text_at l e ++ x ≡ stamp_text (e.stamp.time, e.stamp.replica) ++ (codes "  " ++ (op_at l e.op ++ (10 ∷ x)))
unfolding text_at
parts_at l e x =
    append_assoc (stamp_text (e.stamp.time, e.stamp.replica) ++ (codes "  " ++ op_at l e.op)) (10 ∷ []) x ∙ append_assoc (stamp_text (e.stamp.time, e.stamp.replica)) (codes "  " ++ op_at l e.op) (10 ∷ x)

pub line_parts : (e : Edit) (x : List ℕ)
    → line_text e ++ x ≡ stamp_text (e.stamp.time, e.stamp.replica) ++ (codes "  " ++ (op_text e.op ++ (10 ∷ x)))
line_parts e x = parts_at Full e x

abbrev make : ℕ × ℕ → Op → Edit
make s op = record { stamp = record { time = s.0; replica = s.1 }; op = op }

-- no line begins another
pub line_code : (e f : Edit) (x y : List ℕ) → IsWhole e.op → IsWhole f.op → line_text e ++ x ≡ line_text f ++ y → (e ≡ f) × (x ≡ y)
line_code e f x y v w h =
    let parts = sym (line_parts e x) ∙ h ∙ line_parts f y in
    let r = stamp_text_code (e.stamp.time, e.stamp.replica) (f.stamp.time, f.stamp.replica) (codes "  " ++ (op_text e.op ++ (10 ∷ x))) (codes "  " ++ (op_text f.op ++ (10 ∷ y))) refl refl parts in
    let s = op_code e.op f.op (10 ∷ x) (10 ∷ y) v w refl refl (ap (drop 2) r.1) in
    let same : e ≡ f = ap (λ (k : ℕ × ℕ). make k e.op) r.0 ∙ ap (make (f.stamp.time, f.stamp.replica)) s.0 in
    (same, ap (drop 1) s.1)

pub one_line : (e f : Edit) → IsWhole e.op → IsWhole f.op → line_text e ≡ line_text f → e ≡ f
one_line e f v w h = (line_code e f [] [] v w (ap (λ (l : List ℕ). l ++ []) h)).0

no_start : (l : List ℕ) → is_digit (get_or l 0 0) ≡ true → l ≡ [] → ⊥
no_start l d k =
    digit_or_not (is_digit 0) (sym (ap (λ (t : List ℕ). is_digit (get_or t 0 0)) k) ∙ d) refl

no_line_is_empty : (e : Edit) (x : List ℕ) → line_text e ++ x ≡ [] → ⊥
no_line_is_empty e x h =
    no_start _ (number_starts e.stamp.time (32 ∷ (number e.stamp.replica ++ (codes "  " ++ (op_text e.op ++ (10 ∷ x)))))) (sym (append_assoc (number e.stamp.time) (32 ∷ number e.stamp.replica) (codes "  " ++ (op_text e.op ++ (10 ∷ x)))) ∙ sym (line_parts e x) ∙ h)

held_is_no_time : (n : ℕ) (x y : List ℕ) → codes "held " ++ x ≡ number n ++ y → ⊥
held_is_no_time n x y h =
    digit_or_not (is_digit 104) (ap (λ (t : List ℕ). is_digit (get_or t 0 0)) h ∙ number_starts n y) refl

held_is_no_line : (f : Edit) (x y : List ℕ) → codes "held " ++ x ≡ line_text f ++ y → ⊥
held_is_no_line f x y h =
    let tail = 32 ∷ (number f.stamp.replica ++ (codes "  " ++ (op_text f.op ++ (10 ∷ y)))) in
    held_is_no_time f.stamp.time x tail (h ∙ line_parts f y ∙ append_assoc (number f.stamp.time) (32 ∷ number f.stamp.replica) (codes "  " ++ (op_text f.op ++ (10 ∷ y))))

-- no marked line begins another
marked_code : (a b : Bool) (e f : Edit) (x y : List ℕ) → IsWhole e.op → IsWhole f.op → marked_line a e ++ x ≡ marked_line b f ++ y
    → (e ≡ f) × (x ≡ y)
marked_code false false e f x y v w h = line_code e f x y v w h
marked_code false true e f x y v w h = absurd (held_is_no_line e (line_text f ++ y) x (sym h))
marked_code true false e f x y v w h = absurd (held_is_no_line f (line_text e ++ x) y h)
marked_code true true e f x y v w h = line_code e f x y v w (ap (drop 5) h)

no_marked_line_is_empty : (a : Bool) (e : Edit) (x : List ℕ) → marked_line a e ++ x ≡ [] → ⊥
no_marked_line_is_empty true e x h = absurd cc
no_marked_line_is_empty false e x h = no_line_is_empty e x h

-- no list of lines, marked or not, is that of other edits
pub one_marked_log : (es fs : List Edit) → AreWhole es → AreWhole fs → IsKnownByLines es fs
one_marked_log [] [] v w p q h = refl
one_marked_log [] (f ∷ fs) v w p q h = absurd (no_marked_line_is_empty (q f) f (marked_log q fs) (sym h))
one_marked_log (e ∷ es) [] v w p q h = absurd (no_marked_line_is_empty (p e) e (marked_log p es) h)
one_marked_log (e ∷ es) (f ∷ fs) v w p q h =
    let r = marked_code (p e) (q f) e f (marked_log p es) (marked_log q fs) v.0 w.0 h in
    ap (λ (k : Edit). k ∷ es) r.0 ∙ ap (λ (k : List Edit). f ∷ k) (one_marked_log es fs v.1 w.1 p q r.1)

pub one_log : (es fs : List Edit) → AreWhole es → AreWhole fs → log_text es ≡ log_text fs → es ≡ fs
one_log es fs v w h = one_marked_log es fs v w (λ e. false) (λ e. false) h
