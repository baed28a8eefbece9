-- Ops: what is read is spelled so, and what is spelled is read again where nothing follows.
use Rattle.std.proofs.Common.{◌≡◌, ℕ, cond, eqb, List, [], ◌∷◌, ◌++◌, Ok, Err, subst, arith, refl, sym, ap, ◌∙◌, append_assoc}
use Rattle.std.proofs.lemmas.Bool.{eqb-true}
use Rattle.std.proofs.lemmas.List.{append-nil}
use Rattle.zed_types.specs.declared.names.TextId.{TextId}
use Rattle.zed_types.specs.declared.text.ByteRange.{ByteRange}
use Rattle.zed_op.specs.declared.cause.Cause.TheVariants.{Op as BadOp}
use Rattle.zed_op.specs.declared.op.Op.{Op}
use Rattle.zed_op.specs.declared.op.Op.TheVariants.{Genesis, SetHeader, BoardAdd, BoardRemove, SetBoard, SetCells, StatAdd, StatRemove, SetStat, TextAdd, TextInsert, TextDelete}
use Rattle.zed_editfile.specs.declared.error.EditFileError.TheVariants.{BadEdit}
use Rattle.zed_editfile.specs.Spelling.{stamp, number, board_name, text_name, element_name, optional, tile, rectangle, op_text, IsOpOf}
use Rattle.zed_types.specs.Steps.{◌>>=◌}
use Rattle.zed_editfile.specs.Reading.{Field, mapped, pair_at, byte_at, string_at, board_name_at, stat_name_at, header_setting_at, set_board_at, set_cells_at, stat_add_at, set_stat_at, text_insert_at, text_delete_at, op_at}
use Rattle.zed_op.specs.Sizes.{IsOp}
use Rattle.zed_editfile.proofs.Numbers.{IsBytes}
use Rattle.zed_types.proofs.Steps.{ok_is}
use Rattle.zed_editfile.proofs.Codec.{IsField, Completes, takes_then, takes_end, takes_mapped, takes_choice, takes_none, again_then, string_field, tile_field, rectangle_field}
use Rattle.zed_editfile.proofs.Names.{board_name_field, stat_name_field, text_name_field, element_name_field, optional_field, range_field, range_text}
use Rattle.zed_editfile.proofs.Registers.{header_setting_field, board_setting_field, stat_setting_field, stat_fields_field}

-- an op of a version has the sizes of its fields
abbrev pub IsOpIn : ℕ → Op → Type 0
IsOpIn v op = IsOp op × IsOpOf v op

-- the fields behind the number of an op
abbrev front : ℕ → List ℕ → List ℕ
front n t = n ∷ t

-- an op of two fields
pair_completes : (v : ℕ) {A B : Type 0} {good_a : A → Type 0} {spell_a : A → List ℕ} {read_a : List ℕ → Field A} {good_b : B → Type 0} {spell_b : B → List ℕ} {read_b : List ℕ → Field B} (first : IsField good_a spell_a read_a) (second : IsField good_b spell_b read_b) (n : ℕ) (make : A → B → Op)
    → ((a : A) (b : B) → good_a a → good_b b → IsOpIn v (make a b))
    → ((a : A) (b : B) → op_text (make a b) ≡ front n (spell_a a ++ spell_b b))
    → Completes (IsOpIn v) op_text (front n) (pair_at make read_a read_b)
pair_completes v {A} {B} {good_a} {spell_a} {read_a} {good_b} {spell_b} {read_b} first second n make good same =
    takes_then first (IsOpIn v) op_text (front n) _
    (λ a ga. takes_then second (IsOpIn v) op_text (λ t. front n (spell_a a ++ t)) _
    (λ b gb. takes_end (IsOpIn v) op_text (λ t. front n (spell_a a ++ (spell_b b ++ t))) (make a b) (good a b ga gb)
    (λ t. ap (front n) (sym (append_assoc (spell_a a) (spell_b b) t)) ∙ ap (λ (x : List ℕ). x ++ t) (sym (same a b)))))

set_board_completes : (v : ℕ) → Completes (IsOpIn v) op_text (front 5) (set_board_at v)
unfolding set_board_at
set_board_completes v = pair_completes v board_name_field (board_setting_field v) 5 SetBoard (λ b s gb gs. ((gb, gs.0), gs.1)) (λ b s. refl)

set_cells_completes : (v : ℕ) → Completes (IsOpIn v) op_text (front 6) set_cells_at
unfolding set_cells_at
set_cells_completes v =
    takes_then board_name_field (IsOpIn v) op_text (front 6) _
    (λ b gb. takes_then rectangle_field (IsOpIn v) op_text (λ t. 6 ∷ (board_name b ++ t)) _
    (λ r gr. takes_then tile_field (IsOpIn v) op_text (λ t. 6 ∷ (board_name b ++ (rectangle r ++ t))) _
    (λ c gc. takes_end (IsOpIn v) op_text (λ t. 6 ∷ (board_name b ++ (rectangle r ++ (tile c ++ t)))) (SetCells b r c) ((gb, gr, gc), tt)
    (λ t. ap (front 6) (sym (append_assoc (board_name b ++ rectangle r) (tile c) t ∙ append_assoc (board_name b) (rectangle r) (tile c ++ t)))))))

stat_add_completes : (v : ℕ) → Completes (IsOpIn v) op_text (front 7) stat_add_at
unfolding stat_add_at
stat_add_completes v = pair_completes v board_name_field stat_fields_field 7 StatAdd (λ b f gb gf. ((gb, gf), tt)) (λ b f. refl)

set_stat_completes : (v : ℕ) → Completes (IsOpIn v) op_text (front 9) set_stat_at
unfolding set_stat_at
set_stat_completes v = pair_completes v stat_name_field stat_setting_field 9 SetStat (λ s x gs gx. ((gs, gx), tt)) (λ s x. refl)

-- a text and a range of its bytes, spelled one behind the other
range_behind : (t : TextId) (r : ByteRange)
    → text_name t ++ stamp r.stamp ++ number 4 r.first ++ number 4 r.last ≡ text_name t ++ range_text r
range_behind t r =
    append_assoc (text_name t ++ stamp r.stamp) (number 4 r.first) (number 4 r.last) ∙ append_assoc (text_name t) (stamp r.stamp) (number 4 r.first ++ number 4 r.last)
    ∙ ap (λ (x : List ℕ). text_name t ++ x) (sym (append_assoc (stamp r.stamp) (number 4 r.first) (number 4 r.last)))

text_delete_completes : (v : ℕ) → Completes (IsOpIn v) op_text (front 12) text_delete_at
unfolding text_delete_at
text_delete_completes v =
    pair_completes v text_name_field range_field 12 TextDelete (λ t r gt gr. ((gt, gr), tt)) (λ t r. ap (front 12) (range_behind t r))

-- an op that takes all the bytes
takes_whole : (v : ℕ) (n : ℕ) (build : List ℕ → Op) → ((t : List ℕ) → IsOpIn v (build t)) → ((t : List ℕ) → front n t ≡ op_text (build t))
    → Completes (IsOpIn v) op_text (front n) (λ bytes. Ok (build bytes, []))
takes_whole v n build g same = record {
  takes = λ bytes x fits e.
      let P : Op × List ℕ → Type 0 = λ y. (front n bytes ≡ op_text y.0 ++ y.1) × IsBytes y.1 × IsOpIn v y.0 in
      let none : IsBytes [] = λ i. omega arith in
      subst P (ok_is (build bytes, []) x e) (same bytes ∙ sym (append-nil (op_text (build bytes))), none, g bytes);
}

text_insert_completes : (v : ℕ) → Completes (IsOpIn v) op_text (front 11) text_insert_at
unfolding text_insert_at
text_insert_completes v =
    takes_then text_name_field (IsOpIn v) op_text (front 11) _
    (λ b gb. takes_then (optional_field element_name_field) (IsOpIn v) op_text (λ t. 11 ∷ (text_name b ++ t)) _
    (λ a ga. record {
      takes = λ bytes x fits e.
          let P : Op × List ℕ → Type 0 =
          λ y. (11 ∷ (text_name b ++ (optional element_name a ++ bytes)) ≡ op_text y.0 ++ y.1) × IsBytes y.1 × IsOpIn v y.0 in
          let none : IsBytes [] = λ i. omega arith in
          let same : 11 ∷ (text_name b ++ (optional element_name a ++ bytes)) ≡ op_text (TextInsert b a bytes) ++ [] =
          ap (λ (t : List ℕ). 11 ∷ t) (sym (append_assoc (text_name b) (optional element_name a) bytes))
          ∙ sym (append-nil (op_text (TextInsert b a bytes))) in
          subst P (ok_is (TextInsert b a bytes, []) x e) (same, none, ((gb, ga), tt));
    }))

-- at a number that a test found
takes_at : (v : ℕ) (n f : ℕ) (read : List ℕ → Field Op) → f ≡ n → Completes (IsOpIn v) op_text (front n) read
    → Completes (IsOpIn v) op_text (front f) read
takes_at v n f read e c = subst (λ (k : ℕ). Completes (IsOpIn v) op_text (front k) read) (sym e) c

mapped_at : (v : ℕ) {A : Type 0} {good : A → Type 0} {spell : A → List ℕ} {read : List ℕ → Field A} (field : IsField good spell read) (n : ℕ) (build : A → Op)
    → ((a : A) → good a → IsOpIn v (build a)) → ((a : A) (t : List ℕ) → front n (spell a ++ t) ≡ op_text (build a) ++ t)
    → Completes (IsOpIn v) op_text (front n) (λ bytes. mapped build (read bytes))
mapped_at v field n build g same = takes_mapped field (IsOpIn v) op_text (front n) build g same

-- the op of any number
pub op_completes : (v f : ℕ) → Completes (IsOpIn v) op_text (front f) (op_at v f)
unfolding op_at
op_completes v f =
    takes_choice (IsOpIn v) op_text (front f) (eqb f 1) (λ t. Ok (Genesis t, [])) (λ t. cond (eqb f 2) (mapped SetHeader (header_setting_at t)) (cond (eqb f 3) (mapped BoardAdd (string_at t)) (cond (eqb f 4) (mapped BoardRemove (board_name_at t)) (cond (eqb f 5) (set_board_at v t) (cond (eqb f 6) (set_cells_at t) (cond (eqb f 7) (stat_add_at t) (cond (eqb f 8) (mapped StatRemove (stat_name_at t)) (cond (eqb f 9) (set_stat_at t) (cond (eqb f 10) (Ok (TextAdd, t)) (cond (eqb f 11) (text_insert_at t) (cond (eqb f 12) (text_delete_at t) (Err (BadEdit BadOp)))))))))))))
    (λ e. takes_at v 1 f (λ t. Ok (Genesis t, [])) (eqb-true f 1 e) (takes_whole v 1 Genesis (λ t. (tt, tt)) (λ t. refl)))
    (λ n1. takes_choice (IsOpIn v) op_text (front f) (eqb f 2) (λ t. mapped SetHeader (header_setting_at t)) (λ t. cond (eqb f 3) (mapped BoardAdd (string_at t)) (cond (eqb f 4) (mapped BoardRemove (board_name_at t)) (cond (eqb f 5) (set_board_at v t) (cond (eqb f 6) (set_cells_at t) (cond (eqb f 7) (stat_add_at t) (cond (eqb f 8) (mapped StatRemove (stat_name_at t)) (cond (eqb f 9) (set_stat_at t) (cond (eqb f 10) (Ok (TextAdd, t)) (cond (eqb f 11) (text_insert_at t) (cond (eqb f 12) (text_delete_at t) (Err (BadEdit BadOp))))))))))))
    (λ e. takes_at v 2 f (λ t. mapped SetHeader (header_setting_at t)) (eqb-true f 2 e) (mapped_at v header_setting_field 2 SetHeader (λ a g. (g, tt)) (λ a t. refl)))
    (λ n2. takes_choice (IsOpIn v) op_text (front f) (eqb f 3) (λ t. mapped BoardAdd (string_at t)) (λ t. cond (eqb f 4) (mapped BoardRemove (board_name_at t)) (cond (eqb f 5) (set_board_at v t) (cond (eqb f 6) (set_cells_at t) (cond (eqb f 7) (stat_add_at t) (cond (eqb f 8) (mapped StatRemove (stat_name_at t)) (cond (eqb f 9) (set_stat_at t) (cond (eqb f 10) (Ok (TextAdd, t)) (cond (eqb f 11) (text_insert_at t) (cond (eqb f 12) (text_delete_at t) (Err (BadEdit BadOp)))))))))))
    (λ e. takes_at v 3 f (λ t. mapped BoardAdd (string_at t)) (eqb-true f 3 e) (mapped_at v string_field 3 BoardAdd (λ a g. (g, tt)) (λ a t. refl)))
    (λ n3. takes_choice (IsOpIn v) op_text (front f) (eqb f 4) (λ t. mapped BoardRemove (board_name_at t)) (λ t. cond (eqb f 5) (set_board_at v t) (cond (eqb f 6) (set_cells_at t) (cond (eqb f 7) (stat_add_at t) (cond (eqb f 8) (mapped StatRemove (stat_name_at t)) (cond (eqb f 9) (set_stat_at t) (cond (eqb f 10) (Ok (TextAdd, t)) (cond (eqb f 11) (text_insert_at t) (cond (eqb f 12) (text_delete_at t) (Err (BadEdit BadOp))))))))))
    (λ e. takes_at v 4 f (λ t. mapped BoardRemove (board_name_at t)) (eqb-true f 4 e) (mapped_at v board_name_field 4 BoardRemove (λ a g. (g, tt)) (λ a t. refl)))
    (λ n4. takes_choice (IsOpIn v) op_text (front f) (eqb f 5) (λ t. set_board_at v t) (λ t. cond (eqb f 6) (set_cells_at t) (cond (eqb f 7) (stat_add_at t) (cond (eqb f 8) (mapped StatRemove (stat_name_at t)) (cond (eqb f 9) (set_stat_at t) (cond (eqb f 10) (Ok (TextAdd, t)) (cond (eqb f 11) (text_insert_at t) (cond (eqb f 12) (text_delete_at t) (Err (BadEdit BadOp)))))))))
    (λ e. takes_at v 5 f (λ t. set_board_at v t) (eqb-true f 5 e) (set_board_completes v))
    (λ n5. takes_choice (IsOpIn v) op_text (front f) (eqb f 6) (λ t. set_cells_at t) (λ t. cond (eqb f 7) (stat_add_at t) (cond (eqb f 8) (mapped StatRemove (stat_name_at t)) (cond (eqb f 9) (set_stat_at t) (cond (eqb f 10) (Ok (TextAdd, t)) (cond (eqb f 11) (text_insert_at t) (cond (eqb f 12) (text_delete_at t) (Err (BadEdit BadOp))))))))
    (λ e. takes_at v 6 f (λ t. set_cells_at t) (eqb-true f 6 e) (set_cells_completes v))
    (λ n6. takes_choice (IsOpIn v) op_text (front f) (eqb f 7) (λ t. stat_add_at t) (λ t. cond (eqb f 8) (mapped StatRemove (stat_name_at t)) (cond (eqb f 9) (set_stat_at t) (cond (eqb f 10) (Ok (TextAdd, t)) (cond (eqb f 11) (text_insert_at t) (cond (eqb f 12) (text_delete_at t) (Err (BadEdit BadOp)))))))
    (λ e. takes_at v 7 f (λ t. stat_add_at t) (eqb-true f 7 e) (stat_add_completes v))
    (λ n7. takes_choice (IsOpIn v) op_text (front f) (eqb f 8) (λ t. mapped StatRemove (stat_name_at t)) (λ t. cond (eqb f 9) (set_stat_at t) (cond (eqb f 10) (Ok (TextAdd, t)) (cond (eqb f 11) (text_insert_at t) (cond (eqb f 12) (text_delete_at t) (Err (BadEdit BadOp))))))
    (λ e. takes_at v 8 f (λ t. mapped StatRemove (stat_name_at t)) (eqb-true f 8 e) (mapped_at v stat_name_field 8 StatRemove (λ a g. (g, tt)) (λ a t. refl)))
    (λ n8. takes_choice (IsOpIn v) op_text (front f) (eqb f 9) (λ t. set_stat_at t) (λ t. cond (eqb f 10) (Ok (TextAdd, t)) (cond (eqb f 11) (text_insert_at t) (cond (eqb f 12) (text_delete_at t) (Err (BadEdit BadOp)))))
    (λ e. takes_at v 9 f (λ t. set_stat_at t) (eqb-true f 9 e) (set_stat_completes v))
    (λ n9. takes_choice (IsOpIn v) op_text (front f) (eqb f 10) (λ t. Ok (TextAdd, t)) (λ t. cond (eqb f 11) (text_insert_at t) (cond (eqb f 12) (text_delete_at t) (Err (BadEdit BadOp))))
    (λ e. takes_at v 10 f (λ t. Ok (TextAdd, t)) (eqb-true f 10 e) (takes_end (IsOpIn v) op_text (front 10) TextAdd (tt, tt) (λ t. refl)))
    (λ n10. takes_choice (IsOpIn v) op_text (front f) (eqb f 11) (λ t. text_insert_at t) (λ t. cond (eqb f 12) (text_delete_at t) (Err (BadEdit BadOp)))
    (λ e. takes_at v 11 f (λ t. text_insert_at t) (eqb-true f 11 e) (text_insert_completes v))
    (λ n11. takes_choice (IsOpIn v) op_text (front f) (eqb f 12) (λ t. text_delete_at t) (λ t. Err (BadEdit BadOp))
    (λ e. takes_at v 12 f (λ t. text_delete_at t) (eqb-true f 12 e) (text_delete_completes v))
    (λ n12. takes_none (IsOpIn v) op_text (front f) (BadEdit BadOp)))))))))))))

abbrev Again : ℕ → Op → Type 0
Again v op = (byte_at (op_text op) >>= λ n. op_at v n.0 n.1) ≡ Ok (op, [])

-- one field that ends the body
last : {A : Type 0} {good : A → Type 0} {spell : A → List ℕ} {read : List ℕ → Field A} (field : IsField good spell read) (a : A) → good a
    → read (spell a) ≡ Ok (a, [])
last {read} field a g = ap read (sym (append-nil _)) ∙ field.again a [] g

last_mapped : {A : Type 0} {good : A → Type 0} {spell : A → List ℕ} {read : List ℕ → Field A} (field : IsField good spell read) (build : A → Op) (a : A)
    → good a
    → mapped build (read (spell a)) ≡ Ok (build a, [])
last_mapped {A} field build a g = ap (λ (x : Field A). mapped build x) (last field a g)

abbrev pair_built : {A B : Type 0} → (A → B → Op) → A → B × List ℕ → Field Op
pair_built build a y = Ok (build a y.0, y.1)

abbrev built : {A B : Type 0} → (A → B → Op) → (List ℕ → Field B) → A × List ℕ → Field Op
built build read_b x = read_b x.1 >>= λ y. pair_built build x.0 y

abbrev op_and_nothing : Op → Field Op
op_and_nothing op = Ok (op, [])

last_two : {A B : Type 0} {good : A → Type 0} {spell : A → List ℕ} {read : List ℕ → Field A} {good_b : B → Type 0} {spell_b : B → List ℕ} {read_b : List ℕ → Field B} (field : IsField good spell read) (field_b : IsField good_b spell_b read_b) (build : A → B → Op) (a : A) (b : B)
    → good a → good_b b → (read (spell a ++ spell_b b) >>= built build read_b) ≡ op_and_nothing (build a b)
last_two {A} {B} {good} {spell} {read} {good_b} {spell_b} {read_b} field field_b build a b g h =
    again_then field (built build read_b) (spell_b b) (op_and_nothing (build a b)) a g (ap (λ (z : Field B). z >>= λ y. pair_built build a y) (last field_b b h))

pub op_again : (v : ℕ) (op : Op) → IsOpIn v op → Again v op
unfolding op_at byte_at set_board_at set_cells_at stat_add_at set_stat_at text_insert_at text_delete_at
op_again v (Genesis bytes) g = refl
op_again v (SetHeader s) g = last_mapped header_setting_field SetHeader s g.0
op_again v (BoardAdd s) g = last_mapped string_field BoardAdd s g.0
op_again v (BoardRemove b) g = last_mapped board_name_field BoardRemove b g.0
op_again v (SetBoard b s) g = last_two board_name_field (board_setting_field v) SetBoard b s g.0.0 (g.0.1, g.1)
op_again v (SetCells b r t) g =
    ap set_cells_at (append_assoc (board_name b) (rectangle r) (tile t))
    ∙ again_then board_name_field _ (rectangle r ++ tile t) (Ok (SetCells b r t, [])) b g.0.0 (last_two rectangle_field tile_field (SetCells b) r t g.0.1 g.0.2)
op_again v (StatAdd b f) g = last_two board_name_field stat_fields_field StatAdd b f g.0.0 g.0.1
op_again v (StatRemove s) g = last_mapped stat_name_field StatRemove s g.0
op_again v (SetStat s x) g = last_two stat_name_field stat_setting_field SetStat s x g.0.0 g.0.1
op_again v TextAdd g = refl
op_again v (TextInsert t a bytes) g =
    ap text_insert_at (append_assoc (text_name t) (optional element_name a) bytes)
    ∙ again_then text_name_field _ (optional element_name a ++ bytes) (Ok (TextInsert t a bytes, [])) t g.0.0 (again_then (optional_field element_name_field) _ bytes (Ok (TextInsert t a bytes, [])) a g.0.1 refl)
op_again v (TextDelete t r) g =
    ap text_delete_at (range_behind t r)
    ∙ last_two text_name_field range_field TextDelete t r g.0.0 g.0.1
