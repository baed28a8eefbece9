-- Names, optional names, ranges of bytes and third parameters: what is read is spelled so, and what is spelled is read again.
use Rattle.std.proofs.Common.{◌≡◌, ℕ, Bool, true, false, cond, List, ◌∷◌, ◌++◌, Option, Some, None, Ok, Err, refl, sym, ap, subst, ◌∙◌, append_assoc}
use Rattle.std.specs.Prelude.{IfSome}
use Rattle.std.specs.Option.{option_map}
use Rattle.zed_types.specs.declared.names.Name.{Name}
use Rattle.zed_types.specs.declared.names.BoardId.{BoardId}
use Rattle.zed_types.specs.declared.names.StatId.{StatId}
use Rattle.zed_types.specs.declared.names.TextId.{TextId}
use Rattle.zed_types.specs.declared.names.ElemId.{ElemId}
use Rattle.zed_types.specs.declared.text.ByteRange.{ByteRange}
use Rattle.zed_types.specs.declared.stat_field.ThirdParameter.{ThirdParameter}
use Rattle.zed_types.specs.declared.stat_field.ThirdParameter.TheVariants as third
use Rattle.zed_editfile.specs.Spelling.{number, boolean, stamp, name, board_name, stat_name, text_name, element_name, optional, third_parameter}
use Rattle.zed_types.specs.Steps.{◌>>=◌}
use Rattle.zed_editfile.specs.Reading.{Field, mapped, byte_at, boolean_at, name_at, board_with, stat_with, text_with, element_with, board_name_at, stat_name_at, text_name_at, element_name_at, optional_at, range_at, third_parameter_at}
use Rattle.zed_op.specs.Sizes.{IsName, IsRange, IsThirdParameter}
use Rattle.zed_editfile.proofs.Codec.{IsField, Completes, takes_then, takes_end, takes_all, takes_mapped, takes_choice, again_then, again_mapped, byte_field, number_field, boolean_field, stamp_field}

abbrev pub IsBoardName : BoardId → Type 0
IsBoardName b = IsName b.name

abbrev pub IsStatName : StatId → Type 0
IsStatName s = IsName s.name

abbrev pub IsTextName : TextId → Type 0
IsTextName t = IsName t.name

abbrev pub IsElementName : ElemId → Type 0
IsElementName a = IsName a.name

name_completes : Completes IsName name (λ t. t) name_at
unfolding name_at name
name_completes =
    takes_then stamp_field IsName name (λ t. t) _
    (λ made gm. takes_then (number_field 4) IsName name (λ t. stamp made ++ t) _
    (λ n gn. takes_end IsName name (λ t. stamp made ++ (number 4 n ++ t)) (record { stamp = made; index = n }) (gm, gn) (λ t. sym (append_assoc (stamp made) (number 4 n) t))))

name_again : (n : Name) (rest : List ℕ) → IsName n → name_at (name n ++ rest) ≡ Ok (n, rest)
unfolding name_at name
name_again n rest g =
    ap name_at (append_assoc (stamp n.stamp) (number 4 n.index) rest)
    ∙ again_then stamp_field _ (number 4 n.index ++ rest) (Ok (n, rest)) n.stamp g.0 (again_then (number_field 4) _ rest (Ok (n, rest)) n.index g.1 refl)

name_field : IsField IsName name name_at
name_field = record { again = name_again; takes = takes_all IsName name name_at name_completes }

-- a name, as that of one kind of things
kind_field : {A : Type 0} (make : Name → A) (named : A → Name) → ((a : A) → make (named a) ≡ a) → ((n : Name) → named (make n) ≡ n)
    → IsField (λ a. IsName (named a)) (λ a. name (named a)) (λ bytes. mapped make (name_at bytes))
kind_field {A} make named back forth = record {
  again = λ a rest g. again_mapped name_field make rest (named a) g ∙ ap (λ (x : A). Ok (x, rest)) (back a);
  takes = takes_all (λ a. IsName (named a)) (λ a. name (named a)) (λ bytes. mapped make (name_at bytes))
      (takes_mapped name_field (λ a. IsName (named a)) (λ a. name (named a)) (λ t. t) make (λ n g. subst IsName (sym (forth n)) g) (λ n t. ap (λ (m : Name). name m ++ t) (sym (forth n))));
}

pub board_name_field : IsField IsBoardName board_name board_name_at
unfolding board_name_at
board_name_field = kind_field board_with (λ b. b.name) (λ b. refl) (λ n. refl)

pub stat_name_field : IsField IsStatName stat_name stat_name_at
unfolding stat_name_at
stat_name_field = kind_field stat_with (λ s. s.name) (λ s. refl) (λ n. refl)

pub text_name_field : IsField IsTextName text_name text_name_at
unfolding text_name_at
text_name_field = kind_field text_with (λ t. t.name) (λ t. refl) (λ n. refl)

pub element_name_field : IsField IsElementName element_name element_name_at
unfolding element_name_at
element_name_field = kind_field element_with (λ a. a.name) (λ a. refl) (λ n. refl)

optional_completes : {A : Type 0} {good : A → Type 0} {spell : A → List ℕ} {read : List ℕ → Field A} → IsField good spell read
    → Completes (λ o. IfSome o good) (optional spell) (λ t. t) (optional_at read)
unfolding optional_at
optional_completes {A} {good} {spell} {read} field =
    takes_then boolean_field (λ o. IfSome o good) (optional spell) (λ t. t) (λ tag. cond tag.0 (mapped Some (read tag.1)) (Ok (None, tag.1)))
    (λ tag gt.
    takes_choice (λ o. IfSome o good) (optional spell) (λ t. boolean tag ++ t) tag (λ t. mapped Some (read t)) (λ t. Ok (None, t))
    (λ e. takes_mapped field (λ o. IfSome o good) (optional spell) (λ t. boolean tag ++ t) Some (λ a g. g) (λ a t. ap (λ b. boolean b ++ (spell a ++ t)) e))
    (λ e. takes_end (λ o. IfSome o good) (optional spell) (λ t. boolean tag ++ t) None tt (λ t. ap (λ b. boolean b ++ t) e)))

optional_again : {A : Type 0} {good : A → Type 0} {spell : A → List ℕ} {read : List ℕ → Field A} → IsField good spell read
    → (o : Option A) (rest : List ℕ) → IfSome o good
    → optional_at read (optional spell o ++ rest) ≡ Ok (o, rest)
unfolding optional_at boolean_at byte_at
optional_again field None rest g = refl
optional_again field (Some x) rest g = again_mapped field Some rest x g

pub optional_field : {A : Type 0} {good : A → Type 0} {spell : A → List ℕ} {read : List ℕ → Field A} → IsField good spell read
    → IsField (λ o. IfSome o good) (optional spell) (optional_at read)
optional_field {A} {good} {spell} {read} field = record { again = optional_again field; takes = takes_all (λ o. IfSome o good) (optional spell) (optional_at read) (optional_completes field) }

abbrev pub range_text : ByteRange → List ℕ
range_text r = stamp r.stamp ++ number 4 r.first ++ number 4 r.last

range_completes : Completes IsRange range_text (λ t. t) range_at
unfolding range_at
range_completes =
    takes_then stamp_field IsRange range_text (λ t. t) _
    (λ made gm. takes_then (number_field 4) IsRange range_text (λ t. stamp made ++ t) _
    (λ first gf. takes_then (number_field 4) IsRange range_text (λ t. stamp made ++ (number 4 first ++ t)) _
    (λ last gl. takes_end IsRange range_text (λ t. stamp made ++ (number 4 first ++ (number 4 last ++ t))) (record { stamp = made; first = first; last = last }) (gm, gf, gl)
    (λ t. sym (append_assoc (stamp made ++ number 4 first) (number 4 last) t ∙ append_assoc (stamp made) (number 4 first) (number 4 last ++ t))))))

range_again : (r : ByteRange) (rest : List ℕ) → IsRange r → range_at (range_text r ++ rest) ≡ Ok (r, rest)
unfolding range_at
range_again r rest g =
    ap range_at (append_assoc (stamp r.stamp ++ number 4 r.first) (number 4 r.last) rest ∙ append_assoc (stamp r.stamp) (number 4 r.first) (number 4 r.last ++ rest))
    ∙ again_then stamp_field _ (number 4 r.first ++ (number 4 r.last ++ rest)) (Ok (r, rest)) r.stamp g.0
    (again_then (number_field 4) _ (number 4 r.last ++ rest) (Ok (r, rest)) r.first g.1 (again_then (number_field 4) _ rest (Ok (r, rest)) r.last g.2 refl))

pub range_field : IsField IsRange range_text range_at
range_field = record { again = range_again; takes = takes_all IsRange range_text range_at range_completes }

third_parameter_completes : Completes IsThirdParameter third_parameter (λ t. t) third_parameter_at
unfolding third_parameter_at
third_parameter_completes =
    takes_then boolean_field IsThirdParameter third_parameter (λ t. t) (λ tag. cond tag.0 (mapped third.Board (board_name_at tag.1)) (mapped third.Byte (byte_at tag.1)))
    (λ tag gt.
    takes_choice IsThirdParameter third_parameter (λ t. boolean tag ++ t) tag (λ t. mapped third.Board (board_name_at t)) (λ t. mapped third.Byte (byte_at t))
    (λ e. takes_mapped board_name_field IsThirdParameter third_parameter (λ t. boolean tag ++ t) third.Board (λ a g. g) (λ a t. ap (λ b. boolean b ++ (board_name a ++ t)) e))
    (λ e. takes_mapped byte_field IsThirdParameter third_parameter (λ t. boolean tag ++ t) third.Byte (λ a g. g) (λ a t. ap (λ b. boolean b ++ (a ∷ t)) e)))

third_parameter_again : (p : ThirdParameter) (rest : List ℕ) → IsThirdParameter p
    → third_parameter_at (third_parameter p ++ rest) ≡ Ok (p, rest)
unfolding third_parameter_at boolean_at byte_at
third_parameter_again (third.Byte n) rest g = refl
third_parameter_again (third.Board b) rest g = again_mapped board_name_field third.Board rest b g

pub third_parameter_field : IsField IsThirdParameter third_parameter third_parameter_at
third_parameter_field = record { again = third_parameter_again; takes = takes_all IsThirdParameter third_parameter third_parameter_at third_parameter_completes }

-- ---- an optional name is read in one way, whatever it is a name of

mapped_twice : {A : Type 0} (make : Name → A) (r : Field Name) → mapped Some (mapped make r) ≡ mapped (option_map make) (mapped Some r)
mapped_twice make (Err e) = refl
mapped_twice make (Ok x) = refl

optional_made : {A : Type 0} (make : Name → A) (tag : Bool × List ℕ)
    → cond tag.0 (mapped Some (mapped make (name_at tag.1))) (Ok (None, tag.1))
    ≡ mapped (option_map make) (cond tag.0 (mapped Some (name_at tag.1)) (Ok (None, tag.1)))
optional_made make (true, t) = mapped_twice make (name_at t)
optional_made make (false, t) = refl

tagged : {A : Type 0} (make : Name → A) (r : Field Bool)
    → (r >>= λ tag. cond tag.0 (mapped Some (mapped make (name_at tag.1))) (Ok (None, tag.1)))
    ≡ mapped (option_map make) (r >>= λ tag. cond tag.0 (mapped Some (name_at tag.1)) (Ok (None, tag.1)))
tagged make (Err e) = refl
tagged make (Ok tag) = optional_made make tag

pub optional_board : (bytes : List ℕ) → optional_at board_name_at bytes ≡ mapped (option_map board_with) (optional_at name_at bytes)
unfolding optional_at board_name_at
optional_board bytes = tagged board_with (boolean_at bytes)

pub optional_stat : (bytes : List ℕ) → optional_at stat_name_at bytes ≡ mapped (option_map stat_with) (optional_at name_at bytes)
unfolding optional_at stat_name_at
optional_stat bytes = tagged stat_with (boolean_at bytes)

pub optional_text : (bytes : List ℕ) → optional_at text_name_at bytes ≡ mapped (option_map text_with) (optional_at name_at bytes)
unfolding optional_at text_name_at
optional_text bytes = tagged text_with (boolean_at bytes)

pub optional_element : (bytes : List ℕ) → optional_at element_name_at bytes ≡ mapped (option_map element_with) (optional_at name_at bytes)
unfolding optional_at element_name_at
optional_element bytes = tagged element_with (boolean_at bytes)
