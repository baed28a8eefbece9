-- Names by number, with the same names in another order beside.
use Rattle.std.proofs.Common.{◌≡◌, ◌∙◌, ℕ, ◌<◌, Bool, List, [], ◌∷◌, length, map, get_or, find, Option, Some, None, IfSome, option_map, refl, sym, ap, subst}
use Rattle.std.specs.Prelude.{position}
use Rattle.std.specs.List.{AllByRecursion}
use Rattle.std.proofs.lemmas.List.{get_or-map}
use Rattle.zed_types.specs.declared.names.Name.{Name}
use Rattle.zed_types.specs.declared.names.BoardId.{BoardId}
use Rattle.zed_types.specs.Names.{same_board, same_name}
use Rattle.zed_types.proofs.StampOrder.{same_name-true}
use Rattle.zed_edit.specs.declared.plain.Board.{Board}
use Rattle.zed_edit.specs.declared.plain.Plain.{Plain}
use Rattle.zed_edit.specs.Numbers.{boards_before, boards_there, by_number}
use Rattle.zed_edit.proofs.Numbering.{places-so}
use Rattle.zed_edit.proofs.Ordered.{found-is}
use Rattle.zed_laws.specs.NameOrder.{IsOrdered}
use Rattle.zed_laws.proofs.ApartBoards.{boards_there_are_apart}
use Rattle.zed_export.specs.ByNumber.{AreBeside}
use Rattle.zed_export.specs.Fields.{board_names, place_among}
use Rattle.zed_export.proofs.NameSearch.{found_there}
use Rattle.zed_export.proofs.Names.{position_mapped}
use Rattle.zed_export.proofs.Searching.{found_within}

-- a name that no board has has no number
pub none_there : (p : Plain) → IsOrdered p → (name : Name) → place_among (map (λ b. b.id.name) (boards_there p)) name ≡ None
    → place_among (board_names p) name ≡ None
none_there p h name e =
    let id : BoardId = record { name = name } in
    let bs = boards_there p in
    let missing : None ≡ position (λ b. same_board b.id id) bs =
    sym e ∙ position_mapped (λ (b : Board). b.id.name) (λ x. same_name x name) bs in
    let none : find (λ b. same_board b.id id) bs ≡ None = found_there_none (λ b. same_board b.id id) bs missing in
    position_mapped (λ (b : Board). b.id.name) (λ x. same_name x name) (by_number bs)
    ∙ sym (places-so bs (boards_there_are_apart p h) id)
    ∙ ap (option_map (boards_before bs)) none
  where
    found_there_none : (test : Board → Bool) (bs : List Board) → None ≡ position test bs → find test bs ≡ None
    found_there_none test [] e = refl
    found_there_none test (b ∷ bs) e = found_there test (b ∷ bs) b None e

-- the member of a name is of that name
named : (names : List Name) (name : Name) (k : ℕ) → place_among names name ≡ Some k → get_or names k name ≡ name
named names name k e =
    let test : Name → Bool = λ x. same_name x name in
    let found = found_there test names name (Some k) (sym e) in
    let is = found-is test (λ x. test x ≡ test x) names (get_or names k name) (each names) found in
    same_name-true (get_or names k name) name is.0
  where
    each : (xs : List Name) → AllByRecursion (λ x. same_name x name ≡ same_name x name) xs
    each [] = tt
    each (x ∷ xs) = (refl, each xs)

-- the number beside a name is its number
pub beside : (by_number names : List Name) (numbers : List (Option ℕ)) → AreBeside by_number names numbers
    → (name : Name) (k : ℕ) (d : Option ℕ) → place_among names name ≡ Some k
    → get_or numbers k d ≡ place_among by_number name
beside by_number names numbers h name k d e =
    let within : k < length names = subst (λ o. IfSome o (λ n. n < length names)) e (found_within (λ x. same_name x name) names) in
    ap (λ (ns : List (Option ℕ)). get_or ns k d) h.each
    ∙ get_or-map (place_among by_number) names k name d within
    ∙ ap (place_among by_number) (named names name k e)
