-- The text of a name, in live texts and in those that they show: its elements, and whether it is there.
use Rattle.std.proofs.Common.{◌≡◌, ◌∙◌, ℕ, ◌||◌, Bool, true, false, cond, List, [], ◌∷◌, Some, None, refl, ap, sym}
use Rattle.std.specs.List.{list_any}
use Rattle.std.specs.Option.{is_some}
use Rattle.zed_types.specs.declared.names.ElemId.{ElemId}
use Rattle.zed_types.specs.declared.names.TextId.{TextId}
use Rattle.zed_types.specs.declared.text.TextByte.{TextByte}
use Rattle.zed_types.specs.Names.{same_text}
use Rattle.zed_types.proofs.StampOrder.{same_text-true, same_text-itself}
use Rattle.zed_edit.specs.declared.plain.Text.{Text}
use Rattle.zed_edit.specs.Document.{find_text, elements_in}
use Rattle.zed_code.specs.Pieces.{Shown}
use Rattle.zed_code.specs.Text.{elements, names_between}
use Rattle.zed_code.proofs.Names.{part-none}
use Rattle.zed_stats.proofs.Found.{apart}
use Rattle.zed_texts.specs.ByName.{text_name, text_in}
use Rattle.zed_texts.specs.Texts.{Texts, elements_of}
use Rattle.zed_texts.specs.Shows.{shown_texts}
use Rattle.zed_view.specs.Shown.{spelled}

abbrev as_text : TextId → List TextByte → Text
as_text t xs = record { id = t; elements = xs }

elements-shown : (t : TextId) (ys : Texts) → elements_in (find_text t (shown_texts (elements_of ys))) ≡ spelled (text_in t ys)
elements-shown t [] = refl
elements-shown t (y ∷ ys) = go (same_text t y.0) refl (elements-shown t ys)
  where
    go : (v : Bool) → same_text t y.0 ≡ v → elements_in (find_text t (shown_texts (elements_of ys))) ≡ spelled (text_in t ys)
        → elements_in (cond (same_text y.0 t) (Some (as_text y.0 (elements y.1))) (find_text t (shown_texts (elements_of ys))))
        ≡ spelled (cond v (Some y.1) (text_in t ys))
    go true v more =
        let i : t ≡ y.0 = same_text-true t y.0 v in
        let w : same_text y.0 t ≡ true = ap (λ d. same_text d t) (sym i) ∙ same_text-itself t in
        rw w refl
    go false v more =
        let w : same_text y.0 t ≡ false = apart text_name t y.0 v in
        rw w more

-- those of a text that is there, and of none
pub of_some_text : (t : TextId) (ys : Texts) (v : Shown) → text_in t ys ≡ Some v
    → elements_in (find_text t (shown_texts (elements_of ys))) ≡ elements v
of_some_text t ys v h = elements-shown t ys ∙ ap spelled h

pub of_no_text : (t : TextId) (ys : Texts) → text_in t ys ≡ None → elements_in (find_text t (shown_texts (elements_of ys))) ≡ []
of_no_text t ys h = elements-shown t ys ∙ ap spelled h

-- nor has it names
pub no_names : (t : TextId) (ys : Texts) (from to : ℕ) → text_in t ys ≡ None
    → names_between from to (elements_in (find_text t (shown_texts (elements_of ys)))) ≡ []
no_names t ys from to h = ap (names_between from to) (of_no_text t ys h) ∙ part-none ElemId from to

-- whether it is there
pub is_made : (t : TextId) (ys : Texts) → is_some (text_in t ys) ≡ list_any (λ x. same_text x.id t) (shown_texts (elements_of ys))
is_made t [] = refl
is_made t (y ∷ ys) = go (same_text t y.0) refl (is_made t ys)
  where
    go : (v : Bool) → same_text t y.0 ≡ v → is_some (text_in t ys) ≡ list_any (λ x. same_text x.id t) (shown_texts (elements_of ys))
        → is_some (cond v (Some y.1) (text_in t ys)) ≡ (same_text y.0 t || list_any (λ x. same_text x.id t) (shown_texts (elements_of ys)))
    go true v more =
        let i : t ≡ y.0 = same_text-true t y.0 v in
        let w : same_text y.0 t ≡ true = ap (λ d. same_text d t) (sym i) ∙ same_text-itself t in
        rw w refl
    go false v more =
        let w : same_text y.0 t ≡ false = apart text_name t y.0 v in
        rw w more
