-- Texts that show the edits taken are those of the replay.
use Rattle.std.proofs.Common.{◌≡◌, ◌∙◌, Bool, true, false, cond, List, [], ◌∷◌, Some, refl, ap, sym}
use Rattle.std.specs.List.{AllByRecursion}
use Rattle.std.specs.Option.{option_map}
use Rattle.zed_types.specs.declared.names.Name.{Name}
use Rattle.zed_types.specs.declared.names.TextId.{TextId}
use Rattle.zed_types.specs.declared.text.TextByte.{TextByte}
use Rattle.zed_types.specs.Names.{same_text, NamesRise, is_earlier}
use Rattle.zed_types.proofs.StampOrder.{same_text-true, same_text-itself}
use Rattle.zed_edit.specs.declared.plain.Text.{Text}
use Rattle.zed_edit.specs.Document.{find_text, made_elements}
use Rattle.zed_edit.specs.Replay.{replay}
use Rattle.zed_laws.proofs.NamesInOrder.{replay_ordered}
use Rattle.zed_laws.proofs.TakenAlone.{taken_make_all}
use Rattle.zed_laws.proofs.OrderedLists.{ordered_are_their_members}
use Rattle.zed_texts.specs.ByName.{text_name, text_in}
use Rattle.zed_texts.specs.Texts.{Elements}
use Rattle.zed_texts.specs.Shows.{shown_texts, ReplayedTextsAreShown}
use Rattle.zed_stats.proofs.Found.{apart}

-- a text of these elements
abbrev with_name : TextId → List TextByte → Text
with_name t ys = record { id = t; elements = ys }

abbrev text_at : Name → TextId
text_at n = record { name = n }

all-shown : (n : Name) (xs : Elements) → AllByRecursion (λ x. is_earlier n (x.0).name ≡ true) xs
    → AllByRecursion (λ (x : Text). is_earlier n x.id.name ≡ true) (shown_texts xs)
all-shown n [] a = tt
all-shown n (x ∷ xs) a = (a.0, all-shown n xs a.1)

rise-shown : (xs : Elements) → NamesRise (λ x. (x.0).name) xs → NamesRise (λ (x : Text). x.id.name) (shown_texts xs)
rise-shown [] r = tt
rise-shown (x ∷ xs) r = (all-shown (x.0).name xs r.0, rise-shown xs r.1)

find-shown : (t : TextId) (xs : Elements) → find_text t (shown_texts xs) ≡ option_map (with_name t) (text_in t xs)
find-shown t [] = refl
find-shown t (x ∷ xs) = go (same_text t x.0) refl (find-shown t xs)
  where
    go : (v : Bool) → same_text t x.0 ≡ v → find_text t (shown_texts xs) ≡ option_map (with_name t) (text_in t xs)
        → cond (same_text x.0 t) (Some (with_name x.0 x.1)) (find_text t (shown_texts xs))
        ≡ option_map (with_name t) (cond v (Some x.1) (text_in t xs))
    go true v more =
        let i : t ≡ x.0 = same_text-true t x.0 v in
        let w : same_text x.0 t ≡ true = ap (λ d. same_text d t) (sym i) ∙ same_text-itself t in
        rw w (ap (λ d. Some (with_name d x.1)) (sym i))
    go false v more =
        let w : same_text x.0 t ≡ false = apart text_name t x.0 v in
        rw w more

-- the text found has the name
find-whole : (t : TextId) (ts : List Text) → option_map (with_name t) (option_map (λ x. x.elements) (find_text t ts)) ≡ find_text t ts
find-whole t [] = refl
find-whole t (x ∷ ts) = go (same_text x.id t) refl (find-whole t ts)
  where
    go : (v : Bool) → same_text x.id t ≡ v → option_map (with_name t) (option_map (λ y. y.elements) (find_text t ts)) ≡ find_text t ts
        → option_map (with_name t) (option_map (λ y. y.elements) (cond v (Some x) (find_text t ts))) ≡ cond v (Some x) (find_text t ts)
    go true v more = ap (λ d. Some (with_name d x.elements)) (sym (same_text-true x.id t v))
    go false v more = more

pub replayed_texts_are_shown : ReplayedTextsAreShown
replayed_texts_are_shown es xs rises was =
    ordered_are_their_members (λ (x : Text). x.id.name) (shown_texts xs) (replay es).texts (rise-shown xs was.rise) (replay_ordered es rises).texts
    (λ n. find-shown (text_at n) xs ∙ ap (option_map (with_name (text_at n))) (was.each (text_at n))
    ∙ ap (λ p. option_map (with_name (text_at n)) (made_elements p (text_at n))) (taken_make_all es).0
    ∙ find-whole (text_at n) (replay es).texts)
