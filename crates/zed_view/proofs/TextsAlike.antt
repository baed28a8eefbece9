-- A text of a number, among live texts and among those that they show.
use Rattle.std.proofs.Common.{◌≡◌, ◌∙◌, ◌↔◌, ℕ, zero, suc, [], ◌∷◌, slice_get, Some, ap, sym}
use Rattle.zed_types.specs.declared.names.TextId.{TextId}
use Rattle.zed_types.proofs.Facts.{some_is}
use Rattle.zed_code.specs.Pieces.{Shown}
use Rattle.zed_texts.specs.Shows.{shown_texts}
use Rattle.zed_texts.specs.Texts.{Texts, elements_of}
use Rattle.zed_view.specs.Shown.{shown_text}

shown_at : (ys : Texts) (i : ℕ) (t : TextId) (v : Shown) → slice_get ys i ≡ Some (t, v)
    → slice_get (shown_texts (elements_of ys)) i ≡ Some (shown_text t v)
shown_at [] i t v h = absurd (cc)
shown_at (y ∷ ys) zero t v h = ap (λ x. Some (shown_text x.0 x.1)) (some_is y (t, v) h)
shown_at (y ∷ ys) (suc i) t v h = shown_at ys i t v h

-- two of them are shown alike just where the lists show the some_is there
pub texts_alike : (xs ys : Texts) (i : ℕ) (t u : TextId) (v w : Shown)
    → slice_get xs i ≡ Some (t, v) → slice_get ys i ≡ Some (u, w)
    → (shown_text t v ≡ shown_text u w) ↔ (slice_get (shown_texts (elements_of xs)) i ≡ slice_get (shown_texts (elements_of ys)) i)
texts_alike xs ys i t u v w h k = (
  λ e. shown_at xs i t v h ∙ ap Some e ∙ sym (shown_at ys i u w k),
  λ e. some_is (shown_text t v) (shown_text u w) (sym (shown_at xs i t v h) ∙ e ∙ shown_at ys i u w k),
)
