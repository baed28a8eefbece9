-- Live parts have what the replay of the edits that they show has.
use Rattle.std.proofs.Common.{◌≡◌, ◌∙◌, List, [], Option, Some, None, refl, ap, sym}
use Rattle.std.specs.List.{list_any, list_all}
use Rattle.std.specs.Option.{is_some, option_map}
use mathlib.Core.Path.{fun_ext}
use Rattle.zed_types.specs.Names.{same_text, same_element}
use Rattle.zed_types.proofs.Facts.{is_some-map}
use Rattle.zed_op.specs.declared.op.Edit.{Edit}
use Rattle.zed_op.specs.declared.thing.Thing.{Thing}
use Rattle.zed_op.specs.declared.thing.Thing.TheVariants.{Board as board, Stat as stat, Text as text, Element as element}
use Rattle.zed_op.specs.Names.{names_of}
use Rattle.zed_op.specs.Set.{IsRising}
use Rattle.zed_edit.specs.declared.plain.Text.{Text}
use Rattle.zed_edit.specs.Document.{empty_document, has, find_text, elements_in}
use Rattle.zed_edit.specs.Replay.{replay, taken, held}
use Rattle.zed_laws.proofs.LatestWrites.{taken-rising}
use Rattle.zed_laws.proofs.MadeThings.{find-any}
use Rattle.zed_laws.proofs.TakenAlone.{taken_make_all}
use Rattle.zed_laws.specs.Making.{makes}
use Rattle.zed_laws.proofs.Making.{taken_make, all-taken}
use Rattle.zed_live.proofs.MadeThere.{made_things_are_there}
use Rattle.zed_code.specs.Text.{elements}
use Rattle.zed_texts.specs.ByName.{text_in}
use Rattle.zed_texts.specs.Texts.{elements_or_none}
use Rattle.zed_texts.proofs.TextElements.{in-elements}
use Rattle.zed_delivery.specs.Shows.{ContentHasAll, ContentTellsCan, BodyHasAll, BodyTellsCan}
use Rattle.zed_delivery.proofs.Cascades.{forgetful}

-- so all made what is there
made : (done : List Edit) (x : Thing) → IsRising done → held done ≡ [] → list_any (λ e. makes e x) done ≡ has (replay done) x
made done x r n = ap (list_any (λ e. makes e x)) (sym (all-taken empty_document done n)) ∙ sym (taken_make done x r)

or-none : (o : Option Text) → elements_or_none (option_map (λ x. x.elements) o) ≡ elements_in o
or-none None = refl
or-none (Some x) = refl

pub content_has : ContentHasAll
content_has done live texts (board b) r n was =
    (made_things_are_there done live.boards r was.live.boards).boards b ∙ made done (board b) r n
content_has done live texts (stat x) r n was = (made_things_are_there done live.boards r was.live.boards).stats x ∙ made done (stat x) r n
content_has done live texts (text t) r n was =
    sym (is_some-map elements (text_in t texts))
    ∙ ap is_some (sym (in-elements t texts) ∙ was.texts.each t)
    ∙ is_some-map (λ x. x.elements) (find_text t (replay done).texts)
    ∙ find-any (λ x. same_text x.id t) (replay done).texts
content_has done live texts (element t a) r n was =
    ap (λ o. list_any (λ x. same_element x.id a) (elements_or_none o)) (was.texts.each t)
    ∙ ap (list_any (λ x. same_element x.id a)) (or-none (find_text t (replay done).texts))

pub content_can : ContentTellsCan
content_can done live texts e r n was = ap (λ q. list_all q (names_of e.op)) (fun_ext (λ x. content_has done live texts x r n was))

pub body_has : BodyHasAll
body_has es b x r was =
    let all = taken_make_all es in
    content_has (taken es) b.live b.texts x (taken-rising empty_document es r) all.1 was.content
    ∙ ap (λ p. has p x) all.0
    ∙ forgetful (replay es) x

pub body_can : BodyTellsCan
body_can es b e r was = ap (λ q. list_all q (names_of e.op)) (fun_ext (λ x. body_has es b x r was))
