-- What a delivery tells of its looks.
use Rattle.std.proofs.Common.{◌≡◌, ◌∙◌, ◌⊎◌, ℕ, ◌≤◌, ◌<◌, ◌+◌, ◌-◌, ◌^◌, Bool, true, false, not, List, [], ◌∷◌, length, min, Option, Some, None, refl, ap, sym, subst, arith}
use Rattle.std.specs.Option.{is_some, option_map}
use Rattle.std.specs.Prelude.{IfSome}
use mathlib.Core.Logic.{inl, inr}
use Rattle.std.proofs.lemmas.List.{length-map}
use Rattle.std.proofs.lemmas.List.Sums.{count_by-le-length}
use Rattle.zed_types.specs.declared.names.TextId.{TextId}
use Rattle.zed_types.specs.Names.{same_text}
use Rattle.zed_types.proofs.StampOrder.{same_text-itself}
use Rattle.zed_types.proofs.Facts.{none_is}
use Rattle.zed_op.specs.declared.op.Op.{Op}
use Rattle.zed_op.specs.declared.op.Op.TheVariants.{TextInsert, TextDelete}
use Rattle.zed_op.specs.declared.op.Edit.{Edit}
use Rattle.zed_op.specs.Set.{with_edit}
use Rattle.zed_edit.specs.declared.plain.Plain.{Plain}
use Rattle.zed_edit.specs.declared.plain.Text.{Text}
use Rattle.zed_edit.specs.Document.{elements as shown_elements, elements_in, find_text, made_elements}
use Rattle.zed_edit.specs.Replay.{held, replay, taken}
use Rattle.zed_laws.specs.Laws.{HeldAreRemembered}
use Rattle.zed_laws.proofs.TakenAlone.{taken_make_all}
use Rattle.zed_code.specs.Pieces.{Piece, Shown}
use Rattle.zed_code.specs.Text.{elements}
use Rattle.zed_code.specs.Visits.{greatest}
use Rattle.zed_texts.specs.Looks.{greatest_sum}
use Rattle.zed_texts.specs.ByName.{text_in}
use Rattle.zed_texts.specs.Texts.{Texts, elements_of, changes_text, Grows, AllGrow}
use Rattle.zed_texts.specs.Shows.{TextsShow}
use Rattle.zed_texts.proofs.TextElements.{in-elements}
use Rattle.zed_delivery.specs.declared.body.Body.{Body}
use Rattle.zed_delivery.specs.declared.take.Taken.{Taken}
use Rattle.zed_delivery.specs.Counts.{HaveFew, NoneFalls, Works, edits_of}
use Rattle.zed_delivery.specs.Shows.{BodyShows}
use Rattle.zed_delivery.specs.Taking.{ComesTo, Tells, held_stamps, is_held}
use Rattle.zed_delivery.proofs.Stirring.{none_falls-itself}
use Rattle.zed_document.specs.declared.delivered.Delivered.{Delivered}
use Rattle.zed_document.specs.declared.delivered.State.TheVariants.{Taken as as_taken, Held, Known}
use Rattle.zed_document.specs.Counts.{added, capped, count_of, counts_of, total}
use Rattle.zed_document.specs.Delivery.{state_of}
use Rattle.zed_document.specs.Visits.{HasElement, CountHasRoom, TellsVisits, most_looks, text_changed}
use Rattle.zed_document.proofs.Looks.{Rise, counts-fall-not, looked-at, most-none, most-one, sum-law, texts-rise, total-room}

-- ---- a text with an element has a run

some-cutting : (ps : List Piece) → 0 < length (elements (record { cutting = ps; visits = 0 })) → 0 < length ps
some-cutting [] h = h
some-cutting (p ∷ ps) h = omega arith

is-there : (o : Option Shown) (f : Option Text) → option_map elements o ≡ option_map (λ x. x.elements) f → 0 < length (elements_in f)
    → (x : Shown) × (o ≡ Some x) × (0 < length x.cutting)
is-there o None h k = absurd (omega (arith, k))
is-there None (Some t) h k = absurd (cc)
is-there (Some x) (Some t) h k =
    let same : elements x ≡ t.elements = cc in
    (x, refl, some-cutting x.cutting (subst (λ ys. 0 < length ys) (sym same) k))

has-run : (es : List Edit) (t : TextId) (xs : Texts) → TextsShow (taken es) (elements_of xs) → 0 < length (shown_elements (replay es) t)
    → (x : Shown) × (text_in t xs ≡ Some x) × (0 < length x.cutting)
has-run es t xs shows h =
    let all : replay (taken es) ≡ record (replay es) { held = [] } = (taken_make_all es).0 in
    is-there (text_in t xs) (find_text t (replay es).texts) (sym (in-elements t xs) ∙ shows.each t ∙ ap (λ (p : Plain). made_elements p t) all) h

-- ---- by the op

most-of : (es : List Edit) (op : Op) (xs ys : Texts) → HaveFew (taken es) xs → Rise ys → AllGrow (λ t. changes_text t op) xs ys
    → added (counts_of xs) (counts_of ys) ≤ most_looks es (text_changed op)
most-of es (TextInsert t after bytes) xs ys few s grow = most-one t (edits_of t (taken es)) xs ys s grow (few t)
most-of es (TextDelete t range) xs ys few s grow = most-one t (edits_of t (taken es)) xs ys s grow (few t)
most-of es _ xs ys few s grow = most-none xs ys s grow

some-at : (es : List Edit) (t : TextId) (xs mid ys : Texts) → TextsShow (taken es) (elements_of xs)
    → 0 < length (shown_elements (replay es) t) → Grows (same_text t t) (text_in t xs) (text_in t mid) → NoneFalls mid ys
    → count_of t (counts_of ys) < greatest
    → 0 < added (counts_of xs) (counts_of ys)
some-at es t xs mid ys shows has grow falls room =
    let r = has-run es t xs shows has in
    looked-at t xs mid ys r.0 r.1 r.2 (subst (λ b. Grows b (text_in t xs) (text_in t mid)) (same_text-itself t) grow) (falls t) room

some-of : (es : List Edit) (op : Op) (xs mid ys : Texts) → TextsShow (taken es) (elements_of xs) → HasElement es (text_changed op)
    → AllGrow (λ t. changes_text t op) xs mid → NoneFalls mid ys → CountHasRoom (counts_of ys) (text_changed op)
    → 0 < added (counts_of xs) (counts_of ys)
some-of es (TextInsert t after bytes) xs mid ys shows has grow falls room = some-at es t xs mid ys shows has (grow t) falls room
some-of es (TextDelete t range) xs mid ys shows has grow falls room = some-at es t xs mid ys shows has (grow t) falls room
some-of es _ xs mid ys shows has grow falls room = absurd has

-- ---- what is told

-- the looks since before the edit came, or none where there can be none
abbrev pub IsTold : Edit → Taken → Texts → Texts → ℕ → Type 0
IsTold e t xs ys v = ((v ≡ min (capped (counts_of ys) - capped (counts_of xs)) greatest) × (length ys < 2 ^ 64)) ⊎ ((text_changed e.op ≡ None) × (t.woken ≡ 0) × (v ≡ 0))

told-sum : (new old more v : ℕ) → more + old ≡ new → v ≡ min (min new greatest_sum - min old greatest_sum) greatest → new ≤ greatest_sum
    → v ≡ min more greatest
told-sum new old more v h k room = omega (arith, h, k, room)

through : (a b c : ℕ) → a ≤ b → b ≤ c → a ≤ c
through a b c h k = omega (arith, h, k)

none-more : (more old new : ℕ) → more + old ≡ new → new ≡ old → more ≡ 0
none-more more old new h k = omega (arith, h, k)

pub tells_visits : (e : Edit) (es : List Edit) (b c : Body) (t : Taken) (d : Delivered) → BodyShows es b → BodyShows (with_edit e es) c
    → Works e t b.texts c.texts
    → d.state ≡ state_of t.held → d.woken ≡ t.woken → IsTold e t b.texts c.texts d.visits
    → TellsVisits e es (counts_of b.texts) (counts_of c.texts) d
tells_visits e es b c t d was now works state woken told = record {
  sum = sum-told;
  falls = counts-fall-not b.texts c.texts works.none_falls;
  most = λ w. through d.visits more (most_looks es (text_changed e.op)) least (most-added (sym woken ∙ w));
  some = λ taken has room. some-told t.held refl taken has room;
  none = λ other. none-told t.held refl other;
}
  where
    more : ℕ
    more = added (counts_of b.texts) (counts_of c.texts)

    rises : Rise c.texts
    rises = texts-rise c.texts now.content.texts.rise

    law : more + total (counts_of b.texts) ≡ total (counts_of c.texts)
    law = sum-law b.texts c.texts (texts-rise b.texts was.content.texts.rise) rises works.none_falls

    none-added : t.held ≡ true → more ≡ 0
    none-added h =
        none-more more (total (counts_of b.texts)) (total (counts_of c.texts)) law (ap (λ ts. total (counts_of ts)) (works.held h))

    most-by : (h : Bool) → t.held ≡ h → t.woken ≡ 0 → more ≤ most_looks es (text_changed e.op)
    most-by true h w = let z = none-added h in omega (arith, z)
    most-by false h w = most-of es e.op b.texts c.texts was.content.few rises (works.calm h w)

    most-added : t.woken ≡ 0 → more ≤ most_looks es (text_changed e.op)
    most-added w = most-by t.held refl w

    sum-told : d.visits ≡ min more greatest
    sum-told = elim told [
      | inl k ↦ told-sum (total (counts_of c.texts)) (total (counts_of b.texts)) more d.visits law k.0 (total-room (taken (with_edit e es)) c.texts rises now.content.few k.1)
      | inr k ↦ (let z : d.visits ≡ 0 = k.2 in let n : more ≤ 0 = subst (λ o. more ≤ most_looks es o) k.0 (most-added k.1) in omega (arith, z, n))
    ]

    least : d.visits ≤ more
    least = omega (arith, sum-told)

    some-told : (h : Bool) → t.held ≡ h → d.state ≡ as_taken → HasElement es (text_changed e.op)
        → CountHasRoom (counts_of c.texts) (text_changed e.op)
        → 0 < d.visits
    some-told true h taken has room = let waits : d.state ≡ Held = state ∙ ap state_of h in absurd (cc)
    some-told false h taken has room =
        let first = works.done h in
        let one = some-of es e.op b.texts first.0 c.texts was.content.texts has first.1 first.2 room in
        omega (arith, one, sum-told)

    none-told : (h : Bool) → t.held ≡ h → (d.state ≡ as_taken → ⊥) → d.visits ≡ 0
    none-told true h other = let z = none-added h in omega (arith, z, least)
    none-told false h other = absurd (other (state ∙ ap state_of h))

pub tells_known : (e : Edit) (es : List Edit) (b : Body) (d : Delivered) → BodyShows es b → d.state ≡ Known → d.visits ≡ 0
    → TellsVisits e es (counts_of b.texts) (counts_of b.texts) d
tells_known e es b d was known visits =
    let rises = texts-rise b.texts was.content.texts.rise in
    let law = sum-law b.texts b.texts rises rises (none_falls-itself b.texts b.texts refl) in
    record {
      sum = omega (arith, law, visits);
      falls = λ t. omega arith;
      most = λ w. omega (arith, visits);
      some = λ taken has room. absurd (cc);
      none = λ other. visits;
    }

-- where none waits none is woken
pub none_woken : HeldAreRemembered → (e : Edit) (es : List Edit) (b : Body) (t : Taken) → ComesTo e es b → Tells e b t → length b.inbox ≡ 0
    → t.woken ≡ 0
none_woken remembered e es b t come tells none =
    let told = (tells es come).1 in
    let most = count_by-le-length (λ s. not (is_held (with_edit e es) s)) (held_stamps es) in
    let all : length (held_stamps es) ≡ length (held es) = ap length (sym (remembered es)) ∙ length-map (held es) (λ (f : Edit). f.stamp) in
    let waits : length b.inbox ≡ length (held es) = ap length come.shows.waiting in
    omega (arith, told, most, all, waits, none)

-- what is told, by the looks before
pub told_by : (e : Edit) (t : Taken) (b : Body) (ys : Texts) (before : Option ℕ) (v : ℕ)
    → IfSome before (λ n. n ≡ capped (counts_of b.texts)) → (before ≡ None → is_some (text_changed e.op) ≡ false)
    → (before ≡ None → length b.inbox ≡ 0)
    → IfSome before (λ n. v ≡ min (capped (counts_of ys) - n) greatest) → IfSome before (λ n. length ys < 2 ^ 64) → (before ≡ None → v ≡ 0)
    → (length b.inbox ≡ 0 → t.woken ≡ 0)
    → IsTold e t b.texts ys v
told_by e t b ys (Some n) v was none calm since within nothing woken =
    inl (since ∙ ap (λ m. min (capped (counts_of ys) - m) greatest) was, within)
told_by e t b ys None v was none calm since within nothing woken =
    inr (none_is (text_changed e.op) (none refl), woken (calm refl), nothing refl)
