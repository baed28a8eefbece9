-- The deletions of the stretches of a part of a text can be made one after the other.
use Rattle.std.proofs.Common.{◌≡◌, ℕ, zero, suc, ◌+◌, ◌<◌, ◌≤◌, Bool, true, false, ◌&&◌, ◌||◌, cond, eqb, leb, ltb, List, [], ◌∷◌, ◌++◌, length, take, refl, ap, sym, ◌∙◌, append-nil, append_assoc, arith, subst}
use Rattle.std.specs.List.{AllByRecursion, list_any}
use Rattle.std.proofs.lemmas.List.{length-map}
use Rattle.std.proofs.lemmas.Bool.{and_parts, and_from, eqb-true, leb-true, ltb-true}
use Rattle.zed_types.specs.declared.stamp.Stamp.{Stamp}
use Rattle.zed_types.specs.declared.stamp.TheConstants.Stamp.{LAST_TIME}
use Rattle.zed_types.specs.declared.names.ElemId.{ElemId}
use Rattle.zed_types.specs.declared.names.TextId.{TextId}
use Rattle.zed_types.specs.declared.text.TextByte.{TextByte}
use Rattle.zed_types.specs.declared.text.ByteRange.{ByteRange}
use Rattle.zed_types.specs.Stamp.{before, same_stamp}
use Rattle.zed_types.specs.Names.{byte_of, same_element}
use Rattle.zed_types.specs.Text.{alive, kill, alive_bytes}
use Rattle.zed_op.specs.declared.op.Op.TheVariants.{TextDelete}
use Rattle.zed_op.specs.declared.op.Edit.{Edit}
use Rattle.zed_edit.specs.declared.plain.Plain.{Plain}
use Rattle.zed_op.specs.declared.thing.Thing.{Thing}
use Rattle.zed_op.specs.declared.thing.Thing.TheVariants as thing
use Rattle.zed_edit.specs.Document.{elements, text, has}
use Rattle.zed_op.specs.Fit.{Fits, is_stamp, is_author_stamp, is_own_stamp}
use Rattle.zed_laws.specs.Laws.{OneMoreIsOneStep, MadeStaysMade}
use Rattle.zed_edit.specs.Replay.{replay, can, do_edit, hold}
use Rattle.zed_op.specs.Set.{AllFit, IsRising}
use Rattle.zed_op.specs.Verdict.{FitIsEachPart}
use Rattle.zed_laws.specs.TextNames.{ElementsHaveOwnNames, ElementsAreOfEdits, TextsAreOfEdits, StampsPass}
use Rattle.zed_history.specs.Clock.{greatest_time, is_spent, next_time}
use Rattle.zed_history.specs.Finding.{AllBelow}
use Rattle.zed_document.specs.Authoring.{goes_before, with_byte, stretches, stretches_of, deletions, deletions_of, part, is_part, without}
use Rattle.zed_document.specs.Stretches.{CanFollow}
use Rattle.zed_document.proofs.Deleted.{kills, left-text, All-alive, All-take, All-drop}
use Rattle.zed_types.proofs.StampOrder.{same_stamp-true, before_later}
use Rattle.zed_op.proofs.RealSizes.{own_stamp}
use Rattle.zed_history.proofs.Times.{later-all}
use Rattle.zed_document.proofs.TypedTexts.{changed-text, same_element-itself}

-- a name that a deletion may give as an end
abbrev pub IsGoodName : Plain → TextId → ℕ → ElemId → Type 0
IsGoodName p t limit a = (has p (thing.Element t a) ≡ true) × (is_stamp a.name.stamp ≡ true) × (a.name.stamp.time < limit)

abbrev pub IsGoodRange : Plain → TextId → ℕ → ByteRange → Type 0
IsGoodRange p t limit r =
    IsGoodName p t limit (byte_of r.stamp r.first) × IsGoodName p t limit (byte_of r.stamp r.last) × (r.first ≤ r.last)

good-byte : (p : Plain) (t : TextId) (limit : ℕ) (a : ElemId) (rs : List ByteRange) → IsGoodName p t limit a
    → AllByRecursion (IsGoodRange p t limit) rs
    → AllByRecursion (IsGoodRange p t limit) (with_byte a rs)
good-byte p t limit a [] g h = ((g, g, omega arith), tt)
good-byte p t limit a (r ∷ rs) g h = go (goes_before a r) refl
  where
    go : (b : Bool) → goes_before a r ≡ b → AllByRecursion (IsGoodRange p t limit) (with_byte a (r ∷ rs))
    go true b =
        let k = and_parts (same_stamp a.name.stamp r.stamp) (eqb (a.name.index + 1) r.first) b in
        let s : a.name.stamp ≡ r.stamp = same_stamp-true a.name.stamp r.stamp k.0 in
        let i : a.name.index + 1 ≡ r.first = eqb-true (a.name.index + 1) r.first k.1 in
        let first : IsGoodName p t limit (byte_of r.stamp a.name.index) = subst (λ x. IsGoodName p t limit (byte_of x a.name.index)) s g in
        let o = h.0.2 in
        rw b ((first, h.0.1, omega arith), h.1)
    go false b = rw b ((g, g, omega arith), h)

pub good-stretches : (p : Plain) (t : TextId) (limit : ℕ) (ys : List TextByte) → AllByRecursion (λ y. IsGoodName p t limit y.id) ys
    → AllByRecursion (IsGoodRange p t limit) (stretches ys)
good-stretches p t limit [] h = tt
good-stretches p t limit (y ∷ ys) h = good-byte p t limit y.id (stretches ys) h.0 (good-stretches p t limit ys h.1)

stay-good : (p q : Plain) (t : TextId) (limit : ℕ) (rs : List ByteRange) → ((x : Thing) → has p x ≡ true → has q x ≡ true)
    → AllByRecursion (IsGoodRange p t limit) rs
    → AllByRecursion (IsGoodRange q t limit) rs
stay-good p q t limit [] stays h = tt
stay-good p q t limit (r ∷ rs) stays h = (
  (
    (stays (thing.Element t (byte_of r.stamp r.first)) h.0.0.0, h.0.0.1, h.0.0.2),
    (stays (thing.Element t (byte_of r.stamp r.last)) h.0.1.0, h.0.1.1, h.0.1.2),
    h.0.2,
  ),
  stay-good p q t limit rs stays h.1,
)

leb-of : (m n : ℕ) → m ≤ n → leb m n ≡ true
leb-of m n h = grind (arith)

abbrev deletion_at : ℕ → ℕ → TextId → ByteRange → Edit
deletion_at time replica t r = record { stamp = record { time = time; replica = replica }; op = TextDelete t r }

-- such a deletion fits
deletion-fits : FitIsEachPart → (time replica limit : ℕ) (p : Plain) (t : TextId) (r : ByteRange) → 2 ≤ time → time ≤ LAST_TIME
    → 1 ≤ replica → limit ≤ time → is_stamp t.name.stamp ≡ true → t.name.stamp.time < limit → IsGoodRange p t limit r
    → Fits (deletion_at time replica t r)
deletion-fits parts time replica limit p t r low high own l ts tl g =
    let s : Stamp = record { time = time; replica = replica } in
    let a = leb-of 2 time low in
    let b = leb-of time LAST_TIME high in
    let c = leb-of 1 replica own in
    let mine : is_author_stamp s ≡ true = and_from _ _ (and_from _ _ a b) c in
    let rs = g.0.1 in
    let tb = before_later t.name.stamp s (omega arith) in
    let rl = g.0.2 in
    let rb = before_later r.stamp s (omega arith) in
    let named : (is_stamp t.name.stamp && (is_stamp r.stamp && (is_stamp r.stamp && true))) ≡ true =
    and_from _ _ ts (and_from _ _ rs (and_from _ _ rs refl)) in
    let earlier : (before t.name.stamp s && (before r.stamp s && (before r.stamp s && true))) ≡ true =
    and_from _ _ tb (and_from _ _ rb (and_from _ _ rb refl)) in
    (parts (deletion_at time replica t r)).1 (and_from _ _ mine named, leb-of r.first r.last g.2, earlier, refl)

greatest-push : (es : List Edit) (e : Edit) (n : ℕ) → greatest_time es < n → e.stamp.time < n → greatest_time (es ++ e ∷ []) < n
greatest-push [] e n h k = omega arith
greatest-push (f ∷ es) e n h k = let more = greatest-push es e n (omega arith) k in omega arith

-- deletions of good ranges follow one another, and kill them
pub follow-all : FitIsEachPart → OneMoreIsOneStep → MadeStaysMade
    → (rs : List ByteRange) (es : List Edit) (time replica limit : ℕ) (t : TextId) → greatest_time es < time → 2 ≤ time → limit ≤ time
    → time + length rs ≤ 281474976710656 → 1 ≤ replica → is_stamp t.name.stamp ≡ true → t.name.stamp.time < limit
    → has (replay es) (thing.Text t) ≡ true → AllByRecursion (IsGoodRange (replay es) t limit) rs
    → CanFollow es (deletions time replica t rs)
    × (elements (replay (es ++ deletions time replica t rs)) t ≡ kills rs (elements (replay es) t))
follow-all parts one stays [] es time replica limit t g low l high own ts tl h a = (tt, ap (λ fs. elements (replay fs) t) (append-nil es))
follow-all parts one stays (r ∷ rs) es time replica limit t g low l high own ts tl h a =
    let f : Edit = deletion_at time replica t r in
    let first = a.0.0.0 in
    let last = a.0.1.0 in
    let c : can (replay es) f ≡ true = rw (h, first, last) refl in
    let below : AllBelow f.stamp es = later-all f.stamp es g in
    let fits : Fits f = deletion-fits parts time replica limit (replay es) t r low (omega arith) own l ts tl a.0 in
    let stepped : replay (es ++ f ∷ []) ≡ do_edit (replay es) f =
    one es f ∙ ap (λ b. cond b (do_edit (replay es) f) (hold (replay es) f)) c in
    let stay : (x : Thing) → has (replay es) x ≡ true → has (replay (es ++ f ∷ [])) x ≡ true =
    λ x k. subst (λ (p : Plain). has p x ≡ true) (sym (one es f)) (stays (replay es) f x k) in
    let g' : greatest_time (es ++ f ∷ []) < time + 1 = greatest-push es f (time + 1) (omega arith) (omega arith) in
    let more = follow-all parts one stays rs (es ++ f ∷ []) (time + 1) replica limit t g' (omega arith) (omega arith) (omega arith) own ts tl (stay (thing.Text t) h) (stay-good (replay es) (replay (es ++ f ∷ [])) t limit rs stay a.1) in
    let changed : elements (do_edit (replay es) f) t ≡ kill r (elements (replay es) t) = changed-text t (kill r) (replay es).texts h in (
      ((below, fits, c), more.0),
      ap (λ fs. elements (replay fs) t) (sym (append_assoc es (f ∷ []) (deletions (time + 1) replica t rs))) ∙ more.1 ∙ ap (kills rs) (ap (λ p. elements p t) stepped ∙ changed),
    )

-- each element is among all
or_true : (b : Bool) → (b || true) ≡ true
or_true true = refl
or_true false = refl

there-more : (x : TextByte) (xs ys : List TextByte) → AllByRecursion (λ y. list_any (λ z. same_element z.id y.id) xs ≡ true) ys
    → AllByRecursion (λ y. list_any (λ z. same_element z.id y.id) (x ∷ xs) ≡ true) ys
there-more x xs [] h = tt
there-more x xs (y ∷ ys) h = let k = h.0 in (rw k (or_true (same_element x.id y.id)), there-more x xs ys h.1)

all-there : (xs : List TextByte) → AllByRecursion (λ y. list_any (λ z. same_element z.id y.id) xs ≡ true) xs
all-there [] = tt
all-there (x ∷ xs) = let i = same_element-itself x.id in (rw i refl, there-more x xs xs (all-there xs))

-- the stamps of a document are stamps, before the next time
abbrev pub is_earlier : ℕ → Stamp → Bool
is_earlier limit s = is_stamp s && ltb s.time limit

ltb-of : (m n : ℕ) → m < n → ltb m n ≡ true
ltb-of m n h = grind (arith)

all-earlier : FitIsEachPart → (es : List Edit) (limit : ℕ) → AllFit es → greatest_time es < limit → StampsPass (is_earlier limit) es
all-earlier parts [] limit f g = tt
all-earlier parts (e ∷ es) limit f g =
    let own = (and_parts (is_own_stamp e.op e.stamp) _ ((parts e).0 f.0).0).0 in
    (and_from (is_stamp e.stamp) (ltb e.stamp.time limit) (own_stamp e.op e.stamp own) (ltb-of e.stamp.time limit (omega arith)), all-earlier parts es limit f.1 (omega arith))

names-good : (p : Plain) (t : TextId) (limit : ℕ) (xs : List TextByte) → AllByRecursion (λ y. has p (thing.Element t y.id) ≡ true) xs
    → AllByRecursion (λ y. is_earlier limit y.id.name.stamp ≡ true) xs
    → AllByRecursion (λ y. IsGoodName p t limit y.id) xs
names-good p t limit [] h k = tt
names-good p t limit (y ∷ ys) h k =
    let e = and_parts (is_stamp y.id.name.stamp) (ltb y.id.name.stamp.time limit) k.0 in
    ((h.0, e.0, ltb-true y.id.name.stamp.time limit e.1), names-good p t limit ys h.1 k.1)

pub follow-part : FitIsEachPart → OneMoreIsOneStep → MadeStaysMade → ElementsHaveOwnNames → ElementsAreOfEdits → TextsAreOfEdits
    → (es : List Edit) (replica : ℕ) (t : TextId) (from to : ℕ) → AllFit es → IsRising es → has (replay es) (thing.Text t) ≡ true
    → is_part from to (length (text (replay es) t)) ≡ true → is_spent es (length (stretches_of es t from to)) ≡ false → 1 ≤ replica
    → CanFollow es (deletions_of es replica t from to)
    × (text (replay (es ++ deletions_of es replica t from to)) t ≡ without from to (text (replay es) t))
follow-part parts one stays names made texts es replica t from to fit rises h is left own =
    let p : Plain = replay es in
    let xs : List TextByte = elements p t in
    let limit : ℕ = next_time es in
    let g : greatest_time es < limit = omega arith in
    let pass = all-earlier parts es limit fit g in
    let stamps = made (is_earlier limit) es t pass in
    let good = names-good p t limit xs (all-there xs) stamps in
    let some = All-drop (λ y. IsGoodName p t limit y.id) from (take to (alive xs)) (All-take (λ y. IsGoodName p t limit y.id) to (alive xs) (All-alive (λ y. IsGoodName p t limit y.id) xs good)) in
    let ranges = good-stretches p t limit (part from to (alive xs)) some in
    let e = and_parts (is_stamp t.name.stamp) (ltb t.name.stamp.time limit) (texts (is_earlier limit) es t pass h) in
    let count : limit + length (stretches_of es t from to) ≤ 281474976710656 = grind (arith) in
    let k = and_parts (ltb from to) (leb to (length (text p t))) is in
    let l = ltb-true from to k.0 in
    let all = follow-all parts one stays (stretches_of es t from to) es limit replica limit t g (omega arith) (omega arith) count own e.0 (ltb-true t.name.stamp.time limit e.1) h ranges in
    (all.0, ap alive_bytes all.1 ∙ left-text from to xs (omega arith) (names es t rises))

part-some : {X : Type 0} (xs : List X) (from to : ℕ) → from < to → to ≤ length xs → 0 < length (part from to xs)
part-some [] from to l m = absurd (omega arith)
part-some (x ∷ xs) zero zero l m = absurd (omega arith)
part-some (x ∷ xs) zero (suc to) l m = omega arith
part-some (x ∷ xs) (suc from) zero l m = absurd (omega arith)
part-some (x ∷ xs) (suc from) (suc to) l m = part-some xs from to (omega arith) (omega arith)

byte-some : (a : ElemId) (rs : List ByteRange) → 0 < length (with_byte a rs)
byte-some a [] = omega arith
byte-some a (r ∷ rs) = go (goes_before a r) refl
  where
    go : (b : Bool) → goes_before a r ≡ b → 0 < length (with_byte a (r ∷ rs))
    go true b = rw b (omega arith)
    go false b = rw b (omega arith)

stretches-some : (ys : List TextByte) → 0 < length ys → 0 < length (stretches ys)
stretches-some [] l = absurd (omega arith)
stretches-some (y ∷ ys) l = byte-some y.id (stretches ys)

pub some-stretch : (es : List Edit) (t : TextId) (from to : ℕ) → is_part from to (length (text (replay es) t)) ≡ true
    → 0 < length (stretches_of es t from to)
some-stretch es t from to is =
    let xs : List TextByte = alive (elements (replay es) t) in
    let k = and_parts (ltb from to) (leb to (length (text (replay es) t))) is in
    let l = ltb-true from to k.0 in
    let m = leb-true to (length (text (replay es) t)) k.1 in
    let n : length (text (replay es) t) ≡ length xs = length-map xs (λ x. x.byte) in
    stretches-some (part from to xs) (part-some xs from to l (omega arith))

-- times that suffice for all suffice for one
pub spent-one : (es : List Edit) (n : ℕ) → 0 < n → is_spent es n ≡ false → is_spent es 1 ≡ false
spent-one es n l h = grind (arith)
