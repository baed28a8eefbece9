-- Texts and their elements have the stamps of edits.
use Rattle.std.proofs.Common.{◌≡◌, ℕ, ◌+◌, Bool, true, false, cond, eqb, List, [], ◌∷◌, ◌++◌, Option, Some, None, Result, Ok, Err, refl, subst}
use Rattle.std.specs.List.{AllByRecursion, list_any}
use Rattle.std.proofs.lemmas.Bool.{and_parts}
use Rattle.zed_types.specs.declared.stamp.Stamp.{Stamp}
use Rattle.zed_types.specs.declared.names.TextId.{TextId}
use Rattle.zed_types.specs.declared.names.ElemId.{ElemId}
use Rattle.zed_types.specs.declared.text.TextByte.{TextByte}
use Rattle.zed_types.specs.declared.text.ByteRange.{ByteRange}
use Rattle.zed_types.specs.Stamp.{same_stamp}
use Rattle.zed_types.specs.Names.{text_of, same_text, same_element}
use Rattle.zed_types.specs.Table.{map_from}
use Rattle.zed_types.specs.Text.{run_from, behind, put_after, kill}
use Rattle.zed_types.proofs.Facts.{all_joined}
use Rattle.zed_types.proofs.StampOrder.{same_stamp-true}
use Rattle.zed_world.specs.Contents.{Contents}
use Rattle.zed_world.specs.Reading.{world_at}
use Rattle.zed_world.specs.declared.error.WorldError.{WorldError}
use Rattle.zed_op.specs.declared.op.Op.{Op}
use Rattle.zed_op.specs.declared.op.Op.TheVariants.{Genesis, TextAdd, TextInsert, TextDelete}
use Rattle.zed_op.specs.declared.op.Edit.{Edit}
use Rattle.zed_edit.specs.declared.plain.Text.{Text}
use Rattle.zed_edit.specs.declared.plain.Plain.{Plain}
use Rattle.zed_edit.specs.Document.{change_such, change_elements, find_text, elements_in, empty_document}
use Rattle.zed_edit.specs.Genesis.{opened_text, opened_texts, programs_of}
use Rattle.zed_edit.specs.Replay.{can, do_op, open_world, step, replay_on}
use Rattle.zed_laws.specs.TextNames.{StampsPass, ElementsAreOfEdits, TextsAreOfEdits}

-- a change of one text among others
pub keep-change : (P Q : Text → Type 0) (t : TextId) (f : List TextByte → List TextByte) (xs : List Text)
    → ((x : Text) → P x → Q (change_elements f x)) → ((x : Text) → P x → Q x) → AllByRecursion P xs
    → AllByRecursion Q (change_such (λ x. same_text x.id t) (change_elements f) xs)
keep-change P Q t f [] g h a = tt
keep-change P Q t f (x ∷ xs) g h a = (go (same_text x.id t), keep-change P Q t f xs g h a.1)
  where
    go : (b : Bool) → Q (cond b (change_elements f x) x)
    go true = g x a.0
    go false = h x a.0

-- elements whose stamps pass a test
abbrev pub Pass : (Stamp → Bool) → List TextByte → Type 0
Pass test xs = AllByRecursion (λ x. test x.id.name.stamp ≡ true) xs

-- a text whose stamps pass a test
abbrev pub IsGood : (Stamp → Bool) → Text → Type 0
IsGood test x = (test x.id.name.stamp ≡ true) × Pass test x.elements

pass-run : (test : Stamp → Bool) (s : Stamp) (n : ℕ) (bytes : List ℕ) → test s ≡ true → Pass test (run_from s n bytes)
pass-run test s n [] h = tt
pass-run test s n (b ∷ bytes) h = (h, pass-run test s (n + 1) bytes h)

pub All-behind : (P : TextByte → Type 0) (a : ElemId) (run xs : List TextByte) → AllByRecursion P run → AllByRecursion P xs
    → AllByRecursion P (behind a (λ rest. run ++ rest) xs)
All-behind P a run [] r h = tt
All-behind P a run (x ∷ xs) r h = (h.0, go (same_element x.id a) (All-behind P a run xs r h.1))
  where
    go : (b : Bool) → AllByRecursion P (behind a (λ rest. run ++ rest) xs)
        → AllByRecursion P (cond b (run ++ xs) (behind a (λ rest. run ++ rest) xs))
    go true more = all_joined P run xs r h.1
    go false more = more

All-put : (P : TextByte → Type 0) (a : Option ElemId) (run xs : List TextByte) → AllByRecursion P run → AllByRecursion P xs
    → AllByRecursion P (put_after a run xs)
All-put P None run xs r h = all_joined P run xs r h
All-put P (Some a) run xs r h = All-behind P a run xs r h

pass-kill : (test : Stamp → Bool) (r : ByteRange) (xs : List TextByte) → Pass test xs → Pass test (kill r xs)
pass-kill test r [] h = tt
pass-kill test r (x ∷ xs) h = (h.0, pass-kill test r xs h.1)

good-opened : (test : Stamp → Bool) (s : Stamp) (n : ℕ) (programs : List (List ℕ)) → test s ≡ true
    → AllByRecursion (IsGood test) (map_from (opened_text s) n programs)
good-opened test s n [] h = tt
good-opened test s n (bytes ∷ programs) h = ((h, pass-run test s 0 bytes h), good-opened test s (n + 1) programs h)

good-world : (test : Stamp → Bool) (s : Stamp) (r : Result Contents WorldError) (p : Plain) → test s ≡ true
    → AllByRecursion (IsGood test) p.texts
    → AllByRecursion (IsGood test) (open_world s r p).texts
good-world test s (Err e) p h a = a
good-world test s (Ok w) p h a =
    all_joined (IsGood test) p.texts (opened_texts s w.boards) a (good-opened test s 0 (programs_of w.boards) h)

good-do_op : (test : Stamp → Bool) (s : Stamp) (op : Op) (p : Plain) → test s ≡ true → AllByRecursion (IsGood test) p.texts
    → AllByRecursion (IsGood test) (do_op s op p).texts
good-do_op test s (Genesis bytes) p h a = good-world test s (world_at bytes) p h a
good-do_op test s TextAdd p h a = all_joined (IsGood test) p.texts (record { id = text_of s 0; elements = [] } ∷ []) a ((h, tt), tt)
good-do_op test s (TextInsert t after bytes) p h a =
    keep-change (IsGood test) (IsGood test) t (put_after after (run_from s 0 bytes)) p.texts (λ x g. (g.0, All-put (λ y. test y.id.name.stamp ≡ true) after (run_from s 0 bytes) x.elements (pass-run test s 0 bytes h) g.1)) (λ x g. g) a
good-do_op test s (TextDelete t r) p h a =
    keep-change (IsGood test) (IsGood test) t (kill r) p.texts (λ x g. (g.0, pass-kill test r x.elements g.1)) (λ x g. g) a
good-do_op test s _ p h a = a

pub good-step : (test : Stamp → Bool) (p : Plain) (e : Edit) → test e.stamp ≡ true → AllByRecursion (IsGood test) p.texts
    → AllByRecursion (IsGood test) (step p e).texts
good-step test p e h a = go (can p e) refl
  where
    go : (b : Bool) → can p e ≡ b → AllByRecursion (IsGood test) (step p e).texts
    go true b = rw b (good-do_op test e.stamp e.op p h a)
    go false b = rw b a

good-on : (test : Stamp → Bool) (p : Plain) (es : List Edit) → StampsPass test es → AllByRecursion (IsGood test) p.texts
    → AllByRecursion (IsGood test) (replay_on p es).texts
good-on test p [] h a = a
good-on test p (e ∷ es) h a = good-on test (step p e) es h.1 (good-step test p e h.0 a)

-- what holds of the elements of every text holds of those of the text of a name
pub found-all : (P : List TextByte → Type 0) (t : TextId) (xs : List Text) → P [] → AllByRecursion (λ x. P x.elements) xs
    → P (elements_in (find_text t xs))
found-all P t [] n a = n
found-all P t (x ∷ xs) n a = go (same_text x.id t) (found-all P t xs n a.1)
  where
    go : (b : Bool) → P (elements_in (find_text t xs)) → P (elements_in (cond b (Some x) (find_text t xs)))
    go true more = a.0
    go false more = more

All-weaken : (P Q : Text → Type 0) (xs : List Text) → ((x : Text) → P x → Q x) → AllByRecursion P xs → AllByRecursion Q xs
All-weaken P Q [] h a = tt
All-weaken P Q (x ∷ xs) h a = (h x a.0, All-weaken P Q xs h a.1)

pub elements_are_of_edits : ElementsAreOfEdits
elements_are_of_edits test es t h =
    let p : Plain = replay_on empty_document es in
    found-all (Pass test) t p.texts tt (All-weaken (IsGood test) (λ x. Pass test x.elements) p.texts (λ x g. g.1) (good-on test empty_document es h tt))

text-passes : (test : Stamp → Bool) (t : TextId) (xs : List Text) → AllByRecursion (IsGood test) xs
    → list_any (λ x. same_text x.id t) xs ≡ true
    → test t.name.stamp ≡ true
text-passes test t [] a h = absurd (cc)
text-passes test t (x ∷ xs) a h = go (same_text x.id t) refl (λ k. text-passes test t xs a.1 k)
  where
    go : (b : Bool) → same_text x.id t ≡ b → (list_any (λ y. same_text y.id t) xs ≡ true → test t.name.stamp ≡ true)
        → test t.name.stamp ≡ true
    go true b more =
        let k = and_parts (same_stamp x.id.name.stamp t.name.stamp) (eqb x.id.name.index t.name.index) b in
        subst (λ s. test s ≡ true) (same_stamp-true x.id.name.stamp t.name.stamp k.0) a.0.0
    go false b more = more (rw b at h)

pub texts_are_of_edits : TextsAreOfEdits
texts_are_of_edits test es t h k =
    text-passes test t (replay_on empty_document es).texts (good-on test empty_document es h tt) k
