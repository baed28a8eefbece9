-- The skip rule gives the text of the document that has the insertion at its place among the edits.
use Rattle.std.proofs.Common.{◌≡◌, ℕ, ◌+◌, Bool, true, false, cond, ◌&&◌, List, [], ◌∷◌, ◌++◌, Option, Some, None, Result, Ok, Err, refl, ap, ◌∙◌, sym, subst, arith, eqb}
use Rattle.std.specs.List.{AllByRecursion, list_any, find}
use Rattle.std.proofs.lemmas.Bool.{and_parts}
use Rattle.zed_types.specs.declared.stamp.Stamp.{Stamp}
use Rattle.zed_types.specs.declared.names.TextId.{TextId}
use Rattle.zed_types.specs.declared.names.ElemId.{ElemId}
use Rattle.zed_types.specs.declared.text.TextByte.{TextByte}
use Rattle.zed_types.specs.declared.text.ByteRange.{ByteRange}
use Rattle.zed_types.specs.Stamp.{before, same_stamp}
use Rattle.zed_types.specs.Names.{text_of, byte_of, same_text, same_element}
use Rattle.zed_types.specs.Table.{map_from}
use Rattle.zed_types.specs.Text.{NoneLater, run_from, behind, put_after, put_late, kill}
use Rattle.zed_world.specs.Contents.{Contents}
use Rattle.zed_world.specs.Reading.{world_at}
use Rattle.zed_world.specs.declared.error.WorldError.{WorldError}
use Rattle.zed_op.specs.declared.op.Op.{Op}
use Rattle.zed_op.specs.declared.op.Op.TheVariants.{Genesis, TextAdd, TextInsert, TextDelete}
use Rattle.zed_op.specs.declared.op.Edit.{Edit}
use Rattle.zed_edit.specs.declared.plain.Text.{Text}
use Rattle.zed_edit.specs.declared.plain.Plain.{Plain as Document}
use Rattle.zed_op.specs.declared.thing.Thing.TheVariants.{Text as text, Element as element}
use Rattle.zed_edit.specs.Document.{change_elements, find_text, elements, elements_in, has, empty_document}
use Rattle.zed_edit.specs.Genesis.{opened_text, programs_of}
use Rattle.zed_op.specs.Names.{names_of, element_named}
use Rattle.zed_op.specs.Fit.{names_earlier}
use Rattle.zed_op.specs.Set.{IsRising}
use Rattle.zed_edit.specs.Replay.{has_all, do_edit, replay, held}
use Rattle.zed_laws.specs.Laws.{insertion}
use Rattle.zed_types.proofs.StampOrder.{same_stamp-true, same_text-itself, before_differs, before_asym}
use Rattle.zed_laws.proofs.MadeThings.{list_any-first}
use Rattle.zed_laws.proofs.ChangedTexts.{map_option, opened_step, text_step, find_text-do_op}
use Rattle.zed_laws.proofs.TextSteps.{elements_step, elements_steps, PlaceBelow, NamesNoByteOf, LaterEdits, put_late-sorted}
use Rattle.zed_laws.proofs.DoneEdits.{all_done, AllCan, all_done-append, AllCan-tail, AllCan-none_held, replay_on-all_done}

-- a text that is there, after one edit and after many
abbrev with_elements : Text → List TextByte → Text
with_elements x ys = record x { elements = ys }

there-step : (t : TextId) (e : Edit) (x : Text)
    → text_step e.stamp e.op t (Some x) ≡ Some (with_elements x (elements_step t e.stamp e.op x.elements))
there-step t e x = go e.op
  where
    choice : (b : Bool) (f : List TextByte → List TextByte)
        → cond b (Some (change_elements f x)) (Some x) ≡ Some (with_elements x (cond b (f x.elements) x.elements))
    choice true f = refl
    choice false f = refl

    opens : (r : Result Contents WorldError) → opened_step e.stamp r t (Some x) ≡ Some x
    opens (Ok w) = refl
    opens (Err f) = refl

    go : (op : Op) → text_step e.stamp op t (Some x) ≡ Some (with_elements x (elements_step t e.stamp op x.elements))
    go (TextInsert u after bytes) = choice (same_text u t) (put_after after (run_from e.stamp 0 bytes))
    go (Genesis bytes) = opens (world_at bytes)
    go (TextDelete u r) = choice (same_text u t) (kill r)
    go _ = refl

pub there-steps : (t : TextId) (es : List Edit) (p : Document) (x : Text) → find_text t p.texts ≡ Some x
    → elements (all_done p es) t ≡ elements_steps t es x.elements
there-steps t [] p x h = ap elements_in h
there-steps t (e ∷ es) p x h =
    there-steps t es (do_edit p e) (with_elements x (elements_step t e.stamp e.op x.elements)) (find_text-do_op t e.stamp e.op p ∙ ap (text_step e.stamp e.op t) h ∙ there-step t e x)

-- elements whose stamps pass
abbrev pub StampsPass : (Stamp → Type 0) → List TextByte → Type 0
StampsPass P xs = AllByRecursion (λ x. P x.id.name.stamp) xs

module _ (P : Stamp → Type 0) where
  pass-run : (s : Stamp) (n : ℕ) (bytes : List ℕ) → P s → StampsPass P (run_from s n bytes)
  pass-run s n [] h = tt
  pass-run s n (b ∷ bytes) h = (h, pass-run s (n + 1) bytes h)

  pass-append : (xs ys : List TextByte) → StampsPass P xs → StampsPass P ys → StampsPass P (xs ++ ys)
  pass-append [] ys a b = b
  pass-append (x ∷ xs) ys a b = (a.0, pass-append xs ys a.1 b)

  pass-behind : (a : ElemId) (run xs : List TextByte) → StampsPass P run → StampsPass P xs
      → StampsPass P (behind a (λ rest. run ++ rest) xs)
  pass-behind a run [] r h = tt
  pass-behind a run (x ∷ xs) r h = (h.0, go (same_element x.id a) (pass-behind a run xs r h.1))
    where
      go : (b : Bool) → StampsPass P (behind a (λ rest. run ++ rest) xs)
          → StampsPass P (cond b (run ++ xs) (behind a (λ rest. run ++ rest) xs))
      go true more = pass-append run xs r h.1
      go false more = more

  pass-put : (a : Option ElemId) (run xs : List TextByte) → StampsPass P run → StampsPass P xs → StampsPass P (put_after a run xs)
  pass-put None run xs r h = pass-append run xs r h
  pass-put (Some a) run xs r h = pass-behind a run xs r h

  pass-kill : (r : ByteRange) (xs : List TextByte) → StampsPass P xs → StampsPass P (kill r xs)
  pass-kill r [] h = tt
  pass-kill r (x ∷ xs) h = (h.0, pass-kill r xs h.1)

  pass-change : (b : Bool) (f : List TextByte → List TextByte) (o : Option Text)
      → ((xs : List TextByte) → StampsPass P xs → StampsPass P (f xs)) → StampsPass P (elements_in o)
      → StampsPass P (elements_in (cond b (map_option (change_elements f) o) o))
  pass-change true f None kept h = tt
  pass-change true f (Some x) kept h = kept x.elements h
  pass-change false f o kept h = h

  pass-opened : (t : TextId) (s : Stamp) (n : ℕ) (programs : List (List ℕ)) → P s
      → StampsPass P (elements_in (find (λ x. same_text x.id t) (map_from (opened_text s) n programs)))
  pass-opened t s n [] p = tt
  pass-opened t s n (bytes ∷ programs) p = go (same_text (text_of s n) t) (pass-opened t s (n + 1) programs p)
    where
      go : (b : Bool) → StampsPass P (elements_in (find (λ x. same_text x.id t) (map_from (opened_text s) (n + 1) programs)))
          → StampsPass P (elements_in (cond b (Some (opened_text s n bytes)) (find (λ x. same_text x.id t) (map_from (opened_text s) (n + 1) programs))))
      go true more = pass-run s 0 bytes p
      go false more = more

  pass-opened_step : (t : TextId) (s : Stamp) (r : Result Contents WorldError) (o : Option Text) → P s → StampsPass P (elements_in o)
      → StampsPass P (elements_in (opened_step s r t o))
  pass-opened_step t s (Err e) o p h = h
  pass-opened_step t s (Ok w) (Some x) p h = h
  pass-opened_step t s (Ok w) None p h = pass-opened t s 0 (programs_of w.boards) p

  pub pass-text_step : (t : TextId) (s : Stamp) (op : Op) (o : Option Text) → P s → StampsPass P (elements_in o)
      → StampsPass P (elements_in (text_step s op t o))
  pass-text_step t s (Genesis bytes) o p h = pass-opened_step t s (world_at bytes) o p h
  pass-text_step t s TextAdd (Some x) p h = h
  pass-text_step t s TextAdd None p h = go (same_text (text_of s 0) t)
    where
      go : (b : Bool) → StampsPass P (elements_in (cond b (Some (record { id = text_of s 0; elements = [] })) None))
      go true = tt
      go false = tt
  pass-text_step t s (TextInsert u after bytes) o p h =
      pass-change (same_text u t) (put_after after (run_from s 0 bytes)) o (λ xs k. pass-put after (run_from s 0 bytes) xs (pass-run s 0 bytes p) k) h
  pass-text_step t s (TextDelete u r) o p h = pass-change (same_text u t) (kill r) o (λ xs k. pass-kill r xs k) h
  pass-text_step t s _ o p h = h

  pub pass-do_edit : (t : TextId) (e : Edit) (p : Document) → P e.stamp → StampsPass P (elements p t)
      → StampsPass P (elements (do_edit p e) t)
  pass-do_edit t e p h k = rw (find_text-do_op t e.stamp e.op p) (pass-text_step t e.stamp e.op (find_text t p.texts) h k)

  pub pass-all_done : (t : TextId) (es : List Edit) (p : Document) → AllByRecursion (λ e. P e.stamp) es → StampsPass P (elements p t)
      → StampsPass P (elements (all_done p es) t)
  pass-all_done t [] p h k = k
  pass-all_done t (e ∷ es) p h k = pass-all_done t es (do_edit p e) h.1 (pass-do_edit t e p h.0 k)

  -- an element that is there has a stamp that passes
  pub pass-there : (a : ElemId) (xs : List TextByte) → StampsPass P xs → list_any (λ x. same_element x.id a) xs ≡ true → P a.name.stamp
  pass-there a [] h e = absurd (cc)
  pass-there a (x ∷ xs) h e = go (same_element x.id a) refl (λ k. pass-there a xs h.1 k)
    where
      go : (b : Bool) → same_element x.id a ≡ b → (list_any (λ x. same_element x.id a) xs ≡ true → P a.name.stamp) → P a.name.stamp
      go true b more =
          let k = and_parts (same_stamp x.id.name.stamp a.name.stamp) (eqb x.id.name.index a.name.index) b in
          subst P (same_stamp-true x.id.name.stamp a.name.stamp k.0) h.0
      go false b more = more (rw b at e)

-- edits that can be done, none with the stamp `s`, name no byte of `s`
names_none : (s : Stamp) (p : Document) (op : Op) → ((t : TextId) → StampsPass (λ r. same_stamp s r ≡ false) (elements p t))
    → has_all p (names_of op) ≡ true
    → NamesNoByteOf s op
names_none s p (TextInsert u None bytes) k c = tt
names_none s p (TextInsert u (Some a) bytes) k c =
    let h = and_parts (has p (text u)) (has_all p (element u a ∷ [])) c in
    let h' = and_parts (has p (element u a)) true h.1 in
    pass-there (λ r. same_stamp s r ≡ false) a (elements p u) (k u) h'.0
names_none s p (TextDelete u x) k c =
    let a : ElemId = byte_of x.stamp x.first in
    let b : ElemId = byte_of x.stamp x.last in
    let h = and_parts (has p (text u)) (has_all p (element u a ∷ element u b ∷ [])) c in
    let h' = and_parts (has p (element u a)) (has_all p (element u b ∷ [])) h.1 in
    pass-there (λ r. same_stamp s r ≡ false) a (elements p u) (k u) h'.0
names_none s p _ k c = tt

later_edits : (s : Stamp) (p : Document) (es : List Edit) → ((t : TextId) → StampsPass (λ r. same_stamp s r ≡ false) (elements p t))
    → AllCan p es → AllByRecursion (λ e. before s e.stamp ≡ true) es
    → LaterEdits s es
later_edits s p [] k c l = tt
later_edits s p (e ∷ es) k c l =
    let d : same_stamp s e.stamp ≡ false = before_differs s e.stamp l.0 in
    ((l.0, names_none s p e.op k c.0), later_edits s (do_edit p e) es (λ t. pass-do_edit (λ r. same_stamp s r ≡ false) t e p d (k t)) c.1 l.1)

differ-low : (s : Stamp) (es : List Edit) → AllByRecursion (λ e. before e.stamp s ≡ true) es
    → AllByRecursion (λ e. same_stamp s e.stamp ≡ false) es × AllByRecursion (λ e. before s e.stamp ≡ false) es
differ-low s [] h = (tt, tt)
differ-low s (e ∷ es) h =
    let r = differ-low s es h.1 in
    ((grind (arith, h.0), r.0), (before_asym e.stamp s h.0, r.1))

-- a rising list round one of its edits
pub rising-low : (e : Edit) (low high : List Edit) → IsRising (low ++ e ∷ high) → AllByRecursion (λ f. before f.stamp e.stamp ≡ true) low
rising-low e [] high r = tt
rising-low e (f ∷ low) high r = (first low r.0, rising-low e low high r.1)
  where
    first : (xs : List Edit) → AllByRecursion (λ g. before f.stamp g.stamp ≡ true) (xs ++ e ∷ high) → before f.stamp e.stamp ≡ true
    first [] h = h.0
    first (x ∷ xs) h = first xs h.1

pub rising-high : (e : Edit) (low high : List Edit) → IsRising (low ++ e ∷ high) → AllByRecursion (λ f. before e.stamp f.stamp ≡ true) high
rising-high e [] high r = r.0
rising-high e (f ∷ low) high r = rising-high e low high r.1

-- an insertion names its text, which is there where it can be done
pub text_there : (t : TextId) (e : Edit) (p : Document) → has p (text t) ≡ true → (x : Text) × (find_text t p.texts ≡ Some x)
text_there t e p h = list_any-first (λ x. same_text x.id t) p.texts h

place_earlier : (s : Stamp) (t : TextId) (a : Option ElemId) (bytes : List ℕ) → names_earlier (insertion s t a bytes) ≡ true
    → PlaceBelow s a
place_earlier s t None bytes h = tt
place_earlier s t (Some a) bytes h =
    let k = and_parts (before t.name.stamp s) (before a.name.stamp s && true) h in
    let l = and_parts (before a.name.stamp s) true k.1 in
    l.0

-- the texts of edits that are all done, with one more at its place
late_among_done : (s : Stamp) (t : TextId) (a : Option ElemId) (bytes : List ℕ) (low high : List Edit) (x : Text)
    → AllByRecursion (λ e. before e.stamp s ≡ true) low → AllByRecursion (λ e. before s e.stamp ≡ true) high
    → AllCan empty_document (low ++ high) → PlaceBelow s a → find_text t (all_done empty_document low).texts ≡ Some x
    → elements (all_done empty_document (low ++ insertion s t a bytes ∷ high)) t
    ≡ put_late a s (run_from s 0 bytes) (elements (all_done empty_document (low ++ high)) t)
late_among_done s t a bytes low high x l h c b f =
    let e : Edit = insertion s t a bytes in
    let p : Document = all_done empty_document low in
    let d = differ-low s low l in
    let k : (u : TextId) → StampsPass (λ r. same_stamp s r ≡ false) (elements p u) =
    λ u. pass-all_done (λ r. same_stamp s r ≡ false) u low empty_document d.0 tt in
    let n' : NoneLater s (elements p t) = pass-all_done (λ r. before s r ≡ false) t low empty_document d.1 tt in
    let n : NoneLater s x.elements = rw f at n' in
    let le : LaterEdits s high = later_edits s p high k (AllCan-tail empty_document low high c) h in
    rw (all_done-append, all_done-append)
    (there-steps t (e ∷ high) p x f ∙ ap (elements_steps t high) (rw (same_text-itself t) refl)
    ∙ sym (put_late-sorted t s [] high a bytes x.elements b n le)
    ∙ ap (put_late a s (run_from s 0 bytes)) (sym (there-steps t high p x f)))

-- an insertion that comes late, put in by the skip rule, gives the text that it gives at its place among the edits
pub insertion_among_done : (s : Stamp) (t : TextId) (a : Option ElemId) (bytes : List ℕ) (low high : List Edit)
    → IsRising (low ++ insertion s t a bytes ∷ high) → held (low ++ high) ≡ [] → held (low ++ insertion s t a bytes ∷ high) ≡ []
    → names_earlier (insertion s t a bytes) ≡ true
    → elements (replay (low ++ insertion s t a bytes ∷ high)) t ≡ put_late a s (run_from s 0 bytes) (elements (replay (low ++ high)) t)
insertion_among_done s t a bytes low high r n m b =
    let e : Edit = insertion s t a bytes in
    let c : AllCan empty_document (low ++ high) = AllCan-none_held empty_document (low ++ high) n in
    let d : AllCan empty_document (low ++ e ∷ high) = AllCan-none_held empty_document (low ++ e ∷ high) m in
    let i = AllCan-tail empty_document low (e ∷ high) d in
    let j = and_parts (has (all_done empty_document low) (text t)) (has_all (all_done empty_document low) (element_named t a)) i.0 in
    let f = text_there t e (all_done empty_document low) j.0 in
    ap (λ p. elements p t) (replay_on-all_done empty_document (low ++ e ∷ high) d)
    ∙ late_among_done s t a bytes low high f.0 (rising-low e low high r) (rising-high e low high r) c (place_earlier s t a bytes b) f.1
    ∙ ap (λ p. put_late a s (run_from s 0 bytes) (elements p t)) (sym (replay_on-all_done empty_document (low ++ high) c))
