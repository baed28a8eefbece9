-- Texts take each edit as if it had come at its place.
use Rattle.std.proofs.Common.{◌≡◌, ◌∙◌, ◌||◌, ◌&&◌, ℕ, Bool, true, false, cond, not, List, [], ◌∷◌, ◌++◌, Option, Some, None, Result, Ok, Err, refl, ap, sym, subst, true≢false}
use Rattle.std.specs.List.{AllByRecursion}
use Rattle.std.specs.Option.{option_or, option_map, is_some}
use Rattle.std.proofs.lemmas.Bool.{and_parts}
use Rattle.zed_types.specs.declared.stamp.Stamp.{Stamp}
use Rattle.zed_types.specs.declared.names.TextId.{TextId}
use Rattle.zed_types.specs.declared.names.ElemId.{ElemId}
use Rattle.zed_types.specs.declared.text.TextByte.{TextByte}
use Rattle.zed_types.specs.Stamp.{before, same_stamp}
use Rattle.zed_types.specs.Names.{byte_of, same_text}
use Rattle.zed_types.specs.Text.{run_from, put_after, put_late, kill}
use Rattle.zed_types.proofs.StampOrder.{same_text-true, same_text-itself, same_stamp-itself, before_differs, before_differs_after}
use Rattle.zed_types.proofs.Facts.{none_is, all_weaker}
use Rattle.zed_world.specs.Contents.{Contents}
use Rattle.zed_world.specs.Reading.{world_at}
use Rattle.zed_world.specs.declared.error.WorldError.{WorldError}
use Rattle.zed_op.specs.declared.op.Op.{Op}
use Rattle.zed_op.specs.declared.op.Op.TheVariants.{Genesis, TextAdd, TextInsert, TextDelete}
use Rattle.zed_op.specs.declared.op.Edit.{Edit}
use Rattle.zed_op.specs.declared.thing.Thing.TheVariants as thing
use Rattle.zed_op.specs.Names.{names_of, element_named}
use Rattle.zed_op.specs.Fit.{names_earlier}
use Rattle.zed_op.proofs.FitParts.{fit_is_each_part}
use Rattle.zed_op.specs.Set.{IsRising, AllFit}
use Rattle.zed_edit.specs.declared.plain.Text.{Text}
use Rattle.zed_edit.specs.declared.plain.Plain.{Plain}
use Rattle.zed_edit.specs.Document.{empty_document, change_elements, find_text, elements, elements_in, made_elements, has}
use Rattle.zed_edit.specs.Genesis.{programs_of}
use Rattle.zed_edit.specs.Replay.{can, do_edit, has_all, replay, held}
use Rattle.zed_laws.specs.Laws.{insertion}
use Rattle.zed_laws.specs.TextNames.{StampsPass}
use Rattle.zed_laws.proofs.ChangedTexts.{map_option, opened_step, text_step, find_text-do_op}
use Rattle.zed_laws.proofs.DoneEdits.{all_done, AllCan, AllCan-tail, AllCan-none_held, replay_on-all_done}
use Rattle.zed_laws.proofs.LateEdits.{late_insertion, late_deletion}
use Rattle.zed_laws.proofs.LateInsertion.{rising-low, rising-high}
use Rattle.zed_laws.proofs.MadeThings.{find-any}
use Rattle.zed_laws.proofs.MadeElements.{elements_are_of_edits}
use Rattle.zed_laws.proofs.NamesInOrder.{StampsAre, pass-opened_texts}
use Rattle.zed_laws.proofs.TakenAlone.{late_edit_holds_none}
use Rattle.zed_laws.specs.Making.{texts_from, made_texts, makes}
use Rattle.zed_laws.proofs.EarlierThings.{earlier_decide}
use Rattle.zed_laws.proofs.Found.{unfound}
use Rattle.zed_laws.proofs.Making.{late_edit_makes, things_are_of_edits}
use Rattle.zed_code.specs.Text.{StandsAfter, IsNewStamp}
use Rattle.zed_texts.specs.ByName.{text_name, text_in, change, add_all}
use Rattle.zed_texts.specs.Texts.{Elements, named, texts_after, elements_or_none, IsReady}
use Rattle.zed_texts.specs.Shows.{TextsShow, NoneIsEmpty, TextsTake, TextsAreReady}
use Rattle.zed_stats.proofs.Found.{in-change, in-add_all, rise-change, rise-add_all, apart}
use Rattle.zed_texts.proofs.TextNames.{only_text}

-- ---- a text through edits that are all done

abbrev text_steps : TextId → List Edit → Option Text → Option Text
text_steps t [] o = o
text_steps t (e ∷ es) o = text_steps t es (text_step e.stamp e.op t o)

done-steps : (t : TextId) (es : List Edit) (p : Plain) → find_text t (all_done p es).texts ≡ text_steps t es (find_text t p.texts)
done-steps t [] p = refl
done-steps t (e ∷ es) p = done-steps t es (do_edit p e) ∙ ap (text_steps t es) (find_text-do_op t e.stamp e.op p)

steps-append : (t : TextId) (low high : List Edit) (o : Option Text) → text_steps t (low ++ high) o ≡ text_steps t high (text_steps t low o)
steps-append t [] high o = refl
steps-append t (e ∷ low) high o = steps-append t low high (text_step e.stamp e.op t o)

-- of the replay of edits of which none is held
replay-steps : (t : TextId) (es : List Edit) → held es ≡ [] → find_text t (replay es).texts ≡ text_steps t es None
replay-steps t es none =
    ap (λ p. find_text t p.texts) (replay_on-all_done empty_document es (AllCan-none_held empty_document es none))
    ∙ done-steps t es empty_document

-- a text that is there stays
there-stays : (t : TextId) (s : Stamp) (op : Op) (x : Text) → is_some (text_step s op t (Some x)) ≡ true
there-stays t s (Genesis bytes) x = go (world_at bytes)
  where
    go : (r : Result Contents WorldError) → is_some (opened_step s r t (Some x)) ≡ true
    go (Ok w) = refl
    go (Err e) = refl
there-stays t s (TextInsert u after bytes) x = go (same_text u t)
  where
    go : (b : Bool) → is_some (cond b (map_option (change_elements (put_after after (run_from s 0 bytes))) (Some x)) (Some x)) ≡ true
    go true = refl
    go false = refl
there-stays t s (TextDelete u range) x = go (same_text u t)
  where
    go : (b : Bool) → is_some (cond b (map_option (change_elements (kill range)) (Some x)) (Some x)) ≡ true
    go true = refl
    go false = refl
there-stays t s _ x = refl

stays-there : (t : TextId) (es : List Edit) (o : Option Text) → is_some o ≡ true → is_some (text_steps t es o) ≡ true
stays-there t [] o h = h
stays-there t (e ∷ es) None h = absurd (true≢false (sym h))
stays-there t (e ∷ es) (Some x) h = stays-there t es (text_step e.stamp e.op t (Some x)) (there-stays t e.stamp e.op x)

-- so one that isn't there wasn't
was_missing : (t : TextId) (es : List Edit) (o : Option Text) → text_steps t es o ≡ None → o ≡ None
was_missing t es None h = refl
was_missing t es (Some x) h = absurd (true≢false (sym (stays-there t es (Some x) refl) ∙ ap is_some h))

-- an edit that makes and changes no text of the name leaves it
pub steps-beside : (t : TextId) (e : Edit) (low high : List Edit) → held (low ++ high) ≡ [] → held (low ++ e ∷ high) ≡ []
    → ((o : Option Text) → text_step e.stamp e.op t o ≡ o)
    → find_text t (replay (low ++ e ∷ high)).texts ≡ find_text t (replay (low ++ high)).texts
steps-beside t e low high none with_it pass =
    replay-steps t (low ++ e ∷ high) with_it ∙ steps-append t low (e ∷ high) None ∙ ap (text_steps t high) (pass (text_steps t low None))
    ∙ sym (steps-append t low high None)
    ∙ sym (replay-steps t (low ++ high) none)

-- ---- a text that no other edit makes

text-there : (t : TextId) (p : Plain) → has p (thing.Text t) ≡ is_some (find_text t p.texts)
text-there t p = sym (find-any (λ x. same_text x.id t) p.texts)

-- an edit that can be done where a text isn't made doesn't change it
unnamed-step : (t : TextId) (s : Stamp) (op : Op) (p : Plain) (x : Text) → has_all p (names_of op) ≡ true → find_text t p.texts ≡ None
    → text_step s op t (Some x) ≡ Some x
unnamed-step t s (Genesis bytes) p x h none = go (world_at bytes)
  where
    go : (r : Result Contents WorldError) → opened_step s r t (Some x) ≡ Some x
    go (Ok w) = refl
    go (Err e) = refl
unnamed-step t s (TextInsert u after bytes) p x h none = go (same_text u t) refl
  where
    go : (b : Bool) → same_text u t ≡ b
        → cond b (map_option (change_elements (put_after after (run_from s 0 bytes))) (Some x)) (Some x) ≡ Some x
    go true b =
        let there : has p (thing.Text u) ≡ true = (and_parts (has p (thing.Text u)) (has_all p (element_named u after)) h).0 in
        absurd (true≢false (sym there ∙ ap (λ d. has p (thing.Text d)) (same_text-true u t b) ∙ text-there t p ∙ ap is_some none))
    go false b = refl
unnamed-step t s (TextDelete u r) p x h none = go (same_text u t) refl
  where
    go : (b : Bool) → same_text u t ≡ b → cond b (map_option (change_elements (kill r)) (Some x)) (Some x) ≡ Some x
    go true b =
        let there : has p (thing.Text u) ≡ true = (and_parts (has p (thing.Text u)) (has_all p (thing.Element u (byte_of r.stamp r.first) ∷ thing.Element u (byte_of r.stamp r.last) ∷ [])) h).0 in
        absurd (true≢false (sym there ∙ ap (λ d. has p (thing.Text d)) (same_text-true u t b) ∙ text-there t p ∙ ap is_some none))
    go false b = refl
unnamed-step t s _ p x h none = refl

unnamed-steps : (t : TextId) (es : List Edit) (p : Plain) (x : Text) → AllCan p es → text_steps t es (find_text t p.texts) ≡ None
    → text_steps t es (Some x) ≡ Some x
unnamed-steps t [] p x c h = refl
unnamed-steps t (e ∷ es) p x c h =
    ap (text_steps t es) (unnamed-step t e.stamp e.op p x c.0 (was_missing t (e ∷ es) (find_text t p.texts) h))
    ∙ unnamed-steps t es (do_edit p e) x c.1 (ap (text_steps t es) (find_text-do_op t e.stamp e.op p) ∙ h)

-- ---- texts that an edit makes

or-none : (o : Option Text) → o ≡ option_or o None
or-none None = refl
or-none (Some x) = refl

-- an op that changes no text
abbrev pub only_makes : Op → Bool
only_makes (TextInsert t after bytes) = false
only_makes (TextDelete t range) = false
only_makes _ = true

made-step : (t : TextId) (s : Stamp) (op : Op) (o : Option Text) → only_makes op ≡ true
    → text_step s op t o ≡ option_or o (find_text t (made_texts s op))
made-step t s (Genesis bytes) o h = go (world_at bytes)
  where
    go : (r : Result Contents WorldError) → opened_step s r t o ≡ option_or o (find_text t (texts_from s r))
    go (Ok w) = refl
    go (Err e) = or-none o
made-step t s TextAdd o h = refl
made-step t s (TextInsert u after bytes) o h = absurd (true≢false (sym h))
made-step t s (TextDelete u r) o h = absurd (true≢false (sym h))
made-step t s _ o h = or-none o

texts-pass : (s : Stamp) (op : Op) → StampsAre (λ (x : Text). x.id.name.stamp) (λ q. same_stamp q s) (made_texts s op)
texts-pass s (Genesis bytes) = go (world_at bytes)
  where
    go : (r : Result Contents WorldError) → StampsAre (λ (x : Text). x.id.name.stamp) (λ q. same_stamp q s) (texts_from s r)
    go (Ok w) = pass-opened_texts (λ q. same_stamp q s) s 0 (programs_of w.boards) (same_stamp-itself s)
    go (Err e) = tt
texts-pass s TextAdd = (same_stamp-itself s, tt)
texts-pass s _ = tt

-- a text has the stamp of the edit that makes it
made-stamp : (t : TextId) (s : Stamp) (op : Op) (x : Text) → find_text t (made_texts s op) ≡ Some x → same_stamp t.name.stamp s ≡ true
made-stamp t s op x h = go (same_stamp t.name.stamp s) refl
  where
    go : (v : Bool) → same_stamp t.name.stamp s ≡ v → v ≡ true
    go true v = refl
    go false v =
        let none = unfound (λ (y : Text). y.id.name) (λ q. same_stamp q s) t.name (made_texts s op) (texts-pass s op) v in
        absurd (cc)

-- the others have other stamps
others-pass : (e : Edit) (low high : List Edit) → IsRising (low ++ e ∷ high) → StampsPass (λ q. not (same_stamp q e.stamp)) (low ++ high)
others-pass e low high rises = joined low (rising-low e low high rises)
  where
    behind : (es : List Edit) → AllByRecursion (λ f. before e.stamp f.stamp ≡ true) es → StampsPass (λ q. not (same_stamp q e.stamp)) es
    behind [] a = tt
    behind (f ∷ es) a = (ap not (before_differs_after e.stamp f.stamp a.0), behind es a.1)

    joined : (es : List Edit) → AllByRecursion (λ f. before f.stamp e.stamp ≡ true) es
        → StampsPass (λ q. not (same_stamp q e.stamp)) (es ++ high)
    joined [] a = behind high (rising-high e low high rises)
    joined (f ∷ es) a = (ap not (before_differs f.stamp e.stamp a.0), joined es a.1)

-- so no other edit makes it
made-by-none : (t : TextId) (e : Edit) (low high : List Edit) (x : Text) → IsRising (low ++ e ∷ high)
    → find_text t (made_texts e.stamp e.op) ≡ Some x
    → find_text t (replay (low ++ high)).texts ≡ None
made-by-none t e low high x rises is =
    none_is (find_text t (replay (low ++ high)).texts) (go (has (replay (low ++ high)) (thing.Text t)) refl)
  where
    go : (v : Bool) → has (replay (low ++ high)) (thing.Text t) ≡ v → is_some (find_text t (replay (low ++ high)).texts) ≡ false
    go false v = sym (text-there t (replay (low ++ high))) ∙ v
    go true v =
        let other = things_are_of_edits (λ q. not (same_stamp q e.stamp)) (low ++ high) (thing.Text t) (others-pass e low high rises) v in
        absurd (true≢false (sym other ∙ ap not (made-stamp t e.stamp e.op x is)))

-- a text that a late edit makes is as it made it
steps-made : (t : TextId) (e : Edit) (low high : List Edit) (x : Text) → IsRising (low ++ e ∷ high) → held (low ++ high) ≡ []
    → held (low ++ e ∷ high) ≡ [] → only_makes e.op ≡ true → find_text t (made_texts e.stamp e.op) ≡ Some x
    → find_text t (replay (low ++ e ∷ high)).texts ≡ Some x
steps-made t e low high x rises none with_it makes is =
    let all : text_steps t high (text_steps t low None) ≡ None =
    sym (steps-append t low high None) ∙ sym (replay-steps t (low ++ high) none) ∙ made-by-none t e low high x rises is in
    let first : text_steps t low None ≡ None = was_missing t high (text_steps t low None) all in
    let here : text_step e.stamp e.op t (text_steps t low None) ≡ Some x =
    ap (text_step e.stamp e.op t) first ∙ made-step t e.stamp e.op None makes ∙ is in
    replay-steps t (low ++ e ∷ high) with_it ∙ steps-append t low (e ∷ high) None ∙ ap (text_steps t high) here
    ∙ unnamed-steps t high (all_done empty_document low) x (AllCan-tail empty_document low high (AllCan-none_held empty_document (low ++ high) none))
    (ap (text_steps t high) (done-steps t low empty_document) ∙ all)

-- ---- under each name

in-named : (t : TextId) (ts : List Text) → text_in t (named ts) ≡ option_map (λ x. x.elements) (find_text t ts)
in-named t [] = refl
in-named t (x ∷ ts) = go (same_text t x.id) refl (in-named t ts)
  where
    go : (v : Bool) → same_text t x.id ≡ v → text_in t (named ts) ≡ option_map (λ x. x.elements) (find_text t ts)
        → cond v (Some x.elements) (text_in t (named ts)) ≡ option_map (λ x. x.elements) (cond (same_text x.id t) (Some x) (find_text t ts))
    go true v more =
        let w : same_text x.id t ≡ true = ap (λ d. same_text d t) (sym (same_text-true t x.id v)) ∙ same_text-itself t in
        rw w refl
    go false v more =
        let w : same_text x.id t ≡ false = apart text_name t x.id v in
        rw w more

made-there : (t : TextId) (p : Plain) → has p (thing.Text t) ≡ true → made_elements p t ≡ Some (elements p t)
made-there t p h = go (find_text t p.texts) (sym (text-there t p) ∙ h)
  where
    go : (o : Option Text) → is_some o ≡ true → option_map (λ x. x.elements) o ≡ Some (elements_in o)
    go None k = absurd (true≢false (sym k))
    go (Some x) k = refl

or-nothing : (o : Option (List TextByte)) → option_or o None ≡ o
or-nothing None = refl
or-nothing (Some x) = refl

module _ (e : Edit) (low high : List Edit) (xs : Elements) (rises : IsRising (low ++ e ∷ high)) (fit : AllFit (e ∷ high)) (none : held (low ++ high) ≡ []) (h : can (replay (low ++ high)) e ≡ true) (was : TextsShow (low ++ high) xs) where
  pub at-place : can (replay low) e ≡ true
  at-place = sym (earlier_decide e low high rises fit) ∙ h

  with_it : held (low ++ e ∷ high) ≡ []
  with_it = late_edit_holds_none e low high rises fit none at-place

  -- one that makes texts, or none
  made-show : only_makes e.op ≡ true → TextsShow (low ++ e ∷ high) (add_all (named (made_texts e.stamp e.op)) xs)
  made-show makes = record {
    rise = rise-add_all text_name only_text (named (made_texts e.stamp e.op)) xs was.rise;
    each = λ t.
        in-add_all text_name only_text t (named (made_texts e.stamp e.op)) xs
        ∙ ap (option_or (text_in t xs)) (in-named t (made_texts e.stamp e.op))
        ∙ ap (λ o. option_or o (option_map (λ x. x.elements) (find_text t (made_texts e.stamp e.op)))) (was.each t)
        ∙ go t (find_text t (made_texts e.stamp e.op)) refl;
  }
    where
      go : (t : TextId) (m : Option Text) → find_text t (made_texts e.stamp e.op) ≡ m
          → option_or (made_elements (replay (low ++ high)) t) (option_map (λ x. x.elements) m) ≡ made_elements (replay (low ++ e ∷ high)) t
      go t None is =
          or-nothing (made_elements (replay (low ++ high)) t)
          ∙ sym (ap (option_map (λ x. x.elements)) (steps-beside t e low high none with_it (λ o. made-step t e.stamp e.op o makes ∙ ap (option_or o) is ∙ sym (or-none o))))
      go t (Some x) is =
          ap (λ o. option_or (option_map (λ x. x.elements) o) (Some x.elements)) (made-by-none t e low high x rises is)
          ∙ sym (ap (option_map (λ x. x.elements)) (steps-made t e low high x rises none with_it makes is))

  -- one that changes the text of a name
  changed-show : (u : TextId) (f : List TextByte → List TextByte)
      → ((t : TextId) → same_text u t ≡ false → (o : Option Text) → text_step e.stamp e.op t o ≡ o)
      → has (replay (low ++ high)) (thing.Text u) ≡ true
      → makes e (thing.Text u) ≡ false
      → elements (replay (low ++ e ∷ high)) u ≡ f (elements (replay (low ++ high)) u)
      → TextsShow (low ++ e ∷ high) (change u f xs)
  changed-show u f pass there makes_none late = record {
    rise = rise-change text_name only_text u f xs was.rise;
    each = λ t. in-change text_name only_text t u f xs ∙ go t (same_text t u) refl;
  }
    where
      there_with : has (replay (low ++ e ∷ high)) (thing.Text u) ≡ true
      there_with =
          late_edit_makes e low high (thing.Text u) rises none with_it ∙ ap (λ v. v || has (replay (low ++ high)) (thing.Text u)) makes_none
          ∙ there

      here : option_map f (text_in u xs) ≡ made_elements (replay (low ++ e ∷ high)) u
      here =
          ap (option_map f) (was.each u ∙ made-there u (replay (low ++ high)) there)
          ∙ ap Some (sym late)
          ∙ sym (made-there u (replay (low ++ e ∷ high)) there_with)

      go : (t : TextId) (v : Bool) → same_text t u ≡ v
          → cond v (option_map f (text_in t xs)) (text_in t xs) ≡ made_elements (replay (low ++ e ∷ high)) t
      go t true v =
          ap (λ d. option_map f (text_in d xs)) (same_text-true t u v) ∙ here
          ∙ ap (made_elements (replay (low ++ e ∷ high))) (sym (same_text-true t u v))
      go t false v =
          was.each t ∙ sym (ap (option_map (λ x. x.elements)) (steps-beside t e low high none with_it (pass t (apart text_name t u v))))

abbrev edit_of : Stamp → Op → Edit
edit_of s op = record { stamp = s; op = op }

op-show : (s : Stamp) (op : Op) (low high : List Edit) (xs : Elements) → IsRising (low ++ edit_of s op ∷ high)
    → AllFit (edit_of s op ∷ high) → held (low ++ high) ≡ [] → can (replay (low ++ high)) (edit_of s op) ≡ true → TextsShow (low ++ high) xs
    → TextsShow (low ++ edit_of s op ∷ high) (texts_after s op xs)
op-show s (TextInsert u after bytes) low high xs rises fit none h was =
    changed-show (edit_of s (TextInsert u after bytes)) low high xs rises fit none h was u (put_late after s (run_from s 0 bytes)) (λ t b o. rw b refl)
    ((and_parts (has (replay (low ++ high)) (thing.Text u)) (has_all (replay (low ++ high)) (element_named u after)) h).0)
    refl
    (late_insertion s u after bytes low high rises fit none (at-place (edit_of s (TextInsert u after bytes)) low high xs rises fit none h was))
op-show s (TextDelete u r) low high xs rises fit none h was =
    changed-show (edit_of s (TextDelete u r)) low high xs rises fit none h was u (kill r) (λ t b o. rw b refl)
    ((and_parts (has (replay (low ++ high)) (thing.Text u)) (has_all (replay (low ++ high)) (thing.Element u (byte_of r.stamp r.first) ∷ thing.Element u (byte_of r.stamp r.last) ∷ [])) h).0)
    refl
    (late_deletion s u r low high rises fit none (at-place (edit_of s (TextDelete u r)) low high xs rises fit none h was))
op-show s op low high xs rises fit none h was = made-show (edit_of s op) low high xs rises fit none h was refl

pub texts_take : TextsTake
texts_take e low high xs rises fit none h was = op-show e.stamp e.op low high xs rises fit none h was

pub none_is_empty : NoneIsEmpty
none_is_empty = record { rise = tt; each = λ t. refl }

-- ---- what an insertion needs

not-true : (b : Bool) → not b ≡ true → b ≡ false
not-true true h = absurd (true≢false (sym h))
not-true false h = refl

stands : (s : Stamp) (u : TextId) (after : Option ElemId) (bytes : List ℕ) (p : Plain) → names_earlier (insertion s u after bytes) ≡ true
    → has_all p (element_named u after) ≡ true
    → StandsAfter after s (elements p u)
stands s u None bytes p h k = tt
stands s u (Some a) bytes p h k =
    let l = and_parts (before u.name.stamp s) (before a.name.stamp s && true) h in
    ((and_parts (before a.name.stamp s) true l.1).0, (and_parts (has p (thing.Element u a)) true k).0)

op-ready : (s : Stamp) (op : Op) (low high : List Edit) (xs : Elements) → IsRising (low ++ edit_of s op ∷ high)
    → AllFit (edit_of s op ∷ high) → can (replay (low ++ high)) (edit_of s op) ≡ true → TextsShow (low ++ high) xs
    → IsReady s op xs
op-ready s (TextInsert u after bytes) low high xs rises fit h was =
    subst (λ ys. StandsAfter after s ys × IsNewStamp s ys) (sym (ap elements_or_none (was.each u ∙ made-there u p k.0)))
    (stands s u after bytes p ((fit_is_each_part e).0 fit.0).2 k.1, all_weaker (λ (x : TextByte). not (same_stamp x.id.name.stamp s) ≡ true) (λ (x : TextByte). same_stamp x.id.name.stamp s ≡ false) (elements p u) (λ x l. not-true (same_stamp x.id.name.stamp s) l) (elements_are_of_edits (λ q. not (same_stamp q s)) (low ++ high) u (others-pass e low high rises)))
  where
    e : Edit
    e = edit_of s (TextInsert u after bytes)

    p : Plain
    p = replay (low ++ high)

    k : (has p (thing.Text u) ≡ true) × (has_all p (element_named u after) ≡ true)
    k = and_parts (has p (thing.Text u)) (has_all p (element_named u after)) h
op-ready s _ low high xs rises fit h was = tt

pub texts_are_ready : TextsAreReady
texts_are_ready e low high xs rises fit h was = op-ready e.stamp e.op low high xs rises fit h was
