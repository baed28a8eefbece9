-- What a replay has is what the edits taken made.
use Rattle.std.proofs.Common.{◌≡◌, ℕ, Bool, true, false, cond, ◌&&◌, ◌||◌, List, [], ◌∷◌, ◌++◌, Option, Some, None, Result, Ok, Err, refl, ap, ◌∙◌, sym}
use Rattle.std.specs.List.{AllByRecursion, list_any}
use Rattle.std.specs.Option.{is_some}
use mathlib.Core.Logic.{◌⊎◌, inl, inr}
use Rattle.zed_types.specs.declared.stamp.Stamp.{Stamp}
use Rattle.zed_types.specs.declared.names.TextId.{TextId}
use Rattle.zed_types.specs.declared.names.ElemId.{ElemId}
use Rattle.zed_types.specs.declared.names.Name.{Name}
use Rattle.zed_types.specs.declared.text.TextByte.{TextByte}
use Rattle.zed_types.specs.Stamp.{before, same_stamp}
use Rattle.zed_types.specs.Names.{text_of, same_name, same_board, same_stat, same_text, same_element}
use Rattle.zed_types.specs.Text.{run_from}
use Rattle.zed_types.proofs.StampOrder.{same_stamp-itself}
use Rattle.zed_world.specs.Contents.{Contents}
use Rattle.zed_world.specs.Reading.{world_at}
use Rattle.zed_world.specs.declared.error.WorldError.{WorldError}
use Rattle.zed_op.specs.declared.op.Op.{Op}
use Rattle.zed_op.specs.declared.op.Op.TheVariants.{Genesis, BoardAdd, StatAdd, TextAdd, TextInsert}
use Rattle.zed_op.specs.declared.op.Edit.{Edit}
use Rattle.zed_op.specs.declared.thing.Thing.{Thing}
use Rattle.zed_op.specs.declared.thing.Thing.TheVariants.{Board as board, Stat as stat, Text as text, Element as element}
use Rattle.zed_op.specs.Names.{stamp_of}
use Rattle.zed_op.specs.Set.{IsRising}
use Rattle.zed_edit.specs.declared.plain.Board.{Board}
use Rattle.zed_edit.specs.declared.plain.Stat.{Stat}
use Rattle.zed_edit.specs.declared.plain.Text.{Text}
use Rattle.zed_edit.specs.declared.plain.Plain.{Plain}
use Rattle.zed_edit.specs.Document.{empty_document, find_text, elements_in, elements, all_stats, has}
use Rattle.zed_edit.specs.Genesis.{opened_boards, opened_texts, programs_of}
use Rattle.zed_edit.specs.Replay.{can, do_edit, hold, step, replay_on, replay, taken_on, taken, held_on}
use Rattle.zed_laws.specs.TextNames.{StampsPass}
use Rattle.zed_laws.proofs.MadeElements.{elements_are_of_edits}
use Rattle.std.proofs.Math.Bool.{or_comm}
use Rattle.zed_types.proofs.Facts.{all_weaker}
use Rattle.zed_laws.proofs.MadeThings.{or_false, find-any, any_stat, makes as grows, opened, grown, has-do_op}
use Rattle.zed_laws.proofs.NamesInOrder.{StampsAre, IsBoardOf, NamesPass, pass-opened_texts, pass-step, IsBefore, before-next, none-before}
use Rattle.zed_laws.proofs.SameThings.{has-hold, text_of_byte}
use Rattle.zed_laws.specs.Making.{op_makes, makes, TakenMake, LateEditMakes, ThingsAreOfEdits}
use Rattle.zed_laws.proofs.Found.{unfound}
use Rattle.zed_laws.proofs.Fresh.{not-earlier, stats-pass}
use Rattle.zed_laws.proofs.StatReads.{any-stat}

-- ---- each thing has the stamp of an edit

-- a thing that is there passes a test that all stamps pass
passes : {X : Type 0} (name : X → Name) (test : Stamp → Bool) (n : Name) (xs : List X) → StampsAre (λ x. (name x).stamp) test xs
    → list_any (λ x. same_name (name x) n) xs ≡ true
    → test n.stamp ≡ true
passes name test n xs a h = go (test n.stamp) refl
  where
    go : (b : Bool) → test n.stamp ≡ b → b ≡ true
    go true b = refl
    go false b =
        let none = ap is_some (unfound name test n xs a b) in
        let some = find-any (λ x. same_name (name x) n) xs in
        absurd (cc)

pass-on : (test : Stamp → Bool) (p : Plain) (es : List Edit) → StampsPass test es → NamesPass test p → NamesPass test (replay_on p es)
pass-on test p [] h a = a
pass-on test p (e ∷ es) h a = pass-on test (step p e) es h.1 (pass-step test p e h.0 a)

pub things_are_of_edits : ThingsAreOfEdits
things_are_of_edits test es x h = go x
  where
    names : NamesPass test (replay es)
    names = pass-on test empty_document es h (record { texts = tt; boards = tt })

    boards : StampsAre (λ (b : Board). b.id.name.stamp) test (replay es).boards
    boards = all_weaker (IsBoardOf test) (λ (b : Board). test b.id.name.stamp ≡ true) (replay es).boards (λ b k. k.0) names.boards

    go : (y : Thing) → has (replay es) y ≡ true → test (stamp_of y) ≡ true
    go (board b) k = passes (λ (z : Board). z.id.name) test b.name (replay es).boards boards k
    go (stat s) k = passes (λ (z : Stat). z.id.name) test s.name (all_stats (replay es)) (stats-pass test (replay es).boards names.boards) (any-stat (λ z. same_stat z.id s) (replay es).boards ∙ k)
    go (text t) k = passes (λ (z : Text). z.id.name) test t.name (replay es).texts names.texts k
    go (element t a) k = passes (λ (z : TextByte). z.id.name) test a.name (elements (replay es) t) (elements_are_of_edits test es t h) k

-- ---- what each edit makes

fresh-text : (t : TextId) (s : Stamp) (w : Contents) (p : Plain) → NamesPass (λ q. before q s) p
    → (find_text t p.texts ≡ None) ⊎ (find_text t (opened_texts s w.boards) ≡ None)
fresh-text t s w p a = go (same_stamp t.name.stamp s) refl
  where
    go : (v : Bool) → same_stamp t.name.stamp s ≡ v → (find_text t p.texts ≡ None) ⊎ (find_text t (opened_texts s w.boards) ≡ None)
    go true v = inl (unfound (λ (x : Text). x.id.name) (λ q. before q s) t.name p.texts a.texts (not-earlier t.name.stamp s v))
    go false v = inr (unfound (λ (x : Text). x.id.name) (λ q. same_stamp q s) t.name (opened_texts s w.boards) (pass-opened_texts (λ q. same_stamp q s) s 0 (programs_of w.boards) (same_stamp-itself s)) v)

-- a byte is in a text that was there, or in one that is made
byte-opened : (t : TextId) (a : ElemId) (p : Plain) (o : Option Text) → (find_text t p.texts ≡ None) ⊎ (o ≡ None)
    → cond (has p (text t)) (has p (element t a)) (list_any (λ x. same_element x.id a) (elements_in o))
    ≡ (list_any (λ x. same_element x.id a) (elements_in o) || has p (element t a))
byte-opened t a p o fresh = go (has p (text t)) refl (has p (element t a)) refl
  where
    absent : has p (text t) ≡ true → o ≡ None
    absent h =
        let some : is_some (find_text t p.texts) ≡ true = find-any (λ x. same_text x.id t) p.texts ∙ h in
        elim fresh [ inl e ↦ absurd (let k = ap is_some e in cc) | inr e ↦ e ]

    there : Bool → Option Text → Bool
    there c m = list_any (λ x. same_element x.id a) (elements_in m) || c

    go : (b : Bool) → has p (text t) ≡ b → (c : Bool) → has p (element t a) ≡ c
        → cond b c (list_any (λ x. same_element x.id a) (elements_in o)) ≡ (list_any (λ x. same_element x.id a) (elements_in o) || c)
    go true b c d = sym (ap (there c) (absent b))
    go false b true d = let k = text_of_byte p t a d in absurd (cc)
    go false b false d = sym (or_false (list_any (λ x. same_element x.id a) (elements_in o)))

made-opened : (s : Stamp) (r : Result Contents WorldError) (p : Plain) (x : Thing) → NamesPass (λ q. before q s) p → (bytes : List ℕ)
    → world_at bytes ≡ r
    → opened (has p) s r x ≡ (op_makes s (Genesis bytes) x || has p x)
made-opened s (Err e) p (board b) a bytes w = rw w refl
made-opened s (Err e) p (stat y) a bytes w = rw w refl
made-opened s (Err e) p (text t) a bytes w = rw w refl
made-opened s (Err e) p (element t b) a bytes w = rw w refl
made-opened s (Ok w) p (board b) a bytes e = rw e (or_comm (has p (board b)) (list_any (λ x. same_board x.id b) (opened_boards s w.boards)))
made-opened s (Ok w) p (stat y) a bytes e =
    rw e (
    or_comm (has p (stat y)) (list_any (any_stat y) (opened_boards s w.boards))
    ∙ ap (λ v. v || has p (stat y)) (sym (any-stat (λ z. same_stat z.id y) (opened_boards s w.boards)))
    )
made-opened s (Ok w) p (text t) a bytes e = rw e (or_comm (has p (text t)) (list_any (λ x. same_text x.id t) (opened_texts s w.boards)))
made-opened s (Ok w) p (element t b) a bytes e = rw e (byte-opened t b p (find_text t (opened_texts s w.boards)) (fresh-text t s w p a))

made-none : (t : TextId) (a : ElemId) (s : Stamp)
    → list_any (λ x. same_element x.id a) (elements_in (find_text t (record { id = text_of s 0; elements = [] } ∷ []))) ≡ false
made-none t a s = go (same_text (text_of s 0) t)
  where
    go : (b : Bool)
        → list_any (λ x. same_element x.id a) (elements_in (cond b (Some (record { id = text_of s 0; elements = [] })) None)) ≡ false
    go true = refl
    go false = refl

made-run : (b : Bool) (a : ElemId) (run : List TextByte)
    → (b && list_any (λ x. same_element x.id a) run) ≡ list_any (λ x. same_element x.id a) (cond b run [])
made-run true a run = refl
made-run false a run = refl

made-grown : (s : Stamp) (op : Op) (p : Plain) (x : Thing) → NamesPass (λ q. before q s) p
    → grown (has p) s op x ≡ (op_makes s op x || has p x)
made-grown s (Genesis bytes) p x a = made-opened s (world_at bytes) p x a bytes refl
made-grown s (BoardAdd name) p (board b) a = ap (λ v. v || has p (board b)) (sym (or_false (grows s (BoardAdd name) (board b))))
made-grown s (BoardAdd name) p (stat y) a = refl
made-grown s (StatAdd d fields) p (stat y) a = ap (λ v. v || has p (stat y)) (sym (or_false (grows s (StatAdd d fields) (stat y))))
made-grown s TextAdd p (text t) a = ap (λ v. v || has p (text t)) (sym (or_false (grows s TextAdd (text t))))
made-grown s TextAdd p (element t b) a = ap (λ v. v || has p (element t b)) (sym (made-none t b s))
made-grown s (TextInsert u after bytes) p (element t b) a =
    ap (λ v. v || has p (element t b)) (made-run (same_text u t) b (run_from s 0 bytes))
made-grown s _ p (board b) a = refl
made-grown s _ p (stat y) a = refl
made-grown s _ p (text t) a = refl
made-grown s _ p (element t b) a = refl

or_more : (a b c : Bool) → (a || (b || c)) ≡ ((b || a) || c)
or_more true true c = refl
or_more true false c = refl
or_more false true c = refl
or_more false false c = refl

pub has-made : (p : Plain) (es : List Edit) (x : Thing) → IsRising es → IsBefore p es
    → has (replay_on p es) x ≡ (list_any (λ e. makes e x) (taken_on p es) || has p x)
has-made p [] x r a = refl
has-made p (e ∷ es) x r a = has-made (step p e) es x r.1 (before-next p e es r.0 a.1) ∙ go (can p e) refl
  where
    rest : Bool
    rest = list_any (λ f. makes f x) (taken_on (step p e) es)

    go : (b : Bool) → can p e ≡ b
        → (rest || has (cond b (do_edit p e) (hold p e)) x)
        ≡ (list_any (λ f. makes f x) (cond b (e ∷ taken_on (step p e) es) (taken_on (step p e) es)) || has p x)
    go true c = ap (λ v. rest || v) (has-do_op e.stamp e.op p x c ∙ made-grown e.stamp e.op p x a.0) ∙ or_more rest (makes e x) (has p x)
    go false c = ap (λ v. rest || v) (has-hold p e x)

none-has : (x : Thing) → has empty_document x ≡ false
none-has (board b) = refl
none-has (stat s) = refl
none-has (text t) = refl
none-has (element t a) = refl

pub taken_make : TakenMake
taken_make es x r =
    has-made empty_document es x r (none-before es)
    ∙ ap (λ v. list_any (λ e. makes e x) (taken es) || v) (none-has x)
    ∙ or_false (list_any (λ e. makes e x) (taken es))

-- ---- a late edit

pub all-taken : (p : Plain) (es : List Edit) → held_on p es ≡ [] → taken_on p es ≡ es
all-taken p [] h = refl
all-taken p (e ∷ es) h = go (can p e) h (λ k. all-taken (step p e) es k)
  where
    go : (b : Bool) → cond b (held_on (step p e) es) (e ∷ held_on (step p e) es) ≡ []
        → (held_on (step p e) es ≡ [] → taken_on (step p e) es ≡ es)
        → cond b (e ∷ taken_on (step p e) es) (taken_on (step p e) es) ≡ e ∷ es
    go true k more = ap (λ rest. e ∷ rest) (more k)
    go false k more = absurd (cc)

any-insert : (q : Edit → Bool) (low : List Edit) (e : Edit) (high : List Edit)
    → list_any q (low ++ e ∷ high) ≡ (q e || list_any q (low ++ high))
any-insert q [] e high = refl
any-insert q (f ∷ low) e high = ap (λ v. q f || v) (any-insert q low e high) ∙ swap (q f) (q e) (list_any q (low ++ high))
  where
    swap : (a b c : Bool) → (a || (b || c)) ≡ (b || (a || c))
    swap true true c = refl
    swap true false c = refl
    swap false b c = refl

pub rising-without : (e : Edit) (low high : List Edit) → IsRising (low ++ e ∷ high) → IsRising (low ++ high)
rising-without e [] high r = r.1
rising-without e (f ∷ low) high r = (without low r.0, rising-without e low high r.1)
  where
    without : (es : List Edit) → AllByRecursion (λ g. before f.stamp g.stamp ≡ true) (es ++ e ∷ high)
        → AllByRecursion (λ g. before f.stamp g.stamp ≡ true) (es ++ high)
    without [] a = a.1
    without (g ∷ es) a = (a.0, without es a.1)

pub late_edit_makes : LateEditMakes
late_edit_makes e low high x r none none_with =
    taken_make (low ++ e ∷ high) x r
    ∙ ap (list_any (λ f. makes f x)) (all-taken empty_document (low ++ e ∷ high) none_with)
    ∙ any-insert (λ f. makes f x) low e high
    ∙ ap (λ es. makes e x || list_any (λ f. makes f x) es) (sym (all-taken empty_document (low ++ high) none))
    ∙ ap (λ v. makes e x || v) (sym (taken_make (low ++ high) x (rising-without e low high r)))
