-- Edits that are done by themselves, beside others that wait.
use Rattle.std.proofs.Common.{◌≡◌, Bool, true, false, cond, not, List, [], ◌∷◌, filter, refl, ap, ◌∙◌, sym, subst}
use Rattle.std.specs.List.{AllByRecursion}
use Rattle.zed_op.specs.declared.op.Edit.{Edit}
use Rattle.zed_op.specs.Names.{names_of}
use Rattle.zed_edit.specs.declared.plain.Plain.{Plain as Document}
use Rattle.zed_edit.specs.Document.{empty_document, has}
use Rattle.zed_edit.specs.Replay.{can, do_edit, hold, taken_on, held_on}
use Rattle.zed_laws.specs.Laws.{MadeTheSame}
use Rattle.zed_laws.proofs.SameThings.{has-hold, can-same, made_outlasts_edits, made_by_what_is_made}
use Rattle.zed_laws.proofs.TakenAlone.{all_more}
use Rattle.zed_laws.proofs.DoneEdits.{all_done, AllCan, AllCan-none_held, replay_on-all_done}
use Rattle.zed_laws.specs.Settled.{SettledAreTaken}

same-done : (p q : Document) (e : Edit) → MadeTheSame p q → can p e ≡ true → can q e ≡ true → MadeTheSame (do_edit p e) (do_edit q e)
same-done p q e m c d x =
    let k = made_by_what_is_made p q (e ∷ []) m x in
    let l = rw c at k in
    rw d at l

-- what can't be done after edits can't be done before them
can-before : (q : Document) (ds : List Edit) (e : Edit) → AllCan q ds → can (all_done q ds) e ≡ false → can q e ≡ false
can-before q ds e c h = go (can q e) refl
  where
    go : (b : Bool) → can q e ≡ b → b ≡ false
    go false b = refl
    go true b =
        let more : can (all_done q ds) e ≡ true = all_more (has q) (has (all_done q ds)) (λ x k. ap (λ p. has p x) (sym (replay_on-all_done q ds c)) ∙ made_outlasts_edits q ds x k) (names_of e.op) b in
        sym more ∙ h

abbrev Wait : (Edit → Bool) → Document → List Edit → Type 0
Wait test z es = AllByRecursion (λ e. test e ≡ false → can z e ≡ false) es

settled-on : (test : Edit → Bool) (p q : Document) (es : List Edit) → MadeTheSame p q → AllCan q (filter test es)
    → Wait test (all_done q (filter test es)) es
    → (taken_on p es ≡ filter test es) × (held_on p es ≡ filter (λ e. not (test e)) es)
settled-on test p q [] m c w = (refl, refl)
settled-on test p q (e ∷ es) m c w = go (λ p' q' m' c' w'. settled-on test p' q' es m' c' w') (test e) refl
  where
    go : ((p' q' : Document) → MadeTheSame p' q' → AllCan q' (filter test es) → Wait test (all_done q' (filter test es)) es → (taken_on p' es ≡ filter test es) × (held_on p' es ≡ filter (λ f. not (test f)) es))
        → (b : Bool) → test e ≡ b
        → (taken_on p (e ∷ es) ≡ filter test (e ∷ es)) × (held_on p (e ∷ es) ≡ filter (λ f. not (test f)) (e ∷ es))
    go more true b =
        let c' : AllCan q (e ∷ filter test es) = rw b at c in
        let P : Bool → Type 0 = λ v. Wait test (all_done q (cond v (e ∷ filter test es) (filter test es))) es in
        let w' : P true = subst P b w.1 in
        let d : can p e ≡ true = can-same p q e m ∙ c'.0 in
        let k = more (do_edit p e) (do_edit q e) (same-done p q e m d c'.0) c'.1 w' in
        (rw (d, b) (ap (λ xs. e ∷ xs) k.0), rw (d, b) k.1)
    go more false b =
        let c' : AllCan q (filter test es) = rw b at c in
        let P : Bool → Type 0 = λ v. (test e ≡ false → can (all_done q (cond v (e ∷ filter test es) (filter test es))) e ≡ false) × Wait test (all_done q (cond v (e ∷ filter test es) (filter test es))) es in
        let w' : P false = subst P b w in
        let d : can p e ≡ false = can-same p q e m ∙ can-before q (filter test es) e c' (w'.0 b) in
        let k = more (hold p e) q (λ x. has-hold p e x ∙ m x) c' w'.1 in
        (rw (d, b) k.0, rw (d, b) (ap (λ xs. e ∷ xs) k.1))

pub settled_are_taken : SettledAreTaken
settled_are_taken test es h w =
    let c : AllCan empty_document (filter test es) = AllCan-none_held empty_document (filter test es) h in
    let w' : Wait test (all_done empty_document (filter test es)) es = rw (← replay_on-all_done empty_document (filter test es) c) w in
    settled-on test empty_document empty_document es (λ x. refl) c w'
