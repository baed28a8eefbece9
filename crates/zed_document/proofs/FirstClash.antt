-- Deliveries to a document without edits: what they come to.
use Rattle.std.proofs.Common.{◌≡◌, ◌∙◌, ℕ, zero, suc, ◌<◌, Bool, true, false, cond, List, [], ◌∷◌, ◌++◌, Some, None, Ok, Err, length, get_or, refl, ap, sym, subst, arith, append-nil, append_assoc}
use Rattle.std.specs.Prelude.{◌≢◌, Contains, Option, Result}
use mathlib.Core.Logic.{◌⊎◌, inl, inr}
use Rattle.std.proofs.lemmas.List.Elements.{Contains-append_cases}
use Rattle.zed_types.specs.declared.stamp.Stamp.{Stamp}
use Rattle.zed_types.specs.Stamp.{same_stamp}
use Rattle.zed_types.proofs.StampOrder.{same_stamp-itself}
use Rattle.zed_op.specs.declared.op.Edit.{Edit}
use Rattle.zed_op.specs.Set.{Agrees, AllFit, set_of, with_edit}
use Rattle.zed_op.specs.SetLaws.{SetHasItsEdits, SetGrowsByEdits}
use Rattle.zed_history.specs.Finding.{edit_with}
use Rattle.zed_document.specs.declared.delivered.Delivered.{Delivered}
use Rattle.zed_document.specs.declared.error.DocumentError.{DocumentError}
use Rattle.zed_document.specs.declared.error.DocumentError.TheVariants.{Clash}
use Rattle.zed_document.specs.Delivery.{AnswersAt, DeliveriesComeToSets, DeliversEach, IsFirstClash, after_edit}
use Rattle.zed_document.specs.Replica.{Replica}
use Rattle.zed_history.proofs.Clashing.{edit_with-stands}

-- what is there is found
none_found : (s : Stamp) (es : List Edit) (f : Edit) → edit_with s es ≡ None → Contains es f → f.stamp ≢ s
none_found s es f e h = walk es h.0 h.1 h.2 e
  where
    walk : (ys : List Edit) (k : ℕ) → k < length ys → get_or ys k f ≡ f → edit_with s ys ≡ None → f.stamp ≢ s
    walk [] k l q n = absurd (omega arith)
    walk (y ∷ ys) zero l q n = λ t. let here : same_stamp y.stamp s ≡ true = rw (q, t) (same_stamp-itself s) in
        let bad : Some y ≡ None = sym (ap (λ b. cond b (Some y) (edit_with s ys)) here) ∙ n in cc
    walk (y ∷ ys) (suc k) l q n = go (same_stamp y.stamp s) n (walk ys k (omega arith) q)
      where
        go : (b : Bool) → cond b (Some y) (edit_with s ys) ≡ None → (edit_with s ys ≡ None → f.stamp ≢ s) → f.stamp ≢ s
        go true bad more = let no : Some y ≡ None = bad in cc
        go false m more = more m

only : (e x : Edit) → Contains (e ∷ []) x → e ≡ x
only e x h = go h.0 h.1 h.2
  where
    go : (k : ℕ) → k < 1 → get_or (e ∷ []) k x ≡ x → e ≡ x
    go zero l q = q
    go (suc k) l q = absurd (omega arith)

-- an edit with a new stamp agrees with the others
new_agrees : SetHasItsEdits → (es : List Edit) (e : Edit) → Agrees es → edit_with e.stamp (set_of es) ≡ None → Agrees (es ++ e ∷ [])
new_agrees has es e agrees none a b m n same =
    elim (Contains-append_cases es (e ∷ []) a m) [
      | inl k ↦ elim (Contains-append_cases es (e ∷ []) b n) [
        | inl l ↦ agrees a b k l same
        | inr l ↦ absurd (other a k (same ∙ ap (λ (x : Edit). x.stamp) (sym (only e b l))))
      ]
      | inr k ↦ elim (Contains-append_cases es (e ∷ []) b n) [
        | inl l ↦ absurd (other b l (sym same ∙ ap (λ (x : Edit). x.stamp) (sym (only e a k))))
        | inr l ↦ sym (only e a k) ∙ only e b l
      ]
    ]
  where
    other : (x : Edit) → Contains es x → x.stamp ≢ e.stamp
    other x h = none_found e.stamp (set_of es) x none ((has es agrees x).1 h)

-- an edit that is there agrees with the others
known_agrees : SetHasItsEdits → (es : List Edit) (e f : Edit) → Agrees es → edit_with e.stamp (set_of es) ≡ Some f → f ≡ e
    → Agrees (es ++ e ∷ [])
known_agrees has es e f agrees found is a b m n same = agrees a b (within a m) (within b n) same
  where
    there : Contains es e
    there = subst (Contains es) is ((has es agrees f).0 (edit_with-stands e.stamp (set_of es) f found).0)

    within : (x : Edit) → Contains (es ++ e ∷ []) x → Contains es x
    within x h = elim (Contains-append_cases es (e ∷ []) x h) [ inl k ↦ k | inr k ↦ subst (Contains es) (only e x k) there ]

-- an edit that was delivered agrees with those before it
took : SetHasItsEdits → (es ds : List Edit) (e : Edit) (told : Delivered) → ds ≡ set_of es → Agrees es
    → AnswersAt (edit_with e.stamp ds) ds e (Ok told)
    → Agrees (es ++ e ∷ [])
took has es ds e told is agrees h = go (edit_with e.stamp ds) (ap (edit_with e.stamp) (sym is)) h
  where
    go : (o : Option Edit) → edit_with e.stamp (set_of es) ≡ o → AnswersAt o ds e (Ok told) → Agrees (es ++ e ∷ [])
    go None at new = new_agrees has es e agrees at
    go (Some f) at (inl known) = known_agrees has es e f agrees at known.0
    go (Some f) at (inr clash) = absurd (let bad : Ok told ≡ Err (Clash e.stamp) = clash.1 in cc)

-- an edit that was refused has another edit of its stamp before it
abbrev IsClash : List Edit → Edit → DocumentError → Type 0
IsClash es e x = ((f : Edit) × Contains es f × (f.stamp ≡ e.stamp) × (f ≢ e)) × (x ≡ Clash e.stamp)

abbrev told_as : DocumentError → Result Delivered DocumentError
told_as x = Err x

same_refusal : (x y : DocumentError) → told_as x ≡ told_as y → x ≡ y
same_refusal x y same = cc

refused : SetHasItsEdits → (es ds : List Edit) (e : Edit) (x : DocumentError) → ds ≡ set_of es → Agrees es
    → AnswersAt (edit_with e.stamp ds) ds e (Err x)
    → IsClash es e x
refused has es ds e x is agrees h = go (edit_with e.stamp ds) (ap (edit_with e.stamp) (sym is)) h
  where
    go : (o : Option Edit) → edit_with e.stamp (set_of es) ≡ o → AnswersAt o ds e (Err x) → IsClash es e x
    go None at new = absurd new
    go (Some f) at (inl known) = absurd known.1
    go (Some f) at (inr clash) =
        let r = edit_with-stands e.stamp (set_of es) f at in
        ((f, (has es agrees f).0 r.0, r.1, clash.0), same_refusal x (Clash e.stamp) clash.1)

abbrev ComesTo : List Edit → Result (Unit {0}) DocumentError → List Edit → Type 0
ComesTo es r left = ((r ≡ Ok tt) × Agrees es × (left ≡ set_of es)) ⊎ ((s : Stamp) × IsFirstClash es s × (r ≡ Err (Clash s)))

come_to : SetHasItsEdits → SetGrowsByEdits → (d : Replica) (done es : List Edit) (r : Result (Unit {0}) DocumentError) (left : List Edit)
    → d.is_stale ≡ false → d.edits ≡ set_of done → Agrees done → AllFit es → DeliversEach d es r left → ComesTo (done ++ es) r left
come_to has grows d done [] r left sound is agrees fit h =
    inl (h.0, rw (append-nil done) agrees, h.1 ∙ is ∙ ap set_of (sym (append-nil done)))
come_to has grows d done (e ∷ es) r left sound is agrees fit h =
    elim h [
      | inl taken ↦ (
          let answer : AnswersAt (edit_with e.stamp d.edits) d.edits e (Ok taken.0) = rw (sound, fit.0) at taken.1 in
          let next = took has done d.edits e taken.0 is agrees answer in
          let grown : (after_edit e d).edits ≡ set_of (done ++ e ∷ []) = ap (with_edit e) is ∙ sym (grows done e) in
          let more = come_to has grows (after_edit e d) (done ++ e ∷ []) es r left sound grown next fit.1 taken.2 in
          subst (λ all. ComesTo all r left) (append_assoc done (e ∷ []) es) more)
      | inr other ↦ (
          let answer : AnswersAt (edit_with e.stamp d.edits) d.edits e (Err other.0) = rw (sound, fit.0) at other.1 in
          let clash = refused has done d.edits e other.0 is agrees answer in
          inr (
            e.stamp,
            record {
              before = done;
              edit = e;
              after = es;
              whole = refl;
              agrees = agrees;
              clashes = clash.0;
              stamp = refl;
            },
            other.2 ∙ ap (λ x. Err x) clash.1,
          ))
    ]

none_agree : Agrees []
none_agree e f m n same = absurd (let l = m.1 in omega arith)

pub deliveries_come_to_sets : SetHasItsEdits → SetGrowsByEdits → DeliveriesComeToSets
deliveries_come_to_sets has grows d es r left sound empty fit h = come_to has grows d [] es r left sound empty none_agree fit h
