-- An edit that isn't held itself and wakes no other leaves held what was.
use Rattle.std.proofs.Common.{◌≡◌, ◌∙◌, Bool, true, false, not, cond, List, [], ◌∷◌, length, map, filter, refl, ap, sym}
use Rattle.zed_op.specs.declared.op.Edit.{Edit}
use Rattle.zed_op.specs.Set.{with_edit}
use Rattle.zed_edit.specs.Replay.{can, replay, held}
use Rattle.zed_laws.proofs.ReplaySteps.{held_are_remembered}
use Rattle.zed_delivery.specs.Taking.{is_held, held_stamps, CalmEditsHoldTheSame}
use Rattle.zed_delivery.proofs.Woken.{woken-edits, told-held, still-held}

-- where none fails a test, all pass it
all-pass : (q : Edit → Bool) (es : List Edit) → length (filter (λ e. not (q e)) es) ≡ 0 → filter q es ≡ es
all-pass q [] h = refl
all-pass q (e ∷ es) h = go (q e) h (λ k. all-pass q es k)
  where
    others : List Edit
    others = filter (λ f. not (q f)) es

    go : (b : Bool) → length (cond (not b) (e ∷ others) others) ≡ 0 → (length others ≡ 0 → filter q es ≡ es)
        → cond b (e ∷ filter q es) (filter q es) ≡ e ∷ es
    go true h more = ap (λ fs. e ∷ fs) (more h)
    go false h more = absurd (cc)

pub calm_edits_hold_the_same : CalmEditsHoldTheSame
calm_edits_hold_the_same e es r f fits n isnt none = go (can (replay es) e) refl
  where
    new : List Edit
    new = with_edit e es

    go : (b : Bool) → can (replay es) e ≡ b → held_stamps new ≡ held_stamps es
    go true able =
        let all = all-pass (λ (g : Edit). is_held new g.stamp) (held es) (sym (woken-edits es new) ∙ none) in
        let same : held new ≡ held es = sym (still-held e es r f fits n able) ∙ all in
        sym (held_are_remembered new) ∙ ap (map (λ (g : Edit). g.stamp)) same ∙ held_are_remembered es
    go false cant = let is = told-held e es r f fits n cant in absurd (cc)
