-- The replay of one list of edits after another.
use Rattle.std.proofs.Common.{◌≡◌, Bool, true, false, cond, List, [], ◌∷◌, ◌++◌, refl, ap, ◌∙◌, sym, append-nil}
use Rattle.zed_op.specs.declared.op.Edit.{Edit}
use Rattle.zed_edit.specs.declared.plain.Plain.{Plain as Document}
use Rattle.zed_edit.specs.Document.{empty_document}
use Rattle.zed_edit.specs.Replay.{can, step, replay_on, replay, taken_on, taken, held_on, held}
use Rattle.zed_edit.proofs.Held.{held-stamps}
use Rattle.zed_laws.specs.Laws.{OneMoreIsOneStep, ReplayGoesOn, OneMoreIsTaken, OneMoreIsHeld, HeldAreRemembered}

pub replay_on-append : (p : Document) (es fs : List Edit) → replay_on p (es ++ fs) ≡ replay_on (replay_on p es) fs
replay_on-append p [] fs = refl
replay_on-append p (e ∷ es) fs = replay_on-append (step p e) es fs

pub taken_on-append : (p : Document) (es fs : List Edit) → taken_on p (es ++ fs) ≡ taken_on p es ++ taken_on (replay_on p es) fs
taken_on-append p [] fs = refl
taken_on-append p (e ∷ es) fs = go (can p e) (taken_on-append (step p e) es fs)
  where
    go : (b : Bool) → taken_on (step p e) (es ++ fs) ≡ taken_on (step p e) es ++ taken_on (replay_on (step p e) es) fs
        → cond b (e ∷ taken_on (step p e) (es ++ fs)) (taken_on (step p e) (es ++ fs))
        ≡ cond b (e ∷ taken_on (step p e) es) (taken_on (step p e) es) ++ taken_on (replay_on (step p e) es) fs
    go true more = ap (λ rest. e ∷ rest) more
    go false more = more

pub held_on-append : (p : Document) (es fs : List Edit) → held_on p (es ++ fs) ≡ held_on p es ++ held_on (replay_on p es) fs
held_on-append p [] fs = refl
held_on-append p (e ∷ es) fs = go (can p e) (held_on-append (step p e) es fs)
  where
    go : (b : Bool) → held_on (step p e) (es ++ fs) ≡ held_on (step p e) es ++ held_on (replay_on (step p e) es) fs
        → cond b (held_on (step p e) (es ++ fs)) (e ∷ held_on (step p e) (es ++ fs))
        ≡ cond b (held_on (step p e) es) (e ∷ held_on (step p e) es) ++ held_on (replay_on (step p e) es) fs
    go true more = more
    go false more = ap (λ rest. e ∷ rest) more

pub one_more_is_one_step : OneMoreIsOneStep
one_more_is_one_step es e = replay_on-append empty_document es (e ∷ [])

pub replay_goes_on : ReplayGoesOn
replay_goes_on es fs = replay_on-append empty_document es fs

pub one_more_is_taken : OneMoreIsTaken
one_more_is_taken es e = taken_on-append empty_document es (e ∷ []) ∙ go (can (replay es) e)
  where
    go : (b : Bool) → taken es ++ cond b (e ∷ []) [] ≡ cond b (taken es ++ e ∷ []) (taken es)
    go true = refl
    go false = append-nil (taken es)

pub one_more_is_held : OneMoreIsHeld
one_more_is_held es e = held_on-append empty_document es (e ∷ []) ∙ go (can (replay es) e)
  where
    go : (b : Bool) → held es ++ cond b [] (e ∷ []) ≡ cond b (held es) (held es ++ e ∷ [])
    go true = append-nil (held es)
    go false = refl

pub held_are_remembered : HeldAreRemembered
held_are_remembered es = sym (held-stamps empty_document es)
