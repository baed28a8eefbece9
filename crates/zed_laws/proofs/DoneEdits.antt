-- Edits of which none is held: each is done at its turn.
use Rattle.std.proofs.Common.{◌≡◌, Bool, true, false, List, [], ◌∷◌, ◌++◌, refl}
use Rattle.zed_op.specs.declared.op.Edit.{Edit}
use Rattle.zed_edit.specs.declared.plain.Plain.{Plain as Document}
use Rattle.zed_edit.specs.Replay.{can, do_edit, replay_on, held_on}

-- what edits make that are all done
abbrev pub all_done : Document → List Edit → Document
all_done p [] = p
all_done p (e ∷ es) = all_done (do_edit p e) es

-- each can be done at its turn
abbrev pub AllCan : Document → List Edit → Type 0
AllCan p [] = Unit {0}
AllCan p (e ∷ es) = (can p e ≡ true) × AllCan (do_edit p e) es

pub all_done-append : (p : Document) (low high : List Edit) → all_done p (low ++ high) ≡ all_done (all_done p low) high
all_done-append p [] high = refl
all_done-append p (e ∷ low) high = all_done-append (do_edit p e) low high

pub AllCan-tail : (p : Document) (low high : List Edit) → AllCan p (low ++ high) → AllCan (all_done p low) high
AllCan-tail p [] high c = c
AllCan-tail p (e ∷ low) high c = AllCan-tail (do_edit p e) low high c.1

pub AllCan-none_held : (p : Document) (es : List Edit) → held_on p es ≡ [] → AllCan p es
AllCan-none_held p [] h = tt
AllCan-none_held p (e ∷ es) h = go (can p e) refl (λ k. AllCan-none_held (do_edit p e) es k)
  where
    go : (b : Bool) → can p e ≡ b → (held_on (do_edit p e) es ≡ [] → AllCan (do_edit p e) es) → AllCan p (e ∷ es)
    go true b more = (b, more (rw b at h))
    go false b more = absurd (let k = rw b at h in cc)

pub replay_on-all_done : (p : Document) (es : List Edit) → AllCan p es → replay_on p es ≡ all_done p es
replay_on-all_done p [] c = refl
replay_on-all_done p (e ∷ es) c = rw c.0 (replay_on-all_done (do_edit p e) es c.1)
