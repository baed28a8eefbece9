-- What an action does to a document, and which authors there are.
use Rattle.zed_op.specs.declared.op.Edit.{Edit}
use Rattle.zed_action.specs.declared.error.ActionError.{ActionError}
use Rattle.zed_driver.specs.declared.command.Stop.TheVariants.{Memory}
use Rattle.std.proofs.Common.{◌≡◌, ◌≢◌, ◌≤◌, ℕ, zero, suc, false, List, None, Ok, Err, ap, arith, refl, inl, inr}
use Rattle.std.specs.Prelude.{◌⊎◌}
use Rattle.zed_document.specs.Replica.{Replica}
use Rattle.zed_action.specs.Refusals.{memory as no_memory}
use Rattle.zed_action.specs.Deeds.{Acts, WordsMayTake}
use Rattle.zed_refusal.specs.Stops.{action_stop}
use Rattle.cmd_edit.specs.Edited.{ActMayTake, HasEdits, IsActed, no_author}

has_own : (d : Replica) → d.is_stale ≡ false → HasEdits d d.world d.edits
has_own d sound = record { world_is = refl; edits_are = refl; sound = sound }

-- the action was done
pub action_done : (d : Replica) (replica : ℕ) (words : List (List ℕ)) (es : List Edit) → d.is_stale ≡ false → Acts d replica words (Ok es)
    → IsActed replica words (d.world, d.edits) (Ok es)
action_done d replica words es sound acts = (d, has_own d sound, (Ok es, acts, refl))

-- the action was refused
pub action_refused : (d : Replica) (replica : ℕ) (words : List (List ℕ)) (e : ActionError) → d.is_stale ≡ false
    → (e ≡ no_memory) ⊎ Acts d replica words (Err e) → (e ≡ no_memory → WordsMayTake d replica words)
    → ((action_stop e ≡ Memory) × ActMayTake replica words (d.world, d.edits)) ⊎ IsActed replica words (d.world, d.edits) (Err (action_stop e))
action_refused d replica words e sound why takes = elim why [
  | inl lacks ↦ inl (ap action_stop lacks, (d, has_own d sound, takes lacks))
  | inr acts ↦ inr (d, has_own d sound, (Err e, acts, refl))
]

-- 0 is none
pub is_author : (replica : ℕ) → no_author replica ≡ None → 1 ≤ replica
is_author zero none = absurd (cc)
is_author (suc n) none = omega arith

pub some_author : (replica : ℕ) → replica ≢ 0 → no_author replica ≡ None
some_author zero some = absurd (some refl)
some_author (suc n) some = refl
