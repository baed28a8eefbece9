-- What calls come to, one after the other.
use Rattle.std.proofs.Common.{◌≡◌, ◌<◌, ℕ, List, length, Result, Ok, Err, refl, subst, sym, inl, inr}
use Rattle.std.specs.Prelude.{◌⊎◌}
use Rattle.zed_document.specs.declared.error.DocumentError.{DocumentError}
use Rattle.zed_document.specs.declared.error.DocumentError.TheVariants.{Memory}
use Rattle.zed_action.specs.Deeds.{◌>>=◌}
use Rattle.cmd_set.specs.Deeds.{Comes}

-- a call that answers what is told
pub comes_same : {X : Type 0} (kept : List ℕ) (result told : Result X DocumentError) → result ≡ told → Comes kept result told
comes_same kept (Ok x) told is = sym is
comes_same kept (Err e) told is = inr (sym is)

-- a call that follows another one
pub then_comes : {X Y : Type 0} (kept : List ℕ) (told : Result X DocumentError) (x : X) (next : X → Result Y DocumentError) (result : Result Y DocumentError)
    → told ≡ Ok x → Comes kept result (next x) → Comes kept result (told >>= next)
then_comes kept told x next result is comes = subst (λ r. Comes kept result (r >>= next)) (sym is) comes

-- a call that was refused, before the next one
pub refused_comes : {X Y : Type 0} (kept : List ℕ) (told : Result X DocumentError) (e : DocumentError) (next : X → Result Y DocumentError)
    → ((e ≡ Memory) × (0 < length kept)) ⊎ (told ≡ Err e) → ((e ≡ Memory) × (0 < length kept)) ⊎ ((told >>= next) ≡ Err e)
refused_comes kept told e next why = elim why [
  | inl lacks ↦ inl lacks
  | inr is ↦ inr (rw is refl)
]
