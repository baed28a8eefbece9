-- Steps that aren't made.
use Rattle.std.proofs.Common.{◌≡◌, ◌⊎◌, inl, inr, ℕ, List, Err, Some, None, refl, ap, sym, subst}
use Rattle.zed_scene.specs.declared.error.SceneError.{SceneError}
use Rattle.zed_scene.specs.declared.error.SceneError.TheVariants.{Memory, NoWords}
use Rattle.zed_play.specs.declared.error.PlayError.{PlayError}
use Rattle.zed_play.specs.declared.key.Key.{Key}
use Rattle.zed_play.specs.Playtest.{Playtest}
use Rattle.zed_play.specs.Step.{Looks, Steps, asked, from_first, refused}

-- what is told of a step is what came of its looks
pub step_refused : (key : Key) (p q : Playtest) (ws : List ℕ) (e : SceneError) (x : PlayError) → p.ending ≡ None → refused e p ≡ (x, q)
    → (e ≡ Memory) ⊎ ((e ≡ NoWords) × Looks (asked key p) 1024 (from_first p.game) ws None)
    → Steps (Err x) key p ws q
step_refused key p q ws e x none told (inl memory) =
    let P : SceneError → Type 0 = λ s. refused s p ≡ (x, q) in
    let now : refused Memory p ≡ (x, q) = subst P memory told in
    let R : PlayError × Playtest → Type 0 = λ r. Steps (Err r.0) key p ws r.1 in
    subst R now (none, refl)
step_refused key p q ws e x none told (inr (lacks, looks)) =
    let P : SceneError → Type 0 = λ s. refused s p ≡ (x, q) in
    let now : refused NoWords p ≡ (x, q) = subst P lacks told in
    let R : PlayError × Playtest → Type 0 = λ r. Steps (Err r.0) key p ws r.1 in
    subst R now (none, ((None, (looks, refl)), refl))
