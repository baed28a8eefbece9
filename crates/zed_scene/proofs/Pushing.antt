-- What a push along a chain comes to.
use Rattle.std.proofs.Common.{◌≡◌, ℕ, zero, suc, ◌-◌, ◌<◌, ◌==◌, true, false, Some, refl, arith, sub-one}
use Rattle.zed_types.specs.declared.tile.Place.{Place}
use Rattle.zed_scene.specs.declared.scene.Scene.{Scene}
use Rattle.zed_scene.specs.declared.step.Step.{Step}
use Rattle.zed_scene.specs.Places.{ahead}
use Rattle.zed_scene.specs.Scene.{element_at}
use Rattle.zed_scene.specs.Moving.{is_pushable, pushed_by, pushed_onto}

-- where something is in the way, it is pushed first
pub pushed_further : (r : ℕ) (p n : Place) (d : Step) (s : Scene) → 0 < r → is_pushable (element_at s p) d ≡ true → ahead p d ≡ Some n
    → (element_at s n == 0) ≡ false
    → pushed_onto p n (pushed_by (r - 1) n d s) ≡ pushed_by r p d s
pushed_further zero p n d s h _ _ _ = absurd (omega arith)
pushed_further (suc k) p n d s h pushable to full = rw (pushable, to, full, sub-one) refl
