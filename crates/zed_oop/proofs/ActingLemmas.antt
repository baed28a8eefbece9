-- What is known of the running stat after it changed.
use Rattle.std.proofs.Common.{◌≡◌, ℕ, zero, suc, List, [], ◌∷◌, Option, Some, None, slice_get, slice_set, refl}
use Rattle.zed_scene.specs.declared.stat.Stat.{Stat}
use Rattle.zed_scene.specs.Scene.{Scene, program_of, put_at, put_running_stat, running_stat, stat_of}
use Rattle.zed_oop.specs.Acting.{with_position, changed}

-- what is written where something stands is read there
pub get_after_set : {X : Type 0} (xs : List X) (i : ℕ) (x y : X) → slice_get xs i ≡ Some x → slice_get (slice_set xs i y) i ≡ Some y
get_after_set [] i x y h = absurd (cc)
get_after_set (z ∷ xs) zero x y h = refl
get_after_set (z ∷ xs) (suc i) x y h = get_after_set xs i x y h

-- the running stat after it was put
pub running_after_put : (s : Scene) (o : Option ℕ) (a b : Stat) → s.running ≡ o → stat_of s o ≡ Some a
    → running_stat (put_running_stat b s) ≡ Some b
running_after_put s None a b e h = absurd (cc)
running_after_put s (Some i) a b e h = rw e (get_after_set s.stats i a b h)

-- the running stat after its position was set
pub running_after_move : (s : Scene) (a : Stat) (o : Option ℕ) → running_stat s ≡ Some a
    → running_stat (with_position o s) ≡ Some (record a { position = o })
running_after_move s a o h = rw h (running_after_put s s.running a (record a { position = o }) refl h)

put_same : (i : Option ℕ) (b : Stat) (s : Scene) (o : Option ℕ) → program_of (put_at i b s) o ≡ program_of s o
put_same None b s o = refl
put_same (Some i) b s None = refl
put_same (Some i) b s (Some k) = refl

moved_same : (p : Option ℕ) (a : Option Stat) (s : Scene) (o : Option ℕ)
    → program_of (changed (λ x. record x { position = p }) a s) o ≡ program_of s o
moved_same p None s o = refl
moved_same p (Some a) s o = put_same s.running (record a { position = p }) s o

-- a move changes no program
pub same_program : (s : Scene) (p o : Option ℕ) → program_of (with_position p s) o ≡ program_of s o
same_program s p o = moved_same p (running_stat s) s o
