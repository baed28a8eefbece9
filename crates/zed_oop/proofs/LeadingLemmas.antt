-- Turnings, one after another.
use Rattle.std.proofs.Common.{◌≡◌, ℕ, zero, suc, ◌<◌, List, [], ◌∷◌, Some, None, drop, get_or, length, refl, arith}
use Rattle.zed_oop_syntax.specs.declared.heading.Turning.{Turning}
use Rattle.zed_scene.specs.declared.step.Step.{Step}
use Rattle.zed_oop.specs.Leading.{turned, turned_all}

-- where one turning lacks a word, all do
pub turned_lacks : (ts : List Turning) (i : ℕ) (t : Turning) (d e : Step) (ws vs : List ℕ) → i < length ts
    → turned_all (drop (suc i) ts) d ws ≡ Some (e, vs) → turned (get_or ts i t) e vs ≡ None
    → turned_all ts d ws ≡ None
turned_lacks [] i t d e ws vs h _ _ = absurd (omega arith)
turned_lacks (x ∷ ts) zero t d e ws vs h so_far lacks = rw (so_far, lacks) refl
turned_lacks (x ∷ ts) (suc i) t d e ws vs h so_far lacks = rw (turned_lacks ts i t d e ws vs (omega arith) so_far lacks) refl
