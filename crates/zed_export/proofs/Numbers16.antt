-- Numbers of sixteen bits.
use Rattle.std.proofs.Common.{◌≡◌, ℤ, SFits, w16, of_z, to_z, ◌∙◌}
use Rattle.std.proofs.lemmas.Int.{to_z-of_z}

-- a number that fits is kept
pub kept : (r z : ℤ) → SFits w16 r → r ≡ z → to_z w16 (of_z w16 r) ≡ z
kept r z fits e = to_z-of_z w16 r fits ∙ e
