-- Findings that are of no register.
use Rattle.std.proofs.Common.{◌≡◌, false, List, [], ◌∷◌, ◌++◌}
use Rattle.zed_compare.specs.declared.finding.Finding.{Finding}
use Rattle.zed_compare.specs.Findings.{is_of_register, of_registers}
use Rattle.zed_compare.proofs.Kept.{adds_none}

-- one that is added changes none that is
pub other_adds_none : (xs : List Finding) (y : Finding) → is_of_register y ≡ false → of_registers (xs ++ y ∷ []) ≡ of_registers xs
other_adds_none = adds_none
