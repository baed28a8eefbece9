-- What was found, where a step of reading went well.
use Rattle.std.proofs.Common.{◌≡◌, Option, Some, None, Ok}
use Rattle.zed_world.specs.declared.error.WorldError.{WorldError}
use Rattle.zed_world.specs.Reading.{found_or}

pub found_ok : {A : Type 0} (d : WorldError) (o : Option A) (y : A) → found_or d o ≡ Ok y → o ≡ Some y
found_ok d (Some x) y h = cc
found_ok d None y h = absurd cc
