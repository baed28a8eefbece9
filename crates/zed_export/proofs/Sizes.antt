-- How many bytes the parts of a body take.
use Rattle.std.proofs.Common.{◌≡◌, ℕ, ◌+◌, List, [], ◌∷◌, ◌++◌, length, length-append, arith, Option}
use Rattle.std.specs.List.{flat_map}
use Rattle.zed_types.specs.declared.names.TextId.{TextId}
use Rattle.zed_world.specs.Writing.{code_text, stat_text}
use Rattle.zed_world.proofs.Sizes.{length_stat}
use Rattle.zed_edit.specs.declared.plain.Board.{Board}
use Rattle.zed_edit.specs.declared.plain.Stat.{Stat}
use Rattle.zed_edit.specs.declared.plain.Plain.{Plain}
use Rattle.zed_export.specs.World.{exported_code, exported_stat, exported_above}
use Rattle.zed_export.specs.Limits.{told}

-- one more stat in a count
pub one_more_stat : (p : Plain) (b : Board) (lower : List (Option TextId)) (s : Stat) (ss : List Stat) (bytes program : ℕ)
    → program ≡ length (code_text (exported_code p lower s.fields.text))
    → told (told (told (bytes + 33) + program) + length (flat_map stat_text (exported_above p b (lower ++ s.fields.text ∷ []) ss)))
    ≡ told (bytes + length (flat_map stat_text (exported_above p b lower (s ∷ ss))))
one_more_stat p b lower s ss bytes program e =
    let rest = flat_map stat_text (exported_above p b (lower ++ s.fields.text ∷ []) ss) in
    let this = exported_stat p b lower s in
    let sum : length (stat_text this ++ rest) ≡ length (stat_text this) + length rest = length-append (stat_text this) rest in
    let one : length (stat_text this) ≡ 33 + length (code_text this.code) = length_stat this in
    omega arith
