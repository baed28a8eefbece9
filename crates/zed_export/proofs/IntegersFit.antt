-- The world of a document whose signed numbers are of sixteen bits: each fits in its field.
use Rattle.std.proofs.Common.{◌≡◌, ◌≤◌, ℕ, zero, suc, ℤ, pos, get_or, rules, not, List, [], ◌∷◌, ◌++◌, map, Option, None}
use Rattle.std.specs.Prelude.{filter}
use Rattle.std.specs.List.{AllByRecursion}
use Rattle.zed_types.specs.declared.limits.TheConstants.{READ_BODY_LIMIT}
use Rattle.zed_types.specs.declared.names.TextId.{TextId}
use Rattle.zed_world.specs.Normal.{HasNormalParts, IsInteger}
use Rattle.zed_edit.specs.declared.plain.Board.{Board}
use Rattle.zed_edit.specs.declared.plain.Stat.{Stat}
use Rattle.zed_edit.specs.declared.plain.Plain.{Plain}
use Rattle.zed_edit.specs.Numbers.{alive_boards, boards_there}
use Rattle.zed_edit.proofs.Numbering.{each-so}
use Rattle.zed_laws.specs.NameOrder.{IsOrdered}
use Rattle.zed_laws.specs.Integers.{StatHasIntegers, BoardHasIntegers, HasIntegers}
use Rattle.zed_laws.specs.Regular.{IsRegular}
use Rattle.zed_export.specs.World.{exported_above, exported_board, world_of}
use Rattle.zed_export.specs.Fields.{FitsStat, FitsBoard}
use Rattle.zed_export.specs.Limits.{refusal_of}
use Rattle.zed_export.proofs.Each.{each_filtered}
use Rattle.zed_export.proofs.Normality.{world_normal}

-- ---- the exported world

-- a number of a list of such numbers, or 0 past its end
number_fits : (zs : List ℤ) (i : ℕ) → AllByRecursion IsInteger zs → IsInteger (get_or zs i (pos 0))
number_fits [] i h = search rules
number_fits (z ∷ zs) zero h = h.0
number_fits (z ∷ zs) (suc i) h = number_fits zs i h.1

stats_fit : (p : Plain) (b : Board) (lower : List (Option TextId)) (ss : List Stat) → AllByRecursion StatHasIntegers ss
    → AllByRecursion FitsStat (exported_above p b lower ss)
stats_fit p b lower [] h = tt
stats_fit p b lower (s ∷ ss) h =
    let number : (i : ℕ) → IsInteger (get_or s.fields.numbers i (pos 0)) = λ i. number_fits s.fields.numbers i h.0.numbers in
    (record { step_x = number 0; step_y = number 1; cycle = number 2; position = h.0.position }, stats_fit p b (lower ++ s.fields.text ∷ []) ss h.1)

boards_fit : (p : Plain) (bs : List Board) → AllByRecursion BoardHasIntegers bs → AllByRecursion FitsBoard (map (exported_board p) bs)
boards_fit p [] h = tt
boards_fit p (b ∷ bs) h =
    let live = each_filtered StatHasIntegers (λ s. not s.removed) b.stats h.0.stats in
    (record { time_limit = h.0.time_limit; stats = stats_fit p b [] (filter (λ s. not s.removed) b.stats) live }, boards_fit p bs h.1)

pub integers_normal : (limit : ℕ) (p : Plain) → IsRegular p → IsOrdered p → HasIntegers p → limit ≤ READ_BODY_LIMIT
    → refusal_of limit p ≡ None
    → HasNormalParts (world_of p)
integers_normal limit p regular ordered integers low within =
    let number : (i : ℕ) → IsInteger (get_or p.header.numbers i (pos 0)) = λ i. number_fits p.header.numbers i integers.header in
    world_normal limit p regular ordered low within
    (record { ammo = number 0; gems = number 1; health = number 2; torches = number 3; torch_ticks = number 4; energizer_ticks = number 5; score = number 6; time_passed = number 7; hundredths = number 8 })
    (boards_fit p (alive_boards p) (each-so BoardHasIntegers (boards_there p) (each_filtered BoardHasIntegers (λ b. not b.removed) p.boards integers.boards)))
