use Rattle.std.proofs.Common.{◌≡◌, ℕ, List, [], ◌∷◌, length, get_or, take, map, ap, ◌∙◌, refl, arith}
use Rattle.zed_types.specs.declared.header.FlagSlot.{FlagSlot}
use Rattle.zed_types.specs.Header.{flag_index}
use Rattle.zed_live.specs.Shown.{shown}
use Rattle.zed_export.specs.declared.header.TheConstants.{SLOTS}
use Rattle.zed_export.proofs.header.flags_of.Goals as goal

-- a list of ten, by their slots
ten : (xs : List (List ℕ)) → length xs ≡ 10 → map (λ k. get_or xs (flag_index k) []) SLOTS ≡ xs
ten (a ∷ b ∷ c ∷ d ∷ e ∷ f ∷ g ∷ h ∷ i ∷ j ∷ []) p = refl
ten _ p = absurd (omega arith)

pub returns : goal.returns
returns c =
    let flags = (shown c.args.header.now).flags in
    let all : c.loop-slot.slot-index ≡ 10 = omega arith in
    c.from_vec.ensures ∙ c.loop-slot.invariant ∙ ap (λ (n : ℕ). map (λ (k : FlagSlot). get_or flags (flag_index k) []) (take n SLOTS)) all ∙ ten flags c.requires
