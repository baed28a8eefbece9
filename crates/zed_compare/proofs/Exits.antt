-- Where a side of a board leads in four worlds.
use Rattle.std.proofs.Common.{◌≡◌, ◌∙◌, Option, refl}
use Rattle.std.specs.Prelude.{option_map}
use Rattle.std.specs.Option.{option_eq}
use Rattle.zed_types.specs.declared.names.BoardId.{BoardId}
use Rattle.zed_types.specs.declared.property.Side.{Side as Edge}
use Rattle.zed_sides.specs.declared.side.Overridden.{Overridden}
use Rattle.zed_sides.specs.Overridden.{overridden}
use Rattle.zed_compare.specs.declared.registers.BoardRegister.TheVariants as board
use Rattle.zed_join.specs.declared.sides.Views.{Views}
use Rattle.zed_join.specs.declared.targets.Target.{Target}
use Rattle.zed_join.specs.Targets.{same_target}
use Rattle.zed_compare.specs.Registers.{exit_of, of_that_board}
use Rattle.zed_join.specs.Things.{Boards, IsBoard, shown_as}

-- what is overridden of it is read so
pub exit_read : (w : Views) (b : BoardId) (x : Boards) (f : Edge) (base mine theirs union : Option Target) (r : Option Overridden) → IsBoard w b x
    → base ≡ option_map (exit_of f w.base) (shown_as b x.base) → mine ≡ option_map (exit_of f w.mine) (shown_as b x.mine)
    → theirs ≡ option_map (exit_of f w.theirs) (shown_as b x.theirs) → union ≡ option_map (exit_of f w.union) (shown_as b x.union)
    → r ≡ overridden (option_eq same_target) base mine theirs union → r ≡ of_that_board w b (board.Exit f)
exit_read w b x f base mine theirs union r is p q s t so = so ∙ rw (p, q, s, t, is.base, is.mine, is.theirs, is.union) refl
