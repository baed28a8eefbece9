use Rattle.std.proofs.Common.{◌≡◌, ℕ, List, Option, rules, ap, ◌∙◌, refl}
use Rattle.zed_types.specs.declared.names.BoardId.{BoardId}
use Rattle.zed_types.specs.declared.property.Side.TheVariants.{North, South, West, East}
use Rattle.zed_types.specs.declared.property.BoardByte.TheVariants.{MaxShots, StartX, StartY}
use Rattle.zed_types.specs.declared.property.BoardFlag.TheVariants.{Dark, ReEnter}
use Rattle.zed_types.specs.declared.property.BoardText.TheVariants.{Message}
use Rattle.zed_edit.specs.declared.plain.Properties.{Properties}
use Rattle.zed_view.specs.View.{board_at, board_byte, board_flag, exit, board_text}
use Rattle.zed_export.specs.World.{exit_number}
use Rattle.zed_types.specs.declared.names.Name.{Name}
use Rattle.zed_export.specs.Fields.{exit_place, board_names}
use Rattle.zed_export.proofs.Names.{exit_places}
use Rattle.zed_export.proofs.Numbers16.{kept}
use Rattle.zed_export.proofs.board.properties_of.Goals as goal

pub returns-clause-result : goal.returns-clause-result
returns-clause-result c =
    let p = c.args.view.now in
    let q = (board_at p c.args.i).properties in
    let shown = c.properties-properties.ensures in
    let number : (n : ℕ) (x o : Option BoardId) → n ≡ exit_place c.args.boards.now x → x ≡ o → n ≡ exit_number p o
    = λ n x o e f. e ∙ ap (λ (names : List Name). exit_place names x) c.requires.boards ∙ ap (exit_place (board_names p)) f ∙ exit_places p c.requires.ordered o in
    let north = number c.exit_number.result c.exit.result (exit North q) c.exit_number.ensures (c.exit.ensures ∙ ap (exit North) shown) in
    let south =
    number c.exit_number-2.result c.exit-2.result (exit South q) c.exit_number-2.ensures (c.exit-2.ensures ∙ ap (exit South) shown) in
    let west =
    number c.exit_number-3.result c.exit-3.result (exit West q) c.exit_number-3.ensures (c.exit-3.ensures ∙ ap (exit West) shown) in
    let east =
    number c.exit_number-4.result c.exit-4.result (exit East q) c.exit_number-4.ensures (c.exit-4.ensures ∙ ap (exit East) shown) in
    let message : c.in_ok-from_slice.field-0 ≡ board_text Message q =
    c.in_ok-from_slice.ensures.result ∙ c.text.ensures ∙ ap (board_text Message) shown in
    let limit = kept c.time_limit.result q.time_limit (search rules) (c.time_limit.ensures ∙ ap (λ (x : Properties). x.time_limit) shown) in
    rw (
      c.byte.ensures ∙ ap (board_byte MaxShots) shown,
      c.flag.ensures ∙ ap (board_flag Dark) shown,
      north,
      south,
      west,
      east,
      c.flag-2.ensures ∙ ap (board_flag ReEnter) shown,
      message,
      c.byte-2.ensures ∙ ap (board_byte StartX) shown,
      c.byte-3.ensures ∙ ap (board_byte StartY) shown,
      limit,
    ) refl
