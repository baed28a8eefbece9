use Rattle.std.proofs.Common.{◌≡◌, ℕ, List, Bool, Option, rules, ap, ◌∙◌, refl}
use Rattle.zed_types.specs.declared.names.StatId.{StatId}
use Rattle.zed_types.specs.declared.tile.Tile.{Tile}
use Rattle.zed_world.specs.Offsets.{is_passage_at}
use Rattle.zed_edit.specs.Numbers.{stat_number as number_of_stat}
use Rattle.std.specs.Prelude.{option_and_then}
use Rattle.zed_types.specs.declared.stat_field.StatByte.{StatByte}
use Rattle.zed_types.specs.declared.stat_field.StatByte.TheVariants.{X, Y, P1, P2, UnderElement, UnderColour}
use Rattle.zed_types.specs.declared.stat_field.StatNumber.{StatNumber}
use Rattle.zed_types.specs.declared.stat_field.StatNumber.TheVariants.{StepX, StepY, Cycle, Position}
use Rattle.zed_edit.specs.declared.plain.Stat.{Stat}
use Rattle.zed_view.specs.View.{board_at, stat_at, stat_byte, stat_number}
use Rattle.zed_export.specs.World.{parameter}
use Rattle.zed_types.specs.declared.names.Name.{Name}
use Rattle.zed_export.specs.Fields.{place_parameter, board_names, stat_place, stat_names}
use Rattle.zed_export.proofs.Names.{parameter_places, stat_places}
use Rattle.zed_export.proofs.Numbers16.{kept}
use Rattle.zed_export.proofs.board.stat_of.Goals as goal

pub returns-clause-result : goal.returns-clause-result
returns-clause-result c =
    let p = c.args.view.now in
    let b = board_at p c.args.i in
    let s = stat_at b c.args.j in
    let byte = λ (f : StatByte). ap (stat_byte f) c.stat.ensures in
    let numbered = λ (f : StatNumber). ap (stat_number f) c.stat.ensures in
    let number : (n x o : Option StatId) → x ≡ o → stat_place c.args.stats.now x ≡ option_and_then (number_of_stat b) o
    = λ n x o f. ap (λ (names : List Name). stat_place names x) c.requires.stats ∙ ap (stat_place (stat_names b)) f ∙ stat_places b o in
    let values = c.stat.result.1.now.values in
    let follower = c.stat_number.ensures ∙ number s.follower values.follower s.follower (ap (λ (x : Stat). x.follower) c.stat.ensures) in
    let leader = c.stat_number-2.ensures ∙ number s.leader values.leader s.leader (ap (λ (x : Stat). x.leader) c.stat.ensures) in
    let x = c.byte-x.ensures ∙ byte X in
    let y = c.byte-y.ensures ∙ byte Y in
    let parameter_there = ap (λ (x : Stat). x.fields.p3) c.stat.ensures in
    let passage : c.is_passage-on_passage.result ≡ is_passage_at b.tiles (stat_byte X s) (stat_byte Y s)
    = c.is_passage-on_passage.ensures ∙ ap (λ (ts : List Tile). is_passage_at ts c.byte-x.result c.byte-y.result) c.table.ensures ∙ ap (λ (x : ℕ). is_passage_at b.tiles x c.byte-y.result) x ∙ ap (is_passage_at b.tiles (stat_byte X s)) y in
    let p3 : c.parameter_of.result ≡ parameter p (is_passage_at b.tiles (stat_byte X s) (stat_byte Y s)) s.fields.p3
    = c.parameter_of.ensures ∙ ap (λ (names : List Name). place_parameter names c.is_passage-on_passage.result values.fields.p3) c.requires.boards
    ∙ ap (λ (t : Bool). place_parameter (board_names p) t values.fields.p3) passage
    ∙ ap (place_parameter (board_names p) (is_passage_at b.tiles (stat_byte X s) (stat_byte Y s))) parameter_there
    ∙ parameter_places p c.requires.ordered (is_passage_at b.tiles (stat_byte X s) (stat_byte Y s)) s.fields.p3 in
    let step_x = kept c.number.result (stat_number StepX s) (search rules) (c.number.ensures ∙ numbered StepX) in
    let step_y = kept c.number-2.result (stat_number StepY s) (search rules) (c.number-2.ensures ∙ numbered StepY) in
    let cycle = kept c.number-3.result (stat_number Cycle s) (search rules) (c.number-3.ensures ∙ numbered Cycle) in
    let position = kept c.number-4.result (stat_number Position s) (search rules) (c.number-4.ensures ∙ numbered Position) in
    rw (x, y, step_x, step_y, cycle, c.byte.ensures ∙ byte P1, c.byte-2.ensures ∙ byte P2, p3, follower, leader, c.byte-3.ensures ∙ byte UnderElement, c.byte-4.ensures ∙ byte UnderColour, position) refl
