-- The note of edits that are taken.
use Rattle.std.proofs.Common.{◌≡◌, ◌∙◌, ℕ, Bool, true, false, List, ◌++◌, Result, Ok, Err, ap, length, map, sym}
use Rattle.std.specs.Prelude.{if◌then◌else◌}
use Rattle.std.specs.List.{flat_map}
use Rattle.std.proofs.lemmas.List.{length-map}
use Rattle.zed_op.specs.declared.op.Edit.{Edit}
use Rattle.zed_edit.specs.declared.plain.Plain.{Plain}
use Rattle.zed_view.specs.View.{board_at}
use Rattle.zed_driver.specs.declared.command.Stop.TheVariants.{Refused}
use Rattle.cmd_take.specs.declared.opening.Forcing.{Forcing}
use Rattle.cmd_take.specs.declared.reason.DrawingReason.TheVariants.{TakesAway}
use Rattle.cmd_take.specs.Changes.{are_too_many, removals, world_boards}
use Rattle.cmd_take.specs.Note.{added_line, board_lines, header_line, note, told}
use Rattle.cmd_take.specs.Stops.{DrawingStop}

-- what is told, by whether too many boards go
abbrev told_by : Plain → List Edit → Bool → Result (List ℕ) DrawingStop
told_by p es b = if b then Err (Refused (TakesAway (removals es))) else Ok (note p es)

-- whether they do, by the places of the boards
so_many : (forcing : Forcing) (p : Plain) (es : List Edit) (places : List ℕ) (boards removed : ℕ) (is b : Bool)
    → map (board_at p) places ≡ world_boards p → boards ≡ length places → removed ≡ removals es
    → is ≡ are_too_many forcing boards removed → is ≡ b
    → are_too_many forcing (length (world_boards p)) (removals es) ≡ b
so_many forcing p es places boards removed is b placed count gone tests so =
    let same : length (world_boards p) ≡ boards = ap length (sym placed) ∙ length-map places (board_at p) ∙ sym count in
    ap (λ n. are_too_many forcing n (removals es)) same ∙ ap (are_too_many forcing boards) (sym gone) ∙ sym tests ∙ so

-- too many boards go
pub slips : (forcing : Forcing) (p : Plain) (es : List Edit) (places : List ℕ) (boards removed : ℕ) (is : Bool)
    → map (board_at p) places ≡ world_boards p → boards ≡ length places → removed ≡ removals es
    → is ≡ are_too_many forcing boards removed → is ≡ true
    → Err (Refused (TakesAway removed)) ≡ told forcing p es
slips forcing p es places boards removed is placed count gone tests so =
    ap (λ n. Err (Refused (TakesAway n))) gone
    ∙ sym (ap (told_by p es) (so_many forcing p es places boards removed is true placed count gone tests so))

-- the note is told
pub notes : (forcing : Forcing) (p : Plain) (es : List Edit) (places : List ℕ) (boards removed : ℕ) (is : Bool) (text : List ℕ)
    → map (board_at p) places ≡ world_boards p → boards ≡ length places → removed ≡ removals es
    → is ≡ are_too_many forcing boards removed → is ≡ false
    → text ≡ header_line es ++ board_lines es 0 (map (board_at p) places) ++ flat_map (λ e. added_line e.op) es
    → Ok text ≡ told forcing p es
notes forcing p es places boards removed is text placed count gone tests so done =
    let whole : text ≡ note p es = done ∙ ap (λ bs. header_line es ++ board_lines es 0 bs ++ flat_map (λ e. added_line e.op) es) placed in
    ap (λ t. Ok t) whole ∙ sym (ap (told_by p es) (so_many forcing p es places boards removed is false placed count gone tests so))
