use Rattle.std.proofs.Common.{ap₂, ◌∙◌}
use Rattle.std.proofs.lemmas.Result.{IfOk-weaker}
use Rattle.clap.specs.Words.{with_subcommand}
use Rattle.zed_tool_words.proofs.grammar.tool_command.Goals as goal

pub returns : goal.returns
returns c =
    let one = c.in_ok-program-2.ensures ∙ ap₂ with_subcommand c.in_ok-program.ensures c.in_ok-open_command.ensures.shape in
    let two = c.in_ok-program-3.ensures ∙ ap₂ with_subcommand one c.in_ok-take_command.ensures.shape in
    let three = c.in_ok-program-4.ensures ∙ ap₂ with_subcommand two c.in_ok-log_command.ensures.shape in
    let four = c.in_ok-program-5.ensures ∙ ap₂ with_subcommand three c.in_ok-list_command.ensures.shape in
    let five = c.in_ok-program-6.ensures ∙ ap₂ with_subcommand four c.in_ok-show_command.ensures.shape in
    let six = c.in_ok-program-7.ensures ∙ ap₂ with_subcommand five c.in_ok-page_command.ensures.shape in
    let seven = c.in_ok-program-8.ensures ∙ ap₂ with_subcommand six c.in_ok-play_command.ensures.shape in
    let eight = c.in_ok-program-9.ensures ∙ ap₂ with_subcommand seven c.in_ok-lint_command.ensures.shape in
    let nine = c.in_ok-program-10.ensures ∙ ap₂ with_subcommand eight c.in_ok-compare_command.ensures.shape in
    let ten = c.in_ok-program-11.ensures ∙ ap₂ with_subcommand nine c.in_ok-undo_command.ensures.shape in
    let eleven = c.in_ok-program-12.ensures ∙ ap₂ with_subcommand ten c.in_ok-set_command.ensures.shape in
    IfOk-weaker c.with_command-12.result _ _ (λ r h. h ∙ ap₂ with_subcommand eleven c.in_ok-program_command.ensures.shape) c.with_command-12.ensures
