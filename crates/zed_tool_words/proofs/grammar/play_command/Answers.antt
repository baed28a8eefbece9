use Rattle.std.proofs.Common.{ap, ap₂, ◌∙◌}
use Rattle.std.proofs.lemmas.Result.{IfOk-weaker}
use Rattle.clap.specs.Words.{App, with_rule}
use Rattle.zed_tool_words.proofs.grammar.play_command.Goals as goal

pub returns-clause-shape : goal.returns-clause-shape
returns-clause-shape c =
    let one = c.in_ok-command.ensures.app ∙ ap₂ with_rule c.bare_command-command.ensures.app c.number_word.ensures.rule in
    let two = c.in_ok-command-2.ensures.app ∙ ap₂ with_rule one c.files_argument.ensures.rule in
    let three = c.in_ok-command-3.ensures.app ∙ ap₂ with_rule two c.flag_argument.ensures.rule in
    let four = c.in_ok-command-4.ensures.app ∙ ap₂ with_rule three c.number_argument.ensures.rule in
    let five = c.in_ok-command-5.ensures.app ∙ ap₂ with_rule four c.option_argument.ensures.rule in
    IfOk-weaker c.with_argument-6.result _ _ (λ r h. ap (λ (a : App). a.top) (h ∙ ap₂ with_rule five c.option_argument-2.ensures.rule)) c.with_argument-6.ensures.app
