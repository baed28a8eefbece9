use Rattle.std.proofs.Common.{ap, ap₂, ◌∙◌}
use Rattle.std.proofs.lemmas.Result.{IfOk-weaker}
use Rattle.clap.specs.Words.{App, with_rule}
use Rattle.zed_tool_words.proofs.grammar.take_command.Goals as goal

pub returns-clause-shape : goal.returns-clause-shape
returns-clause-shape c =
    let one = c.in_ok-command.ensures.app ∙ ap₂ with_rule c.bare_command-command.ensures.app c.required_argument.ensures.rule in
    let two = c.in_ok-command-2.ensures.app ∙ ap₂ with_rule one c.replica_argument.ensures.rule in
    let three = c.in_ok-command-3.ensures.app ∙ ap₂ with_rule two c.required_argument-2.ensures.rule in
    let four = c.in_ok-command-4.ensures.app ∙ ap₂ with_rule three c.option_argument.ensures.rule in
    IfOk-weaker c.with_argument-5.result _ _ (λ r h. ap (λ (a : App). a.top) (h ∙ ap₂ with_rule four c.flag_argument.ensures.rule)) c.with_argument-5.ensures.app
