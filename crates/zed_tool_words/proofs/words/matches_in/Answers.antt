use Rattle.std.proofs.Common.{◌≡◌, ◌∙◌, ap, map, refl, string_bytes, subst, true}
use Rattle.std.proofs.lemmas.Result.{IfOk-weaker}
use Rattle.clap.specs.Words.{App, FailsBy, fault_of, is_simple, is_simple_and_free, subcommand_of}
use Rattle.clap.proofs.OnLiterals.{clap_on_literals}
use Rattle.zed_tool_words.specs.Grammar.{tool_app}
use Rattle.zed_tool_words.proofs.words.matches_in.Goals as goal

free : is_simple_and_free tool_app ≡ true
unfolding clap_on_literals
free = refl

simple : is_simple tool_app ≡ true
unfolding clap_on_literals
simple = refl

pub returns-clause-fails : goal.returns-clause-fails
returns-clause-fails c =
    let app = c.in_ok-tool_command.ensures in
    subst (λ (a : App). FailsBy (fault_of a (map string_bytes c.args.words.now)) c.try_get_matches_from.result) app
    (c.try_get_matches_from.ensures.kinds (ap is_simple_and_free app ∙ free))

pub returns-clause-rows : goal.returns-clause-rows
returns-clause-rows c =
    let app = c.in_ok-tool_command.ensures in
    IfOk-weaker c.try_get_matches_from.result _ _ (λ m h. (h (ap is_simple app ∙ simple)).1 ∙ ap (λ (a : App). subcommand_of a (map string_bytes c.args.words.now)) app)
    c.try_get_matches_from.ensures.matches
