use Rattle.std.proofs.Common.{◌≡◌, ◌∙◌, ap, sym, map, string_bytes}
use Rattle.std.specs.Prelude.{option_and_then, ◌≢◌}
use Rattle.clap.specs.Values.{kind_of}
use Rattle.clap.specs.declared.error.kind.ErrorKind.TheVariants as kind
use Rattle.zed_tool_words.specs.Commands.{subcommand_asks}
use Rattle.zed_tool_words.proofs.Parsing.{answer_with_fault, no_answer_with_fault, no_answer_without_fault, wanted_with_fault, wanted_without_fault}
use Rattle.zed_tool_words.proofs.words.parse.Goals as goal

pub returns-in-Some-clause-asks : goal.returns-in-Some-clause-asks
returns-in-Some-clause-asks c =
    wanted_without_fault (map string_bytes c.args.words.now) c.in-Ok.ensures.fails ∙ ap (option_and_then subcommand_asks) (sym c.in-Ok.ensures.rows)
    ∙ sym (rw c.in-Some.is at c.in_ok-command-in-Ok.ensures)

pub returns-in-Ok-clause-asks : goal.returns-in-Ok-clause-asks
returns-in-Ok-clause-asks c =
    let words = map string_bytes c.args.words.now in (
      wanted_without_fault words c.in-Ok.ensures.fails ∙ ap (option_and_then subcommand_asks) (sym c.in-Ok.ensures.rows)
          ∙ sym (rw c.in-None.is at c.in_ok-command-in-Ok.ensures),
      no_answer_without_fault kind.DisplayHelp words c.in-Ok.ensures.fails,
      no_answer_without_fault kind.DisplayVersion words c.in-Ok.ensures.fails,
    )

pub returns-in-DisplayHelp-clause-asks : goal.returns-in-DisplayHelp-clause-asks
returns-in-DisplayHelp-clause-asks c =
    let words = map string_bytes c.args.words.now in
    let help : kind_of c.in-Err.error ≡ kind.DisplayHelp = sym c.kind.ensures ∙ c.in-DisplayHelp.is in
    let other : kind_of c.in-Err.error ≢ kind.OutOfMemory = λ e. let bad : kind.OutOfMemory ≡ kind.DisplayHelp = sym e ∙ help in cc in (
      wanted_with_fault words c.in-Err.error c.in-Err.ensures.fails other,
      answer_with_fault kind.DisplayHelp words c.in-Err.error c.in-Err.ensures.fails other help,
    )

pub returns-in-DisplayVersion-clause-asks : goal.returns-in-DisplayVersion-clause-asks
returns-in-DisplayVersion-clause-asks c =
    let words = map string_bytes c.args.words.now in
    let version : kind_of c.in-Err.error ≡ kind.DisplayVersion = sym c.kind.ensures ∙ c.in-DisplayVersion.is in
    let other : kind_of c.in-Err.error ≢ kind.OutOfMemory = λ e. let bad : kind.OutOfMemory ≡ kind.DisplayVersion = sym e ∙ version in cc in (
      wanted_with_fault words c.in-Err.error c.in-Err.ensures.fails other,
      answer_with_fault kind.DisplayVersion words c.in-Err.error c.in-Err.ensures.fails other version,
    )

pub returns-clause-asks : goal.returns-clause-asks
returns-clause-asks c =
    let words = map string_bytes c.args.words.now in
    let other : kind_of c.in-Err.error ≢ kind.OutOfMemory = λ e. c.in_default.not-OutOfMemory (c.kind.ensures ∙ e) in (
      wanted_with_fault words c.in-Err.error c.in-Err.ensures.fails other,
      no_answer_with_fault kind.DisplayHelp words c.in-Err.error c.in-Err.ensures.fails other (λ e. c.in_default.not-DisplayHelp (c.kind.ensures ∙ e)),
      no_answer_with_fault kind.DisplayVersion words c.in-Err.error c.in-Err.ensures.fails other (λ e. c.in_default.not-DisplayVersion (c.kind.ensures ∙ e)),
    )
