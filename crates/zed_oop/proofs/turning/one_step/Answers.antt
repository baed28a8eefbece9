use Rattle.std.proofs.Common.{◌∙◌, ap, sym}
use Rattle.std.specs.Option.{option_copied}
use Rattle.zed_oop.specs.Turn.{over, position_of, state}
use Rattle.zed_oop.proofs.TurnLemmas.{command_done, instruction_done}
use Rattle.zed_oop.proofs.RoomLemmas.{command_nearer, instruction_nearer}
use Rattle.zed_oop.proofs.Taking.{command_reading_takes, command_takes, following_takes, reading_takes}
use Rattle.zed_oop.proofs.turning.one_step.Goals as goal

pub returns-in-None-clause-steps : goal.returns-in-None-clause-steps
returns-in-None-clause-steps c =
    over c.args.reading (state c.args.scene.now c.args.words.now c.args.lines.now) (ap position_of (sym c.running_stat_ref.ensures.result ∙ ap option_copied c.in-None.is))

pub returns-in-None-position-clause-steps : goal.returns-in-None-position-clause-steps
returns-in-None-position-clause-steps c =
    over c.args.reading (state c.args.scene.now c.args.words.now c.args.lines.now) (ap position_of (sym c.running_stat_ref.ensures.result ∙ ap option_copied c.in-Some.is) ∙ c.in-None-position.is)

pub returns-in_ok-instruction-in-Instructing-clause-steps : goal.returns-in_ok-instruction-in-Instructing-clause-steps
returns-in_ok-instruction-in-Instructing-clause-steps c =
    instruction_done c.args.reading (state c.args.scene.now c.args.words.now c.args.lines.now)
    (state c.instruct.new.scene c.instruct.new.words c.instruct.new.lines) c.in-Some.stat.now c.in-Some-position.at
    c.in_ok-instruction-in-Instructing.instruction c.in_ok-instruction-in-Instructing.next c.program.result.now c.instruct.result
    c.in-Instructing.is (sym c.running_stat_ref.ensures.result ∙ ap option_copied c.in-Some.is) c.in-Some-position.is c.program.ensures.result
    c.in_ok-instruction-in-Instructing.ensures.result c.instruct.ensures.result

pub returns-in_ok-command-in-Commanding-clause-steps : goal.returns-in_ok-command-in-Commanding-clause-steps
returns-in_ok-command-in-Commanding-clause-steps c =
    command_done c.args.reading (state c.args.scene.now c.args.words.now c.args.lines.now)
    (state c.command_with.new.scene c.command_with.new.words c.command_with.new.lines) c.in-Some.stat.now c.in-Some-position.at
    c.in-Commanding.start c.in_ok-command-in-Commanding.command c.in_ok-command-in-Commanding.next c.program-in-Commanding.result.now
    c.command_with.result c.in-Commanding.is (sym c.running_stat_ref.ensures.result ∙ ap option_copied c.in-Some.is) c.in-Some-position.is c.program-in-Commanding.ensures.result
    c.in_ok-command-in-Commanding.ensures.result c.command_with.ensures.result

pub returns-in_ok-instruction-in-Instructing-clause-nearer : goal.returns-in_ok-instruction-in-Instructing-clause-nearer
returns-in_ok-instruction-in-Instructing-clause-nearer c =
    instruction_nearer c.args.reading (state c.args.scene.now c.args.words.now c.args.lines.now)
    (state c.instruct.new.scene c.instruct.new.words c.instruct.new.lines) c.in-Some.stat.now c.in-Some-position.at
    c.in_ok-instruction-in-Instructing.instruction c.in_ok-instruction-in-Instructing.next c.program.result.now c.instruct.result
    c.in-Instructing.is (sym c.running_stat_ref.ensures.result ∙ ap option_copied c.in-Some.is) c.in-Some-position.is c.program.ensures.result
    c.in_ok-instruction-in-Instructing.ensures.ends c.instruct.ensures.result

pub returns-in_ok-command-in-Commanding-clause-nearer : goal.returns-in_ok-command-in-Commanding-clause-nearer
returns-in_ok-command-in-Commanding-clause-nearer c =
    command_nearer c.args.reading (state c.args.scene.now c.args.words.now c.args.lines.now)
    (state c.command_with.new.scene c.command_with.new.words c.command_with.new.lines) c.in-Some.stat.now c.in-Some-position.at
    c.in-Commanding.start c.in_ok-command-in-Commanding.command c.in_ok-command-in-Commanding.next
    c.command_with.result c.in-Commanding.is (sym c.running_stat_ref.ensures.result ∙ ap option_copied c.in-Some.is) c.in-Some-position.is
    c.in_ok-command-in-Commanding.ensures.ends c.command_with.ensures.result

pub returns-in_ok-command-in-Commanding-clause-memory_only_when : goal.returns-in_ok-command-in-Commanding-clause-memory_only_when
returns-in_ok-command-in-Commanding-clause-memory_only_when c = λ e.
    command_takes c.args.reading (state c.args.scene.now c.args.words.now c.args.lines.now) c.in-Some.stat.now c.in-Some-position.at
    c.in-Commanding.start c.program-in-Commanding.result.now c.in_ok-command-in-Commanding.command c.in_ok-command-in-Commanding.next
    c.in-Commanding.is (sym c.running_stat_ref.ensures.result ∙ ap option_copied c.in-Some.is) c.in-Some-position.is c.program-in-Commanding.ensures.result
    c.in_ok-command-in-Commanding.ensures.result (c.command_with.ensures.memory_only_when e)

pub returns-in_err-command-in-Commanding-clause-memory_only_when : goal.returns-in_err-command-in-Commanding-clause-memory_only_when
returns-in_err-command-in-Commanding-clause-memory_only_when c = λ e.
    command_reading_takes c.args.reading (state c.args.scene.now c.args.words.now c.args.lines.now) c.in-Some.stat.now c.in-Some-position.at
    c.in-Commanding.start c.program-in-Commanding.result.now
    c.in-Commanding.is (sym c.running_stat_ref.ensures.result ∙ ap option_copied c.in-Some.is) c.in-Some-position.is c.program-in-Commanding.ensures.result
    c.in_err-command-in-Commanding.ensures.memory_only_when

pub returns-in_err-instruction-in-Instructing-clause-memory_only_when : goal.returns-in_err-instruction-in-Instructing-clause-memory_only_when
returns-in_err-instruction-in-Instructing-clause-memory_only_when c = λ e.
    reading_takes c.args.reading (state c.args.scene.now c.args.words.now c.args.lines.now) c.in-Some.stat.now c.in-Some-position.at
    c.program.result.now
    c.in-Instructing.is (sym c.running_stat_ref.ensures.result ∙ ap option_copied c.in-Some.is) c.in-Some-position.is c.program.ensures.result
    c.in_err-instruction-in-Instructing.ensures.memory_only_when

pub returns-in_ok-instruction-in-Instructing-clause-memory_only_when : goal.returns-in_ok-instruction-in-Instructing-clause-memory_only_when
returns-in_ok-instruction-in-Instructing-clause-memory_only_when c = λ e.
    following_takes c.args.reading (state c.args.scene.now c.args.words.now c.args.lines.now) c.in-Some.stat.now c.in-Some-position.at
    c.program.result.now c.in_ok-instruction-in-Instructing.instruction c.in_ok-instruction-in-Instructing.next
    c.in-Instructing.is (sym c.running_stat_ref.ensures.result ∙ ap option_copied c.in-Some.is) c.in-Some-position.is c.program.ensures.result
    c.in_ok-instruction-in-Instructing.ensures.result (c.instruct.ensures.memory_only_when e)
