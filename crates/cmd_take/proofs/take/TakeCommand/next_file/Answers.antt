use Rattle.std.proofs.Common.{◌≡◌, ◌∙◌, Some, ap, sym}
use Rattle.zed_files.specs.Texts.{text_in}
use Rattle.cmd_take.specs.TakeStages.{take_next}
use Rattle.cmd_take.proofs.Steps.{wants_now}
use Rattle.cmd_take.proofs.TakeSteps.{file_is_next, next_is_wanted}
use Rattle.cmd_take.proofs.take.TakeCommand.next_file.Goals as goal

pub returns-in-Opened-clause-wants : goal.returns-in-Opened-clause-wants
returns-in-Opened-clause-wants c = λ first files stands.
    let s = c.args.self.now in
    let next : take_next s.file.now s.replica s.world.now s.stage ≡ Some c.as_str.result.now =
    ap (take_next s.file.now s.replica s.world.now) c.in-Opened.is ∙ ap (λ n. Some n) (sym c.as_str.ensures.value) in
    wants_now files _ _ _ _ _ stands.1 (next_is_wanted (text_in s.base) s.file.now s.replica s.world.now s.stage _ next)

pub returns-in-Based-clause-wants : goal.returns-in-Based-clause-wants
returns-in-Based-clause-wants c = λ first files stands.
    let s = c.args.self.now in
    wants_now files _ _ _ _ _ stands.1 (next_is_wanted (text_in s.base) s.file.now s.replica s.world.now s.stage _ (ap (take_next s.file.now s.replica s.world.now) c.in-Based.is))

pub returns-else-self-eq0-clause-wants : goal.returns-else-self-eq0-clause-wants
returns-else-self-eq0-clause-wants c = λ first files stands.
    let s = c.args.self.now in
    let next : take_next s.file.now s.replica s.world.now s.stage ≡ Some s.file.now =
    ap (take_next s.file.now s.replica s.world.now) c.in-Begun.is ∙ file_is_next s.file.now s.replica s.world.now c.if-self-eq0.false in
    wants_now files _ _ _ _ _ stands.1 (next_is_wanted (text_in s.base) s.file.now s.replica s.world.now s.stage _ next)
