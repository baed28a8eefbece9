use Rattle.std.proofs.Common.{refl}
use Rattle.zed_files.specs.Texts.{text_in}
use Rattle.zed_program.proofs.Plain.{new_lacks, new_plain}
use Rattle.zed_program.proofs.driving.make_new.Goals as goal

pub carried-requires-clause-stands : goal.carried-requires-clause-stands
carried-requires-clause-stands g c = (refl, refl, refl, refl, rw c.new-command.ensures.file refl)

pub carried-requires-clause-plain : goal.carried-requires-clause-plain
carried-requires-clause-plain g c =
    let command = c.new-command.result in new_plain command.out.now command.world (text_in command.from) (text_in command.name)

pub carried-requires-clause-lacks : goal.carried-requires-clause-lacks
carried-requires-clause-lacks g c =
    let command = c.new-command.result in new_lacks command.out.now command.world (text_in command.from) (text_in command.name)

pub returns : goal.returns
returns g c =
    let is = c.carried.ensures in
    let so = rw (c.new-command.ensures.out, c.new-command.ensures.world, c.new-command.ensures.from, c.new-command.ensures.name) at is in
    so
