use Rattle.zed_code.proofs.Entries.{last-one}
use Rattle.zed_code.proofs.hints.nearest.Goals as goal

pub returns-in-Some : goal.returns-in-Some
returns-in-Some c =
    let part = c.range.ensures.contiguous in
    last-one c.args.hints.now.entries c.next_back.new.self c.range.result (c.in-Some.near.now, c.in-Some.block.now) part.0 part.1 part.2 c.in-Some.ensures.steps
