use Rattle.zed_code.specs.Blocks.{lists}
use Rattle.zed_code.proofs.Hinting.{hint-holds}
use Rattle.zed_code.proofs.search.keep_far.Goals as goal

pub returns-then-last : goal.returns-then-last
returns-then-last c =
    let last = c.args.last in
    let is = c.requires.found in
    hint-holds c.args.hints.now.entries c.keep_hint.new.hints.entries c.args.places.now (lists c.args.blocks.now) last.at last.id is.0 is.1 c.requires.hints c.keep_hint.ensures.hints
