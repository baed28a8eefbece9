use Rattle.std.proofs.Common.{◌≡◌, ◌+◌, false, length, drop, get_or, sym, ap, ◌∙◌, arith}
use Rattle.zed_code.specs.Blocks.{lists, joined, list_at}
use Rattle.zed_code.specs.Runs.{sought}
use Rattle.zed_code.proofs.Hinting.{any-sought, any-none, spot-read}
use Rattle.zed_code.proofs.Rests.{none}
use Rattle.zed_code.proofs.search.is_there.Goals as goal

pub returns : goal.returns
returns c =
    let ls = lists c.args.blocks.now in
    let at = c.find_asked.result.at in
    let inside = c.find_asked.ensures.inside (omega (arith, c.if-at-blocks.false)) in
    let there = spot-read at ls c.runs_at.result.now none inside c.runs_at.ensures in
    let rest = drop (at.place + 1) (list_at at.block ls) in
    c.has.ensures ∙ sym (any-sought c.args.id (joined ls) (get_or c.runs_at.result.now at.place none) _ c.requires.ordered (ap (λ n. drop n (joined ls)) (sym c.find_asked.ensures.place) ∙ there))

pub returns-then-at-blocks : goal.returns-then-at-blocks
returns-then-at-blocks c =
    let ls = lists c.args.blocks.now in
    let all : sought c.args.id.name.stamp c.args.id.name.index (joined ls) ≡ length (joined ls) =
    sym c.find_asked.ensures.place ∙ c.find_asked.ensures.end (omega (arith, c.if-at-blocks.true)) in
    sym (any-none c.args.id (joined ls) all)
