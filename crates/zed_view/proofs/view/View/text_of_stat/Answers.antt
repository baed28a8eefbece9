use Rattle.std.proofs.Common.{◌∙◌, ◌<◌, length, sym, arith}
use Rattle.zed_view.specs.View.{no_board}
use Rattle.zed_view.proofs.Sought.{text_here, text_further}
use Rattle.zed_view.proofs.view.View.text_of_stat.Goals as goal

pub returns-in-Some : goal.returns-in-Some
returns-in-Some c =
    let bs = c.args.self.now.boards in
    let within : c.loop-i.i < length bs = omega (arith, c.boards-i-end.ensures) in
    sym (text_here c.args.stat bs c.loop-i.i no_board c.in-Some.text within (sym c.in-Some.ensures)) ∙ c.loop-i.invariant

pub loop-i-preserved : goal.loop-i-preserved
loop-i-preserved c =
    let bs = c.args.self.now.boards in
    let within : c.loop-i.i < length bs = omega (arith, c.boards-i-end.ensures) in
    sym (text_further c.args.stat bs c.loop-i.i no_board within (sym c.text_on.ensures ∙ c.in_default.is)) ∙ c.loop-i.invariant
