use Rattle.std.proofs.Common.{◌≡◌, ◌∙◌, ap, sym, subst}
use Rattle.std.specs.Prelude.{None}
use Rattle.zed_terminal.specs.declared.typing.Reading.TheVariants.{Over}
use Rattle.zed_terminal.specs.Terminals.{Takes}
use Rattle.zed_terminal.specs.Typing.{inputs_left}
use Rattle.zed_terminal.proofs.Keys.{over_takes}
use Rattle.zed_terminal.proofs.typist.Typist.next_input.Goals as goal

pub returns-in-Over-clause-ok : goal.returns-in-Over-clause-ok
returns-in-Over-clause-ok g c =
    let left = g.B.Bytes.bytes_left c.loop.self.bytes in
    let is = c.in-Over.is in
    let over : c.loop.self.reading ≡ Over = cc in
    let before = inputs_left c.args.self.now.reading (g.B.Bytes.bytes_left c.args.self.now.bytes) in
    let same : inputs_left Over left ≡ before = ap (λ r. inputs_left r left) (sym over) ∙ c.loop.invariant.left in
    subst (λ r. Takes None before (inputs_left r left)) (sym over) (over_takes left before same)
