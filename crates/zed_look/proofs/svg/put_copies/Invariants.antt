use Rattle.std.proofs.Common.{◌≡◌, ◌++◌, ◌-◌}
use Rattle.zed_look.specs.Svg.{copies, escaped}
use Rattle.zed_look.proofs.svg.put_copies.Given as goal

abbrev pub invariant-loop-done : goal.invariant-loop-done
invariant-loop-done l =
    l.out.items ++ copies (l.count - l.done) (escaped l.character) ≡ l.fn.out.items ++ copies l.count (escaped l.character)
