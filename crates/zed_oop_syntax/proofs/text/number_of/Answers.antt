use Rattle.std.proofs.Common.{◌∙◌, ◌+◌, ap, drop, min, arith}
use Rattle.zed_oop_syntax.specs.Text.{number}
use Rattle.zed_oop_syntax.proofs.TextLemmas.{number_more}
use Rattle.zed_oop_syntax.proofs.text.number_of.Goals as goal

pub loop-digit-preserved : goal.loop-digit-preserved
loop-digit-preserved c =
    ap (λ n. min (number n (drop (c.loop-digit.digit-index + 1) c.args.digits.now)) 32767) c.with_digit-n.ensures
    ∙ (number_more c.loop-digit.n c.args.digits.now c.loop-digit.digit-index (omega arith) ∙ c.loop-digit.invariant)
