use Rattle.std.proofs.Common.{◌∙◌, sym, arith}
use Rattle.std.proofs.lemmas.Bool.{le-leb}
use Rattle.zed_plaintext.proofs.Numbers.{number_read}
use Rattle.zed_plaintext.proofs.words.digits.Goals as goal

pub returns-then-n-most-clause-result : goal.returns-then-n-most-clause-result
returns-then-n-most-clause-result c =
    let read = number_read c.args.most c.args.word.now c.parse.result (sym c.is_digits.ensures ∙ c.if-not-is_digits.false) (omega arith) c.parse.ensures.value.0 in
    rw (c.in-Ok.is, le-leb _ _ c.if-n-most.true) at read

pub returns-in-Err-clause-result : goal.returns-in-Err-clause-result
returns-in-Err-clause-result c =
    let read = number_read c.args.most c.args.word.now c.parse.result (sym c.is_digits.ensures ∙ c.if-not-is_digits.false) (omega arith) c.parse.ensures.value.0 in
    rw c.in-Err.is at read
