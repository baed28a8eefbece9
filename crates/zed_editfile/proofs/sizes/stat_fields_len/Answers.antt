use Rattle.std.proofs.Common.{rules, ◌≡◌, length, drop, length-take, length-drop, length-append, arith}
use Rattle.zed_editfile.specs.Spelling.{optional, text_name}
use Rattle.zed_editfile.proofs.Lengths.{length_integers}
use Rattle.zed_editfile.proofs.sizes.stat_fields_len.Goals as goal

pub returns-clause-result : goal.returns-clause-result
returns-clause-result c =
    let f = c.args.fields.now in
    let text : c.optional_len.result ≡ length (optional text_name f.text) = search rules in
    simp length-append (omega (arith, length-take 2 f.bytes, length-take 2 (drop 2 f.bytes), length-drop 2 f.bytes, length-drop 2 (drop 2 f.bytes), length_integers f.numbers, c.third_parameter_len.ensures.result, text))
