use Rattle.std.proofs.Common.{◌≡◌, ◌∙◌, ap, rules}
use Rattle.std.specs.Prelude.{option_map}
use Rattle.std.proofs.lemmas.Result.{err_from_is_err_and}
use Rattle.zed_host.specs.HostContents.{with_file}
use Rattle.zed_files.proofs.Asked.{line_failed, write_failed}
use Rattle.zed_files.proofs.Endings.{half_file, half_line}
use Rattle.zed_files.proofs.output.write_out.Goals as goal

pub returns-in_err-write-clause-half : goal.returns-in_err-write-clause-half
returns-in_err-write-clause-half g c = λ t at.
    let p = err_from_is_err_and c.from_residual.result c.from_residual.ensures.1 in
    rw p.1 (half_file c.args.out.now c.args.bytes.now c.args.line.now t _ _ at c.in_err-write.ensures.half)

pub returns-in_err-print-clause-half : goal.returns-in_err-print-clause-half
returns-in_err-print-clause-half g c = λ t at.
    let p = err_from_is_err_and c.from_residual-in_err-print.result c.from_residual-in_err-print.ensures.1 in
    let middle = c.in_ok-write.ensures.written ∙ ap (option_map (with_file c.args.out.now c.args.bytes.now)) at in
    let same : c.as_bytes.result.now ≡ c.args.line.now = search rules in
    rw p.1 (half_line c.args.out.now c.args.bytes.now c.args.line.now t _ _ (search rules) middle (rw same at c.in_err-print.ensures.half))

pub returns-in_err-write-clause-asked : goal.returns-in_err-write-clause-asked
returns-in_err-write-clause-asked g c =
    let p = err_from_is_err_and c.from_residual.result c.from_residual.ensures.1 in
    rw p.1 (write_failed g.H.Host.called c.args.out.now p.0 _ _ p.2 c.in_err-write.ensures.asked)

pub returns-in_err-print-clause-asked : goal.returns-in_err-print-clause-asked
returns-in_err-print-clause-asked g c =
    let p = err_from_is_err_and c.from_residual-in_err-print.result c.from_residual-in_err-print.ensures.1 in
    rw p.1 (line_failed g.H.Host.called c.args.out.now p.0 _ _ _ (search rules) p.2 c.in_ok-write.ensures.asked c.in_err-print.ensures.asked)
