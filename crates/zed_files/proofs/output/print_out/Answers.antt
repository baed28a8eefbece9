use Rattle.std.proofs.lemmas.Result.{err_from_is_err_and}
use Rattle.zed_files.proofs.Asked.{print_failed}
use Rattle.zed_files.proofs.output.print_out.Goals as goal

pub returns-in_err-print-clause-asked : goal.returns-in_err-print-clause-asked
returns-in_err-print-clause-asked g c =
    let p = err_from_is_err_and c.from_residual.result c.from_residual.ensures.1 in
    rw p.1 (print_failed g.H.Host.called p.0 _ _ p.2 c.in_err-print.ensures.asked)
