use Rattle.std.proofs.Common.{◌≡◌}
use Rattle.zed_terminal.specs.Record.{figure, spelled_number}
use Rattle.zed_terminal.proofs.Spelling.{six}
use Rattle.zed_terminal.proofs.record.put_number.Goals as goal

pub returns : goal.returns
unfolding spelled_number
returns c =
    let f = figure c.args.number in
    six c.args.out.now.items (f 100000) (f 10000) (f 1000) (f 100) (f 10) (f 1) _ _ _ _ _ _ c.in_ok-put_figure.ensures c.in_ok-put_figure-2.ensures c.in_ok-put_figure-3.ensures
    c.in_ok-put_figure-4.ensures c.in_ok-put_figure-5.ensures c.in_ok-put_figure-6.ensures
