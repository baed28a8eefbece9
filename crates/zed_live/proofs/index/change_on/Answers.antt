use Rattle.std.proofs.Common.{◌∙◌, ap, sym, is_some}
use Rattle.indexmap.proofs.CallerLemmas.{keys-with_value_at}
use Rattle.zed_stats.proofs.Changed.{changed, change-none}
use Rattle.zed_live.specs.Board.{stat_changed}
use Rattle.zed_live.specs.Boards.{board_name}
use Rattle.zed_live.proofs.index.change_on.Goals as goal

pub returns-in-Some-get_index_mut-clause-entries : goal.returns-in-Some-get_index_mut-clause-entries
returns-in-Some-get_index_mut-clause-entries c =
    let f = stat_changed c.args.edit.now.stamp c.args.edit.now.op in
    changed board_name c.args.board f c.args.entries.now.entries c.in-Some.i c.in-Some-get_index_mut.found.now c.change_stat.new.self c.in-Some.ensures.index c.in-Some-get_index_mut.ensures.value c.change_stat.ensures

pub returns-in-Some-get_index_mut-clause-keys : goal.returns-in-Some-get_index_mut-clause-keys
returns-in-Some-get_index_mut-clause-keys c = keys-with_value_at c.args.entries.now c.in-Some.i c.change_stat.new.self

pub returns-in_default-clause-entries : goal.returns-in_default-clause-entries
returns-in_default-clause-entries c =
    let f = stat_changed c.args.edit.now.stamp c.args.edit.now.op in
    change-none board_name c.args.board f c.args.entries.now.entries (sym c.seek.ensures.found ∙ ap is_some c.in_default.is)
