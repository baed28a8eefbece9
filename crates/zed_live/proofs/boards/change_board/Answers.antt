use Rattle.std.proofs.Common.{◌∙◌, ap, sym, is_some}
use Rattle.indexmap.proofs.CallerLemmas.{keys-with_value_at}
use Rattle.indexmap.specs.IndexMap.{set_value_at}
use Rattle.zed_live.specs.Board.{board_after}
use Rattle.zed_live.specs.Boards.{board_name}
use Rattle.zed_stats.proofs.Changed.{changed, change-none, unchanged}
use Rattle.zed_live.proofs.Answered.{on_ok, on_err}
use Rattle.zed_live.proofs.boards.change_board.Goals as goal

pub returns-in-Some-get_index_mut-clause-ok : goal.returns-in-Some-get_index_mut-clause-ok
returns-in-Some-get_index_mut-clause-ok c =
    let f = board_after c.args.edit.now.stamp c.args.edit.now.op in
    on_ok c.take.result
    (λ k. changed board_name c.args.id f c.args.entries.now.entries c.in-Some.i c.in-Some-get_index_mut.board.now c.take.new.self c.in-Some.ensures.index c.in-Some-get_index_mut.ensures.value k)
    c.take.ensures.ok

pub returns-in-Some-get_index_mut-clause-kept : goal.returns-in-Some-get_index_mut-clause-kept
returns-in-Some-get_index_mut-clause-kept c =
    on_err c.take.result
    (λ k. ap (set_value_at c.args.entries.now.entries c.in-Some.i) k ∙ unchanged board_name c.args.entries.now.entries c.in-Some.i c.in-Some-get_index_mut.board.now (sym c.in-Some-get_index_mut.ensures.value))
    c.take.ensures.kept

pub returns-in_default-clause-ok : goal.returns-in_default-clause-ok
returns-in_default-clause-ok c =
    let f = board_after c.args.edit.now.stamp c.args.edit.now.op in
    let none = sym c.seek.ensures.found ∙ ap is_some c.in_default.is in
    change-none board_name c.args.id f c.args.entries.now.entries none

pub returns-in-Some-get_index_mut-clause-keys : goal.returns-in-Some-get_index_mut-clause-keys
returns-in-Some-get_index_mut-clause-keys c = keys-with_value_at c.args.entries.now c.in-Some.i c.take.new.self
