use Rattle.std.proofs.Common.{◌∙◌, ap, sym}
use Rattle.indexmap.specs.IndexMap.{set_value_at}
use Rattle.zed_stats.proofs.Changed.{unchanged}
use Rattle.zed_live.specs.Boards.{board_name}
use Rattle.zed_live.proofs.index.hint_on.Goals as goal

pub returns-in-Some-get_index_mut : goal.returns-in-Some-get_index_mut
returns-in-Some-get_index_mut c =
    ap (set_value_at c.args.entries.now.entries c.in-Some.i) c.hint_stat.ensures ∙ unchanged board_name c.args.entries.now.entries c.in-Some.i c.in-Some-get_index_mut.found.now (sym c.in-Some-get_index_mut.ensures.value)
