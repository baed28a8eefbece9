use Rattle.std.proofs.Common.{sym, ◌∙◌}
use Rattle.zed_code.proofs.Joins.{list_at-get}
use Rattle.zed_code.proofs.block.runs_at.Goals as goal

pub returns : goal.returns
returns c = c.as_slice.ensures.value ∙ sym (list_at-get c.args.blocks.now c.args.block c.index-blocks-block.result c.requires)
