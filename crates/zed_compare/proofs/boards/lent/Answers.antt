use Rattle.std.proofs.Common.{◌∙◌, nat_eq}
use Rattle.std.specs.Cmp.Lexicographic.{pointwise}
use Rattle.zed_compare.proofs.Lent.{overridden_lent}
use Rattle.zed_compare.proofs.boards.lent.Goals as goal

pub returns : goal.returns
returns c = c.overridden.ensures ∙ overridden_lent (pointwise nat_eq) c.args.base c.args.mine c.args.theirs c.args.union
