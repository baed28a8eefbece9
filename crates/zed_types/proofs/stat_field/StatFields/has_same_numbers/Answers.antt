use Rattle.std.specs.Cmp.Rules.{signed_items}
use Rattle.zed_types.proofs.stat_field.StatFields.has_same_numbers.Goals as goal

pub returns : goal.returns
returns c = rw c.eq.ensures (signed_items c.args.self.now.numbers c.args.other.now.numbers)
