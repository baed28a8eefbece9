use Rattle.zed_stats.proofs.FieldWrites as writes
use Rattle.zed_stats.proofs.laws.fields_hold_the_latest.Goals as goal

pub returns : goal.returns
returns c = writes.fields_hold_the_latest
