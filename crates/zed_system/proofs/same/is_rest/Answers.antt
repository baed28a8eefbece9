use Rattle.std.proofs.Common.{rules}
use Rattle.zed_system.proofs.Compared.{piece_read}
use Rattle.zed_system.proofs.same.is_rest.Goals as goal

pub loop-left-preserved : goal.loop-left-preserved
loop-left-preserved g c =
    piece_read (g.R.Read.remaining c.args.reader.now) (g.R.Read.remaining c.loop-left.reader) (g.R.Read.remaining c.is_next.new.reader) c.split_at.result.0.now
    c.split_at.result.1.now c.loop-left.left.now c.args.bytes.now c.loop-left.invariant (search rules) c.split_at.ensures.by_index.0
