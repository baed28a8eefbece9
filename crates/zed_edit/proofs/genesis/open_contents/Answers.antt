use Rattle.std.proofs.Common.{length}
use Rattle.zed_edit.proofs.Programs.{short_programs}
use Rattle.zed_edit.proofs.genesis.open_contents.Goals as goal

pub open_texts-requires-clause-short : goal.open_texts-requires-clause-short
open_texts-requires-clause-short c =
    rw (c.boards-boards.ensures.result) (short_programs (length c.args.world.now.boards) c.args.world.now.boards c.boards-boards.ensures.normal.boards)
