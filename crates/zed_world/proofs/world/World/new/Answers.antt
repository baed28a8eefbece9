use Rattle.std.proofs.Common.{◌≡◌, List, [], ◌++◌, ap, sym, ◌∙◌, append-nil}
use Rattle.zed_world.specs.Contents.{Contents}
use Rattle.zed_world.specs.Reading.{world_at}
use Rattle.zed_world.specs.Writing.{world_text}
use Rattle.zed_world.proofs.world.World.new.Goals as goal

pub invariant_of-result : goal.invariant_of-result
invariant_of-result c =
    let w : Contents = record { header = c.args.header; boards = c.args.boards } in
    record {
      file = world_text w;
      read = ap world_at (sym (append-nil (world_text w))) ∙ c.written_is_read.ensures.back w [] c.requires.parts c.requires.bodies;
    }
