use Rattle.std.proofs.Common.{refl}
use Rattle.zed_world.proofs.Rewritten.{canonical_tested}
use Rattle.cmd_edit.proofs.new.file_of.Goals as goal

pub write_edit-requires : goal.write_edit-requires
write_edit-requires c = rw (c.new.ensures, (canonical_tested c.args.bytes.items).1 c.requires) refl
