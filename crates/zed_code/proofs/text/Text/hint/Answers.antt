use Rattle.std.proofs.Common.{sym}
use Rattle.zed_code.proofs.Hinting.{hints-of}
use Rattle.zed_code.proofs.text.Text.hint.Goals as goal

pub find_asked-asked-requires : goal.find_asked-asked-requires
find_asked-asked-requires c = hints-of c.self.inside.hints.entries c.self.inside.places.items c.deref-2.result.now c.self.inside.blocks.items c.deref.result.now (sym c.deref-2.ensures.value) (sym c.deref.ensures.value) c.self.invariant.hints
