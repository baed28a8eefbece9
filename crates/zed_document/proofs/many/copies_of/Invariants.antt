use Rattle.std.proofs.Common.{◌≡◌, take}
use Rattle.zed_document.proofs.many.copies_of.Given as goal

abbrev pub invariant-loop-edit : goal.invariant-loop-edit
invariant-loop-edit l = l.copies.items ≡ take l.edit-index l.edits
