use Rattle.std.proofs.Common.{◌≡◌, ◌++◌, drop}
use Rattle.std.specs.List.{flat_map}
use Rattle.zed_op.specs.Set.{AllFit}
use Rattle.zed_editfile.specs.Spelling.{record_text}
use Rattle.zed_editfile.proofs.writing.put_all.Given as goal

-- the records so far, before those that are left, are all
abbrev pub invariant-loop-edit : goal.invariant-loop-edit
invariant-loop-edit l = record {
  text : l.out.items ++ flat_map record_text (drop l.edit-index l.edits) ≡ l.fn.out.items ++ flat_map record_text l.edits;
  fit : AllFit (drop l.edit-index l.edits);
}
