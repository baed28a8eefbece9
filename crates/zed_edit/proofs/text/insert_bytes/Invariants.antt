use Rattle.std.proofs.Common.{◌≡◌, ◌++◌, take, drop}
use Rattle.zed_types.specs.Names.{same_text}
use Rattle.zed_types.specs.Text.{put_after, run_from}
use Rattle.zed_edit.specs.Document.{change_such, change_elements}
use Rattle.zed_edit.proofs.text.insert_bytes.Given as goal

abbrev pub invariant-loop-x : goal.invariant-loop-x
invariant-loop-x l =
    l.texts ≡ change_such (λ x. same_text x.id l.put.text) (change_elements (put_after l.put.after (run_from l.put.stamp 0 l.bytes))) (take l.x-index l.initial.texts) ++ drop l.x-index l.initial.texts
