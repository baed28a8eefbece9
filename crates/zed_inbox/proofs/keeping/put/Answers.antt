use Rattle.std.proofs.Common.{refl, subst}
use Rattle.std.specs.Map.{values_of}
use Rattle.zed_types.specs.declared.stamp.Stamp.{Stamp}
use Rattle.zed_op.specs.declared.op.Edit.{Edit}
use Rattle.zed_inbox.specs.Kept.{ListsNoMore}
use Rattle.zed_inbox.proofs.Holding.{unlisted}
use Rattle.zed_inbox.proofs.Whole.{edits_more, whole_more, whole_back, whole_same}
use Rattle.zed_inbox.proofs.keeping.put.Goals as goal

pub list-requires : goal.list-requires
list-requires c =
    unlisted c.args.edit.stamp (values_of c.args.edits.now.entries) c.args.waits.now.keys c.requires.new c.requires.whole.listed

pub returns-in_err-list-clause-whole : goal.returns-in_err-list-clause-whole
returns-in_err-list-clause-whole c =
    whole_same c.args.edits.now.entries c.args.edits.now.entries c.args.waits.now.keys c.list.new.waits.keys c.requires.whole refl c.in_err-list.ensures.kept

pub returns-in-Ok-clause-ok : goal.returns-in-Ok-clause-ok
returns-in-Ok-clause-ok c =
    edits_more c.args.edits.now.entries c.insert.new.self.entries c.args.waits.now.keys c.list.new.waits.keys c.requires.whole c.args.edit c.requires.new c.in-Ok.ensures.entries

pub returns-in-Ok-clause-whole : goal.returns-in-Ok-clause-whole
returns-in-Ok-clause-whole c =
    let es = values_of c.args.edits.now.entries in
    whole_more c.args.edits.now.entries c.insert.new.self.entries c.args.waits.now.keys c.list.new.waits.keys c.requires.whole c.args.edit c.requires.new c.in-Ok.ensures.entries
    (c.sets_rise.ensures.edit c.args.edit es c.requires.whole.rising) c.in_ok-list.ensures.ok

pub returns-clause-whole : goal.returns-clause-whole
returns-clause-whole c =
    let gone : ListsNoMore c.args.edit c.list.new.waits.keys c.unlist.new.waits.keys =
    subst (λ (p : Stamp × Edit). ListsNoMore p.1 c.list.new.waits.keys c.unlist.new.waits.keys) c.in-Err.ensures.value_returned c.unlist.ensures in
    whole_back c.args.edits.now.entries c.insert.new.self.entries c.args.waits.now.keys c.unlist.new.waits.keys c.requires.whole c.args.edit c.requires.new c.in-Err.ensures.err
    c.list.new.waits.keys c.in_ok-list.ensures.ok gone
