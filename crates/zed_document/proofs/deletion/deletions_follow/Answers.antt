use Rattle.zed_document.proofs.DeletedParts.{follow-part}
use Rattle.zed_document.proofs.deletion.deletions_follow.Goals as goal

pub returns : goal.returns
returns c =
    let f = follow-part c.fit_is_of_parts.ensures c.replay_goes_edit_by_edit.ensures.step c.made_things_stay.ensures.step c.texts_keep_names.ensures.own c.texts_keep_names.ensures.elements c.texts_keep_names.ensures.texts c.args.edits.now c.args.replica c.args.text c.args.from c.args.to c.requires.fit c.requires.rising c.requires.made c.requires.part c.requires.left c.requires.replica in
    record { follow = f.0; shows = f.1 }
