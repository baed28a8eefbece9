use Rattle.zed_document.proofs.Authored.{taken-late}
use Rattle.zed_document.proofs.author.are_late_edits_taken.Goals as goal

pub returns : goal.returns
returns c =
    taken-late c.fit_is_of_parts.ensures c.replay_goes_edit_by_edit.ensures.step c.sets_stay_fit.ensures.edit c.args.edit.now c.args.edits.now c.requires.fit c.requires.fits c.requires.late c.requires.can
