use Rattle.std.proofs.Common.{ap, refl, sym}
use Rattle.zed_edit.specs.Replay.{held, replay}
use Rattle.zed_export.specs.Limits.{exported, saved}
use Rattle.zed_export.proofs.Accepted.{alike, answers_by, holds_one_authors, read_back, same_answer, same_edits, shows_one_authors}
use Rattle.zed_export.proofs.replicas.headline.Goals as goal

pub returns-clause-same : goal.returns-clause-same
returns-clause-same c =
    let is = same_edits c.rising_lists_are_sets.ensures.known c.args.one.now c.args.other.now c.requires.accepted c.edits.ensures.rising c.edits-2.ensures.rising in
    same_answer c.edits_decide.ensures.same c.args.one.now c.args.other.now c.same.result c.requires.accepted is c.same.ensures

pub returns-clause-document : goal.returns-clause-document
returns-clause-document c =
    shows_one_authors c.rising_lists_are_sets.ensures.known c.args.one.now c.args.one.now.edits c.view.result c.edits.ensures.rising refl c.requires.accepted.sound c.view.ensures.stale c.view.ensures.err c.view.ensures.shows

pub returns-clause-other_document : goal.returns-clause-other_document
returns-clause-other_document c =
    let is = same_edits c.rising_lists_are_sets.ensures.known c.args.one.now c.args.other.now c.requires.accepted c.edits.ensures.rising c.edits-2.ensures.rising in
    shows_one_authors c.rising_lists_are_sets.ensures.known c.args.other.now c.args.one.now.edits c.view-2.result c.edits.ensures.rising (sym is) c.requires.accepted.other_sound c.view-2.ensures.stale c.view-2.ensures.err c.view-2.ensures.shows

pub returns-clause-held : goal.returns-clause-held
returns-clause-held c = holds_one_authors c.rising_lists_are_sets.ensures.known c.args.one.now.edits c.edits.ensures.rising

pub returns-clause-other_held : goal.returns-clause-other_held
returns-clause-other_held c =
    let is = same_edits c.rising_lists_are_sets.ensures.known c.args.one.now c.args.other.now c.requires.accepted c.edits.ensures.rising c.edits-2.ensures.rising in
    ap held (sym is)

pub returns-clause-world : goal.returns-clause-world
returns-clause-world c =
    answers_by (λ w. w) (exported c.args.limit) c.args.one.now c.args.one.now.edits c.export.result c.requires.accepted.sound refl c.export.ensures.result

pub returns-clause-other_world : goal.returns-clause-other_world
returns-clause-other_world c =
    let is = same_edits c.rising_lists_are_sets.ensures.known c.args.one.now c.args.other.now c.requires.accepted c.edits.ensures.rising c.edits-2.ensures.rising in
    answers_by (λ w. w) (exported c.args.limit) c.args.other.now c.args.one.now.edits c.export-2.result c.requires.accepted.other_sound (sym is) c.export-2.ensures.result

pub returns-clause-worlds : goal.returns-clause-worlds
returns-clause-worlds c =
    alike (λ w. w) (exported c.args.limit (replay c.args.one.now.edits)) c.export.result c.export-2.result (returns-clause-world c) (returns-clause-other_world c)

pub returns-clause-file : goal.returns-clause-file
returns-clause-file c =
    answers_by (λ f. f.items) (saved c.args.limit) c.args.one.now c.args.one.now.edits c.save.result c.requires.accepted.sound refl c.save.ensures.result

pub returns-clause-other_file : goal.returns-clause-other_file
returns-clause-other_file c =
    let is = same_edits c.rising_lists_are_sets.ensures.known c.args.one.now c.args.other.now c.requires.accepted c.edits.ensures.rising c.edits-2.ensures.rising in
    answers_by (λ f. f.items) (saved c.args.limit) c.args.other.now c.args.one.now.edits c.save-2.result c.requires.accepted.other_sound (sym is) c.save-2.ensures.result

pub returns-clause-files : goal.returns-clause-files
returns-clause-files c =
    alike (λ f. f.items) (saved c.args.limit (replay c.args.one.now.edits)) c.save.result c.save-2.result (returns-clause-file c) (returns-clause-other_file c)

pub returns-clause-back : goal.returns-clause-back
returns-clause-back c =
    read_back c.args.one.now c.args.limit c.export.result c.save.result c.requires.accepted.sound c.export.ensures.result c.save.ensures.back
