-- The world that an edit makes is opened: its header is written, and its boards are added.
use Rattle.std.proofs.Common.{◌∙◌, ap}
use Rattle.zed_live.specs.Boards.{add_all, all_as_made}
use Rattle.zed_live.specs.Document.{with_world}
use Rattle.zed_live.specs.Header.{write_all}
use Rattle.zed_live.proofs.WorldOpens.{genesis-puts_in, make}
use Rattle.zed_live.proofs.document.LiveDocument.open.Goals as goal

pub returns-clause-ok : goal.returns-clause-ok
returns-clause-ok c =
    let s = c.args.edit.now.stamp in
    let d = c.args.self.now in
    let header = ap (λ h. make h c.add_made.new.self) c.write_all.ensures in
    let boards = ap (λ bs. make (write_all s c.args.world.header d.header) bs) (c.in_ok-add_made.ensures.ok ∙ ap (λ bs. add_all (all_as_made s bs) d.boards) c.as_slice-boards.ensures) in
    header ∙ boards ∙ ap (λ w. with_world s w d) c.requires.made ∙ genesis-puts_in c.args.edit.now d c.requires.genesis c.requires.fits
