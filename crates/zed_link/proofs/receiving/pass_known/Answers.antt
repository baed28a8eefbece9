use Rattle.std.proofs.Common.{◌≡◌, subst}
use Rattle.zed_document.specs.Replica.{Replica}
use Rattle.zed_link.proofs.Feeding.{edit_there, joins_there, known_comes}
use Rattle.zed_link.proofs.receiving.pass_known.Goals as goal

pub returns-clause-some : goal.returns-clause-some
returns-clause-some c =
    let f = c.in_ok-find.ensures in
    let kept : c.seek.new.self ≡ c.args.intake.now = c.seek.ensures in
    known_comes c.in_ok-stamp.stamp c.args.piece.now c.pass.result c.in_ok-find.field-0.now c.args.reader.now c.args.intake.now c.requires.sound f.fits
    (subst (λ (r : Replica). edit_there c.in_ok-stamp.stamp r c.in_ok-find.field-0.now) kept f.some)
    (subst (λ (r : Replica). joins_there r c.in_ok-find.field-0.now) kept f.known) c.pass.ensures.some
