use Rattle.std.proofs.Common.{◌≡◌, ap, sym, ◌∙◌, subst}
use Rattle.zed_types.specs.declared.stamp.Stamp.{Stamp}
use Rattle.zed_history.specs.Finding.{AllBelow}
use Rattle.zed_document.specs.Authoring.{authored}
use Rattle.zed_document.proofs.Authored.{authored-late}
use Rattle.zed_document.proofs.document.Document.author.Goals as goal

pub make-requires-clause-late : goal.make-requires-clause-late
make-requires-clause-late c = λ g.
    let s : c.in-Some.stamp ≡ (authored c.args.self.now.edits c.args.replica c.args.op).stamp =
    c.in-Some.ensures.next ∙ ap (λ es. (authored es c.args.replica c.args.op).stamp) c.edits.ensures.all in
    subst (λ (t : Stamp). AllBelow t c.args.self.now.edits) (sym s) (authored-late c.args.self.now.edits c.args.replica c.args.op g)
