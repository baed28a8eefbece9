use Rattle.std.proofs.Common.{◌≡◌, ◌∙◌, [], ap, sym}
use Rattle.zed_document.specs.Counts.{counts_of}
use Rattle.zed_document.specs.Replica.{Replica}
use Rattle.zed_document.proofs.document.Document.view.Goals as goal

pub returns-then-self-clause-emptied : goal.returns-then-self-clause-emptied
returns-then-self-clause-emptied c =
    let none = c.self.invariant.emptied c.if-self.true in
    sym (ap (λ (r : Replica). r.counts) c.self.view_is) ∙ ap counts_of none.1
