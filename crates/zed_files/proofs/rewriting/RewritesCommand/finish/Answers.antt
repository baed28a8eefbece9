use Rattle.std.proofs.Common.{◌≡◌, ◌∙◌, None, Some, subst, sym}
use Rattle.zed_files.proofs.OneFile.{acted, held, refused_before, unread}
use Rattle.zed_files.proofs.rewriting.RewritesCommand.finish.Goals as goal

pub acted-requires : goal.acted-requires
acted-requires g c =
    let s = c.args.self.now in
    let is = c.requires.stands.2 in
    let has = held (g.A.Action.refuses c.requires.stands.0.action) c.requires.stands.1 s.document c.in-Some-take.document is.2 (sym c.take.ensures.value ∙ c.in-Some-take.is) in
    record { sound = has.3; wanted = subst (λ a. g.A.Action.refuses a ≡ None) (sym is.1) has.2 }
