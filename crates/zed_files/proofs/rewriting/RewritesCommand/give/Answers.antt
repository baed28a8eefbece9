use Rattle.std.proofs.Common.{◌≡◌, is_some, subst, sym, true}
use Rattle.zed_files.specs.Rewrites.{RewritesCome, RewritesStand, next_file}
use Rattle.zed_files.proofs.OneFile.{not_held, now_held}
use Rattle.zed_files.proofs.rewriting.RewritesCommand.give.Goals as goal

pub returns-in-Ok-clause-stands : goal.returns-in-Ok-clause-stands
returns-in-Ok-clause-stands g c = λ first files is.
    let s = c.args.self.now in
    let more = subst (λ a. is_some (next_file (g.A.Action.refuses a) s.file.now s.document) ≡ true) is.1 c.requires.next in
    (is.0, is.1, now_held (g.A.Action.refuses first.action) s.file.now files c.args.file s.document c.in-Ok.document more is.2 c.in-Ok.ensures.sound c.in-Ok.ensures.opened)

pub returns-in-Err-clause-stands : goal.returns-in-Err-clause-stands
returns-in-Err-clause-stands g c = λ first files is.
    let s = c.args.self.now in
    let more = subst (λ a. is_some (next_file (g.A.Action.refuses a) s.file.now s.document) ≡ true) is.1 c.requires.next in
    let here = subst (λ f. is_some (next_file (g.A.Action.refuses first.action) f.now s.document) ≡ true) is.0 more in
    rw c.stopped.ensures (not_held (g.A.Action.refuses first.action) (g.A.Action.MayTake first.action) (g.A.Action.Does first.action) g.A.Action.refusal_for first.file.now files c.args.file s.document c.in-Err.stop here is.2 c.in-Err.ensures.opened)
