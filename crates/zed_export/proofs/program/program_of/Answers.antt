use Rattle.std.proofs.Common.{◌≡◌, ◌<◌, None, Some, Option, length, sym, ap, ◌∙◌, arith}
use Rattle.zed_types.specs.declared.names.TextId.{TextId}
use Rattle.zed_world.specs.declared.stat.StatData.{StatData}
use Rattle.zed_edit.specs.Document.{text}
use Rattle.zed_export.specs.World.{user_of, code_with, exported_code}
use Rattle.zed_export.proofs.Shares.{owner_at}
use Rattle.zed_export.proofs.program.program_of.Goals as goal

pub returns-in-Some-user_of : goal.returns-in-Some-user_of
returns-in-Some-user_of c =
    let p = c.args.view.now in
    let t = c.in-Some.text in
    let user = c.in-Some-user_of.user in
    let lowest : user_of t c.args.lower.now ≡ Some user = sym c.user_of.ensures.result ∙ c.in-Some-user_of.is in
    let below : user < length c.args.lower.now = rw c.in-Some-user_of.is at c.user_of.ensures.within in
    let within : user < length c.args.done.now = omega arith in
    let own = owner_at (λ (s : StatData). s.code ≡ code_with None (text p t)) c.args.done.now user c.index-done-user.result within (c.requires.owned t user lowest) in
    c.shared_code.ensures (text p t) own
    ∙ ap (λ (o : Option _). code_with o (text p t)) (sym lowest) ∙ ap (λ (o : Option TextId). exported_code p c.args.lower.now o) (sym c.in-Some.is)
