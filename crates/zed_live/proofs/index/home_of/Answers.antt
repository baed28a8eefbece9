use Rattle.std.proofs.Common.{◌≡◌, ◌∙◌, true, false, cond, Some, None, sym, ap}
use Rattle.zed_live.proofs.Kept.{is_on, only_home}
use Rattle.zed_live.proofs.index.home_of.Goals as goal

pub returns-then-is_on : goal.returns-then-is_on
returns-then-is_on c =
    let b = c.in-Some.board in
    let on : is_on c.args.stat c.args.entries.now.entries b ≡ true = sym c.is_on.ensures ∙ c.if-is_on.true in
    sym (ap (λ v. cond v (Some b) None) on) ∙ only_home c.args.stat b c.args.homes.now c.args.entries.now.entries c.in-Some.ensures c.requires

pub returns-else-is_on : goal.returns-else-is_on
returns-else-is_on c =
    let b = c.in-Some.board in
    let on : is_on c.args.stat c.args.entries.now.entries b ≡ false = sym c.is_on.ensures ∙ c.if-is_on.false in
    sym (ap (λ v. cond v (Some b) None) on) ∙ only_home c.args.stat b c.args.homes.now c.args.entries.now.entries c.in-Some.ensures c.requires
