use Rattle.std.proofs.Common.{rules, ◌≡◌, ap, Some, None, ◌⊎◌}
use Rattle.zed_scene.specs.declared.error.SceneError.TheVariants.{Memory, NoWords}
use Rattle.zed_play.specs.Step.{Looks, asked, closed_with, from_first}
use Rattle.zed_play.specs.contracts.play.Play.{the_view}
use Rattle.zed_play.proofs.Refusing.{step_refused}
use Rattle.zed_play.proofs.play.Play.step.Goals as goal

pub returns-in-Ok-clause-result : goal.returns-in-Ok-clause-result
returns-in-Ok-clause-result c =
    let done = c.step_on.new in
    let none : c.args.self.now.ending ≡ None = search rules in
    let at_first = ap (λ p. p.game) c.self.view_is in
    let looks : Looks (asked c.args.key c.args.self.now) 1024 (from_first c.args.self.now.game) c.args.words.now (Some (done.game, done.words)) =
    rw (c.asked-asked.ensures.result, at_first, c.new-left.ensures.result) at c.in-Ok.ensures.result in
    let closed : c.close.new.self ≡ closed_with c.swap.new.x (the_view c.self.inside) = c.close.ensures in
    let swapped = c.swap.ensures.x_after in
    let view = c.self.view_is in
    let after : c.close.new.self ≡ closed_with done.game c.args.self.now = cc in
    (none, (done.words, ((Some (done.game, done.words), (looks, ap (λ p. Some (p, done.words)) after)), search rules)))

pub returns-in-Err-clause-result : goal.returns-in-Err-clause-result
returns-in-Err-clause-result c =
    let none : c.args.self.now.ending ≡ None = search rules in
    let at_first = ap (λ p. p.game) c.self.view_is in
    let looks : (c.in-Err.error ≡ Memory) ⊎ ((c.in-Err.error ≡ NoWords) × Looks (asked c.args.key c.args.self.now) 1024 (from_first c.args.self.now.game) c.args.words.now None) =
    rw (c.asked-asked.ensures.result, at_first, c.new-left.ensures.result) at c.in-Err.ensures.result in
    step_refused c.args.key c.args.self.now c.refuse.new.self c.args.words.now c.in-Err.error c.refuse.result none (search rules) looks
