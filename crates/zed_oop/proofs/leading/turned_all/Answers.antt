use Rattle.std.proofs.Common.{◌≡◌, ℕ, suc, ◌-◌, Some, drop, subst, rules, arith}
use Rattle.zed_oop_syntax.specs.declared.heading.Turning.TheVariants.{Clockwise}
use Rattle.zed_oop.specs.Leading.{turned_all}
use Rattle.zed_oop.proofs.LeadingLemmas.{turned_lacks}
use Rattle.zed_oop.proofs.leading.turned_all.Goals as goal

pub returns-in-Err : goal.returns-in-Err
returns-in-Err c =
    let i = c.loop-i.i - 1 in
    let P : ℕ → Type 0 = λ j. turned_all (drop j c.args.turns.now) c.args.step c.args.words.now ≡ Some (c.loop-i.step, c.loop-i.words) in
    let more : c.loop-i.i ≡ suc i = omega arith in
    (search rules, turned_lacks c.args.turns.now i Clockwise c.args.step c.loop-i.step c.args.words.now c.loop-i.words (omega arith) (subst P more c.loop-i.invariant.so_far) (search rules))
