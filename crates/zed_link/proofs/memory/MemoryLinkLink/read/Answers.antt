use Rattle.std.proofs.Common.{◌≡◌, ◌∙◌, ◌++◌, ◌+◌, drop, refl, sym, ap, take, take-append-drop, rules}
use Rattle.std.specs.Prelude.{is_none, max}
use Rattle.std.proofs.lemmas.List.{drop-drop}
use Rattle.zed_link.proofs.memory.MemoryLinkLink.read.Goals as goal

pub returns-clause-ok : goal.returns-clause-ok
returns-clause-ok c =
    let all = drop c.args.self.now.at c.args.self.now.handed.items in
    let n = c.hand_over-count.result in
    let left : c.left_from-left.result.now ≡ all = search rules in
    let front : take n c.hand_over-count.new.into ≡ take n all = c.hand_over-count.ensures.front ∙ ap (take n) left in
    let back : drop n all ≡ drop (c.args.self.now.at + n) c.args.self.now.handed.items =
    drop-drop n c.args.self.now.at c.args.self.now.handed.items in (
      record { left = drop (c.args.self.now.at + n) c.args.self.now.handed.items; taken = c.args.self.now.taken.items; promise = record { unfailing = is_none c.passes.new.passing; pace = max c.args.self.now.piece 1 } },
      (sym (take-append-drop n all) ∙ ap (λ z. z ++ drop n all) (sym front) ∙ ap (λ z. take n c.hand_over-count.new.into ++ z) back, refl, ap (λ b. record { unfailing = b; pace = max c.args.self.now.piece 1 }) c.passes.ensures.kind),
      refl,
    )
