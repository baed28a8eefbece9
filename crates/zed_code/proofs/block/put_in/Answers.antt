use Rattle.std.proofs.Common.{rules, Option, ◌≡◌, ◌<◌, ◌+◌, suc, true, length, drop, set, get_or, sym, ap, ◌∙◌, subst, arith, ltb}
use Rattle.std.proofs.lemmas.List.{drop_more}
use Rattle.std.specs.List.{insert}
use Rattle.zed_code.specs.declared.block.Cut.{Cut}
use Rattle.zed_code.specs.Targets.{cut_bytes, IsCut}
use Rattle.zed_code.specs.Runs.{front, put_in}
use Rattle.zed_code.proofs.Puts.{put_in-whole, put_in-cut}
use Rattle.zed_code.proofs.block.put_in.Goals as goal

pub returns-in-None-clause-runs : goal.returns-in-None-clause-runs
returns-in-None-clause-runs c =
    let made : c.insert.new.self.items ≡ insert c.args.runs.now.items c.args.place c.args.run = search rules in
    let none = ap cut_bytes c.in-None.is in
    made ∙ put_in-whole c.args.place (cut_bytes c.args.cut) c.args.run c.args.runs.now.items none (omega (arith, c.requires.place))

pub returns-in-Some-clause-runs : goal.returns-in-Some-clause-runs
returns-in-Some-clause-runs c =
    let rs = c.args.runs.now.items in
    let cut = c.in-Some.cut in
    let P : Option Cut → Type 0 = λ o. IsCut o (drop c.args.place rs) in
    let there = subst P c.in-Some.is c.requires.there in
    let n : cut_bytes c.args.cut ≡ cut.bytes = ap cut_bytes c.in-Some.is in
    let l : c.args.place < length rs = let m = there.0 in let h = c.requires.place in grind (arith) in
    let is = there.1 (get_or rs c.args.place cut.there) (drop (c.args.place + 1) rs) (drop_more rs c.args.place cut.there l) in
    let made : c.insert-in-Some-2.new.self.items ≡ insert (insert (set rs c.args.place c.front.result) (c.args.place + 1) c.back.result) (c.args.place + 1) c.args.run = search rules in
    let next : c.args.place + 1 ≡ suc c.args.place = omega arith in
    let some : ltb 0 cut.bytes ≡ true = let m = there.0 in grind (arith) in
    made
    ∙ ap (λ m. insert (insert (set rs c.args.place c.front.result) m c.back.result) m c.args.run) next
    ∙ ap (λ x. insert (insert (set rs c.args.place x) (suc c.args.place) c.back.result) (suc c.args.place) c.args.run) c.front.ensures
    ∙ ap (λ x. insert (insert (set rs c.args.place (front cut.bytes cut.there)) (suc c.args.place) x) (suc c.args.place) c.args.run) c.back.ensures
    ∙ put_in-cut c.args.place cut.bytes c.args.run rs cut.there l (sym is) some
    ∙ ap (λ m. put_in c.args.place m c.args.run rs) (sym n)
