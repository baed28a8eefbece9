use Rattle.std.proofs.Common.{rules, tests}
use Rattle.std.proofs.lemmas.Iterator.{YieldsList-from_zip, same_from_all}
use Rattle.std.proofs.lemmas.Iterator.Consumers.{YieldsList-from_rest}
use Rattle.std.specs.Map.{values_of}
use Rattle.zed_inbox.proofs.keeping.keep_the_same.Goals as goal

pub returns-then-len : goal.returns-then-len
returns-then-len c =
    let es = values_of c.args.a.now.entries in
    let fs = values_of c.args.b.now.entries in
    same_from_all c.all.new.self _ _ es fs c.all.ensures.ran (YieldsList-from_zip (YieldsList-from_rest es (cc)) (YieldsList-from_rest fs (cc))) (search rules) (λ x q k. search (rules, tests)) (λ x q k. search (rules, tests))
