use Rattle.std.proofs.Common.{◌∙◌, sym, subst, IsSorted}
use Rattle.std.specs.Map.{keys_of}
use Rattle.zed_stats.proofs.Sorting.{inserts}
use Rattle.zed_stats.proofs.map.add.Goals as goal

pub returns-in-Ok-clause-ok : goal.returns-in-Ok-clause-ok
returns-in-Ok-clause-ok g c =
    let named = g.met.K.Named in
    let es = c.args.entries.now.entries in
    let e = c.in-Ok.ensures.entries in
    let place = c.in-Ok.ensures.index in
    e
    ∙ inserts g.K.Named.name g.K.PartialEq.eq g.K.Ord.cmp named.equal named.order es c.args.id c.args.value place.0 c.in-Ok.field-0.0
    (sym c.contains_key.ensures ∙ c.if-contains_key.false) place.1.0 place.2
    (λ before. subst (λ xs. IsSorted g.K.Ord.cmp (keys_of xs)) e (c.in-Ok.ensures.sorted before)) c.requires
