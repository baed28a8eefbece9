use Rattle.std.proofs.Common.{◌≡◌, ◌∙◌, Some, sym, ap, subst}
use Rattle.std.specs.List.{IsDistinct}
use Rattle.std.specs.Map.{keys_of, lookup}
use Rattle.zed_stats.specs.ByName.{under}
use Rattle.zed_stats.proofs.Places.{stands, key_at, value_at}
use Rattle.zed_stats.proofs.map.seek.Goals as goal

pub returns-then-eq-clause-index : goal.returns-then-eq-clause-index
returns-then-eq-clause-index g c =
    let named = g.met.K.Named in
    let es = c.args.entries.now.entries in
    let name = g.K.Named.name in
    let same : c.in-Some.name.now ≡ c.args.id = named.one c.in-Some.name.now c.args.id (sym c.eq.ensures ∙ c.if-eq.true) in
    sym
    (stands name c.args.id (keys_of es) c.args.likely (subst (λ q. IsDistinct q (keys_of es)) named.equal c.len.ensures.unique)
    (key_at es c.args.likely c.in-Some.name.now c.in-Some.field-0-1.now c.in-Some.ensures.entry ∙ ap (λ t. Some t) same))

pub returns-then-eq-clause-value : goal.returns-then-eq-clause-value
returns-then-eq-clause-value g c =
    let named = g.met.K.Named in
    let es = c.args.entries.now.entries in
    let name = g.K.Named.name in
    let same : c.in-Some.name.now ≡ c.args.id = named.one c.in-Some.name.now c.args.id (sym c.eq.ensures ∙ c.if-eq.true) in
    value_at es c.args.likely c.in-Some.name.now c.in-Some.field-0-1.now c.in-Some.ensures.entry
    ∙ sym c.in-Some.ensures.value ∙ ap (λ q. lookup (q c.in-Some.name.now) es) named.equal ∙ ap (λ t. under name t es) same
