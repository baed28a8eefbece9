use Rattle.std.proofs.Common.{◌∙◌, sym, ap}
use Rattle.zed_types.specs.declared.names.Name.{Name}
use Rattle.zed_export.proofs.NameSearch.{sought}
use Rattle.zed_export.specs.Fields.{place_among}
use Rattle.zed_export.proofs.numbers.Names.place_of.Goals as goal

pub returns-clause-result : goal.returns-clause-result
returns-clause-result c =
    let facts = c.binary_search.ensures in
    c.ok.ensures.value
    ∙ sym (sought (λ (x : Name). x) c.args.name c.deref.result.now c.binary_search.result (rw c.deref.ensures.value c.self.invariant) facts.bound facts.position)
    ∙ ap (λ xs. place_among xs c.args.name) (c.deref.ensures.value ∙ c.self.view_is)
