use Rattle.std.proofs.Common.{◌∙◌, ◌<◌, ℕ, List, Option, IfSome, length, sym, ap, subst}
use Rattle.zed_types.specs.declared.names.Name.{Name}
use Rattle.zed_types.specs.Names.{same_name}
use Rattle.zed_export.specs.Fields.{place_among}
use Rattle.zed_export.proofs.Beside.{beside}
use Rattle.zed_export.proofs.Searching.{found_within}
use Rattle.zed_export.proofs.numbers.BoardNames.place_of.Goals as goal

pub returns-in-Some-clause-result : goal.returns-in-Some-clause-result
returns-in-Some-clause-result c =
    c.index.ensures
    ∙ beside c.self.inside.by_number.items c.self.inside.names c.self.inside.numbers.items c.self.invariant c.args.name c.in-Some.k c.index.result.now (sym c.in-Some.ensures.result)
    ∙ ap (λ (xs : List Name). place_among xs c.args.name) c.self.view_is

pub returns-in-Some-clause-within : goal.returns-in-Some-clause-within
returns-in-Some-clause-within c =
    let names = c.args.self.now in
    subst (λ (o : Option ℕ). IfSome o (λ n. n < length names)) (sym (returns-in-Some-clause-result c)) (found_within (λ x. same_name x c.args.name) names)
