use Rattle.std.proofs.Common.{refl, sym, ap, ◌∙◌}
use Rattle.std.specs.List.{list_any}
use Rattle.zed_types.specs.Names.{same_element}
use Rattle.zed_code.specs.Blocks.{runs_of}
use Rattle.zed_code.specs.Runs.{has}
use Rattle.zed_code.proofs.Hinting.{hints-of}
use Rattle.zed_code.proofs.PutBytes.{shown, spelled-has}
use Rattle.zed_code.proofs.text.Text.has.Goals as goal

pub any_has-requires-clause-hints : goal.any_has-requires-clause-hints
any_has-requires-clause-hints c = hints-of c.self.inside.hints.entries c.self.inside.places.items c.deref-2.result.now c.self.inside.blocks.items c.deref.result.now (sym c.deref-2.ensures.value) (sym c.deref.ensures.value) c.self.invariant.hints

pub returns : goal.returns
returns c =
    let store = c.self.inside.store.items in
    let runs = runs_of c.self.inside.blocks.items in
    c.any_has.ensures ∙ ap (λ bs. list_any (has c.args.id) (runs_of bs)) c.deref.ensures.value ∙ sym (spelled-has store c.args.id runs c.self.invariant.kept.each)
    ∙ ap (list_any (λ x. same_element x.id c.args.id)) (sym (shown store runs _ c.args.self.now refl c.self.view_is))
