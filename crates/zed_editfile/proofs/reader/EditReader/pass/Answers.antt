use Rattle.std.proofs.Common.{◌≡◌, ◌++◌, [], ◌∷◌, List, None, true, rules, subst, length, arith}
use Rattle.std.proofs.lemmas.List.{nil_from_length}
use Rattle.std.specs.Prelude.{IfSome, is_some}
use Rattle.zed_op.specs.declared.op.Edit.{Edit}
use Rattle.zed_editfile.specs.Spelling.{IsOf, record_text}
use Rattle.zed_editfile.specs.Stream.{Feeds, Progress}
use Rattle.zed_editfile.proofs.Passing.{passing}
use Rattle.zed_editfile.proofs.reader.EditReader.pass.Goals as goal

pub returns-clause-some : goal.returns-clause-some
returns-clause-some c =
    let i = c.self.inside in
    let e = c.args.edit.now in
    let some : is_some i.world ≡ true = search rules in
    let zero : length i.kept.items ≡ 0 = grind arith in
    let none : i.kept.items ≡ [] = nil_from_length i.kept.items zero in
    let calm : i.fault ≡ None = search rules in
    let of : IsOf i.version e = search rules in
    let P : Progress → Type 0 = λ p. IfSome c.past_record.result (λ rest. (c.args.piece.now ≡ record_text e ++ rest.now) × ((before : List Edit) → Feeds (record_text e) before (before ++ e ∷ []) p p)) in
    subst P c.self.view_is (passing i.asked i.world i.version i.kept.items i.fault e c.args.piece.now c.past_record.result some none calm (c.fitting_edits_are_records.ensures.record c.requires) of c.past_record.ensures)
