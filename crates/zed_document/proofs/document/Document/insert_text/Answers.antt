use Rattle.std.proofs.Common.{◌≡◌, ◌⊎◌, false, cond, [], ◌∷◌, ◌++◌, Err, length, ap, sym, ◌∙◌, subst}
use Rattle.std.proofs.lemmas.Bool.{leb-true}
use Rattle.std.specs.Prelude.{is_ok}
use Rattle.zed_types.specs.declared.stamp.Stamp.{Stamp}
use Rattle.zed_op.specs.declared.op.Edit.{Edit}
use Rattle.zed_edit.specs.Document.{text}
use Rattle.zed_op.specs.Fit.{Fits, fault}
use Rattle.zed_edit.specs.Replay.{replay}
use Rattle.zed_op.specs.Set.{with_edit}
use Rattle.zed_history.specs.Clock.{is_spent}
use Rattle.zed_history.specs.Finding.{AllBelow}
use Rattle.zed_document.specs.declared.error.DocumentError.TheVariants.{Memory}
use Rattle.zed_document.specs.Authoring.{AnswersToDo, authored, insertion_at, with_bytes}
use Rattle.zed_document.proofs.TypedTexts.{Typed, typed, insertion-answers, on-ok, insertion-fits}
use Rattle.zed_document.proofs.document.Document.insert_text.Goals as goal

pub make-requires-clause-late : goal.make-requires-clause-late
make-requires-clause-late c = λ _.
    let t : Typed c.args.self.now c.args.replica c.args.text c.args.position c.args.bytes c.in-Some.stamp c.in-Ok.after = typed c.replay_goes_edit_by_edit.ensures.step c.texts_keep_names.ensures.own c.args.self.now c.args.replica c.args.text c.args.position c.args.bytes c.in-Some.stamp c.in-Ok.after _ c.edits.ensures.rising c.edits.ensures.all c.in-Some.ensures.next c.in-Ok.ensures in
    subst (λ (s : Stamp). AllBelow s c.args.self.now.edits) (sym t.stamp) t.made.late

pub returns-in-Some-clause-result : goal.returns-in-Some-clause-result
returns-in-Some-clause-result c =
    let t : Typed c.args.self.now c.args.replica c.args.text c.args.position c.args.bytes c.in-Some.stamp c.in-Ok.after = typed c.replay_goes_edit_by_edit.ensures.step c.texts_keep_names.ensures.own c.args.self.now c.args.replica c.args.text c.args.position c.args.bytes c.in-Some.stamp c.in-Ok.after _ c.edits.ensures.rising c.edits.ensures.all c.in-Some.ensures.next c.in-Ok.ensures in
    let spent : is_spent c.args.self.now.edits 1 ≡ false = ap (λ es. is_spent es 1) (sym c.edits.ensures.all) ∙ c.in-Some.ensures.left in
    insertion-answers c.args.self.now c.args.replica c.args.text c.args.position c.args.bytes c.make.result t.sound t.there t.within spent t.made (subst (λ (e : Edit). (c.make.result ≡ Err Memory) ⊎ AnswersToDo (fault e) c.args.self.now.edits e c.make.result) t.is c.make.ensures.result)

pub returns-in-Some-clause-edits : goal.returns-in-Some-clause-edits
returns-in-Some-clause-edits c =
    let t : Typed c.args.self.now c.args.replica c.args.text c.args.position c.args.bytes c.in-Some.stamp c.in-Ok.after = typed c.replay_goes_edit_by_edit.ensures.step c.texts_keep_names.ensures.own c.args.self.now c.args.replica c.args.text c.args.position c.args.bytes c.in-Some.stamp c.in-Ok.after _ c.edits.ensures.rising c.edits.ensures.all c.in-Some.ensures.next c.in-Ok.ensures in
    c.make.ensures.edits ∙ ap (λ xs. cond (is_ok c.make.result) xs c.args.self.now.edits) (ap (λ e. with_edit e c.args.self.now.edits) t.is ∙ t.made.last)

pub returns-in-Some-clause-shows : goal.returns-in-Some-clause-shows
returns-in-Some-clause-shows c =
    let t : Typed c.args.self.now c.args.replica c.args.text c.args.position c.args.bytes c.in-Some.stamp c.in-Ok.after = typed c.replay_goes_edit_by_edit.ensures.step c.texts_keep_names.ensures.own c.args.self.now c.args.replica c.args.text c.args.position c.args.bytes c.in-Some.stamp c.in-Ok.after _ c.edits.ensures.rising c.edits.ensures.all c.in-Some.ensures.next c.in-Ok.ensures in
    let e : Edit =
    authored c.args.self.now.edits c.args.replica (insertion_at c.args.self.now.edits c.args.text c.args.position c.args.bytes) in
    on-ok c.make.result c.make.new.self.edits c.args.self.now.edits (c.args.self.now.edits ++ e ∷ []) (λ es. text (replay es) c.args.text ≡ with_bytes c.args.position c.args.bytes (text (replay c.args.self.now.edits) c.args.text)) (returns-in-Some-clause-edits c) t.made.shows

pub returns-in-Some-clause-memory_only_when : goal.returns-in-Some-clause-memory_only_when
returns-in-Some-clause-memory_only_when c = λ k.
    let t : Typed c.args.self.now c.args.replica c.args.text c.args.position c.args.bytes c.in-Some.stamp c.in-Ok.after = typed c.replay_goes_edit_by_edit.ensures.step c.texts_keep_names.ensures.own c.args.self.now c.args.replica c.args.text c.args.position c.args.bytes c.in-Some.stamp c.in-Ok.after _ c.edits.ensures.rising c.edits.ensures.all c.in-Some.ensures.next c.in-Ok.ensures in
    record {
      sound = t.sound;
      made = t.there;
      within = leb-true c.args.position (length (text (replay c.args.self.now.edits) c.args.text)) t.within;
      left = ap (λ es. is_spent es 1) (sym c.edits.ensures.all) ∙ c.in-Some.ensures.left;
      fits = subst Fits t.is (insertion-fits c.args.self.now.edits c.in-Some.stamp c.args.text c.in-Ok.after c.args.bytes (c.make.ensures.memory_only_when k));
    }
