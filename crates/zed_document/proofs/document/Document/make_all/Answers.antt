use Rattle.std.proofs.Common.{rules, ◌≡◌, ◌∙◌, ◌++◌, List, false, ap, subst, sym}
use Rattle.zed_op.specs.declared.op.Edit.{Edit}
use Rattle.zed_op.specs.Set.{AllFit}
use Rattle.zed_op.specs.Sizes.{HaveSizes}
use Rattle.zed_delivery.specs.TakingAll.{AreNewTo, ShowsAll}
use Rattle.zed_document.specs.Counts.{Counts, NoCountFalls, counts_of}
use Rattle.zed_document.specs.Kept.{IsKept}
use Rattle.zed_document.specs.Replica.{Replica}
use Rattle.zed_document.specs.Stretches.{CanFollow}
use Rattle.zed_document.proofs.Bodies.{are_new, many_more}
use Rattle.zed_document.proofs.Following.{follow-fit}
use Rattle.zed_document.proofs.Looks.{counts-fall-not}
use Rattle.zed_document.proofs.document.Document.make_all.Goals as goal

pub edits_have_sizes-requires : goal.edits_have_sizes-requires
edits_have_sizes-requires c =
    subst AllFit (sym (c.deref.ensures.value ∙ c.in_ok-copies.ensures)) (follow-fit c.args.self.now.edits c.args.edits.now c.requires.follow)

pub take_all-requires-clause-fit : goal.take_all-requires-clause-fit
take_all-requires-clause-fit c =
    subst AllFit (sym (c.deref-2.ensures.value ∙ c.in_ok-copies.ensures)) (follow-fit c.args.self.now.edits c.args.edits.now c.requires.follow)

pub take_all-requires-clause-new : goal.take_all-requires-clause-new
take_all-requires-clause-new c =
    let v : c.self.inside.edits.items ≡ c.args.self.now.edits = ap (λ (r : Replica). r.edits) c.self.view_is in
    let f : c.self.inside.is_stale ≡ false = ap (λ (r : Replica). r.is_stale) c.self.view_is ∙ c.requires.sound in
    let follow : CanFollow c.self.inside.edits.items c.args.edits.now =
    subst (λ (es : List Edit). CanFollow es c.args.edits.now) (sym v) c.requires.follow in
    let all = are_new c.rising_edits_are_apart.ensures c.args.edits.now c.self.inside.edits.items c.self.inside.held c.self.inside.is_stale c.self.inside.body c.self.invariant f follow in
    subst (λ (es : List Edit). AreNewTo es c.self.inside.body) (sym (c.deref-2.ensures.value ∙ c.in_ok-copies.ensures)) all

pub invariant_of-self-2 : goal.invariant_of-self-2
invariant_of-self-2 c =
    let v : c.self.inside.edits.items ≡ c.args.self.now.edits = ap (λ (r : Replica). r.edits) c.self.view_is in
    let f : c.self.inside.is_stale ≡ false = ap (λ (r : Replica). r.is_stale) c.self.view_is ∙ c.requires.sound in
    let follow : CanFollow c.self.inside.edits.items c.args.edits.now =
    subst (λ (es : List Edit). CanFollow es c.args.edits.now) (sym v) c.requires.follow in
    let sizes : HaveSizes c.args.edits.now = subst HaveSizes (c.deref.ensures.value ∙ c.in_ok-copies.ensures) c.edits_have_sizes.ensures in
    let shows : ShowsAll c.args.edits.now c.self.inside.body c.take_all.new.self = subst (λ (es : List Edit). ShowsAll es c.self.inside.body c.take_all.new.self) (c.deref-2.ensures.value ∙ c.in_ok-copies.ensures) c.in_ok-take_all.ensures.ok in
    let joined : c.append.new.self.items ≡ c.self.inside.edits.items ++ c.in_ok-copies.copies.items = search rules in
    let all : c.append.new.self.items ≡ c.self.inside.edits.items ++ c.args.edits.now =
    joined ∙ ap (λ (es : List Edit). c.self.inside.edits.items ++ es) c.in_ok-copies.ensures in
    let kept = many_more c.rising_edits_are_apart.ensures c.replay_goes_edit_by_edit.ensures.step c.sets_rise.ensures.union c.sets_stay_fit.ensures.union
    c.args.edits.now c.self.inside.edits.items c.self.inside.held c.self.inside.is_stale c.self.inside.body c.take_all.new.self
    c.self.invariant f follow sizes shows in
    subst (λ es. IsKept es c.self.inside.held false c.take_all.new.self) (sym all) kept

pub returns-clause-visits : goal.returns-clause-visits
returns-clause-visits c =
    let k : counts_of c.self.inside.body.texts ≡ c.args.self.now.counts = ap (λ (r : Replica). r.counts) c.self.view_is in
    subst (λ (n : Counts). NoCountFalls n (counts_of c.take_all.new.self.texts)) k (counts-fall-not c.self.inside.body.texts c.take_all.new.self.texts c.in_ok-take_all.ensures.visits)
