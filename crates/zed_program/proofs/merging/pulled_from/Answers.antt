use Rattle.std.proofs.Common.{◌≡◌, ◌<◌, ◌∙◌, ap, arith, Err, length, Ok, refl, sym}
use Rattle.std.proofs.lemmas.List.{length-set}
use Rattle.std.proofs.lemmas.Result.{err_from_is_err_and}
use Rattle.zed_document.specs.Replica.{Replica}
use Rattle.zed_files.specs.Refusals.{link_refusal}
use Rattle.zed_session.proofs.Places.{shown_same}
use Rattle.zed_program.proofs.Pulls.{is_merged, not_merged_few, pulling_begins, pulling_ends, pulling_goes_on, pulling_stops}
use Rattle.zed_program.proofs.merging.pulled_from.Goals as goal

pub loop-i-init : goal.loop-i-init
loop-i-init g c =
    let is = c.len.ensures in
    let ok = c.args.links.now.ok in
    let past = c.if-len-count.false in
    let opened = c.of-intake.ensures ∙ c.new.ensures in
    record {
      pulling = pulling_begins _ c.of-intake.result c.args.world c.args.count c.args.links.now.items opened;
      unwritten = refl;
      many = refl;
      enough = omega (arith, is, ok, past);
      world = ap (λ (q : Replica). q.world) opened;
      sound = ap (λ (q : Replica). q.is_stale) opened;
    }

pub loop-i-preserved : goal.loop-i-preserved
loop-i-preserved g c =
    let old = c.loop-i.invariant in
    let within : c.loop-i.i < length c.loop-i.links.items =
    (let few = c.loop-i-test.true in let many = old.many in let enough = old.enough in omega (arith, few, many, enough)) in
    record {
      pulling = pulling_goes_on _ c.loop-i.intake c.pull_over.new.intake _ _ _ _ c.loop-i.i _ c.pull_over.new.link c.in_ok-pull_over.field-0 old.pulling c.loop-i-test.true within
          c.index_mut.ensures.value c.in_ok-pull_over.ensures.world (c.in_ok-pull_over.ensures.sound ∙ sym old.sound) c.in_ok-pull_over.ensures.pull;
      unwritten =
          shown_same _ _ c.loop-i.i _ c.pull_over.new.link c.index_mut.ensures.value c.in_ok-pull_over.ensures.writes ∙ old.unwritten;
      many = length-set _ _ _ ∙ old.many;
      enough = old.enough;
      world = c.in_ok-pull_over.ensures.world ∙ old.world;
      sound = c.in_ok-pull_over.ensures.sound;
    }

pub returns-in_err-pull_over-clause-pulled : goal.returns-in_err-pull_over-clause-pulled
returns-in_err-pull_over-clause-pulled g c =
    let old = c.loop-i.invariant in
    let is = c.len.ensures in
    let ok = c.args.links.now.ok in
    let all : c.len.result ≡ length c.args.links.now.items = omega (arith, is, ok) in
    let within : c.loop-i.i < length c.loop-i.links.items =
    (let few = c.loop-i-test.true in let many = old.many in let enough = old.enough in omega (arith, few, many, enough)) in
    let p = err_from_is_err_and c.from_residual.result c.from_residual.ensures.1 in
    let same : p.0 ≡ link_refusal c.in_err-pull_over.field-0.0 = p.2 in
    rw (p.1, same) (is_merged _ c.args.world c.args.count c.len.result c.args.links.now.items _ (Err (link_refusal c.in_err-pull_over.field-0.0)) all c.if-len-count.false
    (pulling_stops _ c.loop-i.intake _ _ _ _ c.loop-i.i _ c.pull_over.new.link c.in_err-pull_over.field-0.0 _ old.pulling c.loop-i-test.true within
    c.index_mut.ensures.value c.in_err-pull_over.ensures.pull))

pub returns-in_err-pull_over-clause-writes : goal.returns-in_err-pull_over-clause-writes
returns-in_err-pull_over-clause-writes g c =
    shown_same _ _ c.loop-i.i _ c.pull_over.new.link c.index_mut.ensures.value c.in_err-pull_over.ensures.writes ∙ c.loop-i.invariant.unwritten

pub returns-clause-pulled : goal.returns-clause-pulled
returns-clause-pulled g c =
    let old = c.loop-i.invariant in
    let is = c.len.ensures in
    let ok = c.args.links.now.ok in
    let all : c.len.result ≡ length c.args.links.now.items = omega (arith, is, ok) in
    let closed = ap (λ (q : Replica). q.edits) c.close.ensures in
    rw closed (is_merged _ c.args.world c.args.count c.len.result c.args.links.now.items _ (Ok c.loop-i.intake.edits) all c.if-len-count.false
    (pulling_ends _ c.loop-i.intake _ _ _ _ c.loop-i.i old.pulling c.loop-i-test.false))

pub returns-then-len-count-clause-pulled : goal.returns-then-len-count-clause-pulled
returns-then-len-count-clause-pulled g c =
    let is = c.len.ensures in
    let ok = c.args.links.now.ok in
    let all : c.len.result ≡ length c.args.links.now.items = omega (arith, is, ok) in
    not_merged_few _ c.args.world c.args.count c.len.result c.args.links.now.items all c.if-len-count.true
