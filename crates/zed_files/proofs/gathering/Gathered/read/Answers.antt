use Rattle.std.proofs.Common.{◌≡◌, ◌∙◌, sym, subst}
use Rattle.std.specs.Prelude.{IfSome, OnErr, Some}
use Rattle.zed_files.specs.Collected.{world_in}
use Rattle.zed_files.specs.Files.{WantsMemory}
use Rattle.zed_files.proofs.Deliveries.{next_sound, next_wants, none_clash, read_behind, read_cut, read_next}
use Rattle.zed_files.proofs.gathering.Gathered.read.Goals as goal

pub returns-then-is_some-clause-took : goal.returns-then-is_some-clause-took
returns-then-is_some-clause-took c = λ es fit came.
    read_behind c.args.self.now.feed c.args.self.now.clash es c.args.bytes.now c.read_past.result (sym c.is_some.ensures ∙ c.if-is_some.true) came (rw c.world.ensures at c.read_past.ensures.file)

pub returns-in-Some-clause-took : goal.returns-in-Some-clause-took
returns-in-Some-clause-took c = λ es fit came.
    let taken = c.take.ensures.value in
    read_next c.deliveries_go_on.ensures c.deliveries_come_to_sets.ensures c.args.self.now.feed c.feed_for.result c.read_into.new.self.feed c.in-Some.feed c.args.self.now.clash c.read_into.new.self.clash es c.args.bytes.now c.read_into.result
    fit (none_clash c.args.self.now.clash (sym c.is_some.ensures ∙ c.if-is_some.false)) came c.in-Some.is
    (subst (λ x. IfSome x (λ o. c.feed_for.result ≡ Some o)) taken c.feed_for.ensures.next) (λ none. c.feed_for.ensures.first (taken ∙ none)) c.read_into.ensures.took

pub returns-in-None-clause-took : goal.returns-in-None-clause-took
returns-in-None-clause-took c = λ es fit came.
    let none = c.in-None.ensures.none in
    read_cut c.args.self.now.feed c.take.new.self c.args.self.now.clash es c.args.bytes.now c.read_past-in-None.result (sym c.take.ensures.value ∙ none.0) c.take.ensures.after none.1 came c.read_past-in-None.ensures.file

pub read_into-requires : goal.read_into-requires
read_into-requires c = record {
  sound = next_sound c.args.self.now.feed c.feed_for.result c.in-Some.feed c.args.bytes.now (c.requires.sound (none_clash c.args.self.now.clash (sym c.is_some.ensures ∙ c.if-is_some.false))) c.in-Some.is
      (subst (λ x. IfSome x (λ o. c.feed_for.result ≡ Some o)) c.take.ensures.value c.feed_for.ensures.next) (λ none. c.feed_for.ensures.first (c.take.ensures.value ∙ none));
}

-- where memory may be lacking
pub returns-then-is_some-clause-memory_only_when : goal.returns-then-is_some-clause-memory_only_when
returns-then-is_some-clause-memory_only_when c =
    subst (λ w. OnErr c.read_past.result (WantsMemory w c.args.bytes.now)) c.world.ensures c.read_past.ensures.memory_only_when

pub returns-in-Some-clause-memory_only_when : goal.returns-in-Some-clause-memory_only_when
returns-in-Some-clause-memory_only_when c =
    next_wants c.args.self.now.feed c.feed_for.result c.in-Some.feed c.args.bytes.now c.read_into.result c.in-Some.is
    (subst (λ x. IfSome x (λ o. c.feed_for.result ≡ Some o)) c.take.ensures.value c.feed_for.ensures.next) c.read_into.ensures.memory_only_when

pub returns-in-None-clause-memory_only_when : goal.returns-in-None-clause-memory_only_when
returns-in-None-clause-memory_only_when c =
    let none = c.in-None.ensures.none in
    subst (λ f. OnErr c.read_past-in-None.result (WantsMemory (world_in f) c.args.bytes.now)) (sym (sym c.take.ensures.value ∙ none.0)) c.read_past-in-None.ensures.memory_only_when
