use Rattle.std.proofs.Common.{drop}
use Rattle.zed_delivery.specs.Counts.{NoneFalls}
use Rattle.zed_delivery.specs.TakingAll.{ComeOneByOne}
use Rattle.zed_delivery.proofs.body.Body.take_all.Given as goal

-- what came so far, with what is left to come
abbrev pub invariant-loop-edit : goal.invariant-loop-edit
invariant-loop-edit l = record {
  come : ComeOneByOne l.edits l.fn.self (drop l.edit-index l.edits) l.self;
  visits : NoneFalls l.fn.self.texts l.self.texts;
}
