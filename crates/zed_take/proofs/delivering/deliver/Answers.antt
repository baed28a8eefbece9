use Rattle.std.proofs.Common.{inl, inr}
use Rattle.zed_take.proofs.Deliveries.{all_joined, comes_out}
use Rattle.zed_take.proofs.delivering.deliver.Goals as goal

pub returns-in-Ok-clause-edits : goal.returns-in-Ok-clause-edits
returns-in-Ok-clause-edits c = (all_joined c.args.document.now c.args.edits.items c.deliver_all.new.self.edits c.requires.sound c.requires.fit c.in-Ok.ensures.result).1

pub returns-in-Err-clause-front : goal.returns-in-Err-clause-front
returns-in-Err-clause-front c =
    elim (comes_out c.args.document.now c.args.edits.items c.deliver_all.new.self.edits c.deliver_all.result c.requires.sound c.requires.fit c.requires.joins c.deliver_all.ensures.result) [
      | inl lacks ↦ c.deliver_all.ensures.front lacks
      | inr ok ↦ absurd (let is = c.in-Err.is in cc)
    ]

pub returns-in-Err-clause-memory_only_when : goal.returns-in-Err-clause-memory_only_when
returns-in-Err-clause-memory_only_when c =
    elim (comes_out c.args.document.now c.args.edits.items c.deliver_all.new.self.edits c.deliver_all.result c.requires.sound c.requires.fit c.requires.joins c.deliver_all.ensures.result) [
      | inl lacks ↦ (c.deliver_all.ensures.memory_only_when lacks).1
      | inr ok ↦ absurd (let is = c.in-Err.is in cc)
    ]
