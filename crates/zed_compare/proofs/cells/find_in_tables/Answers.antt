use Rattle.std.proofs.Common.{◌≡◌, ◌∙◌, ◌<◌, Some, None, sym}
use Rattle.zed_compare.specs.Findings.{cell_of}
use Rattle.zed_compare.proofs.Tables.{all_found, none_found, one_found}
use Rattle.zed_compare.proofs.cells.find_in_tables.Goals as goal
use Rattle.zed_compare.proofs.cells.find_in_tables.Goals.{in-Some+in_ok-push-in-Some, in-None}

pub loop-i-preserved : goal.loop-i-preserved
loop-i-preserved c =
    let within : c.loop-i.i < 1500 = c.loop-i-test.true in
    elim c.match-overridden_at.branch [
      | in-Some+in_ok-push-in-Some w ↦
          let at : cell_of c.args.base.now c.args.mine.now c.args.theirs.now c.args.union.now c.loop-i.i ≡ Some w.in-Some.overridden =
          sym c.overridden_at.ensures ∙ w.in-Some.is in
          rw (w.found-is, w.in_ok-push-in-Some.ensures.items)
          (one_found c.args.id c.args.base.now c.args.mine.now c.args.theirs.now c.args.union.now c.loop-i.i c.loop-i.found.items w.in-Some.overridden within at ∙ c.loop-i.invariant)
      | in-None w ↦
          let at : cell_of c.args.base.now c.args.mine.now c.args.theirs.now c.args.union.now c.loop-i.i ≡ None = sym c.overridden_at.ensures ∙ w.in-None.is in
          rw w.found-is
          (none_found c.args.id c.args.base.now c.args.mine.now c.args.theirs.now c.args.union.now c.loop-i.i c.loop-i.found.items within at ∙ c.loop-i.invariant)
    ]

pub returns : goal.returns
returns c =
    sym (all_found c.args.id c.args.base.now c.args.mine.now c.args.theirs.now c.args.union.now c.loop-i.i c.loop-i.found.items c.loop-i-test.false) ∙ c.loop-i.invariant
