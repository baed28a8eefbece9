use Rattle.std.proofs.Common.{◌≡◌, ◌∙◌, ◌+◌, ◌++◌, ◌∷◌, [], length, set, ap, subst, rules}
use Rattle.zed_op.specs.Set.{union}
use Rattle.zed_history.proofs.Opened.{IsUp, moving-on}
use Rattle.zed_history.proofs.moving.move_in.Goals as goal

pub loop-edit-preserved : goal.loop-edit-preserved
loop-edit-preserved c =
    let whole = union c.args.log.now.items c.args.edits.items in
    let log = c.loop-edit.log.items in
    let up = c.move_up-place.new.log.items in
    let edits = c.loop-edit.edits.items in
    let fs = c.pop.new.self.items in
    let e = c.in-Some.edit in
    let next = c.move_up-place.result in
    let cut : edits ≡ fs ++ e ∷ [] = search rules in
    let left : c.len-left.result ≡ length fs = search rules in
    let moved : IsUp e.stamp log up next c.loop-edit.place (c.len-left.result + 1) = record {
      within = c.move_up-place.ensures.within;
      front = c.move_up-place.ensures.front;
      moved = c.move_up-place.ensures.moved;
      above = c.move_up-place.ensures.above;
      long = c.move_up-place.ensures.length;
    } in
    record {
      moving = moving-on whole log up c.put_over.new.log.items edits fs e c.loop-edit.place next c.loop-edit.invariant.moving cut
          (subst (λ n. IsUp e.stamp log up next c.loop-edit.place (n + 1)) left moved)
          c.move_up-place.ensures.below
          (c.put_over.ensures.items ∙ ap (λ n. set up (next + n) e) left);
      room = c.put_over.ensures.capacity ∙ c.move_up-place.ensures.capacity ∙ c.loop-edit.invariant.room;
    }
