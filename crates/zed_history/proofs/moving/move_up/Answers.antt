use Rattle.std.proofs.Common.{◌≡◌, ◌∙◌, ◌<◌, ◌-◌, true, false, List, refl, subst, arith}
use Rattle.std.specs.Prelude.{slice_get, IfSome}
use Rattle.zed_types.specs.Stamp.{before}
use Rattle.zed_op.specs.declared.op.Edit.{Edit}
use Rattle.zed_history.proofs.Opened.{up-begins, up-below, up-more}
use Rattle.zed_history.proofs.moving.move_up.Goals as goal

pub loop-stamp-init : goal.loop-stamp-init
loop-stamp-init c = record { up = up-begins c.args.stamp c.args.log.now.items c.args.place c.args.by; capacity = refl }

pub loop-stamp-preserved : goal.loop-stamp-preserved
loop-stamp-preserved c =
    let first = c.args.log.now.items in
    let log = c.loop-stamp.log.items in
    let at = c.loop-stamp.at in
    let old = c.loop-stamp.invariant in
    let h = c.loop-stamp-test.ensures.later in
    let some : 0 < at = h.0 in
    let later : IfSome (slice_get log (at - 1)) (λ e. before c.args.stamp e.stamp ≡ true) =
    subst (λ (es : List Edit). IfSome (slice_get es (at - 1)) (λ e. before c.args.stamp e.stamp ≡ true)) c.deref.ensures.value h.1 in
    record {
      up = up-more c.args.stamp first log c.swap.new.self.items at (at - 1) c.args.place c.args.by
          c.requires.within old.up (omega (arith, some)) later c.swap.ensures.items;
      capacity = c.swap.ensures.capacity ∙ old.capacity;
    }

pub returns-clause-below : goal.returns-clause-below
returns-clause-below c =
    let at = c.loop-stamp.at in
    let below : 0 < at → IfSome (slice_get c.loop-stamp.log.items (at - 1)) (λ e. before c.args.stamp e.stamp ≡ false) =
    subst (λ (es : List Edit). 0 < at → IfSome (slice_get es (at - 1)) (λ e. before c.args.stamp e.stamp ≡ false))
    c.deref.ensures.value c.loop-stamp-test.ensures.below in
    up-below c.args.stamp c.args.log.now.items c.loop-stamp.log.items at c.args.place c.args.by
    c.requires.within c.loop-stamp.invariant.up c.requires.rising c.requires.new below
