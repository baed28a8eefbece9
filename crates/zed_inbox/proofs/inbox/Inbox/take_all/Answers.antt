use Rattle.std.proofs.Common.{rules, ◌≡◌, ◌≤◌, ◌+◌, ◌++◌, [], ◌∷◌, Some, None, drop, get_or, vec_len, vec_capacity, subst, sym, ap, ◌∙◌, arith}
use Rattle.std.specs.List.{find, filter}
use Rattle.std.proofs.lemmas.List.{drop_more, drop_all}
use Rattle.zed_types.specs.declared.stamp.Stamp.{Stamp}
use Rattle.zed_op.specs.Set.{IsRising, stamps_of}
use Rattle.zed_inbox.specs.Waiting.{names, without}
use Rattle.zed_inbox.proofs.Stamped.{has_stamp}
use Rattle.zed_inbox.proofs.Taking.{fails, take_first, step, none_passes}
use Rattle.zed_inbox.proofs.inbox.Inbox.take_all.Goals as goal
use Rattle.zed_inbox.proofs.inbox.Inbox.take_all.Goals.{in-Some, in-None}

pub loop-stamp-preserved : goal.loop-stamp-preserved
loop-stamp-preserved c =
    let x = c.args._thing in
    let ss = c.args.stamps.now in
    let i = c.loop-stamp.stamp-index in
    let es = c.loop-stamp.self in
    let out = c.loop-stamp.taken.items in
    let none : Stamp = record { time = 0; replica = 0 } in
    let s : Stamp = get_or ss i none in
    let more : drop i ss ≡ s ∷ drop (i + 1) ss = drop_more ss i none c.loop-stamp-test.true in
    let first : s ∷ drop (i + 1) ss ≡ stamps_of (filter (names x) es) = sym more ∙ c.loop-stamp.invariant.left in
    let rest : c.take.new.self ≡ without s es = c.take.ensures.others in
    elim c.match-take.branch [
      | in-Some w ↦
          let found : find (has_stamp s) es ≡ Some w.in-Some.edit = sym c.take.ensures.result ∙ w.in-Some.is in
          let t = step (names x) s (drop (i + 1) ss) out w.in-Some.edit es c.loop-stamp.invariant.rising first found in
          let made : c.match-take.taken.items ≡ out ++ w.in-Some.edit ∷ [] = search rules in
          let longer : vec_len c.match-take.taken ≡ vec_len c.loop-stamp.taken + 1 = search rules in
          let room : vec_capacity c.loop-stamp.taken ≤ vec_capacity c.match-take.taken = search rules in
          record {
            left = t.left ∙ ap (λ fs. stamps_of (filter (names x) fs)) (sym rest);
            got =
                ap (λ ys. ys ++ filter (names x) c.take.new.self) made ∙ ap (λ fs. (out ++ w.in-Some.edit ∷ []) ++ filter (names x) fs) rest
                ∙ t.got ∙ c.loop-stamp.invariant.got;
            others = ap (λ fs. filter (fails (names x)) fs) rest ∙ t.others ∙ c.loop-stamp.invariant.others;
            rising = subst IsRising (sym rest) t.rising;
            count = omega (arith, longer, c.loop-stamp.invariant.count);
            room = omega (arith, room, c.loop-stamp.invariant.room);
          }
      | in-None w ↦
          let t = take_first (names x) s (drop (i + 1) ss) es c.loop-stamp.invariant.rising first in
          let bad : Some t.edit ≡ None = sym t.found ∙ sym c.take.ensures.result ∙ w.in-None.is in
          absurd (cc)
    ]

pub returns-clause-others : goal.returns-clause-others
returns-clause-others c =
    let x = c.args._thing in
    let ss = c.args.stamps.now in
    let i = c.loop-stamp.stamp-index in
    let es = c.loop-stamp.self in
    let end : drop i ss ≡ [] = drop_all i ss (omega (arith, c.loop-stamp-test.false)) in
    let none : [] ≡ stamps_of (filter (names x) es) = sym end ∙ c.loop-stamp.invariant.left in
    sym (none_passes (names x) es none).1 ∙ c.loop-stamp.invariant.others
