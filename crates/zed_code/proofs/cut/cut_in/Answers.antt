use Rattle.std.specs.List.{list_any}
use Rattle.zed_code.specs.declared.run.Run.{Run}
use Rattle.std.proofs.Common.{List, subst, rules, ◌≡◌, ◌≤◌, ◌<◌, ◌+◌, ◌-◌, ◌∷◌, ◌++◌, true, length, take, drop, vec_len, vec_capacity, arith, sym, ap, ◌∙◌}
use Rattle.zed_code.specs.Runs.{pieces, reaches, kill_runs, touched}
use Rattle.zed_code.specs.Visits.{raised}
use Rattle.zed_code.proofs.Cuts.{room-here, next}
use Rattle.zed_code.proofs.Places.{raised-twice}
use Rattle.zed_code.specs.Kept.{IsSound, AllInOrder}
use Rattle.zed_code.proofs.Kills.{cut_from, cut_room, cut_done, all_from, order_from, any-drop, any-first, any-next}
use Rattle.zed_code.proofs.Touched.{touched-done, touched-from, touched-one, touched-past}
use Rattle.zed_code.proofs.cut.cut_in.Goals as goal

pub loop-i-init : goal.loop-i-init
loop-i-init c =
    let n : length c.args.runs.now.items ≡ vec_len c.args.runs.now = search rules in
    record {
      within = omega (arith, n, c.requires.within);
      rest = cut_from c.args.range c.args.runs.now.items c.args.start c.requires.none;
      room = omega (arith, cut_room c.args.range c.args.runs.now.items c.args.start c.requires.within c.requires.none, c.requires.room);
      sound = all_from IsSound c.args.runs.now.items c.args.start c.requires.each;
      ordered = order_from c.args.runs.now.items c.args.start c.requires.ordered;
      left = omega arith;
      looked = search rules;
      seen = omega (arith, touched-from c.args.range c.args.runs.now.items c.args.start c.requires.none);
      ends = any-drop c.args.range c.args.runs.now.items c.args.start;
    }

pub cut_at-i-requires-clause-room : goal.cut_at-i-requires-clause-room
cut_at-i-requires-clause-room c =
    let n : length c.loop-i.runs.items ≡ vec_len c.loop-i.runs = search rules in
    let t : drop c.loop-i.i c.loop-i.runs.items ≡ c.look-run.result ∷ drop (c.loop-i.i + 1) c.loop-i.runs.items =
    rw (← c.deref.ensures.value) c.look-run.ensures.run in
    let l : c.loop-i.i < length c.loop-i.runs.items = omega (arith, n, c.loop-i-test.true, c.len.ensures) in
    omega (arith, n, room-here c.args.range c.loop-i.runs.items c.look-run.result c.loop-i.i (vec_capacity c.loop-i.runs) l t c.loop-i.invariant.room)

pub loop-i-preserved : goal.loop-i-preserved
loop-i-preserved c =
    let n : length c.loop-i.runs.items ≡ vec_len c.loop-i.runs = search rules in
    let t : drop c.loop-i.i c.loop-i.runs.items ≡ c.look-run.result ∷ drop (c.loop-i.i + 1) c.loop-i.runs.items =
    rw (← c.deref.ensures.value) c.look-run.ensures.run in
    let l : c.loop-i.i < length c.loop-i.runs.items = omega (arith, n, c.loop-i-test.true, c.len.ensures) in
    let k : length c.cut_at-i.new.runs.items ≡ vec_len c.cut_at-i.new.runs = search rules in
    let s = next c.args.range c.loop-i.runs.items c.cut_at-i.new.runs.items c.look-run.result c.loop-i.i l t c.cut_at-i.ensures.runs in
    let count : c.cut_at-i.result ≡ length (pieces c.args.range c.look-run.result) = c.cut_at-i.ensures.count in
    rw count (record {
      within = omega (arith, n, k, s.longer, l);
      rest = s.rest ∙ c.loop-i.invariant.rest;
      room = omega (arith, s.room, c.loop-i.invariant.room, c.cut_at-i.ensures.capacity);
      sound = rw s.behind (rw t at c.loop-i.invariant.sound).1;
      ordered = rw s.behind (rw t at c.loop-i.invariant.ordered).1;
      left = omega (arith, n, k, s.longer, c.loop-i.invariant.left);
      looked =
          c.look-run.ensures.visits ∙ ap (λ v. raised v 1) c.loop-i.invariant.looked
          ∙ raised-twice c.args.visits.now (vec_len c.args.runs.now - c.args.start - (vec_len c.loop-i.runs - c.loop-i.i)) 1
          ∙ ap (raised c.args.visits.now) (omega (arith, n, k, s.longer, l, c.loop-i.invariant.left));
      seen =
          let here : touched c.args.range (drop c.loop-i.i c.loop-i.runs.items) ≤ 1 + touched c.args.range (drop (c.loop-i.i + 1) c.loop-i.runs.items) = rw t (touched-one c.args.range c.look-run.result (drop (c.loop-i.i + 1) c.loop-i.runs.items)) in
          omega (arith, here, ap (touched c.args.range) s.behind, c.look-run.ensures.visits, c.loop-i.invariant.seen);
      ends = λ h. let P : List Run → Type 0 = λ qs. list_any (reaches c.args.range) qs ≡ true in c.loop-i.invariant.ends (subst P (sym t) (any-next c.args.range c.look-run.result (drop (c.loop-i.i + 1) c.loop-i.runs.items) (subst P s.behind h)));
    })

pub returns-then-reaches-clause-runs : goal.returns-then-reaches-clause-runs
returns-then-reaches-clause-runs c =
    let rs = c.loop-i.runs.items in
    let t : drop c.loop-i.i rs ≡ c.look-run.result ∷ drop (c.loop-i.i + 1) rs = rw (← c.deref.ensures.value) c.look-run.ensures.run in
    let reached : reaches c.args.range c.look-run.result ≡ true = sym c.reaches.ensures ∙ c.if-reaches.true in
    let ordered : AllInOrder (c.look-run.result ∷ drop (c.loop-i.i + 1) rs) = rw t at c.loop-i.invariant.ordered in
    let done = cut_done c.args.range c.look-run.result (drop (c.loop-i.i + 1) rs) reached ordered.0 in
    let all : take c.loop-i.i rs ++ kill_runs c.args.range (c.look-run.result ∷ drop (c.loop-i.i + 1) rs) ≡ kill_runs c.args.range c.args.runs.now.items = rw t at c.loop-i.invariant.rest in
    c.cut_at-i.ensures.runs ∙ ap (λ qs. take c.loop-i.i rs ++ (pieces c.args.range c.look-run.result ++ qs)) (sym done) ∙ all

pub returns-then-reaches-clause-end : goal.returns-then-reaches-clause-end
returns-then-reaches-clause-end c =
    let rs = c.loop-i.runs.items in
    let t : drop c.loop-i.i rs ≡ c.look-run.result ∷ drop (c.loop-i.i + 1) rs = rw (← c.deref.ensures.value) c.look-run.ensures.run in
    let reached : reaches c.args.range c.look-run.result ≡ true = sym c.reaches.ensures ∙ c.if-reaches.true in
    let P : List Run → Type 0 = λ qs. list_any (reaches c.args.range) qs ≡ true in
    λ e. c.loop-i.invariant.ends (subst P (sym t) (any-first c.args.range c.look-run.result (drop (c.loop-i.i + 1) rs) reached))

pub returns-then-reaches-clause-visits : goal.returns-then-reaches-clause-visits
returns-then-reaches-clause-visits c =
    let n : length c.args.runs.now.items ≡ vec_len c.args.runs.now = search rules in
    let k = vec_len c.args.runs.now - c.args.start - (vec_len c.loop-i.runs - c.loop-i.i) in
    let looked : c.look-run.new.visits ≡ raised c.args.visits.now (k + 1) =
    c.look-run.ensures.visits ∙ ap (λ v. raised v 1) c.loop-i.invariant.looked ∙ raised-twice c.args.visits.now k 1 in
    (k + 1, looked, omega (arith, n, c.requires.within, c.loop-i.invariant.left, c.loop-i-test.true, c.len.ensures))

pub returns-then-reaches-clause-looks : goal.returns-then-reaches-clause-looks
returns-then-reaches-clause-looks c =
    let rs = c.loop-i.runs.items in
    let t : drop c.loop-i.i rs ≡ c.look-run.result ∷ drop (c.loop-i.i + 1) rs = rw (← c.deref.ensures.value) c.look-run.ensures.run in
    let reached : reaches c.args.range c.look-run.result ≡ true = sym c.reaches.ensures ∙ c.if-reaches.true in
    let ordered : AllInOrder (c.look-run.result ∷ drop (c.loop-i.i + 1) rs) = rw t at c.loop-i.invariant.ordered in
    let here : touched c.args.range (drop c.loop-i.i rs) ≤ 1 + touched c.args.range (drop (c.loop-i.i + 1) rs) =
    rw t (touched-one c.args.range c.look-run.result (drop (c.loop-i.i + 1) rs)) in
    omega (arith, here, touched-done c.args.range c.look-run.result (drop (c.loop-i.i + 1) rs) reached ordered.0, c.look-run.ensures.visits, c.loop-i.invariant.seen)

pub returns-clause-looks : goal.returns-clause-looks
returns-clause-looks c =
    let rs = c.loop-i.runs.items in
    let n : length rs ≡ vec_len c.loop-i.runs = search rules in
    let far : length rs ≤ c.loop-i.i = omega (arith, n, c.loop-i-test.false, c.len.ensures) in
    omega (arith, touched-past c.args.range rs c.loop-i.i far, c.loop-i.invariant.seen)
