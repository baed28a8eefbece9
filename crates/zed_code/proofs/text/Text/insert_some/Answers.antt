use Rattle.std.proofs.Common.{rules, ◌≡◌, ◌+◌, ◌++◌, length, refl, ap, ◌∙◌, subst, arith}
use Rattle.zed_types.specs.declared.stamp.Stamp.{Stamp}
use Rattle.zed_code.specs.declared.run.Run.{Run}
use Rattle.zed_code.specs.Blocks.{lists, joined, runs_of, before_spot}
use Rattle.zed_code.specs.Runs.{looks_to_put, put_run, sought}
use Rattle.zed_code.specs.Looks.{looks_to_insert}
use Rattle.zed_code.specs.Pieces.{Shown}
use Rattle.zed_code.specs.Visits.{LooksAtLeast}
use Rattle.zed_code.proofs.Finding.{last-lasts}
use Rattle.zed_code.proofs.Passing.{looks-to-insert}
use Rattle.zed_code.proofs.PutBytes.{spelled-cutting, shown, new_run, names-there, none-yet, put-made, put-spells, put-keeps, put-more}
use Rattle.zed_code.proofs.text.Text.insert_some.Goals as goal

pub put-requires-clause-there : goal.put-requires-clause-there
put-requires-clause-there c =
    let runs = runs_of c.self.inside.blocks.items in
    names-there c.self.inside.store.items c.args.bytes.now c.args.after c.args.stamp runs c.args.self.now (shown c.self.inside.store.items runs _ c.args.self.now refl c.self.view_is) c.self.invariant.kept c.requires.there

pub put-requires-clause-new : goal.put-requires-clause-new
put-requires-clause-new c =
    let runs = runs_of c.self.inside.blocks.items in
    rw c.whole-run.ensures (none-yet c.self.inside.store.items c.args.bytes.now c.args.after c.args.stamp runs c.args.self.now (shown c.self.inside.store.items runs _ c.args.self.now refl c.self.view_is) c.self.invariant.kept c.requires.new)

pub invariant_of-self-2 : goal.invariant_of-self-2
invariant_of-self-2 c =
    let store = c.self.inside.store.items in
    let runs = runs_of c.self.inside.blocks.items in
    let made = put-made store c.args.bytes.now c.args.after c.args.stamp runs (runs_of c.put.new.blocks.items) c.whole-run.result c.len.result c.whole-run.ensures (search rules) c.in_ok-at.ensures.ok in
    let stored : c.extend_from_slice.new.self.items ≡ store ++ c.args.bytes.now = search rules in
    record {
      kept = rw (made, stored) (put-keeps store c.args.bytes.now c.args.after c.args.stamp runs c.args.self.now (shown store runs _ c.args.self.now refl c.self.view_is) c.self.invariant.kept c.requires.there c.requires.new c.requires.some c.requires.most);
      full = c.put.ensures.full;
      hints = c.put.ensures.hints;
      found = (
        c.in_ok-at.ensures.stands.within,
        (let run = c.whole-run.result in
            let n = c.new-last.result.name.index in
            let first : run.first ≡ 0 = ap (λ (r : Run). r.first) c.whole-run.ensures in
            let len : run.len ≡ length c.args.bytes.now = search rules in
            let last : n + 1 ≡ length c.args.bytes.now = search rules in
            let stamp : run.stamp ≡ c.new-last.result.name.stamp = search rules in
            let ls = lists c.put.new.blocks.items in
            let P : Stamp → Type 0 = λ s. before_spot c.in_ok-at.at ls ≡ sought s n (joined ls) in
            subst P stamp (c.in_ok-at.ensures.stands.first n (last-lasts n (length c.args.bytes.now) run first len (omega (arith, last))))),
      );
    }

pub returns-clause-ok : goal.returns-clause-ok
returns-clause-ok c =
    let store = c.self.inside.store.items in
    let runs = runs_of c.self.inside.blocks.items in
    let made = put-made store c.args.bytes.now c.args.after c.args.stamp runs (runs_of c.put.new.blocks.items) c.whole-run.result c.len.result c.whole-run.ensures (search rules) c.in_ok-at.ensures.ok in
    let stored : c.extend_from_slice.new.self.items ≡ store ++ c.args.bytes.now = search rules in
    rw (made, stored) (spelled-cutting (store ++ c.args.bytes.now) (put_run c.args.after (new_run c.args.stamp store (length c.args.bytes.now)) runs) ∙ put-spells store c.args.bytes.now c.args.after c.args.stamp runs c.args.self.now (shown store runs _ c.args.self.now refl c.self.view_is) c.self.invariant.kept c.requires.there)

pub returns-clause-runs : goal.returns-clause-runs
returns-clause-runs c =
    let store = c.self.inside.store.items in
    let runs = runs_of c.self.inside.blocks.items in
    let made = put-made store c.args.bytes.now c.args.after c.args.stamp runs (runs_of c.put.new.blocks.items) c.whole-run.result c.len.result c.whole-run.ensures (search rules) c.in_ok-at.ensures.ok in
    let stored : c.extend_from_slice.new.self.items ≡ store ++ c.args.bytes.now = search rules in
    rw (made, stored, ← c.self.view_is) (put-more store c.args.bytes.now c.args.after (new_run c.args.stamp store (length c.args.bytes.now)) runs)

pub returns-clause-looks : goal.returns-clause-looks
returns-clause-looks c =
    let store = c.self.inside.store.items in
    let runs = runs_of c.self.inside.blocks.items in
    let P : Shown → Type 0 = λ t. LooksAtLeast (looks_to_insert c.args.after c.args.stamp t.cutting) t.visits c.put.new.visits in
    let stamp : c.whole-run.result.stamp ≡ c.args.stamp = ap (λ (r : Run). r.stamp) c.whole-run.ensures in
    let same = ap (λ s. looks_to_put c.args.after s runs) stamp in
    subst P c.self.view_is (omega (arith, looks-to-insert store c.args.after c.args.stamp runs c.self.invariant.kept.each, same, c.in_ok-at.ensures.looks))
