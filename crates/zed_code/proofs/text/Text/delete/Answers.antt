use Rattle.std.proofs.Common.{◌≡◌, true, refl, sym, subst, ap, ◌∙◌, arith}
use Rattle.std.proofs.lemmas.List.{length-map}
use Rattle.zed_types.specs.Text.{kill}
use Rattle.zed_code.specs.Blocks.{runs_of}
use Rattle.zed_code.specs.Runs.{kill_runs}
use Rattle.zed_code.specs.Cutting.{piece_in, spelled}
use Rattle.zed_code.specs.Looks.{looks_to_delete}
use Rattle.zed_code.specs.Pieces.{Shown}
use Rattle.zed_code.specs.Visits.{LooksAtLeast}
use Rattle.zed_code.specs.Text.{bytes_from, has_from}
use Rattle.zed_code.proofs.PutBytes.{spelled-cutting, shown}
use Rattle.zed_code.proofs.Killing.{kill_runs-spell, kill_runs-keep, length-kill_runs}
use Rattle.zed_code.proofs.Deaths.{any_err}
use Rattle.zed_code.proofs.Parting.{sought-from}
use Rattle.zed_code.proofs.Passing.{looks-to-delete}
use Rattle.zed_code.proofs.text.Text.delete.Goals as goal

pub invariant_of-self-2 : goal.invariant_of-self-2
invariant_of-self-2 c =
    let store = c.self.inside.store.items in
    let runs = runs_of c.self.inside.blocks.items in
    let made : runs_of c.mark_dead.new.blocks.items ≡ kill_runs (bytes_from c.args.stamp c.args.from c.args.to) runs =
    c.in_ok-mark_dead.ensures.ok in
    record {
      kept = rw made (kill_runs-keep store (bytes_from c.args.stamp c.args.from c.args.to) runs c.self.invariant.kept);
      full = c.mark_dead.ensures.full;
      hints = c.mark_dead.ensures.hints;
      found = tt;
    }

pub returns-clause-ok : goal.returns-clause-ok
returns-clause-ok c =
    let store = c.self.inside.store.items in
    let runs = runs_of c.self.inside.blocks.items in
    let made : runs_of c.mark_dead.new.blocks.items ≡ kill_runs (bytes_from c.args.stamp c.args.from c.args.to) runs =
    c.in_ok-mark_dead.ensures.ok in
    rw made (spelled-cutting store (kill_runs (bytes_from c.args.stamp c.args.from c.args.to) runs) ∙ kill_runs-spell store (bytes_from c.args.stamp c.args.from c.args.to) runs c.self.invariant.kept.each ∙ ap (kill (bytes_from c.args.stamp c.args.from c.args.to)) (sym (shown store runs _ c.args.self.now refl c.self.view_is)))

pub returns-clause-runs : goal.returns-clause-runs
returns-clause-runs c =
    let store = c.self.inside.store.items in
    let runs = runs_of c.self.inside.blocks.items in
    let made : runs_of c.mark_dead.new.blocks.items ≡ kill_runs (bytes_from c.args.stamp c.args.from c.args.to) runs =
    c.in_ok-mark_dead.ensures.ok in
    rw (made, ← c.self.view_is) (let a = length-map (kill_runs (bytes_from c.args.stamp c.args.from c.args.to) runs) (piece_in store) in let b = length-map runs (piece_in store) in omega (arith, a, b, length-kill_runs (bytes_from c.args.stamp c.args.from c.args.to) runs c.self.invariant.kept.ordered))

pub returns-clause-looks : goal.returns-clause-looks
returns-clause-looks c =
    let store = c.self.inside.store.items in
    let runs = runs_of c.self.inside.blocks.items in
    let range = bytes_from c.args.stamp c.args.from c.args.to in
    let P : Shown → Type 0 = λ t. LooksAtLeast (looks_to_delete range t.cutting) t.visits c.mark_dead.new.visits in
    subst P c.self.view_is (omega (arith, looks-to-delete store range runs c.self.invariant.kept.each, c.in_ok-mark_dead.ensures.looks))

pub returns-in_err-mark_dead-clause-memory_only_when : goal.returns-in_err-mark_dead-clause-memory_only_when
returns-in_err-mark_dead-clause-memory_only_when c =
    let store = c.self.inside.store.items in
    let runs = runs_of c.self.inside.blocks.items in
    let there = c.in_err-mark_dead.ensures.memory_only_when in
    let some : has_from c.args.stamp c.args.from (spelled store runs) ≡ true =
    sought-from store c.args.stamp c.args.from runs c.self.invariant.kept.each there.1 in
    any_err c.from_residual.result (there.0, ap (has_from c.args.stamp c.args.from) (shown store runs _ c.args.self.now refl c.self.view_is) ∙ some)
