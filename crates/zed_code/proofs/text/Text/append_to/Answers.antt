use Rattle.std.proofs.Common.{rules, ◌≡◌, ◌+◌, ◌<◌, ◌≤◌, ◌++◌, vec_len, [], ℕ, List, length, get_or, drop, refl, sym, ap, ◌∙◌, subst, arith, append_assoc, append-nil}
use Rattle.std.specs.List.{AllByRecursion}
use Rattle.std.specs.Vec.{vec_capacity}
use Rattle.zed_types.specs.Text.{alive_bytes}
use Rattle.zed_code.specs.declared.run.Run.{Run}
use Rattle.zed_code.specs.declared.block.Block.{Block}
use Rattle.zed_code.specs.Blocks.{lists, joined, list_at, runs_of}
use Rattle.zed_code.specs.Cutting.{spelled}
use Rattle.zed_code.specs.Kept.{IsRun}
use Rattle.zed_code.specs.Reading.{live}
use Rattle.zed_code.proofs.Alive.{live-bytes}
use Rattle.zed_code.proofs.PutBytes.{shown}
use Rattle.zed_code.proofs.Joins.{length-lists, list_at-is, drop-none}
use Rattle.zed_code.proofs.Hinting.{each-at}
use Rattle.zed_code.proofs.ReadBlocks.{next-block, alive-append, live-append}
use Rattle.zed_code.proofs.text.Text.append_to.Goals as goal

pub push_live-requires-clause-each : goal.push_live-requires-clause-each
push_live-requires-clause-each c =
    let store = c.self.inside.store.items in
    let bs = c.deref-block-items.result.now in
    let b = c.block-item.result in
    let each : AllByRecursion (IsRun store) (joined (lists bs)) = let P : List Block → Type 0 = λ cs. AllByRecursion (IsRun store) (joined (lists cs)) in subst P (sym c.deref-block-items.ensures.value) c.self.invariant.kept.each in
    let here : list_at c.loop-block.block-index (lists bs) ≡ c.deref-in-loop-block.result.now =
    list_at-is bs c.loop-block.block-index b c.loop-block-test.true c.block-item.is ∙ sym c.deref-in-loop-block.ensures.value in
    let P : List Run → Type 0 = λ rs. AllByRecursion (IsRun store) rs in
    let Q : List ℕ → Type 0 = λ s. AllByRecursion (IsRun s) c.deref-in-loop-block.result.now in
    subst Q (sym c.deref.ensures.value) (subst P here (each-at (IsRun store) (lists bs) c.loop-block.block-index each))

-- the runs of the block, and those behind it
next : (bs cs : List Block) (i : ℕ) (b : Block) → bs ≡ cs → i < length bs → b ≡ get_or bs i b
    → joined (drop i (lists cs)) ≡ b.runs.items ++ joined (drop (i + 1) (lists cs))
next bs cs i b same lt is =
    let P : List Block → Type 0 = λ ds. joined (drop i (lists ds)) ≡ b.runs.items ++ joined (drop (i + 1) (lists ds)) in
    subst P same (next-block bs i b lt is)

pub push_live-requires-clause-room : goal.push_live-requires-clause-room
push_live-requires-clause-room c =
    let bs = c.self.inside.blocks.items in
    let xs = c.block-item.result.runs.items in
    let ys = joined (drop (c.loop-block.block-index + 1) (lists bs)) in
    let from = next c.deref-block-items.result.now bs c.loop-block.block-index c.block-item.result c.deref-block-items.ensures.value c.loop-block-test.true c.block-item.is in
    omega (arith, c.loop-block.invariant.room, ap live from, live-append xs ys, ap live c.deref-in-loop-block.ensures.value)

pub loop-block-init : goal.loop-block-init
loop-block-init c =
    let store = c.self.inside.store.items in
    let runs = runs_of c.self.inside.blocks.items in
    let all =
    c.length.ensures ∙ ap (λ xs. length (alive_bytes xs)) (shown store runs _ c.args.self.now refl c.self.view_is)
    ∙ live-bytes store runs c.self.invariant.kept.each in
    let room : vec_len c.reserve.new.self + c.length.result ≤ vec_capacity c.reserve.new.self = search rules in
    record {
      made = ap (λ xs. xs ++ alive_bytes (spelled store runs)) c.reserve.ensures.items;
      room = omega (arith, all, room);
    }

pub loop-block-preserved : goal.loop-block-preserved
loop-block-preserved c =
    let store = c.self.inside.store.items in
    let bs = c.self.inside.blocks.items in
    let xs = c.block-item.result.runs.items in
    let ys = joined (drop (c.loop-block.block-index + 1) (lists bs)) in
    let from = next c.deref-block-items.result.now bs c.loop-block.block-index c.block-item.result c.deref-block-items.ensures.value c.loop-block-test.true c.block-item.is in
    let put : c.push_live.new.out.items ≡ c.loop-block.out.items ++ alive_bytes (spelled store xs) =
    c.push_live.ensures.items ∙ ap (λ s. c.loop-block.out.items ++ alive_bytes (spelled s c.deref-in-loop-block.result.now)) c.deref.ensures.value ∙ ap (λ rs. c.loop-block.out.items ++ alive_bytes (spelled store rs)) c.deref-in-loop-block.ensures.value in
    record {
      made =
          ap (λ zs. zs ++ alive_bytes (spelled store ys)) put
          ∙ append_assoc c.loop-block.out.items (alive_bytes (spelled store xs)) (alive_bytes (spelled store ys))
          ∙ ap (λ zs. c.loop-block.out.items ++ zs) (sym (ap (λ rs. alive_bytes (spelled store rs)) from ∙ alive-append store xs ys))
          ∙ c.loop-block.invariant.made;
      room = omega (arith, c.loop-block.invariant.room, ap live from, live-append xs ys, c.push_live.ensures.len, c.push_live.ensures.capacity, ap live c.deref-in-loop-block.ensures.value);
    }

pub returns-clause-ok : goal.returns-clause-ok
returns-clause-ok c =
    let store = c.self.inside.store.items in
    let bs = c.self.inside.blocks.items in
    let n = ap length c.deref-block-items.ensures.value in
    let none : joined (drop c.loop-block.block-index (lists bs)) ≡ [] =
    drop-none (lists bs) c.loop-block.block-index (omega (arith, n, length-lists bs, c.loop-block-test.false)) in
    sym (append-nil c.loop-block.out.items) ∙ ap (λ rs. c.loop-block.out.items ++ alive_bytes (spelled store rs)) (sym none) ∙ c.loop-block.invariant.made
    ∙ ap (λ xs. c.args.out.now.items ++ alive_bytes xs) (sym (shown store (runs_of bs) _ c.args.self.now refl c.self.view_is))
