use Rattle.std.proofs.Common.{◌≡◌, ◌+◌, ◌++◌, [], List, drop, append_assoc, append-nil, sym, ap, ◌∙◌, subst, arith}
use Rattle.std.specs.List.{AllByRecursion}
use Rattle.zed_types.specs.declared.names.ElemId.{ElemId}
use Rattle.zed_code.specs.declared.run.Run.{Run}
use Rattle.zed_code.specs.Blocks.{lists, joined, list_at}
use Rattle.zed_code.specs.Kept.{IsSound}
use Rattle.zed_code.specs.Reading.{between, live_names}
use Rattle.zed_code.proofs.Hinting.{each-at}
use Rattle.zed_code.proofs.Joins.{drop-none, length-lists, list_at-is}
use Rattle.zed_code.proofs.Names.{between-none, between-zero, names-on}
use Rattle.zed_code.proofs.ReadBlocks.{next-block}
use Rattle.zed_code.proofs.readers.push_names.Goals as goal

pub push_names_in-left-requires-clause-each : goal.push_names_in-left-requires-clause-each
push_names_in-left-requires-clause-each c =
    let bs = c.args.blocks.now in
    let here : list_at c.loop-block.block-index (lists bs) ≡ c.deref.result.now =
    list_at-is bs c.loop-block.block-index c.block-item.result c.loop-block-test.true c.block-item.is ∙ sym c.deref.ensures.value in
    let P : List Run → Type 0 = λ rs. AllByRecursion IsSound rs in
    subst P here (each-at IsSound (lists bs) c.loop-block.block-index c.requires.each)

pub loop-block-preserved : goal.loop-block-preserved
loop-block-preserved c =
    let bs = c.args.blocks.now in
    let i = c.loop-block.block-index in
    let xs = c.deref.result.now in
    let ys = joined (drop (i + 1) (lists bs)) in
    let from : joined (drop i (lists bs)) ≡ xs ++ ys =
    next-block bs i c.block-item.result c.loop-block-test.true c.block-item.is ∙ ap (λ zs. zs ++ ys) (sym c.deref.ensures.value) in
    let out = c.loop-block.out.items in
    let left = c.loop-block.left in
    let here = between left (live_names xs) in
    let left-2 = c.push_names_in-left.result in
    record {
      made =
          ap (λ zs. zs ++ between left-2 (live_names ys)) c.push_names_in-left.ensures.items
          ∙ append_assoc out here (between left-2 (live_names ys))
          ∙ ap (λ p. out ++ (here ++ between p (live_names ys))) c.push_names_in-left.ensures.left
          ∙ ap (λ zs. out ++ zs) (sym (names-on left xs ys))
          ∙ sym (ap (λ rs. out ++ between left (live_names rs)) from)
          ∙ c.loop-block.invariant.made;
      room = c.push_names_in-left.ensures.room;
    }

pub returns-then-left-eq0 : goal.returns-then-left-eq0
returns-then-left-eq0 c =
    let out = c.loop-block.out.items in
    let rest = live_names (joined (drop c.loop-block.block-index (lists c.args.blocks.now))) in
    sym (append-nil out) ∙ ap (λ xs. out ++ xs) (sym (between-zero ElemId c.loop-block.left rest c.if-left-eq0.true)) ∙ c.loop-block.invariant.made

pub returns : goal.returns
returns c =
    let ls = lists c.args.blocks.now in
    let out = c.loop-block.out.items in
    let past : joined (drop c.loop-block.block-index ls) ≡ [] =
    drop-none ls c.loop-block.block-index (omega (arith, length-lists c.args.blocks.now, c.loop-block-test.false)) in
    sym (append-nil out) ∙ ap (λ xs. out ++ xs) (sym (between-none ElemId c.loop-block.left))
    ∙ ap (λ rs. out ++ between c.loop-block.left (live_names rs)) (sym past) ∙ c.loop-block.invariant.made
