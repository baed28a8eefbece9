use Rattle.std.proofs.Common.{rules, ◌≡◌, ◌≤◌, ◌<◌, ◌+◌, List, length, sym, ap, ◌∙◌, subst, arith}
use Rattle.zed_types.specs.Names.{byte_of}
use Rattle.zed_code.specs.declared.run.Run.{Run}
use Rattle.zed_code.specs.declared.block.Block.{Block}
use Rattle.zed_code.specs.Blocks.{lists, joined, before_spot, IsIn, NoneEmpty}
use Rattle.zed_code.specs.Kept.{AreHints}
use Rattle.zed_code.specs.Runs.{kill_runs, sought, touched}
use Rattle.zed_code.specs.Visits.{raised}
use Rattle.zed_code.proofs.Places.{raised-twice}
use Rattle.zed_code.proofs.Joins.{length-lists}
use Rattle.zed_code.proofs.Hinting.{hints-of, inside-runs}
use Rattle.zed_code.proofs.Kills.{cut_empty, joined-kill, kill-hints, kill-full}
use Rattle.zed_code.proofs.Deaths.{any_err, place-of, kills-none, none-before}
use Rattle.zed_code.proofs.Finding.{found-of}
use Rattle.zed_code.proofs.Touched.{touched-empty, touched-nowhere}
use Rattle.zed_code.proofs.cut.mark_dead.Goals as goal

pub seek-requires-clause-found : goal.seek-requires-clause-found
seek-requires-clause-found c =
    found-of c.args.found c.args.blocks.now.items c.deref-2.result.now (sym c.deref-2.ensures.value) c.requires.found

pub seek-requires-clause-hints : goal.seek-requires-clause-hints
seek-requires-clause-hints c = hints-of c.args.hints.now.entries c.args.places.now.items c.deref-3.result.now c.args.blocks.now.items c.deref-2.result.now (sym c.deref-3.ensures.value) (sym c.deref-2.ensures.value) c.requires.hints

pub returns-in_err-at-clause-hints : goal.returns-in_err-at-clause-hints
returns-in_err-at-clause-hints c = hints-of c.seek.new.hints.entries c.deref-3.result.now c.args.places.now.items c.deref-2.result.now c.args.blocks.now.items c.deref-3.ensures.value c.deref-2.ensures.value c.seek.ensures.hints

pub returns-then-at-len-clause-hints : goal.returns-then-at-len-clause-hints
returns-then-at-len-clause-hints c = hints-of c.seek.new.hints.entries c.deref-3.result.now c.args.places.now.items c.deref-2.result.now c.args.blocks.now.items c.deref-3.ensures.value c.deref-2.ensures.value c.seek.ensures.hints

pub returns-then-at-len-clause-ok : goal.returns-then-at-len-clause-ok
returns-then-at-len-clause-ok c =
    let ls = lists c.args.blocks.now.items in
    let place = place-of c.in_ok-at.at c.new-first.result (byte_of c.args.range.stamp c.args.range.first) c.deref-2.result.now c.args.blocks.now.items c.new-first.ensures c.deref-2.ensures.value c.in_ok-at.ensures.place in
    let far : length c.deref-2.result.now ≤ c.in_ok-at.at.block = let n = ap length c.deref-2.ensures.value in search rules in
    let end : before_spot c.in_ok-at.at ls ≡ length (joined ls) =
    ap (λ bs. before_spot c.in_ok-at.at (lists bs)) (sym c.deref-2.ensures.value) ∙ c.in_ok-at.ensures.end far
    ∙ ap (λ bs. length (joined (lists bs))) c.deref-2.ensures.value in
    kills-none c.args.range (joined ls) (before_spot c.in_ok-at.at ls) place end

pub returns-in_err-at-2-clause-hints : goal.returns-in_err-at-2-clause-hints
returns-in_err-at-2-clause-hints c =
    c.split_full.ensures.same.hints c.seek.new.hints.entries (hints-of c.seek.new.hints.entries c.deref-3.result.now c.args.places.now.items c.deref-2.result.now c.args.blocks.now.items c.deref-3.ensures.value c.deref-2.ensures.value c.seek.ensures.hints)

pub reserve_from-requires : goal.reserve_from-requires
reserve_from-requires c =
    let at = c.in_ok-at.at in
    let near : at.block < length c.deref-2.result.now = let n = ap length c.deref-2.ensures.value in search rules in
    let P : List Block → Type 0 = λ bs. IsIn at 1 (lists bs) in
    let inside = subst P c.deref-2.ensures.value (c.in_ok-at.ensures.inside near) in
    let l = inside.place in
    let here = c.in_ok-at-2.ensures.ok.within 0 (omega arith) (record { block = inside.block; place = omega (arith, l) }) in
    omega (arith, here.block, length-lists c.split_full.new.blocks.items)

pub returns-in_err-reserve_from-clause-hints : goal.returns-in_err-reserve_from-clause-hints
returns-in_err-reserve_from-clause-hints c =
    let P : List (List Run) → Type 0 = λ ls. AreHints c.seek.new.hints.entries c.split_full.new.places.items ls in
    subst P (sym c.reserve_from.ensures.kept) (c.split_full.ensures.same.hints c.seek.new.hints.entries (hints-of c.seek.new.hints.entries c.deref-3.result.now c.args.places.now.items c.deref-2.result.now c.args.blocks.now.items c.deref-3.ensures.value c.deref-2.ensures.value c.seek.ensures.hints))

pub cut-requires-clause-none : goal.cut-requires-clause-none
cut-requires-clause-none c =
    let ls = lists c.args.blocks.now.items in
    let place = place-of c.in_ok-at.at c.new-first.result (byte_of c.args.range.stamp c.args.range.first) c.deref-2.result.now c.args.blocks.now.items c.new-first.ensures c.deref-2.ensures.value c.in_ok-at.ensures.place in
    let to = c.in_ok-at-2.at in
    let here : before_spot to (lists c.reserve_from.new.blocks.items) ≡ before_spot c.in_ok-at.at ls =
    ap (before_spot to) c.reserve_from.ensures.kept ∙ c.in_ok-at-2.ensures.ok.place in
    none-before c.args.range (joined ls) (joined (lists c.reserve_from.new.blocks.items)) (before_spot c.in_ok-at.at ls) (before_spot to (lists c.reserve_from.new.blocks.items)) place here (ap joined c.reserve_from.ensures.kept ∙ c.split_full.ensures.same.runs)

pub returns-clause-ok : goal.returns-clause-ok
returns-clause-ok c =
    ap joined c.cut.ensures.runs ∙ joined-kill c.args.range (lists c.reserve_from.new.blocks.items)
    ∙ ap (kill_runs c.args.range) (ap joined c.reserve_from.ensures.kept ∙ c.split_full.ensures.same.runs)

pub returns-clause-full : goal.returns-clause-full
returns-clause-full c =
    let P : List (List Run) → Type 0 = λ ls. NoneEmpty ls in
    let ls = lists c.reserve_from.new.blocks.items in
    subst P (sym c.cut.ensures.runs) (kill-full c.args.range ls (subst P (sym c.reserve_from.ensures.kept) (c.split_full.ensures.same.full c.requires.full)))

pub returns-clause-hints : goal.returns-clause-hints
returns-clause-hints c =
    let hs = c.seek.new.hints.entries in
    let places = c.split_full.new.places.items in
    let P : List (List Run) → Type 0 = λ ls. AreHints hs places ls in
    let ls = lists c.reserve_from.new.blocks.items in
    subst P (sym c.cut.ensures.runs) (kill-hints c.args.range hs places ls (subst P (sym c.reserve_from.ensures.kept) (c.split_full.ensures.same.hints hs (hints-of hs c.deref-3.result.now c.args.places.now.items c.deref-2.result.now c.args.blocks.now.items c.deref-3.ensures.value c.deref-2.ensures.value c.seek.ensures.hints))))

pub returns-clause-visits : goal.returns-clause-visits
returns-clause-visits c =
    let k = c.in_ok-at.ensures.visits in
    let m = c.cut.ensures.visits in
    let at = c.in_ok-at.at in
    let to = c.in_ok-at-2.at in
    let ls = lists c.args.blocks.now.items in
    let new = lists c.reserve_from.new.blocks.items in
    let was : before_spot at (lists c.deref-2.result.now) ≡ before_spot at ls =
    ap (λ bs. before_spot at (lists bs)) c.deref-2.ensures.value in
    let count : length (joined (lists c.deref-2.result.now)) ≡ length (joined ls) =
    ap (λ bs. length (joined (lists bs))) c.deref-2.ensures.value in
    let here : before_spot to new ≡ before_spot at ls = ap (before_spot to) c.reserve_from.ensures.kept ∙ c.in_ok-at-2.ensures.ok.place in
    let same : length (joined new) ≡ length (joined ls) =
    ap length (ap joined c.reserve_from.ensures.kept ∙ c.split_full.ensures.same.runs) in
    (k.0 + m.0, m.1 ∙ ap (λ v. raised v m.0) k.1 ∙ raised-twice c.args.visits.now k.0 m.0, omega (arith, k.2, k.3, m.2, was, here, same, count), λ some. let l = k.4 (omega (arith, some, count)) in omega (arith, l))

pub returns-then-at-len-clause-looks : goal.returns-then-at-len-clause-looks
returns-then-at-len-clause-looks c =
    let ls = lists c.args.blocks.now.items in
    let place = place-of c.in_ok-at.at c.new-first.result (byte_of c.args.range.stamp c.args.range.first) c.deref-2.result.now c.args.blocks.now.items c.new-first.ensures c.deref-2.ensures.value c.in_ok-at.ensures.place in
    let far : length c.deref-2.result.now ≤ c.in_ok-at.at.block = let n = ap length c.deref-2.ensures.value in search rules in
    let end : before_spot c.in_ok-at.at ls ≡ length (joined ls) =
    ap (λ bs. before_spot c.in_ok-at.at (lists bs)) (sym c.deref-2.ensures.value) ∙ c.in_ok-at.ensures.end far
    ∙ ap (λ bs. length (joined (lists bs))) c.deref-2.ensures.value in
    omega (arith, touched-nowhere c.args.range (joined ls) (before_spot c.in_ok-at.at ls) place end, (c.in_ok-at.ensures.visits).1)

pub returns-clause-looks : goal.returns-clause-looks
returns-clause-looks c =
    let same = ap (touched c.args.range) (ap joined c.reserve_from.ensures.kept ∙ c.split_full.ensures.same.runs) in
    omega (arith, same, (c.in_ok-at.ensures.visits).1, c.cut.ensures.looks)

pub returns-then-range-clause-ok : goal.returns-then-range-clause-ok
returns-then-range-clause-ok c = sym (cut_empty c.args.range (joined (lists c.args.blocks.now.items)) c.if-range.true)

pub returns-then-range-clause-looks : goal.returns-then-range-clause-looks
returns-then-range-clause-looks c =
    omega (arith, touched-empty c.args.range (joined (lists c.args.blocks.now.items)) c.if-range.true, (c.look_once.ensures.visits).1)

pub returns-in_err-at-2-clause-memory_only_when : goal.returns-in_err-at-2-clause-memory_only_when
returns-in_err-at-2-clause-memory_only_when c =
    let bs = c.args.blocks.now.items in
    let at = c.in_ok-at.at in
    let place = place-of at c.new-first.result (byte_of c.args.range.stamp c.args.range.first) c.deref-2.result.now bs c.new-first.ensures c.deref-2.ensures.value c.in_ok-at.ensures.place in
    let near : at.block < length c.deref-2.result.now = let n = ap length c.deref-2.ensures.value in search rules in
    let P : List Block → Type 0 = λ xs. IsIn at 1 (lists xs) in
    let few = inside-runs at (lists bs) (subst P c.deref-2.ensures.value (c.in_ok-at.ensures.inside near)) in
    let there : sought c.args.range.stamp c.args.range.first (joined (lists bs)) < length (joined (lists bs)) = omega (arith, few, place) in
    any_err c.from_residual-in_err-at-2.result (omega (arith, c.if-range.false), there)

pub returns-in_err-reserve_from-clause-memory_only_when : goal.returns-in_err-reserve_from-clause-memory_only_when
returns-in_err-reserve_from-clause-memory_only_when c =
    let bs = c.args.blocks.now.items in
    let at = c.in_ok-at.at in
    let place = place-of at c.new-first.result (byte_of c.args.range.stamp c.args.range.first) c.deref-2.result.now bs c.new-first.ensures c.deref-2.ensures.value c.in_ok-at.ensures.place in
    let near : at.block < length c.deref-2.result.now = let n = ap length c.deref-2.ensures.value in search rules in
    let P : List Block → Type 0 = λ xs. IsIn at 1 (lists xs) in
    let few = inside-runs at (lists bs) (subst P c.deref-2.ensures.value (c.in_ok-at.ensures.inside near)) in
    let there : sought c.args.range.stamp c.args.range.first (joined (lists bs)) < length (joined (lists bs)) = omega (arith, few, place) in
    any_err c.from_residual-in_err-reserve_from.result (omega (arith, c.if-range.false), there)
