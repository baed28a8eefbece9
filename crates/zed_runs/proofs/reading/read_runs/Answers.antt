use Rattle.std.proofs.Common.{◌≡◌, ◌<◌, ◌≤◌, ◌+◌, ◌-◌, ◌++◌, ℕ, List, [], ◌∷◌, length, take, drop, replicate, refl, sym, subst, ◌∙◌, ap, length-take, length-drop, arith, rules}
use Rattle.std.proofs.lemmas.List.{take_at, take-append-drop, take_rest, length-replicate}
use Rattle.std.proofs.lemmas.Slice.{take-put_mid}
use borrow.Rule.Slice.PartMut.{put_mid}
use Rattle.zed_types.specs.declared.tile.Tile.{Tile}
use Rattle.zed_runs.specs.Reading.{tiles_at}
use Rattle.zed_runs.specs.Runs.{Runs, tiles_of_count, run, expansion}
use Rattle.zed_runs.proofs.Front.{none_begins, one_front}
use Rattle.zed_runs.proofs.Tiles.{runs_tiles, no_tiles}
use Rattle.zed_runs.proofs.Filling.{triple_at, text_more, expansion_more, filled_up}
use Rattle.zed_runs.proofs.reading.read_runs.Goals as goal

pub returns-in_default-clause-none : goal.returns-in_default-clause-none
returns-in_default-clause-none c =
    let bytes = c.args.bytes.now in
    let t = c.loop-used.invariant.triples in
    let few : length (expansion t.0) < 1500 = omega (arith, ap length t.2, length-take c.loop-used.filled c.loop-used.tiles) in
    let short : length (drop c.loop-used.used bytes) < 3 = rw take_rest at c.in_default.len_below in
    none_begins bytes t.0 c.loop-used.used t.1 few short

pub returns-then-end-ge-TILES-clause-result : goal.returns-then-end-ge-TILES-clause-result
returns-then-end-ge-TILES-clause-result c =
    let bytes = c.args.bytes.now in
    let filled = c.loop-used.filled in
    let tiles = c.loop-used.tiles in
    let i = c.loop-used.invariant in
    let rest = drop c.loop-used.used bytes in
    let t = triple_at rest in
    let three : 3 ≤ length rest = rw take_rest at c.in-len3-up.len_at_least in
    let count : c.tiles_of.result ≡ tiles_of_count t.count = rw take_rest at c.tiles_of.ensures in
    let written : c.fill.new.self ≡ replicate (length (take (1500 - filled) (drop filled tiles))) t.tile =
    rw take_rest at (c.fill.ensures.after (λ y h. search rules)) in
    let long : length tiles ≡ 1500 = c.if-end-ge-TILES.array_long in
    let room : length (take (1500 - filled) (drop filled tiles)) ≡ 1500 - filled =
    omega (arith, length-take (1500 - filled) (drop filled tiles), length-drop filled tiles) in
    filled_up (take (c.loop-used.used + 3) bytes) tiles c.fill.new.self (drop (1500 - filled) (drop filled tiles)) filled i.triples.0 t long i.open_yet
    (text_more bytes c.loop-used.used i.triples.0 three i.triples.1) i.triples.2
    (omega (arith, c.if-end-ge-TILES.true)) (written ∙ ap (λ (k : ℕ). replicate k t.tile) room)
    (omega (arith, length-drop (1500 - filled) (drop filled tiles), length-drop filled tiles))

pub loop-used-preserved : goal.loop-used-preserved
loop-used-preserved c =
    let bytes = c.args.bytes.now in
    let filled = c.loop-used.filled in
    let tiles = c.loop-used.tiles in
    let n = c.tiles_of.result in
    let i = c.loop-used.invariant in
    let rest = drop c.loop-used.used bytes in
    let t = triple_at rest in
    let three : 3 ≤ length rest = rw take_rest at c.in-len3-up.len_at_least in
    let count : n ≡ tiles_of_count t.count = rw take_rest at c.tiles_of.ensures in
    let written : c.fill-in-loop-used.new.self ≡ replicate (length (take (filled + n - filled) (drop filled tiles))) t.tile =
    rw take_rest at (c.fill-in-loop-used.ensures.after (λ y h. search rules)) in
    let long : length tiles ≡ 1500 = c.if-end-ge-TILES.array_long in
    let below : filled + n < 1500 = c.if-end-ge-TILES.false in
    let room : length (take (filled + n - filled) (drop filled tiles)) ≡ n =
    omega (arith, length-take (filled + n - filled) (drop filled tiles), length-drop filled tiles) in
    let part : c.fill-in-loop-used.new.self ≡ run t = written ∙ ap (λ (k : ℕ). replicate k t.tile) (room ∙ count) in
    let after : take (filled + n) (put_mid filled (filled + n - filled) tiles c.fill-in-loop-used.new.self) ≡ take filled tiles ++ c.fill-in-loop-used.new.self
    = take-put_mid filled (filled + n - filled) tiles c.fill-in-loop-used.new.self (filled + n) (omega (arith, ap length part, length-replicate (tiles_of_count t.count) t.tile)) (omega arith) in
    record {
      within = omega (arith, length-drop c.loop-used.used bytes);
      open_yet = below;
      triples = (
        i.triples.0 ++ t ∷ [],
        text_more bytes c.loop-used.used i.triples.0 three i.triples.1,
        expansion_more i.triples.0 t (take filled tiles) i.triples.2 ∙ ap (λ (x : List Tile). take filled tiles ++ x) (sym part) ∙ sym after,
      );
    }

pub returns-in_default-clause-reads : goal.returns-in_default-clause-reads
returns-in_default-clause-reads c = λ tiles front rest r e.
    let cut : front ≡ take (length front) c.args.bytes.now =
    sym (ap (λ (x : List ℕ). take (length front) x) e ∙ take_at front rest (length front) refl) in
    absurd (returns-in_default-clause-none c tiles (length front) (subst (λ (x : List ℕ). Runs tiles x) cut r))

pub returns-then-end-ge-TILES-clause-reads : goal.returns-then-end-ge-TILES-clause-reads
returns-then-end-ge-TILES-clause-reads c = λ tiles front rest r e.
    let bytes = c.args.bytes.now in
    let used = c.loop-used.used + 3 in
    let same = one_front _ tiles (take used bytes) front (drop used bytes) rest (returns-then-end-ge-TILES-clause-result c) r (take-append-drop used bytes ∙ e) in
    let three : 3 ≤ length (drop c.loop-used.used bytes) = rw take_rest at c.in-len3-up.len_at_least in
    let long : used ≡ length front = omega (arith, ap length same.0, length-take used bytes, length-drop c.loop-used.used bytes) in
    let filled = same.1 in
    cc

pub returns-in_default-clause-exact_fault : goal.returns-in_default-clause-exact_fault
returns-in_default-clause-exact_fault c = no_tiles c.args.bytes.now (returns-in_default-clause-none c)

pub returns-then-end-ge-TILES-clause-tiles : goal.returns-then-end-ge-TILES-clause-tiles
returns-then-end-ge-TILES-clause-tiles c =
    let bytes = c.args.bytes.now in
    let used = c.loop-used.used + 3 in
    ap (tiles_at 1500) (sym (take-append-drop used bytes)) ∙ runs_tiles _ (take used bytes) (drop used bytes) (returns-then-end-ge-TILES-clause-result c)
