use Rattle.std.proofs.Common.{◌∙◌, ◌<◌, ◌++◌, ◌∷◌, [], List, subst, sym, ap, append_assoc, arith}
use Rattle.std.proofs.lemmas.List.{append-nil}
use Rattle.std.proofs.lemmas.Result.{err_from_is_err_and}
use Rattle.zed_oop_syntax.specs.declared.heading.Turning.{Turning}
use Rattle.zed_oop_syntax.specs.Heading.{HeadingAt}
use Rattle.zed_oop_syntax.proofs.HeadingLemmas.{first_piece, last_piece, piece_moves, piece_turns}
use Rattle.zed_oop_syntax.proofs.OneDirection.{turned_on}
use Rattle.zed_oop_syntax.proofs.heading.direction.Goals as goal

pub loop-turning-smaller : goal.loop-turning-smaller
loop-turning-smaller c =
    let w = c.piece_at-piece.result in
    let moves : c.loop-turning.to < w.end = piece_moves c.args.program.now c.loop-turning.to w.turning c.in-Some.turning w.course w.end c.piece_at-piece.ensures.result c.in-Some.is in
    let within = c.piece_at-piece.ensures.within in
    omega arith

pub loop-turning-preserved : goal.loop-turning-preserved
loop-turning-preserved c =
    let w = c.piece_at-piece.result in
    record {
      so_far = λ ts d e rest.
          let P : List Turning → Type 0 = λ l. HeadingAt c.args.program.now c.args.at l d e in
          subst P (sym (ap (λ l. l ++ ts) c.in_ok-push-in-Some.ensures.ok ∙ append_assoc c.loop-turning.turns (c.in-Some.turning ∷ []) ts))
          (c.loop-turning.invariant.so_far (c.in-Some.turning ∷ ts) d e
          (first_piece c.args.program.now c.loop-turning.to w.turning c.in-Some.turning w.course w.end ts d e c.piece_at-piece.ensures.result c.in-Some.is rest));
      within = (let a = c.piece_at-piece.ensures.within in let b = c.loop-turning.invariant.within in omega arith);
      after = (let a = c.piece_at-piece.ensures.ends in omega arith);
    }

pub returns-in-None-clause-result : goal.returns-in-None-clause-result
returns-in-None-clause-result c =
    let w = c.piece_at-piece.result in
    let P : List Turning → Type 0 = λ l. HeadingAt c.args.program.now c.args.at l w.course w.end in
    subst P (append-nil c.loop-turning.turns)
    (c.loop-turning.invariant.so_far [] w.course w.end
    (last_piece c.args.program.now c.loop-turning.to w.turning w.course w.end c.piece_at-piece.ensures.result c.in-None.is))

pub returns-in_err-push-in-Some-clause-memory_only_when : goal.returns-in_err-push-in-Some-clause-memory_only_when
returns-in_err-push-in-Some-clause-memory_only_when c =
    let w = c.piece_at-piece.result in
    let p = err_from_is_err_and c.from_residual.result c.from_residual.ensures.1 in
    rw p.1
    (turned_on c.args.program.now c.args.at c.loop-turning.to c.loop-turning.turns c.in-Some.turning
    (piece_turns c.args.program.now c.loop-turning.to w.turning c.in-Some.turning w.course w.end c.piece_at-piece.ensures.result c.in-Some.is)
    c.loop-turning.invariant.so_far)
