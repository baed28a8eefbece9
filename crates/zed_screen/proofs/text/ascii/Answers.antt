use Rattle.std.proofs.Common.{◌≡◌, ◌∙◌, ◌+◌, ℕ, List, sym, subst, length, arith}
use Rattle.std.proofs.lemmas.List.{length-set}
use Rattle.zed_screen.specs.Frames.{AreLines, IsLine}
use Rattle.zed_screen.proofs.Painting.{one_such}
use Rattle.zed_screen.proofs.text.ascii.Goals as goal

pub loop-y-preserved : goal.loop-y-preserved
loop-y-preserved c =
    let l = c.loop-y in
    let P : ℕ → List ℕ → Type 0 = λ y line. IsLine c.args.frame.now y line in
    let Q : List (List ℕ) → Type 0 = λ ls. (length ls ≡ 25) × AreLines ls c.args.frame.now (l.y + 1) in
    subst Q (sym c.put_line.ensures) (
      length-set l.lines l.y c.line_of.result ∙ l.invariant.0,
      one_such P l.lines l.y c.line_of.result (rw l.invariant.0 (omega arith)) c.line_of.ensures l.invariant.1,
    )
