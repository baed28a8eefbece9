use Rattle.std.proofs.Common.{◌≡◌, ◌≢◌, ◌∙◌, sym, true}
use Rattle.std.proofs.lemmas.Bool.Decides.{Decides-eqb}
use Rattle.std.proofs.lemmas.Slice.Eq.{slice_eq-Decides}
use Rattle.zed_system.proofs.Going.{edits_go, others_go, same_goes}
use Rattle.zed_system.proofs.old.loses.Goals as goal

pub returns-then-eq : goal.returns-then-eq
returns-then-eq c =
    let decides = slice_eq-Decides Decides-eqb c.args.old.now c.args.new.now c.eq.result c.eq.ensures in
    same_goes c.args.is_drawing c.args.new.now c.args.old.now (decides.0 c.if-eq.true)

pub returns-then-are_edits : goal.returns-then-are_edits
returns-then-are_edits c =
    let decides = slice_eq-Decides Decides-eqb c.args.old.now c.args.new.now c.eq.result c.eq.ensures in
    let other : c.args.old.now ≢ c.args.new.now = λ same. let yes : c.eq.result ≡ true = decides.1 same in let no = c.if-eq.false in absurd cc in
    edits_go c.args.is_drawing c.args.new.now c.args.old.now c.is_lost.result other (sym c.are_edits.ensures ∙ c.if-are_edits.true) c.is_lost.ensures

pub returns-else-are_edits : goal.returns-else-are_edits
returns-else-are_edits c =
    let decides = slice_eq-Decides Decides-eqb c.args.old.now c.args.new.now c.eq.result c.eq.ensures in
    let other : c.args.old.now ≢ c.args.new.now = λ same. let yes : c.eq.result ≡ true = decides.1 same in let no = c.if-eq.false in absurd cc in
    others_go c.args.is_drawing c.args.new.now c.args.old.now other (sym c.are_edits.ensures ∙ c.if-are_edits.false)
