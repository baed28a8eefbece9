use Rattle.std.proofs.Common.{◌∷◌, [], ◌++◌, ◌∙◌, ap, sym, codes, append_assoc}
use Rattle.std.specs.Fmt.{decimal}
use Rattle.std.proofs.lemmas.Result.{IfOk-weaker}
use Rattle.cmd_save.proofs.report.warning_told.Goals as goal

pub returns-in-OffBoard : goal.returns-in-OffBoard
returns-in-OffBoard c = rw c.in-OffBoard.is (IfOk-weaker c.format-in-OffBoard.result _ _ (λ r h. h
    ∙ ap (λ t. codes "OffBoard " ++ t) (sym (append_assoc (decimal c.in-OffBoard.board) (32 ∷ decimal c.in-OffBoard.stat) (10 ∷ [])))) c.format-in-OffBoard.ensures.ok)

pub returns-in-SamePlace : goal.returns-in-SamePlace
returns-in-SamePlace c = rw c.in-SamePlace.is (IfOk-weaker c.format-in-SamePlace.result _ _ (λ r h. h
    ∙ ap (λ t. codes "SamePlace " ++ t) (sym (append_assoc (decimal c.in-SamePlace.board) (32 ∷ decimal c.in-SamePlace.stat) (10 ∷ [])))) c.format-in-SamePlace.ensures.ok)
