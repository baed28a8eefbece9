use Rattle.std.proofs.Common.{◌∷◌, [], ◌++◌, ◌∙◌, ap, sym, codes, append_assoc}
use Rattle.std.proofs.lemmas.Result.{IfOk-weaker}
use Rattle.std.specs.Fmt.{decimal}
use Rattle.zed_tool.proofs.lines.takes_away_line.Goals as goal

pub returns : goal.returns
returns c =
    IfOk-weaker c.format.result _ _ (λ r h. h
    ∙ ap (λ t. codes "zztool: TakesAway " ++ t) (sym (append_assoc (decimal c.args.boards) (codes "\nzztool: take --force takes it all the same") (10 ∷ [])))) c.format.ensures.ok
