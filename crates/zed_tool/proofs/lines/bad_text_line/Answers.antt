use Rattle.std.proofs.Common.{◌∷◌, [], ◌++◌, ◌∙◌, ap, sym, codes, append_assoc}
use Rattle.std.specs.Fmt.{decimal}
use Rattle.std.proofs.lemmas.Result.{IfOk-weaker}
use Rattle.zed_tool.proofs.lines.bad_text_line.Goals as goal

pub returns : goal.returns
returns c =
    let file = c.args.file.now in
    let line = 58 ∷ decimal c.args.bad.line in
    let column = 58 ∷ decimal c.args.bad.column in
    let last = codes ": BadText" in
    let end = 10 ∷ [] in
    IfOk-weaker c.format.result _ _ (λ r h. h
    ∙ ap (λ t. codes "zztool: " ++ t) (sym (append_assoc (file ++ line ++ column) last end ∙ append_assoc (file ++ line) column (last ++ end) ∙ append_assoc file line (column ++ (last ++ end))))) c.format.ensures.ok
