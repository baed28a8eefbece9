use Rattle.std.proofs.Common.{◌∷◌, [], ◌++◌, ◌∙◌, ap, sym, codes, append_assoc}
use Rattle.std.specs.Fmt.{decimal}
use Rattle.std.proofs.lemmas.Result.{IfOk-weaker}
use Rattle.zed_tool.proofs.lines.shared_line_of.Goals as goal

pub returns-in-Clash : goal.returns-in-Clash
returns-in-Clash c = rw c.in-Clash.is (IfOk-weaker c.format.result _ _ (λ r h. h
    ∙ ap (λ t. codes "zztool: Clash " ++ t) (sym (append_assoc (decimal c.in-Clash.stamp.time) (32 ∷ decimal c.in-Clash.stamp.replica) (10 ∷ [])))) c.format.ensures.ok)

pub returns-in-StatsOver : goal.returns-in-StatsOver
returns-in-StatsOver c = rw c.in-StatsOver.is (IfOk-weaker c.format-in-StatsOver.result _ _ (λ r h. h
    ∙ ap (λ t. codes "zztool: StatsOver " ++ t) (sym (append_assoc (decimal c.in-StatsOver.board) (32 ∷ decimal c.in-StatsOver.stats) (10 ∷ [])))) c.format-in-StatsOver.ensures.ok)

pub returns-in-BoardOver : goal.returns-in-BoardOver
returns-in-BoardOver c = rw c.in-BoardOver.is (IfOk-weaker c.format-in-BoardOver.result _ _ (λ r h. h
    ∙ ap (λ t. codes "zztool: BoardOver " ++ t) (sym (append_assoc (decimal c.in-BoardOver.board) (32 ∷ decimal c.in-BoardOver.bytes) (10 ∷ [])))) c.format-in-BoardOver.ensures.ok)
