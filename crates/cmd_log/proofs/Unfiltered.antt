-- Nothing is asked for.
use Rattle.std.proofs.Common.{◌≡◌, List, [], ◌∷◌, Ok, ap, filter, refl, true}
use Rattle.zed_op.specs.declared.op.Edit.{Edit}
use Rattle.zed_log.specs.declared.length.Length.{Length}
use Rattle.zed_log.specs.Laws.{log_at}
use Rattle.cmd_log.specs.Laws.{no_filter}
use Rattle.cmd_log.specs.Logged.{is_held, log_of}

all_stay : (es : List Edit) → filter (λ e. true) es ≡ es
all_stay [] = refl
all_stay (e ∷ es) = ap (λ (l : List Edit). e ∷ l) (all_stay es)

pub tells_all : (l : Length) (es : List Edit) → log_of l no_filter es ≡ Ok (log_at l (is_held es) es)
tells_all l es = ap (λ fs. Ok (log_at l (is_held es) fs)) (all_stay es)
