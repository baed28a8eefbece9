-- What waits is tried until nothing is left to wake.
use Rattle.std.proofs.Common.{List, [], ◌∷◌, ◌++◌}
use Rattle.zed_op.specs.declared.op.Edit.{Edit}
use Rattle.zed_op.specs.Set.{AllFit}
use Rattle.zed_delivery.specs.declared.body.Body.{Body}
use Rattle.zed_delivery.specs.Steps.{AreInHand}
use Rattle.zed_delivery.specs.Waking.{IsFollowed}
use Rattle.zed_delivery.specs.Settling.{AreSettled}

pub front_fits : (e : Edit) (es : List Edit) → AllFit (es ++ e ∷ []) → AllFit es
front_fits e [] a = tt
front_fits e (d ∷ es) a = (a.0, front_fits e es a.1)

pub next_in_hand : (done : List Edit) (b : Body) (rest : List Edit) (c : Body) → AreInHand [] done b → AreSettled done b rest c
    → AreInHand [] rest c
next_in_hand done b rest c h s = (h.0, h.1, s h.0 h.1 h.2)

pub settled_one_more : (done : List Edit) (b : Body) (e : Edit) (rest : List Edit) (c : Body) (new : List Edit) (d : Body)
    → AreSettled done b (rest ++ e ∷ []) c → IsFollowed e c rest d new
    → AreSettled done b new d
settled_one_more done b e rest c new d many one all others h = one all others (many all others h)
