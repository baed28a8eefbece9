-- What waits is tried until nothing is left to wake.
use Rattle.std.specs.Prelude.{Bool, List, []}
use Rattle.zed_op.specs.declared.op.Edit.{Edit}
use Rattle.zed_op.specs.declared.thing.Thing.{Thing}
use Rattle.zed_delivery.specs.declared.body.Body.{Body}
use Rattle.zed_delivery.specs.Shows.{IsBodyHalfway}
use Rattle.zed_delivery.specs.Steps.{awaited}

-- a body in which what waited for the things of edits done is tried, and so on, the rest being still to come
abbrev pub AreSettled : List Edit → Body → List Edit → Body → Type 0
AreSettled done b rest c =
    (all : List Edit) (others : Thing → Bool)
    → IsBodyHalfway all [] (awaited others done) b
    → IsBodyHalfway all [] (awaited others rest) c
