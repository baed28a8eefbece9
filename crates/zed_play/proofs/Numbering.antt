-- Stats that are numbered one after the other.
use Rattle.std.proofs.Common.{◌≡◌, ◌++◌, ◌+◌, List, [], ◌∷◌, length, append_assoc, length-append}
use Rattle.zed_scene.specs.declared.stat.Stat.{Stat}
use Rattle.zed_world.specs.declared.stat.StatData.{StatData}
use Rattle.zed_play.specs.Opening.{stat_from, stats_from}

-- with one stat more, the rest is numbered from there
pub one_more : (out : List Stat) (s : StatData) (ss : List StatData)
    → (out ++ stat_from (length out) s ∷ []) ++ stats_from (length (out ++ stat_from (length out) s ∷ [])) ss
    ≡ out ++ stats_from (length out) (s ∷ ss)
one_more out s ss =
    let more : length (out ++ stat_from (length out) s ∷ []) ≡ length out + 1 = length-append out (stat_from (length out) s ∷ []) in
    rw more (append_assoc out (stat_from (length out) s ∷ []) (stats_from (length out + 1) ss))
