use Rattle.std.proofs.Common.{◌≡◌, take, map, [], get_or}
use Rattle.zed_types.specs.Header.{flag_index}
use Rattle.zed_live.specs.Shown.{shown}
use Rattle.zed_export.specs.declared.header.TheConstants.{SLOTS}
use Rattle.zed_export.proofs.header.flags_of.Given as goal

-- the flags of the slots so far
abbrev pub invariant-loop-slot : goal.invariant-loop-slot
invariant-loop-slot l = l.flags.items ≡ map (λ k. get_or (shown l.header).flags (flag_index k) []) (take l.slot-index SLOTS)
