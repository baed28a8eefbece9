-- The devices that a command works with.
use Rattle.zed_play.specs.declared.key.Key.{Key}
use Rattle.zed_screen.specs.declared.frame.Frame.{Frame}
use Rattle.std.specs.Prelude.{Bool, List, Option}
use Rattle.zed_session.specs.Links.{LinkSeen}
use Rattle.cmd_show.specs.Stage.{Stage, stage}

-- links as they are seen, and a stage as it is told: before a command, or when it has ended
pub record Devices : Type 0 where
  pub links : List LinkSeen
  pub stage : Stage

-- devices of which this is told: links; the frame that the screen shows, and which calls of it will fail; the keys that are left in a source, and which
-- calls of that will fail
abbrev pub devices : List LinkSeen → Option (Option Frame) → Option (List Bool) → Option (List Key) → Option (List Bool) → Devices
devices links shown screen keys source = record { links = links; stage = stage shown screen keys source }
