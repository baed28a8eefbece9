-- The stage that a command works with, as it is told before it begins and when it has ended.
use Rattle.zed_play.specs.declared.key.Key.{Key}
use Rattle.zed_screen.specs.declared.frame.Frame.{Frame}
use Rattle.std.specs.Prelude.{List, Option, Bool}

-- the frame that a screen shows, if there is one, and which calls of it will fail; the keys that are left in a source, and which calls of that will
-- fail: each of these if it is told
pub record Stage : Type 0 where
  pub shown : Option (Option Frame)
  pub screen : Option (List Bool)
  pub keys : Option (List Key)
  pub source : Option (List Bool)

-- a stage of which this is told
abbrev pub stage : Option (Option Frame) → Option (List Bool) → Option (List Key) → Option (List Bool) → Stage
stage shown screen keys source = record { shown = shown; screen = screen; keys = keys; source = source }
