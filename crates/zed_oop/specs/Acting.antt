-- What a program does to its stat.
use Rattle.std.specs.Prelude.{ℕ, List, Option, Some, None}
use Rattle.zed_scene.specs.declared.stat.Stat.{Stat}
use Rattle.zed_scene.specs.declared.step.Step.{Step}
use Rattle.zed_scene.specs.Scene.{Scene, program_of, put_running_stat, running_stat}
use Rattle.zed_oop_syntax.specs.Text.{line_after}

-- the running stat changes, if it is still there
abbrev pub changed : (Stat → Stat) → Option Stat → Scene → Scene
changed f None s = s
changed f (Some a) s = put_running_stat (f a) s

-- the running stat is at this place of its program, or at none: its program has ended
abbrev pub with_position : Option ℕ → Scene → Scene
with_position o s = changed (λ a. record a { position = o }) (running_stat s) s

-- the running stat has this P1, which is how an object looks
abbrev pub with_p1 : ℕ → Scene → Scene
with_p1 n s = changed (λ a. record a { p1 = n }) (running_stat s) s

-- the running stat has this P2, which is 0 where it isn't locked
abbrev pub with_p2 : ℕ → Scene → Scene
with_p2 n s = changed (λ a. record a { p2 = n }) (running_stat s) s

-- the running stat has this cycle
abbrev pub with_cycle : ℕ → Scene → Scene
with_cycle n s = changed (λ a. record a { cycle = n }) (running_stat s) s

-- the running stat has this step
abbrev pub with_step : Step → Scene → Scene
with_step d s = changed (λ a. record a { step = d }) (running_stat s) s

-- the running stat goes on behind the line at this place; without a place nothing changes
abbrev pub skipped_from : List ℕ → Option ℕ → Scene → Scene
skipped_from p None s = s
skipped_from p (Some at) s = with_position (Some (line_after p at)) s

-- the rest of the line in this stat's program is skipped; without the stat nothing changes
abbrev pub skipped_by : Option Stat → Scene → Scene
skipped_by None s = s
skipped_by (Some a) s = skipped_from (program_of s a.program) a.position s

-- the rest of the line is skipped
unfoldable pub skip_line : Scene → Scene
skip_line s = skipped_by (running_stat s) s
