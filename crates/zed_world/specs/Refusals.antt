-- What a refusal of runs is told as.
use Rattle.zed_runs.specs.declared.error.RunsError.{RunsError}
use Rattle.zed_runs.specs.declared.error.RunsError.TheVariants as runs
use Rattle.zed_world.specs.declared.error.WorldError.{WorldError}
use Rattle.zed_world.specs.declared.error.WorldError.TheVariants.{Memory, Truncated}

-- the refusal of a world for a refusal of its runs
abbrev pub of_runs : RunsError → WorldError
of_runs runs.Memory = Memory
of_runs runs.Truncated = Truncated
