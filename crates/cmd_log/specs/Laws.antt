-- What the law on filters promises.
use Rattle.std.specs.Prelude.{◌≡◌, List, None, Ok}
use Rattle.zed_op.specs.declared.op.Edit.{Edit}
use Rattle.zed_log.specs.declared.length.Length.{Length}
use Rattle.zed_log.specs.Laws.{log_at}
use Rattle.zed_filter.specs.declared.filter.Filter.{Filter}
use Rattle.cmd_log.specs.Logged.{is_held, log_of}

-- a filter that asks for nothing
abbrev pub no_filter : Filter
no_filter = record { board = None; cell = None; replica = None; since = None; until = None }

-- where nothing is asked for, there is a line for each edit, short or in full, with a mark in front of those that are held
abbrev pub TellsAllUnfiltered : Type 0
TellsAllUnfiltered = (l : Length) (es : List Edit) → log_of l no_filter es ≡ Ok (log_at l (is_held es) es)
