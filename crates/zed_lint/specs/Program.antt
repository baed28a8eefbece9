-- What is found of the lines of programs.
use Rattle.std.specs.Prelude.{ℕ, if◌then◌else◌, List, [], ◌++◌}
use Rattle.zed_world.specs.declared.stat.StatData.{StatData}
use Rattle.zed_lint.specs.Commands.{commands_findings}
use Rattle.zed_lint.specs.Found.{each_from, noted}
use Rattle.zed_lint.specs.Labels.{begins_commands, starts_line}
use Rattle.zed_lint.specs.Said.{long_line, low_name, vain_choice}
use Rattle.zed_lint.specs.declared.finding.Finding.{Finding}
use Rattle.zed_lint.specs.declared.finding.Spot.{Spot}

-- what is wrong in the line at a place, if it begins with a command or a step
abbrev pub command_findings : Spot → List StatData → List (List ℕ) → List (List ℕ) → List ℕ → ℕ → List Finding
command_findings spot stats held set p at = if begins_commands p at then commands_findings spot stats held set p at else []

-- what is found of the line that begins at a place
unfoldable pub line_findings : Spot → List StatData → List (List ℕ) → List (List ℕ) → List ℕ → ℕ → List Finding
line_findings spot stats held set p at =
    noted spot (vain_choice stats p at) ++ noted spot (low_name p at) ++ noted spot (long_line p at) ++ command_findings spot stats held set p at

-- the same at any place of a program, whatever its byte is
abbrev pub place_findings : Spot → List StatData → List (List ℕ) → List (List ℕ) → List ℕ → ℕ → ℕ → List Finding
place_findings spot stats held set p at byte = if starts_line p at then line_findings spot stats held set p at else []

-- what is found of the lines of a program, one after the other
abbrev pub lines_findings : Spot → List StatData → List (List ℕ) → List (List ℕ) → List ℕ → List Finding
lines_findings spot stats held set p = each_from (place_findings spot stats held set p) 0 p
