-- What is found of what programs say, and of names below their first lines.
use Rattle.std.specs.Prelude.{ℕ, zero, suc, Bool, true, false, not, ◌&&◌, ◌||◌, nat_lt, if◌then◌else◌, List, [], length, drop, Option, Some, None}
use Rattle.zed_oop_syntax.specs.Label.{byte_is}
use Rattle.zed_oop_syntax.specs.Line.{begun_at, line_text}
use Rattle.zed_oop_syntax.specs.Scroll.{is_centred, is_choice, is_file, link, link_text}
use Rattle.zed_oop_syntax.specs.Text.{line_after}
use Rattle.zed_oop_syntax.specs.declared.lines.LineKind.{LineKind}
use Rattle.zed_oop_syntax.specs.declared.lines.LineKind.TheVariants.{Skipped, Blank, Message}
use Rattle.zed_world.specs.declared.stat.StatData.{StatData}
use Rattle.zed_lint.specs.Labels.{is_known, label_of, starts_line}
use Rattle.zed_lint.specs.declared.finding.What.{What}
use Rattle.zed_lint.specs.declared.finding.What.TheVariants.{NoChoice, LowName, LongLine}

-- the text that is shown of a line of a scroll: behind the `$` of a centred line, and behind the first `;` of a choice
abbrev pub shown : List ℕ → List ℕ
shown line = if is_centred line then drop 1 line else (if is_choice line then link_text line else line)

-- whether a line is text
abbrev pub is_message : LineKind → Bool
is_message Message = true
is_message _ = false

-- whether a line is passed over: a label, a remark, a name, or an empty line
abbrev pub is_passed : LineKind → Bool
is_passed Skipped = true
is_passed Blank = true
is_passed _ = false

-- whether the line that begins at a place is text
abbrev pub is_text : List ℕ → ℕ → Bool
is_text p at = is_message (begun_at p at)

-- whether the line that begins at a place is passed over
abbrev pub passes : List ℕ → ℕ → Bool
passes p at = is_passed (begun_at p at)

-- whether the next line above a place that isn't passed over is text
abbrev pub above : List ℕ → ℕ → Bool
above p zero = false
above p (suc n) = if starts_line p n && not (passes p n) then is_text p n else above p n

-- whether of n lines from a place on the first that isn't passed over is text
abbrev pub below : List ℕ → ℕ → ℕ → Bool
below p zero at = false
below p (suc n) at = if passes p at then below p n (line_after p at) else is_text p at

-- whether other text is said with the line at a place
unfoldable pub is_said_with_others : List ℕ → ℕ → Bool
is_said_with_others p at = above p at || below p (length p) (line_after p at)

-- a line of text at a place, said with others, of which a scroll of 42 columns doesn't show all
abbrev pub long_line : List ℕ → ℕ → Option What
long_line p at =
    if nat_lt 42 (length (shown (line_text p at))) && is_text p at && is_said_with_others p at
    then Some (LongLine at (length (shown (line_text p at)))) else None

-- a line at a place that gives a name by `@` (64), where the first line gives none
abbrev pub low_name : List ℕ → ℕ → Option What
low_name p at = if byte_is p at 64 && not (byte_is p 0 64) then Some (LowName at) else None

-- the label to which a line leads if it is chosen; empty where it is no choice, or one of a file
abbrev pub offered : List ℕ → List ℕ
offered line = if is_choice line && not (is_file line) then label_of (link line) else []

-- whether a label isn't empty, and no program of these stats has it
abbrev pub is_vain : List StatData → List ℕ → Bool
is_vain stats label = nat_lt 0 (length label) && not (is_known stats label)

-- a choice that leads to a label which no program of these stats has
abbrev pub vain_choice : List StatData → List ℕ → ℕ → Option What
vain_choice stats p at =
    if is_vain stats (offered (line_text p at)) then Some (NoChoice at (offered (line_text p at))) else None
