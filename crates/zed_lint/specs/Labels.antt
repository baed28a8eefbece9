-- Labels that commands name, and no program has.
use Rattle.std.specs.Char.{is_ascii_alphanumeric}
use Rattle.std.specs.List.{list_any}
use Rattle.std.specs.Prelude.{ℕ, zero, suc, ◌+◌, ◌-◌, Bool, false, not, ◌&&◌, ◌||◌, ◌==◌, nat_lt, if◌then◌else◌, List, length, take, drop, [], position, Option, Some, None, codes}
use Rattle.zed_oop_syntax.specs.Label.{byte_is, label_at, one_word}
use Rattle.zed_world.specs.declared.stat.StatData.{StatData}
use Rattle.zed_log.specs.Program.{own_bytes}
use Rattle.zed_lint.specs.Found.{each_from, noted}
use Rattle.zed_lint.specs.declared.finding.Finding.{Finding}
use Rattle.zed_lint.specs.declared.finding.Spot.{Spot}
use Rattle.zed_lint.specs.declared.finding.What.{What}
use Rattle.zed_lint.specs.declared.finding.What.TheVariants.{NoLabel}

-- whether a byte may be in a word: a letter, a digit, `:` (58) or `_` (95)
abbrev pub is_of_word : ℕ → Bool
is_of_word b = is_ascii_alphanumeric b || b == 58 || b == 95

-- whether a byte is no space (32)
abbrev pub is_no_space : ℕ → Bool
is_no_space b = not (b == 32)

-- whether no word goes on with a byte
abbrev pub is_past_word : ℕ → Bool
is_past_word b = not (is_of_word b)

-- what stands before a place, or all where there is no place
abbrev pub before_place : List ℕ → Option ℕ → List ℕ
before_place bytes None = bytes
before_place bytes (Some i) = take i bytes

-- what stands from a place on, or nothing where there is no place
abbrev pub from_place : List ℕ → Option ℕ → List ℕ
from_place bytes None = []
from_place bytes (Some i) = drop i bytes

-- what stands behind the spaces at the front
unfoldable pub unspaced : List ℕ → List ℕ
unspaced bytes = from_place bytes (position is_no_space bytes)

-- the word behind the spaces at the front
unfoldable pub first_word : List ℕ → List ℕ
first_word bytes = before_place (unspaced bytes) (position is_past_word (unspaced bytes))

-- what stands behind that word
unfoldable pub behind_word : List ℕ → List ℕ
behind_word bytes = from_place (unspaced bytes) (position is_past_word (unspaced bytes))

-- whether a byte is a colon
abbrev pub is_colon : ℕ → Bool
is_colon b = b == 58

-- what stands behind a colon at this place, or all where there is none
abbrev pub behind_colon : List ℕ → Option ℕ → List ℕ
behind_colon message None = message
behind_colon message (Some i) = drop (i + 1) message

-- of a message `LABEL` or `TARGET:LABEL` the label
unfoldable pub label_of : List ℕ → List ℕ
label_of message = behind_colon message (position is_colon message)

-- whether a command sends a message to a label, or hides or shows one
abbrev pub names_label : List ℕ → Bool
names_label word = one_word word (codes "SEND") || one_word word (codes "ZAP") || one_word word (codes "RESTORE")

-- whether a line begins at a place: at the front, or behind a byte 13
abbrev pub starts_line : List ℕ → ℕ → Bool
starts_line p at = at == 0 || byte_is p (at - 1) 13

-- whether what begins at a place begins with a command (`#`, 35) or a step (`/`, 47, or `?`, 63)
abbrev pub begins_commands : List ℕ → ℕ → Bool
begins_commands p at = byte_is p at 35 || byte_is p at 47 || byte_is p at 63

-- whether the line of a place begins so; a line ends with a byte 13
abbrev pub is_in_commands : List ℕ → ℕ → Bool
is_in_commands p zero = begins_commands p 0
is_in_commands p (suc n) = if byte_is p n 13 then begins_commands p (suc n) else is_in_commands p n

-- whether at a place of such a line stand a `#` and a command that names a label
abbrev pub is_naming : List ℕ → ℕ → Bool
is_naming p at = byte_is p at 35 && names_label (first_word (drop (at + 1) p)) && is_in_commands p at

-- the label that this command names
unfoldable pub named_label : List ℕ → ℕ → List ℕ
named_label p at = label_of (first_word (behind_word (drop (at + 1) p)))

-- whether a number below n passes a test
abbrev pub any_below : (ℕ → Bool) → ℕ → Bool
any_below test zero = false
any_below test (suc n) = any_below test n || test n

-- whether a label stands at a place: a `:` (58) and its word, or, where it is hidden, a `'` (39) and its word
abbrev pub is_label : List ℕ → List ℕ → ℕ → Bool
is_label p label at = label_at 58 p label at || label_at 39 p label at

-- whether a program has a label
unfoldable pub has_label : List ℕ → List ℕ → Bool
has_label p label = any_below (is_label p label) (length p)

-- whether the program of one of these stats has a label
abbrev pub some_has : List StatData → List ℕ → Bool
some_has stats label = list_any (λ s. has_label (own_bytes s.code) label) stats

-- whether a message to a label can lead anywhere: to RESTART, which each program has, or to a label of one of these stats' programs
abbrev pub is_known : List StatData → List ℕ → Bool
is_known stats label = one_word label (codes "RESTART") || some_has stats label

-- whether a command at a place names a label, and none of these stats' programs has it
unfoldable pub is_lost : List StatData → List ℕ → ℕ → Bool
is_lost stats p at = is_naming p at && nat_lt 0 (length (named_label p at)) && not (is_known stats (named_label p at))

-- at a place of a program a label that is named, and that no program has
abbrev pub lost_label : List StatData → List ℕ → ℕ → Option What
lost_label stats p at = if is_lost stats p at then Some (NoLabel at (named_label p at)) else None

-- what is found at a place of a program, whatever its byte is
abbrev pub label_findings : Spot → List StatData → List ℕ → ℕ → ℕ → List Finding
label_findings spot stats p at byte = noted spot (lost_label stats p at)

-- what is found of the labels that a program names
abbrev pub labels_findings : Spot → List StatData → List ℕ → List Finding
labels_findings spot stats p = each_from (label_findings spot stats p) 0 p
