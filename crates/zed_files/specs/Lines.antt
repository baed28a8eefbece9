-- The lines that commands print on refusals, edits and world files.
use Rattle.zed_op.specs.declared.cause.Cause.TheVariants as cause
use Rattle.zed_op.specs.declared.cause.Cause.{Cause}
use Rattle.zed_op.specs.declared.op.Edit.{Edit}
use Rattle.zed_files.specs.declared.refusal.Refusal.{Refusal}
use Rattle.zed_files.specs.declared.refusal.Refusal.TheVariants.{Memory, NotZzt, TooManyBoards, Truncated, BadBoardSize, TooManyStats, BadShare, Magic, NewVersion, OtherWorld, RecordLength, BadEdit, CutShort, Clash, Stale, ClockSpent, NoSuch, OutOfRange, BadAction, NoWorld, BoardsOver, StatsOver, BoardOver, File, NoBoard, NoWords, Over, LinkFault, ScreenFault, KeyFault, TooManyTurns, NoLink}
use Rattle.std.specs.Prelude.{ℕ, Bool, true, false, List, [], ◌∷◌, ◌++◌, codes, length}
use Rattle.std.specs.Fmt.{decimal}
use Rattle.zed_document.specs.Held.{held_stamps}

-- a text with a line feed at its end
abbrev pub ended : List ℕ → List ℕ
ended text = text ++ 10 ∷ []

-- two numbers with a space (32) between them
abbrev pub pair_of : ℕ → ℕ → List ℕ
pair_of m n = decimal m ++ 32 ∷ decimal n

-- the name of a cause
abbrev pub cause_name : Cause → List ℕ
cause_name cause.Short = codes "Short"
cause_name cause.Op = codes "Op"
cause_name cause.Tag = codes "Tag"
cause_name cause.Long = codes "Long"
cause_name cause.Stamp = codes "Stamp"
cause_name cause.Range = codes "Range"
cause_name cause.Order = codes "Order"
cause_name cause.Genesis = codes "Genesis"

-- the name of a refusal, with its numbers or its cause
abbrev pub refusal_name : Refusal → List ℕ
refusal_name Memory = codes "Memory"
refusal_name NotZzt = codes "NotZzt"
refusal_name TooManyBoards = codes "TooManyBoards"
refusal_name Truncated = codes "Truncated"
refusal_name BadBoardSize = codes "BadBoardSize"
refusal_name TooManyStats = codes "TooManyStats"
refusal_name BadShare = codes "BadShare"
refusal_name Magic = codes "Magic"
refusal_name NewVersion = codes "NewVersion"
refusal_name OtherWorld = codes "OtherWorld"
refusal_name RecordLength = codes "RecordLength"
refusal_name (BadEdit c) = codes "BadEdit " ++ cause_name c
refusal_name CutShort = codes "CutShort"
refusal_name (Clash s) = codes "Clash " ++ pair_of s.time s.replica
refusal_name Stale = codes "Stale"
refusal_name ClockSpent = codes "ClockSpent"
refusal_name NoSuch = codes "NoSuch"
refusal_name OutOfRange = codes "OutOfRange"
refusal_name NoWorld = codes "NoWorld"
refusal_name (BoardsOver n) = codes "BoardsOver " ++ decimal n
refusal_name (StatsOver b n) = codes "StatsOver " ++ pair_of b n
refusal_name (BoardOver b n) = codes "BoardOver " ++ pair_of b n
refusal_name BadAction = codes "BadAction"
refusal_name File = codes "File"
refusal_name NoBoard = codes "NoBoard"
refusal_name NoWords = codes "NoWords"
refusal_name Over = codes "Over"
refusal_name LinkFault = codes "LinkFault"
refusal_name ScreenFault = codes "ScreenFault"
refusal_name KeyFault = codes "KeyFault"
refusal_name TooManyTurns = codes "TooManyTurns"
refusal_name NoLink = codes "NoLink"

-- the refusals that tell numbers
abbrev pub has_numbers : Refusal → Bool
has_numbers (Clash s) = true
has_numbers (BoardsOver n) = true
has_numbers (StatsOver b n) = true
has_numbers (BoardOver b n) = true
has_numbers _ = false

-- the line on the standard error
abbrev pub line_of : Refusal → List ℕ
line_of refusal = ended (codes "zzted: " ++ refusal_name refusal)

-- the line that tells how long a world file is
abbrev pub bytes_line : ℕ → List ℕ
bytes_line count = decimal count ++ ended (codes " bytes")

-- the line that counts edits
abbrev pub edits_line : ℕ → List ℕ
edits_line count = decimal count ++ ended (codes " edits")

-- the counts of edits and of held ones
abbrev pub held_line : ℕ → ℕ → List ℕ
held_line edits held = decimal edits ++ (codes " edits, " ++ (decimal held ++ ended (codes " held")))

-- those of a set of edits
abbrev pub joined_line : List Edit → List ℕ
joined_line es = held_line (length es) (length (held_stamps es))
