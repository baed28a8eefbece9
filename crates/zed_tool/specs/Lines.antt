-- The lines that the program writes where a command was not carried out.
use Rattle.zed_set_words.specs.Texts.{text_of}
use Rattle.std.specs.Prelude.{ℕ, Bool, true, false, List, ◌∷◌, ◌++◌, Some, None, codes}
use Rattle.std.specs.Fmt.{decimal}
use Rattle.zed_files.specs.Lines.{ended, has_numbers, refusal_name}
use Rattle.zed_tool.specs.Answers.{Failure, Refused, NotTaken, TakesAway, BadWord, BadText}

-- the name of a refusal, as `zzted` tells it, with its numbers or its cause; a word between quotes (39), and what may be there; a file, a line
-- and a column with a colon (58) behind each
abbrev pub name_of : Failure → List ℕ
name_of (Refused refusal) = refusal_name refusal
name_of NotTaken = codes "NotTaken"
name_of (TakesAway boards) = codes "TakesAway " ++ decimal boards ++ codes "\nzztool: take --force takes it all the same"
name_of (BadWord (Some word) expected) = codes "BadWord '" ++ word ++ codes "': expected " ++ text_of expected
name_of (BadWord None expected) = codes "BadWord the end: expected " ++ text_of expected
name_of (BadText file line column) = file ++ 58 ∷ decimal line ++ 58 ∷ decimal column ++ codes ": BadText"

-- the failures whose lines tell more than a name
abbrev pub tells_more : Failure → Bool
tells_more (Refused refusal) = has_numbers refusal
tells_more NotTaken = false
tells_more (TakesAway boards) = true
tells_more (BadWord word expected) = true
tells_more (BadText file line column) = true

-- the line on the standard error
abbrev pub line_of : Failure → List ℕ
line_of failure = ended (codes "zztool: " ++ name_of failure)
