-- Choices of lines of scrolls.
use Rattle.std.specs.Prelude.{◌≡◌, ℕ, ◌<◌, Bool, true, false, if◌then◌else◌, List, length, slice_get, Option, Some, None, Result, Ok, Err}
use Rattle.zed_scene.specs.declared.scroll.Scroll.{Scroll}
use Rattle.zed_scene.specs.Scene.{Scene, there}
use Rattle.zed_oop_syntax.specs.Scroll.{is_choice, is_file, link}
use Rattle.zed_oop_syntax.specs.Text.{upper}
use Rattle.zed_oop.specs.declared.choosing.Chosen.{Chosen}
use Rattle.zed_oop.specs.declared.choosing.Chosen.TheVariants.{Sent, NoLabel, Gone, NoFile, NoChoice}
use Rattle.zed_oop.specs.Sending.{is_heard, sent}

-- a label to be sent by a stat of this number, or what else comes of a choice
abbrev pub Asked : Type 0
Asked = Result (ℕ × List ℕ) Chosen

-- a label is sent by the stat that spoke, unless it is gone
abbrev pub asked_of : Option ℕ → List ℕ → Asked
asked_of None label = Err Gone
asked_of (Some i) label = Ok (i, label)

-- a choice asks for its label; a file isn't there, and other lines ask for nothing
abbrev pub asked_by : Option ℕ → List ℕ → Asked
asked_by speaker line =
    if is_file line then Err NoFile else if is_choice line then asked_of speaker (link line) else Err NoChoice

-- a line of this speaker, if it is there
abbrev pub asked_at : Option ℕ → Option (List ℕ) → Asked
asked_at speaker None = Err NoChoice
asked_at speaker (Some line) = asked_by speaker line

-- a line of a scroll, if it is there
abbrev pub asked_in : ℕ → Option Scroll → Asked
asked_in line None = Err NoChoice
asked_in line (Some r) = asked_at r.speaker (slice_get r.lines line)

-- what is asked for by a line of a scroll, both counted from 0
abbrev pub asked : ℕ → ℕ → Scene → Asked
asked scroll line s = asked_in line (slice_get s.scrolls scroll)

-- a board where stat i is the one whose program has its turn
abbrev pub turned_to : ℕ → Scene → Scene
turned_to i s = record s { running = there s i }

-- stat i sends a word
abbrev pub sent_by : ℕ → List ℕ → Scene → Chosen × Scene
sent_by i w s = (if is_heard w (turned_to i s) then Sent else NoLabel, (sent w (turned_to i s)).scene)

-- what comes of what is asked for: the label is sent, in upper case
abbrev pub answered : Asked → Scene → Chosen × Scene
answered (Err c) s = (c, s)
answered (Ok (i, label)) s = sent_by i (upper label) s

-- what comes of the choice of a line of a scroll, both counted from 0: the label is sent as by SEND
abbrev pub chosen : ℕ → ℕ → Scene → Chosen × Scene
chosen scroll line s = answered (asked scroll line s) s

-- there is a label to be sent
abbrev pub Sends : Asked → Type 0
Sends (Err c) = ⊥
Sends (Ok (i, label)) = 0 < length label

-- a choice takes memory
abbrev pub ChoiceTakes : ℕ → ℕ → Scene → Type 0
ChoiceTakes scroll line s = Sends (asked scroll line s)
