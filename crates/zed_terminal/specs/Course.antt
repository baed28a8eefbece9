-- How a playtest goes on, turn by turn.
use Rattle.std.specs.Prelude.{◌≡◌, ◌⊎◌, ◌≤◌, ◌<◌, ℕ, zero, suc, Bool, true, false, not, ◌&&◌, List, [], ◌∷◌, ◌++◌, drop, length, Option, Some, None, is_some, Result, Ok, Err, ⊤}
use Rattle.zed_world.specs.Contents.{Contents}
use Rattle.zed_play.specs.declared.ending.Ending.{Ending}
use Rattle.zed_play.specs.declared.ending.Ending.TheVariants.{Left}
use Rattle.zed_play.specs.declared.entering.Way.{Way}
use Rattle.zed_play.specs.declared.error.PlayError.TheVariants as step
use Rattle.zed_play.specs.declared.key.Key.{Key}
use Rattle.zed_play.specs.Entering.{entered, way_of}
use Rattle.zed_play.specs.Playtest.{Playtest}
use Rattle.zed_play.specs.Scrolls.{chosen}
use Rattle.zed_play.specs.Step.{Steps}
use Rattle.zed_terminal.specs.declared.input.Input.{Input}
use Rattle.zed_terminal.specs.declared.input.Size.{Size}
use Rattle.zed_terminal.specs.declared.moves.Choice.{Choice}
use Rattle.zed_terminal.specs.declared.moves.Move.{Move}
use Rattle.zed_terminal.specs.declared.moves.Move.TheVariants as move
use Rattle.zed_terminal.specs.declared.overlay.Act.{Act}
use Rattle.zed_terminal.specs.declared.overlay.Act.TheVariants.{Play, Choose, Show, Resize}
use Rattle.zed_terminal.specs.declared.overlay.Overlay.{Overlay}
use Rattle.zed_terminal.specs.declared.overlay.Shown.{Shown}
use Rattle.zed_terminal.specs.Overlaid.{asked, behind, closed, opened, or_other, seen, showing, told}
use Rattle.zed_terminal.specs.Staged.{open_text, stage_text}
use Rattle.zed_terminal.specs.declared.error.TurnError.{TurnError}
use Rattle.zed_terminal.specs.declared.error.TurnError.TheVariants.{KeyFault, Memory, NoWords, ScreenFault, TooManyTurns}
use Rattle.zed_terminal.specs.declared.tape.Tape.{Tape}
use Rattle.zed_terminal.specs.Devices.{Chances, GivesOut, Supplies}
use Rattle.zed_terminal.specs.Stage.{Draws, DrawsNothing, LacksKey, Stage, TakesInput}

-- where a playtest has come to: what is shown over it; by which moves, with which words of chance that came, and which of them are left; and how large its
-- terminal is
pub record Point : Type 0 where
  pub play : Playtest
  pub overlay : Overlay
  pub keys : List Move
  pub words : List ℕ
  pub left : List ℕ
  pub size : Size

-- where a tape is at
abbrev pub point : Tape → Point
point t = record { play = t.play; overlay = t.overlay; keys = t.keys.items; words = t.words.items; left = drop t.used t.words.items; size = t.size }

-- what is drawn of it: the board and what is told below it, and the scroll that is open
abbrev pub picture : Point → List ℕ
picture a =
    let p = seen a.overlay a.play in stage_text a.size a.overlay.shown a.overlay.said p ++ open_text a.size a.overlay.shown p

-- it has ended, and nothing that was said in it is shown any more
abbrev pub is_over : Point → Bool
is_over a = is_some a.play.ending && not (is_some a.overlay.shown)

-- the same, and what the devices tell then
pub record Course : Type 0 where
  pub at : Point
  pub stage : Stage

abbrev pub course : Point → Stage → Course
course at stage = record { at = at; stage = stage }

-- the words that are left are too few for a step by a key
abbrev pub LacksWords : Key → Playtest → List ℕ → Type 0
LacksWords key p words = Steps (Err step.NoWords) key p words p

-- words came for the step by a key: those that were left, and all that came but the last 32, were too few
abbrev pub IsBehind : Key → Point → List ℕ → Type 0
IsBehind key a came =
    (before : List ℕ) × (last : List ℕ) × (came ≡ before ++ last) × (length last ≡ 32) × LacksWords key a.play (a.left ++ before)

-- they are needed, if any came
abbrev pub IsNeeded : Key → Point → List ℕ → Type 0
IsNeeded key a came = (came ≡ []) ⊎ IsBehind key a came

-- ---- on over boards

-- the playtest of the board to which a player comes by a way: of a world, if there is one to go on in, and it has that board
abbrev pub reached : Option Contents → ℕ → Way → Playtest → Option Playtest
reached None board way p = None
reached (Some w) board way p = entered w board way p

-- the playtest that goes on where one ended so: its player left for a board that is there
abbrev pub next_by : Option Contents → Way → Option Ending → Playtest → Option Playtest
next_by w way (Some (Left board)) p = reached w board way p
next_by w way _ p = None

-- where a key leads from the playtest before its step: to the one that the step came to, or on to the next board
abbrev pub next_of : Option Contents → Key → Playtest → Playtest → Option Playtest
next_of w key p q = next_by w (way_of key p) q.ending q

abbrev pub led_on : Option Contents → Key → Playtest → Playtest → Playtest
led_on w key p q = or_other (next_of w key p q) q

-- the playtest that the player left, if something is shown of what was said in it
abbrev pub left_behind : Option Shown → Playtest → Option Playtest
left_behind None q = None
left_behind (Some s) q = Some q

-- the same, if another one goes on in place of it
abbrev pub before_of : Option Playtest → Option Shown → Playtest → Option Playtest
before_of None shown q = None
before_of (Some next) shown q = left_behind shown q

-- what is shown behind a step: the first scroll of what was said in it, over the board where that was
abbrev pub over_step : Option Playtest → Playtest → Overlay
over_step next q = record { before = before_of next (opened 0 q) q; shown = opened 0 q; said = None }

-- ---- turns

-- a step is made by a key, with the words that were left and those that came for it
abbrev pub Makes : Key → List ℕ → Point → Point → Type 0
Makes key came a b =
    (used : ℕ) × Steps (Ok used) key a.play (a.left ++ came) b.play × (b.left ≡ drop used (a.left ++ came)) × (b.words ≡ a.words ++ came)

-- the same, with the words from a source of chance that are needed
abbrev pub IsSupplied : Key → Point → Chances → Point → Chances → Type 0
IsSupplied key a chance b chance_then =
    (came : List ℕ) × Supplies came chance chance_then × IsNeeded key a came × Makes key came a b

-- the source fails, or has brought as many words as may come for one step: those that are left and those that came are too few for the step by a
-- key, and nothing is played
abbrev pub LacksSupply : Key → Point → Chances → Point → Chances → Type 0
LacksSupply key a chance b chance_then =
    (came : List ℕ) × GivesOut came chance chance_then × LacksWords key a.play (a.left ++ came) × (b.play ≡ a.play) × (b.keys ≡ a.keys)

-- behind a step by a key that came to this: the key is kept, and the playtest goes on, or another one in place of it
abbrev pub behind_step : Option Playtest → Key → Point → Point → Point
behind_step next key a mid =
    record {
      play = or_other next mid.play;
      overlay = over_step next mid.play;
      keys = a.keys ++ move.Key key ∷ [];
      words = mid.words;
      left = mid.left;
      size = a.size;
    }

-- a step is made by a key, which is kept; where the player left for a board, the playtest goes on there, if there is a world to go on in
abbrev pub StepsOn : Option Contents → Key → Point → Chances → Point → Chances → Type 0
StepsOn w key a chance b chance_then =
    (mid : Point) × IsSupplied key a chance mid chance_then × (b ≡ behind_step (next_of w key a.play mid.play) key a mid)

-- a key behind the end is kept, and closes what is shown
abbrev pub with_key : Key → Point → Point
with_key key a = record a { overlay = closed; keys = a.keys ++ move.Key key ∷ [] }

-- a key is played, unless the playtest has ended
abbrev pub PlaysKey : Option Contents → Key → Point → Chances → Point → Chances → Type 0
PlaysKey w key a chance b chance_then =
    ((a.play.ending ≡ None) × StepsOn w key a chance b chance_then)
    ⊎ ((is_some a.play.ending ≡ true) × (b ≡ with_key key a) × (chance_then ≡ chance))

-- this is shown, or nothing of what was said any more
abbrev pub with_open : Option Shown → Point → Point
with_open shown a = record a { overlay = showing shown a.overlay }

-- a playtest behind a choice
abbrev pub chosen_in : Choice → Playtest → Playtest
chosen_in c p = (chosen c.scroll c.line p).1

-- a line is chosen, and that is kept; what came of it is told, and the next scroll is shown, if there is one
abbrev pub chooses : Choice → Point → Point
chooses c a =
    record a {
      play = chosen_in c a.play;
      overlay = showing (behind c.scroll (seen a.overlay a.play)) (record a.overlay { said = Some (told a.overlay.before (chosen c.scroll c.line a.play).0) });
      keys = a.keys ++ move.Choice c ∷ [];
    }

-- an act is done
abbrev pub Does : Option Contents → Act → Point → Chances → Point → Chances → Type 0
Does w (Play key) a chance b chance_then = PlaysKey w key a chance b chance_then
Does w (Choose choice) a chance b chance_then = (b ≡ chooses choice a) × (chance_then ≡ chance)
Does w (Show shown) a chance b chance_then = (b ≡ with_open shown a) × (chance_then ≡ chance)
Does w (Resize size) a chance b chance_then = (b ≡ record a { size = size }) × (chance_then ≡ chance)

-- what is to be done for what is typed
abbrev pub asked_at : Input → Point → Act
asked_at input a = asked a.overlay.shown input (seen a.overlay a.play)

-- what is typed is answered
abbrev pub Answers : Option Contents → Input → Point → Chances → Point → Chances → Type 0
Answers w input a chance b chance_then = Does w (asked_at input a) a chance b chance_then

-- an act isn't done for want of chance: a key isn't played
abbrev pub LacksAct : Act → Point → Chances → Point → Chances → Type 0
LacksAct (Play key) a chance b chance_then = LacksSupply key a chance b chance_then
LacksAct _ a chance b chance_then = ⊥

abbrev pub LacksInput : Input → Point → Chances → Point → Chances → Type 0
LacksInput input a chance b chance_then = LacksAct (asked_at input a) a chance b chance_then

-- the next of what is typed is answered, and what comes of it is drawn, or the terminal fails
abbrev pub Advances : Option Contents → Bool → Course → Course → Type 0
Advances w failing c d =
    (input : Input)
    × TakesInput (Some input) c.stage d.stage × Answers w input c.at c.stage.chance d.at d.stage.chance
    × Draws failing (picture d.at) c.stage.drawn c.stage.terminal d.stage.drawn d.stage.terminal

-- the next key isn't played for want of words, and nothing is drawn
abbrev pub LacksChance : Course → Course → Type 0
LacksChance c d =
    (input : Input)
    × TakesInput (Some input) c.stage d.stage × LacksInput input c.at c.stage.chance d.at d.stage.chance × DrawsNothing c.stage d.stage

-- a turn: what is typed is answered, and drawn; or nothing is left; or why not
abbrev pub Turns : Option Contents → Result Bool TurnError → Course → Course → Type 0
Turns w (Ok true) c d = Advances w false c d
Turns w (Ok false) c d =
    TakesInput None c.stage d.stage × (d.stage.chance ≡ c.stage.chance) × DrawsNothing c.stage d.stage × (d.at ≡ c.at)
Turns w (Err KeyFault) c d =
    LacksKey c.stage d.stage × (d.stage.chance ≡ c.stage.chance) × DrawsNothing c.stage d.stage × (d.at ≡ c.at)
Turns w (Err NoWords) c d = LacksChance c d
Turns w (Err ScreenFault) c d = Advances w true c d
Turns w (Err Memory) c d = DrawsNothing c.stage d.stage × (d.stage.chance.failures ≡ c.stage.chance.failures)
Turns w (Err TooManyTurns) c d = ⊥

-- how many turns there are at most
abbrev pub most_turns : ℕ
most_turns = 1048576

-- so many turns are made before it is over, and each is drawn
abbrev pub Plays : Option Contents → ℕ → Course → Course → Type 0
Plays w zero c d = d ≡ c
Plays w (suc n) c d = (next : Course) × (is_over c.at ≡ false) × Advances w false c next × Plays w n next d

-- after so many turns a playtest isn't over, and one turn more may be made
abbrev pub MayTurn : ℕ → Course → Type 0
MayTurn n c = (n < most_turns) × (is_over c.at ≡ false)

-- how it ends after so many turns: the playtest is over; nothing is left, or a turn is refused; or it isn't over, and no more may be made
abbrev pub Ends : Option Contents → ℕ → Course → Course → Result ⊤ TurnError → Type 0
Ends w n c last r =
    ((r ≡ Ok tt) × (is_over c.at ≡ true) × (last ≡ c))
    ⊎ ((r ≡ Ok tt) × MayTurn n c × Turns w (Ok false) c last)
    ⊎ ((e : TurnError) × (r ≡ Err e) × MayTurn n c × Turns w (Err e) c last)
    ⊎ ((r ≡ Err TooManyTurns) × (n ≡ most_turns) × (is_over c.at ≡ false) × (last ≡ c))

-- a playtest is played on to its end
abbrev pub PlaysOn : Option Contents → Course → Course → Result ⊤ TurnError → Type 0
PlaysOn w first last r = (n : ℕ) × (c : Course) × (n ≤ most_turns) × Plays w n first c × Ends w n c last r
