-- A playtest played again, by the moves and words that were kept.
use Rattle.std.specs.Prelude.{◌≡◌, ◌⊎◌, ℕ, true, List, [], ◌∷◌, ◌++◌, drop, Option, is_some, Ok}
use Rattle.zed_world.specs.Contents.{Contents}
use Rattle.zed_play.specs.Playtest.{Playtest}
use Rattle.zed_play.specs.Step.{Steps}
use Rattle.zed_terminal.specs.declared.moves.Move.{Move}
use Rattle.zed_terminal.specs.declared.moves.Move.TheVariants.{Key, Choice}
use Rattle.zed_terminal.specs.Course.{Course, Plays, chosen_in, led_on}

-- a playtest comes by these moves and words to this one, with these words left: by a key, which does nothing behind the end, and by a choice, which takes no
-- words
abbrev pub Comes : Option Contents → Playtest → List Move → List ℕ → Playtest → List ℕ → Type 0
Comes w p [] words q left = (q ≡ p) × (left ≡ words)
Comes w p (Key key ∷ moves) words q left =
    ((stepped : Playtest) × (used : ℕ) × Steps (Ok used) key p words stepped × Comes w (led_on w key p stepped) moves (drop used words) q left)
    ⊎ ((is_some p.ending ≡ true) × Comes w p moves words q left)
Comes w p (Choice c ∷ moves) words q left = Comes w (chosen_in c p) moves words q left

-- what was played was played by the moves that were added, and with the words: these alone come to it again
abbrev pub PlaysAgain : Type 0
PlaysAgain =
    (w : Option Contents) (n : ℕ) (c d : Course) → Plays w n c d →
    (moves : List Move) × (came : List ℕ) × (d.at.keys ≡ c.at.keys ++ moves) × (d.at.words ≡ c.at.words ++ came)
    × Comes w c.at.play moves (c.at.left ++ came) d.at.play d.at.left
