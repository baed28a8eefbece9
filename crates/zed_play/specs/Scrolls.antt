-- What is said in a turn, and the choices that it offers.
use Rattle.std.specs.Prelude.{ℕ, nat_le, if◌then◌else◌, List, [], ◌∷◌, length, codes, Option, Some, None}
use Rattle.zed_scene.specs.declared.stat.Stat.{Stat}
use Rattle.zed_scene.specs.Scene.{Scene, program_of, running_stat, with_scroll}
use Rattle.zed_oop_syntax.specs.Scroll.{name_of}
use Rattle.zed_oop.specs.declared.choosing.Chosen.{Chosen}
use Rattle.zed_oop.specs.Choosing.{chosen as chosen_on}
use Rattle.zed_play.specs.declared.scrolls.Voice.{Voice}
use Rattle.zed_play.specs.declared.scrolls.Voice.TheVariants.{Object, Scroll}
use Rattle.zed_play.specs.Playtest.{Playtest}

-- the program of a stat, if it is there
abbrev pub program_in : Option Stat → Option ℕ
program_in None = None
program_in (Some a) = a.program

-- the program by which a stat spoke, if it is there: the one that it has after its turn; once it is gone, the one before
abbrev pub spoken_by : Option ℕ → Option Stat → Option ℕ
spoken_by before None = before
spoken_by before (Some a) = a.program

-- a name; `Interaction` where it is empty
abbrev pub or_interaction : List ℕ → List ℕ
or_interaction [] = codes "Interaction"
or_interaction (b ∷ bs) = b ∷ bs

-- the title of what is said: an object's name, or `Scroll`
abbrev pub title_of : Voice → List ℕ → List ℕ
title_of Object p = or_interaction (name_of p)
title_of Scroll p = codes "Scroll"

-- two lines or more that are said in a turn are a scroll
abbrev pub said : Voice → Option ℕ → List (List ℕ) → Scene → Scene
said v before lines s =
    if nat_le 2 (length lines) then with_scroll (title_of v (program_of s (spoken_by before (running_stat s)))) lines s else s

-- what comes of the choice of a line of a scroll, both counted from 0, in a playtest
abbrev pub chosen : ℕ → ℕ → Playtest → Chosen × Playtest
chosen scroll line p =
    let c = chosen_on scroll line p.game.scene in
    (c.0, record p { game = record p.game { scene = c.1 } })
