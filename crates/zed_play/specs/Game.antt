-- A board in play with what a player carries, and turns of programs in it.
use Rattle.std.specs.Prelude.{◌≡◌, ◌⊎◌, ℕ, ◌-◌, List, ◌++◌, drop, length, slice_get, Option, Some, None, MatchResult, Result}
use Rattle.zed_scene.specs.declared.error.SceneError.{SceneError}
use Rattle.zed_scene.specs.declared.error.SceneError.TheVariants.{Memory, NoWords}
use Rattle.zed_scene.specs.Scene.{Scene}
use Rattle.zed_oop.specs.Turn.{State, Turn}
use Rattle.zed_scene.specs.Words.{Drawn}
use Rattle.zed_play.specs.declared.game.Game.{Game}
use Rattle.zed_play.specs.declared.scrolls.Voice.{Voice}
use Rattle.zed_play.specs.Scrolls.{program_in, said}

-- a game with this board
abbrev pub with_scene : Scene → Game → Game
with_scene s g = record g { scene = s }

-- the last 64 lines
abbrev pub kept : List (List ℕ) → List (List ℕ)
kept lines = drop (length lines - 64) lines

-- the board that the player left for first: the one that there was, or else b
abbrev pub first_left : ℕ → Option ℕ → Option ℕ
first_left b None = Some b
first_left b (Some a) = Some a

-- the player leaves for a board; of two leavings the first stands
abbrev pub leaves : ℕ → Game → Game
leaves b g = record g { left = first_left b g.left }

-- a game after what was said in a turn of who had this program before: its messages are kept, and two or more are a scroll
abbrev pub heard : Voice → Option ℕ → Game → State → Game
heard v before g t = record g { scene = said v before t.lines t.scene; messages = kept (g.messages ++ t.lines) }

-- after a turn; none where a word of chance is lacking
abbrev pub told : Voice → Option ℕ → Game → Option State → Drawn Game
told v before g None = None
told v before g (Some t) = Some (heard v before g t, t.left)

-- stat i, which speaks so, has one turn of its program
abbrev pub TurnOf : Voice → ℕ → Game → List ℕ → Drawn Game → Type 0
TurnOf v i g ws e = (o : Option State) × (Turn g.scene i ws o × (e ≡ told v (program_in (slice_get g.scene.stats i)) g o))

-- this is done after what may lack a word
abbrev pub done : (Game → Game) → Drawn Game → Drawn Game
done f None = None
done f (Some x) = Some (f x.0, x.1)

-- what comes of something that may lack a word, with this done after it
abbrev pub Then : (Game → Game) → (Drawn Game → Type 0) → Drawn Game → Type 0
Then f R e = (o : Drawn Game) × (R o × (e ≡ done f o))

-- a call did one of these things and left these words, or it told that a word is lacking, or memory was refused
abbrev pub Answers : {X : Type 0} → Result X SceneError → (Drawn Game → Type 0) → Game → List ℕ → Type 0
Answers result R g left =
    MatchResult result (λ _. R (Some (g, left))) (λ e. (e ≡ Memory) ⊎ ((e ≡ NoWords) × R None))

-- stat i had a turn of its program, and left these words; or one is lacking, or memory was refused
abbrev pub HasTurn : {X : Type 0} → Result X SceneError → Voice → ℕ → Game → List ℕ → Game → List ℕ → Type 0
HasTurn result v i g ws h left = Answers result (TurnOf v i g ws) h left
