-- A tick of one stat, by the element of the tile at its place.
use Rattle.std.specs.Prelude.{◌≡◌, ℕ, ◌%◌, Bool, true, false, not, ◌&&◌, ◌==◌, List, Some, None}
use Rattle.zed_scene.specs.declared.stat.Stat.{Stat}
use Rattle.zed_scene.specs.Scene.{Scene, element_at}
use Rattle.zed_scene.specs.Words.{Drawn}
use Rattle.zed_play.specs.declared.game.Game.{Game}
use Rattle.zed_play.specs.declared.key.Asked.{Asked}
use Rattle.zed_play.specs.declared.piece.Piece.{Piece}
use Rattle.zed_play.specs.declared.piece.Piece.TheVariants.{Player, Bullet, Bear, Object, Pusher, Lion, Tiger}
use Rattle.zed_play.specs.Bullets.{bullet}
use Rattle.zed_play.specs.Creatures.{bear, lion, tiger}
use Rattle.zed_play.specs.Game.{with_scene}
use Rattle.zed_play.specs.Objects.{ObjectDoes}
use Rattle.zed_play.specs.Player.{PlayerDoes}
use Rattle.zed_play.specs.Pushers.{pusher}
use Rattle.zed_play.specs.Pieces.{piece_of}

-- what was done to the board and with the words
abbrev pub in_game : Game → Drawn Scene → Drawn Game
in_game g None = None
in_game g (Some x) = Some (with_scene x.0 g, x.1)

-- a line for each piece that acts
abbrev pub TickAs : Piece → Asked → ℕ → Stat → Game → List ℕ → Drawn Game → Type 0
TickAs Player k i a g ws e = PlayerDoes k.intent k.bounds a.place g ws e
TickAs Bullet k i a g ws e = e ≡ Some (with_scene (bullet a g.scene) g, ws)
TickAs Lion k i a g ws e = e ≡ in_game g (lion a g.scene ws)
TickAs Tiger k i a g ws e = e ≡ in_game g (tiger a g.scene ws)
TickAs Bear k i a g ws e = e ≡ Some (with_scene (bear a g.scene) g, ws)
TickAs Pusher k i a g ws e = e ≡ Some (with_scene (pusher a g.scene) g, ws)
TickAs Object k i a g ws e = ObjectDoes a.position i g ws e
TickAs _ k i a g ws e = e ≡ Some (g, ws)

-- stat i is the one that acts
abbrev pub acted_by : ℕ → Game → Game
acted_by i g = with_scene (record g.scene { acting = Some i }) g

-- stat i has its tick, as the piece that stands at its place
abbrev pub Ticks : Asked → ℕ → Stat → Game → List ℕ → Drawn Game → Type 0
Ticks k i a g ws e = TickAs (piece_of (element_at g.scene a.place)) k i a (acted_by i g) ws e

-- stat i ticks where its cycle divides the tick less i
abbrev pub is_due : ℕ → ℕ → ℕ → Bool
is_due tick i cycle = not (cycle == 0) && tick % cycle == i % cycle

-- a stat ticks if it is due, and else nothing is done
abbrev pub LookAs : Bool → Asked → ℕ → Stat → Game → List ℕ → Drawn Game → Type 0
LookAs true k i a g ws e = Ticks k i a g ws e
LookAs false k i a g ws e = e ≡ Some (g, ws)

-- stat i is looked at
abbrev pub LooksAt : Asked → ℕ → Stat → Game → List ℕ → Drawn Game → Type 0
LooksAt k i a g ws e = LookAs (is_due k.tick i a.cycle) k i a g ws e
