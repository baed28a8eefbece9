-- A step has an outcome, as a turn of a program has.
use Rattle.std.proofs.Common.{◌≡◌, ℕ, zero, suc, Bool, true, false, List, slice_get, Option, Some, None, refl}
use Rattle.zed_types.specs.declared.tile.Place.{Place}
use Rattle.zed_types.specs.declared.property.Side.{Side}
use Rattle.zed_scene.specs.declared.stat.Stat.{Stat}
use Rattle.zed_scene.specs.Scene.{Scene, element_at}
use Rattle.zed_scene.specs.declared.step.Step.{Step as Way}
use Rattle.zed_scene.specs.Places.{ahead}
use Rattle.zed_oop.specs.Turn.{Turn}
use Rattle.zed_scene.specs.Words.{Drawn}
use Rattle.zed_play.specs.declared.game.Game.{Game}
use Rattle.zed_play.specs.declared.key.Asked.{Asked}
use Rattle.zed_play.specs.declared.key.Bounds.{Bounds}
use Rattle.zed_play.specs.declared.key.Intent.{Intent}
use Rattle.zed_play.specs.declared.key.Intent.TheVariants.{Nothing, Goes, Shoots}
use Rattle.zed_play.specs.declared.key.Key.{Key}
use Rattle.zed_play.specs.declared.piece.Piece.{Piece}
use Rattle.zed_play.specs.declared.piece.Piece.TheVariants.{Player, Ammo, Torch, Gem, Key as KeyPiece, Door, Scroll, Passage, Energizer, Bullet, Forest, Boulder, Slider, Invisible, Bear, Object, Pusher, Lion, Tiger, Other}
use Rattle.zed_play.specs.declared.scrolls.Voice.{Voice}
use Rattle.zed_play.specs.declared.scrolls.Voice.TheVariants.{Object as VoiceOfObject, Scroll as VoiceOfScroll}
use Rattle.zed_play.specs.Scrolls.{program_in}
use Rattle.zed_play.specs.Game.{Then, TurnOf, done, told}
use Rattle.zed_play.specs.Objects.{ObjectDoes, drifted}
use Rattle.zed_play.specs.Player.{GoesTo, PlayerDoes, step_of, walks}
use Rattle.zed_play.specs.Playtest.{Playtest}
use Rattle.zed_play.specs.Step.{Looks, Step, asked, closed_by, from_first, looked_at, looked, lacked, next, over, used_up}
use Rattle.zed_play.specs.Pieces.{piece_of}
use Rattle.zed_play.specs.Tick.{LookAs, LooksAt, TickAs, is_due, acted_by}
use Rattle.zed_play.specs.Touch.{Touches, TouchesAs, closed, opened, scroll_at}

-- what has an outcome
abbrev pub HasSome : {X : Type 0} → (X → Type 0) → Type 0
HasSome {X} R = (a : X) × R a

abbrev pub TurnHasSome : Type 0
TurnHasSome = (s : Scene) (i : ℕ) (ws : List ℕ) → HasSome (Turn s i ws)

turn_some : TurnHasSome → (v : Voice) (i : ℕ) (g : Game) (ws : List ℕ) → HasSome (TurnOf v i g ws)
turn_some some v i g ws = let t = some g.scene i ws in (told v (program_in (slice_get g.scene.stats i)) g t.0, (t.0, (t.1, refl)))

then_some : (f : Game → Game) (R : Drawn Game → Type 0) → HasSome R → HasSome (Then f R)
then_some f R (o, r) = (done f o, (o, (r, refl)))

touch_some_as : TurnHasSome → (o : Option ℕ) (n : Place) (d : Way) (g : Game) (ws : List ℕ) → HasSome (TouchesAs o n d g ws)
touch_some_as some None n d g ws = (_, refl)
touch_some_as some (Some i) n d g ws = then_some closed (TurnOf VoiceOfScroll i (opened i g) ws) (turn_some some VoiceOfScroll i (opened i g) ws)

touch_some : TurnHasSome → (n : Place) (d : Way) (g : Game) (ws : List ℕ) → HasSome (Touches n d g ws)
touch_some some n d g ws = touch_some_as some (scroll_at n g.scene) n d g ws

go_some : TurnHasSome → (o : Option Place) (side : Side) (bounds : Bounds) (from : Place) (g : Game) (ws : List ℕ)
    → HasSome (GoesTo o side bounds from g ws)
go_some some None side bounds from g ws = (_, refl)
go_some some (Some n) side bounds from g ws =
    then_some (walks from n) (Touches n (step_of side) g ws) (touch_some some n (step_of side) g ws)

player_some : TurnHasSome → (intent : Intent) (bounds : Bounds) (from : Place) (g : Game) (ws : List ℕ)
    → HasSome (PlayerDoes intent bounds from g ws)
player_some some Nothing bounds from g ws = (_, refl)
player_some some (Shoots side) bounds from g ws = (_, refl)
player_some some (Goes side) bounds from g ws = go_some some (ahead from (step_of side)) side bounds from g ws

object_some : TurnHasSome → (o : Option ℕ) (i : ℕ) (g : Game) (ws : List ℕ) → HasSome (ObjectDoes o i g ws)
object_some some None i g ws = (_, refl)
object_some some (Some at) i g ws = then_some drifted (TurnOf VoiceOfObject i g ws) (turn_some some VoiceOfObject i g ws)

tick_some : TurnHasSome → (t : Piece) (k : Asked) (i : ℕ) (s : Stat) (g : Game) (ws : List ℕ) → HasSome (TickAs t k i s g ws)
tick_some some Player k i s g ws = player_some some k.intent k.bounds s.place g ws
tick_some some Object k i s g ws = object_some some s.position i g ws
tick_some some Bullet k i s g ws = (_, refl)
tick_some some Lion k i s g ws = (_, refl)
tick_some some Tiger k i s g ws = (_, refl)
tick_some some Bear k i s g ws = (_, refl)
tick_some some Pusher k i s g ws = (_, refl)
tick_some some Ammo k i s g ws = (_, refl)
tick_some some Torch k i s g ws = (_, refl)
tick_some some Gem k i s g ws = (_, refl)
tick_some some KeyPiece k i s g ws = (_, refl)
tick_some some Door k i s g ws = (_, refl)
tick_some some Scroll k i s g ws = (_, refl)
tick_some some Passage k i s g ws = (_, refl)
tick_some some Energizer k i s g ws = (_, refl)
tick_some some Forest k i s g ws = (_, refl)
tick_some some Boulder k i s g ws = (_, refl)
tick_some some Slider k i s g ws = (_, refl)
tick_some some Invisible k i s g ws = (_, refl)
tick_some some Other k i s g ws = (_, refl)

look_some_as : TurnHasSome → (due : Bool) (k : Asked) (i : ℕ) (s : Stat) (g : Game) (ws : List ℕ) → HasSome (LookAs due k i s g ws)
look_some_as some true k i s g ws = tick_some some (piece_of (element_at g.scene s.place)) k i s (acted_by i g) ws
look_some_as some false k i s g ws = (_, refl)

look_some : TurnHasSome → (k : Asked) (i : ℕ) (s : Stat) (g : Game) (ws : List ℕ) → HasSome (LooksAt k i s g ws)
look_some some k i s g ws = look_some_as some (is_due k.tick i s.cycle) k i s g ws

looks_some : TurnHasSome → (k : Asked) (n : ℕ) (g : Game) (ws : List ℕ) → HasSome (Looks k n g ws)
looks_some some k zero g ws = (Some (g, ws), used_up k g ws)
looks_some some k (suc n) g ws = by_stat (looked_at g) refl (looks_some some k n)
  where
    by_look : (s : Stat) → looked_at g ≡ Some s → (d : Drawn Game) → LooksAt k g.scene.ticking s g ws d
        → ((h : Game) (left : List ℕ) → HasSome (Looks k n h left))
        → HasSome (Looks k (suc n) g ws)
    by_look s is None look rest = (None, lacked k n s g ws is look)
    by_look s is (Some (h, left)) look rest =
        let behind = rest (next h) left in
        (behind.0, looked k n s g h ws left behind.0 is look behind.1)

    by_stat : (o : Option Stat) → looked_at g ≡ o → ((h : Game) (left : List ℕ) → HasSome (Looks k n h left))
        → HasSome (Looks k (suc n) g ws)
    by_stat None is rest = (Some (g, ws), over k n g ws is)
    by_stat (Some s) is rest = let look = look_some some k g.scene.ticking s g ws in by_look s is look.0 look.1 rest

-- a step has an outcome
pub step_there : TurnHasSome → (key : Key) (p : Playtest) (ws : List ℕ) → HasSome (Step key p ws)
step_there some key p ws =
    let looks = looks_some some (asked key p) 1024 (from_first p.game) ws in
    (closed_by p looks.0, (looks.0, (looks.1, refl)))
