-- A step has one outcome, as a turn of a program has.
use Rattle.std.proofs.Common.{◌≡◌, ◌∙◌, ℕ, Bool, true, false, List, slice_get, Option, Some, None, refl, sym, ap, subst}
use Rattle.zed_types.specs.declared.tile.Place.{Place}
use Rattle.zed_types.specs.declared.property.Side.{Side}
use Rattle.zed_scene.specs.declared.stat.Stat.{Stat}
use Rattle.zed_scene.specs.Scene.{Scene, element_at}
use Rattle.zed_scene.specs.declared.step.Step.{Step as Way}
use Rattle.zed_oop.specs.Turn.{State, Turn}
use Rattle.zed_scene.specs.Words.{Drawn}
use Rattle.zed_play.specs.declared.game.Game.{Game}
use Rattle.zed_play.specs.declared.key.Asked.{Asked}
use Rattle.zed_play.specs.declared.key.Bounds.{Bounds}
use Rattle.zed_play.specs.declared.key.Intent.{Intent}
use Rattle.zed_play.specs.declared.key.Intent.TheVariants.{Nothing, Goes, Shoots}
use Rattle.zed_play.specs.declared.key.Key.{Key}
use Rattle.zed_play.specs.declared.piece.Piece.{Piece}
use Rattle.zed_play.specs.declared.piece.Piece.TheVariants.{Player, Bullet, Bear, Object, Pusher, Lion, Tiger}
use Rattle.zed_play.specs.declared.scrolls.Voice.{Voice}
use Rattle.zed_play.specs.declared.scrolls.Voice.TheVariants.{Object as VoiceOfObject, Scroll as VoiceOfScroll}
use Rattle.zed_play.specs.Scrolls.{program_in}
use Rattle.zed_play.specs.Game.{Then, TurnOf, done, told}
use Rattle.zed_play.specs.Objects.{ObjectDoes, drifted}
use Rattle.zed_play.specs.Player.{GoesTo, PlayerDoes, step_of, walks}
use Rattle.zed_play.specs.Playtest.{Playtest}
use Rattle.zed_play.specs.Step.{Looks, Step, asked, closed_by, from_first, looked_at, looked, lacked, next, over, used_up}
use Rattle.zed_play.specs.Pieces.{piece_of}
use Rattle.zed_play.specs.Tick.{LookAs, LooksAt, TickAs, is_due, acted_by}
use Rattle.zed_play.specs.Touch.{Touches, TouchesAs, closed, opened, scroll_at}

-- what has at most one outcome
abbrev pub IsOne : {X : Type 0} → (X → Type 0) → Type 0
IsOne {X} R = (a b : X) → R a → R b → a ≡ b

abbrev pub TurnIsOne : Type 0
TurnIsOne = (s : Scene) (i : ℕ) (ws : List ℕ) (a b : Option State) → Turn s i ws a → Turn s i ws b → a ≡ b

turn_one : TurnIsOne → (v : Voice) (i : ℕ) (g : Game) (ws : List ℕ) → IsOne (TurnOf v i g ws)
turn_one one v i g ws a b (o, (t, is)) (p, (u, also)) = is ∙ ap (told v (program_in (slice_get g.scene.stats i)) g) (one g.scene i ws o p t u) ∙ sym also

then_one : (f : Game → Game) (R : Drawn Game → Type 0) → IsOne R → IsOne (Then f R)
then_one f R one a b (o, (r, is)) (p, (q, also)) = is ∙ ap (done f) (one o p r q) ∙ sym also

touch_one_as : TurnIsOne → (o : Option ℕ) (n : Place) (d : Way) (g : Game) (ws : List ℕ) → IsOne (TouchesAs o n d g ws)
touch_one_as one None n d g ws a b is also = is ∙ sym also
touch_one_as one (Some i) n d g ws a b x y = then_one closed (TurnOf VoiceOfScroll i (opened i g) ws) (turn_one one VoiceOfScroll i (opened i g) ws) a b x y

touch_one : TurnIsOne → (n : Place) (d : Way) (g : Game) (ws : List ℕ) → IsOne (Touches n d g ws)
touch_one one n d g ws a b x y = touch_one_as one (scroll_at n g.scene) n d g ws a b x y

go_one : TurnIsOne → (o : Option Place) (side : Side) (bounds : Bounds) (from : Place) (g : Game) (ws : List ℕ)
    → IsOne (GoesTo o side bounds from g ws)
go_one one None side bounds from g ws a b is also = is ∙ sym also
go_one one (Some n) side bounds from g ws a b x y =
    then_one (walks from n) (Touches n (step_of side) g ws) (touch_one one n (step_of side) g ws) a b x y

player_one : TurnIsOne → (intent : Intent) (bounds : Bounds) (from : Place) (g : Game) (ws : List ℕ)
    → IsOne (PlayerDoes intent bounds from g ws)
player_one one Nothing bounds from g ws a b is also = is ∙ sym also
player_one one (Shoots side) bounds from g ws a b is also = is ∙ sym also
player_one one (Goes side) bounds from g ws a b x y = go_one one _ side bounds from g ws a b x y

object_one : TurnIsOne → (o : Option ℕ) (i : ℕ) (g : Game) (ws : List ℕ) → IsOne (ObjectDoes o i g ws)
object_one one None i g ws a b is also = is ∙ sym also
object_one one (Some at) i g ws a b x y = then_one drifted (TurnOf VoiceOfObject i g ws) (turn_one one VoiceOfObject i g ws) a b x y

tick_one : TurnIsOne → (t : Piece) (k : Asked) (i : ℕ) (s : Stat) (g : Game) (ws : List ℕ) → IsOne (TickAs t k i s g ws)
tick_one one Player k i s g ws a b x y = player_one one k.intent k.bounds s.place g ws a b x y
tick_one one Object k i s g ws a b x y = object_one one s.position i g ws a b x y
tick_one one Bullet k i s g ws a b is also = is ∙ sym also
tick_one one Lion k i s g ws a b is also = is ∙ sym also
tick_one one Tiger k i s g ws a b is also = is ∙ sym also
tick_one one Bear k i s g ws a b is also = is ∙ sym also
tick_one one Pusher k i s g ws a b is also = is ∙ sym also
tick_one one _ k i s g ws a b is also = is ∙ sym also

look_one_as : TurnIsOne → (due : Bool) (k : Asked) (i : ℕ) (s : Stat) (g : Game) (ws : List ℕ) → IsOne (LookAs due k i s g ws)
look_one_as one true k i s g ws a b x y = tick_one one (piece_of (element_at g.scene s.place)) k i s (acted_by i g) ws a b x y
look_one_as one false k i s g ws a b is also = is ∙ sym also

look_one : TurnIsOne → (k : Asked) (i : ℕ) (s : Stat) (g : Game) (ws : List ℕ) → IsOne (LooksAt k i s g ws)
look_one one k i s g ws a b x y = look_one_as one (is_due k.tick i s.cycle) k i s g ws a b x y

-- two looks at the same stat
same_look : TurnIsOne → (k : Asked) (i : ℕ) (s t : Stat) (g : Game) (ws : List ℕ) (a b : Drawn Game) → looked_at g ≡ Some s
    → looked_at g ≡ Some t → LooksAt k i s g ws a → LooksAt k i t g ws b
    → a ≡ b
same_look one k i s t g ws a b is also x y =
    let same : t ≡ s = cc in
    let P : Stat → Type 0 = λ u. LooksAt k i u g ws b in
    look_one one k i s g ws a b x (subst P same y)

-- the rest of a chain, after looks that came to the same
same_rest : (k : Asked) (n : ℕ) (h m : Game) (left more : List ℕ) (b : Drawn Game) → ◌≡◌ {A = Drawn Game} (Some (h, left)) (Some (m, more))
    → Looks k n (next m) more b
    → Looks k n (next h) left b
same_rest k n h m left more b e rest =
    let pair : ◌≡◌ {A = Game × List ℕ} (m, more) (h, left) = cc in
    let game : m ≡ h = ap (λ x. x.0) pair in
    let words : more ≡ left = ap (λ x. x.1) pair in
    let P : Game → Type 0 = λ u. Looks k n (next u) more b in
    let Q : List ℕ → Type 0 = λ ws. Looks k n (next h) ws b in
    subst Q words (subst P game rest)

looks_one : TurnIsOne → (k : Asked) (n : ℕ) (g : Game) (ws : List ℕ) (a b : Drawn Game) → Looks k n g ws a → Looks k n g ws b → a ≡ b
looks_one one _ _ _ _ _ _ (used_up k g ws) (used_up _ _ _) = refl
looks_one one _ _ _ _ _ _ (over k n g ws none) (over _ _ _ _ _) = refl
looks_one one _ _ _ _ _ _ (over k n g ws none) (looked _ _ t _ m _ more c also y rest) = absurd (cc)
looks_one one _ _ _ _ _ _ (over k n g ws none) (lacked _ _ t _ _ also y) = absurd (cc)
looks_one one _ _ _ _ _ _ (looked k n s g h ws left e is x rest) (over _ _ _ _ none) = absurd (cc)
looks_one one _ _ _ _ _ _ (looked k n s g h ws left e is x rest) (looked _ _ t _ m _ more c also y others) =
    let same : ◌≡◌ {A = Drawn Game} (Some (h, left)) (Some (m, more)) =
    same_look one k g.scene.ticking s t g ws (Some (h, left)) (Some (m, more)) is also x y in
    looks_one one k n (next h) left e c rest (same_rest k n h m left more c same others)
looks_one one _ _ _ _ _ _ (looked k n s g h ws left e is x rest) (lacked _ _ t _ _ also y) =
    let same : ◌≡◌ {A = Drawn Game} (Some (h, left)) None = same_look one k g.scene.ticking s t g ws (Some (h, left)) None is also x y in
    absurd (cc)
looks_one one _ _ _ _ _ _ (lacked k n s g ws is x) (over _ _ _ _ none) = absurd (cc)
looks_one one _ _ _ _ _ _ (lacked k n s g ws is x) (looked _ _ t _ m _ more c also y rest) =
    let same : ◌≡◌ {A = Drawn Game} (Some (m, more)) None = same_look one k g.scene.ticking t s g ws (Some (m, more)) None also is y x in
    absurd (cc)
looks_one one _ _ _ _ _ _ (lacked k n s g ws is x) (lacked _ _ _ _ _ _ _) = refl

pub step_one : TurnIsOne → (key : Key) (p : Playtest) (ws : List ℕ) → IsOne (Step key p ws)
step_one one key p ws a b (d, (x, is)) (e, (y, also)) =
    is ∙ ap (closed_by p) (looks_one one (asked key p) 1024 (from_first p.game) ws d e x y) ∙ sym also
