-- What comes after a turn of a program.
use Rattle.std.proofs.Common.{◌≡◌, ℕ, List, Option, Some, subst, sym, ap}
use Rattle.zed_types.specs.declared.tile.Place.{Place}
use Rattle.zed_types.specs.declared.property.Side.{Side}
use Rattle.zed_scene.specs.declared.step.Step.{Step}
use Rattle.zed_scene.specs.Words.{Drawn}
use Rattle.zed_play.specs.declared.game.Game.{Game}
use Rattle.zed_play.specs.declared.key.Bounds.{Bounds}
use Rattle.zed_play.specs.declared.scrolls.Voice.TheVariants.{Object, Scroll}
use Rattle.zed_play.specs.Game.{Then, TurnOf}
use Rattle.zed_play.specs.Objects.{ObjectDoes, drifted}
use Rattle.zed_play.specs.Player.{GoesTo, step_of, walks}
use Rattle.zed_play.specs.Touch.{Touches, TouchesAs, closed, opened, scroll_at}

then_done : (f : Game → Game) (R : Drawn Game → Type 0) (h k : Game) (left : List ℕ) → R (Some (h, left)) → k ≡ f h
    → Then f R (Some (k, left))
then_done f R h k left r is = (Some (h, left), (r, ap (λ x. Some (x, left)) is))

pub object_drifts : (o : Option ℕ) (p i : ℕ) (g h k : Game) (ws left : List ℕ) → o ≡ Some p → TurnOf Object i g ws (Some (h, left)) → k ≡ drifted h
    → ObjectDoes o i g ws (Some (k, left))
object_drifts o p i g h k ws left is turn drift =
    let P : Option ℕ → Type 0 = λ q. ObjectDoes q i g ws (Some (k, left)) in
    subst P (sym is) (then_done drifted (TurnOf Object i g ws) h k left turn drift)

pub scroll_closes : (n : Place) (d : Step) (i : ℕ) (g u h k : Game) (ws left : List ℕ) → scroll_at n g.scene ≡ Some i → u ≡ opened i g
    → TurnOf Scroll i u ws (Some (h, left)) → k ≡ closed h
    → Touches n d g ws (Some (k, left))
scroll_closes n d i g u h k ws left is begins turn close =
    let P : Option ℕ → Type 0 = λ q. TouchesAs q n d g ws (Some (k, left)) in
    let Q : Game → Type 0 = λ v. TurnOf Scroll i v ws (Some (h, left)) in
    subst P (sym is) (then_done closed (TurnOf Scroll i (opened i g) ws) h k left (subst Q begins turn) close)

pub player_walks : (o : Option Place) (n from : Place) (d : Step) (side : Side) (b : Bounds) (g h k : Game) (ws left : List ℕ) → o ≡ Some n
    → d ≡ step_of side → Touches n d g ws (Some (h, left)) → k ≡ walks from n h
    → GoesTo o side b from g ws (Some (k, left))
player_walks o n from d side b g h k ws left is to touch walk =
    let P : Option Place → Type 0 = λ q. GoesTo q side b from g ws (Some (k, left)) in
    let Q : Step → Type 0 = λ v. Touches n v g ws (Some (h, left)) in
    subst P (sym is) (then_done (walks from n) (Touches n (step_of side) g ws) h k left (subst Q to touch) walk)
