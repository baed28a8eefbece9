-- A step uses words of chance from the front, and those behind can be any others.
use Rattle.std.proofs.Common.{◌≡◌, ◌∙◌, ◌++◌, ℕ, nat_lt, if◌then◌else◌, suc, Bool, true, false, List, [], slice_get, Option, Some, None, refl, sym, ap, subst, append_assoc}
use Rattle.zed_types.specs.declared.tile.Place.{Place}
use Rattle.zed_types.specs.declared.property.Side.{Side}
use Rattle.zed_scene.specs.declared.stat.Stat.{Stat}
use Rattle.zed_scene.specs.Scene.{Scene, element_at}
use Rattle.zed_scene.specs.declared.step.Step.{Step as Way}
use Rattle.zed_scene.specs.Places.{ahead}
use Rattle.zed_scene.specs.Seeking.{random_step, sought}
use Rattle.zed_scene.specs.Words.{Drawn, draw}
use Rattle.zed_oop.proofs.Drawing.{Front, Is, front_bind, front_draw, front_either, front_none, front_random, front_sought}
use Rattle.zed_oop.proofs.TurnFront.{turn_front}
use Rattle.zed_play.specs.declared.game.Game.{Game}
use Rattle.zed_play.specs.declared.key.Asked.{Asked}
use Rattle.zed_play.specs.declared.key.Bounds.{Bounds}
use Rattle.zed_play.specs.declared.key.Intent.{Intent}
use Rattle.zed_play.specs.declared.key.Intent.TheVariants.{Nothing, Goes, Shoots}
use Rattle.zed_play.specs.declared.key.Key.{Key}
use Rattle.zed_play.specs.declared.piece.Piece.{Piece}
use Rattle.zed_play.specs.declared.piece.Piece.TheVariants.{Player, Bullet, Bear, Object, Pusher, Lion, Tiger}
use Rattle.zed_play.specs.Creatures.{lion, lion_step, prowls, tiger, tiger_fires}
use Rattle.zed_play.specs.declared.scrolls.Voice.{Voice}
use Rattle.zed_play.specs.declared.scrolls.Voice.TheVariants.{Object as VoiceOfObject, Scroll as VoiceOfScroll}
use Rattle.zed_play.specs.Scrolls.{program_in}
use Rattle.zed_play.specs.Game.{Then, TurnOf, heard, with_scene}
use Rattle.zed_play.specs.Objects.{ObjectDoes, drifted}
use Rattle.zed_play.specs.Player.{GoesTo, PlayerDoes, step_of, walks}
use Rattle.zed_play.specs.Playtest.{Playtest}
use Rattle.zed_play.specs.Step.{Looks, Step, asked, closed_with, from_first, looked_at, looked, lacked, next, over, used_up}
use Rattle.zed_play.specs.Pieces.{piece_of}
use Rattle.zed_play.specs.Tick.{LookAs, LooksAt, TickAs, in_game, is_due, acted_by}
use Rattle.zed_play.specs.Touch.{Touches, TouchesAs, closed, opened, scroll_at}

-- ---- creatures

front_lion_step : (a : Stat) (s : Scene) → Front (Is (lion_step a s))
front_lion_step a s = front_bind (draw 10) (λ r ws. if nat_lt a.p1 r then random_step ws else sought a.place s ws) (front_draw 10) (λ r. front_either (nat_lt a.p1 r) random_step (sought a.place s) front_random (front_sought a.place s))

front_lion : (a : Stat) (s : Scene) → Front (Is (lion a s))
unfolding lion
front_lion a s = front_bind (lion_step a s) (λ d ws. Some (prowls false (ahead a.place d) s, ws)) (front_lion_step a s) (λ d. front_none (prowls false (ahead a.place d) s))

front_tiger : (a : Stat) (s : Scene) → Front (Is (tiger a s))
unfolding tiger
front_tiger a s = front_bind (draw 10) (λ r ws. lion a (tiger_fires r a s) ws) (front_draw 10) (λ r. front_lion a (tiger_fires r a s))

in_game_at : (g : Game) (f : List ℕ → Drawn Scene) → Front (Is f) → (ws left : List ℕ) (y : Game) (o : Drawn Scene)
    → ◌≡◌ {A = Drawn Scene} o (f ws) → ◌≡◌ {A = Drawn Game} (Some (y, left)) (in_game g o)
    → (used : List ℕ) × ((ws ≡ used ++ left) × ((more : List ℕ) → ◌≡◌ {A = Drawn Game} (Some (y, more)) (in_game g (f (used ++ more)))))
in_game_at g f front ws left y None is e = absurd (cc)
in_game_at g f front ws left y (Some (s, mid)) is e =
    let pair : ◌≡◌ {A = Game × List ℕ} (y, left) (with_scene s g, mid) = cc in
    let value : y ≡ with_scene s g = ap (λ p. p.0) pair in
    let z = front ws mid s is in
    (z.0, (z.1.0 ∙ ap (λ l. z.0 ++ l) (sym (ap (λ p. p.1) pair)), λ more. ap (λ v. Some (v, more)) value ∙ ap (in_game g) (z.1.1 more)))

-- what is done to the board alone
front_in_game : (g : Game) (f : List ℕ → Drawn Scene) → Front (Is f) → Front (Is (λ ws. in_game g (f ws)))
front_in_game g f front ws left y e = in_game_at g f front ws left y (f ws) refl e

-- ---- turns, and what comes after them

front_then : (f : Game → Game) (R : List ℕ → Drawn Game → Type 0) → Front R → Front (λ ws. Then f (R ws))
front_then f R front ws left x (None, (r, is)) = absurd (cc)
front_then f R front ws left x (Some (y, rest), (r, is)) =
    let pair : ◌≡◌ {A = Game × List ℕ} (x, left) (f y, rest) = cc in
    let value : x ≡ f y = ap (λ p. p.0) pair in
    let z = front ws rest y r in
    (z.0, (z.1.0 ∙ ap (λ l. z.0 ++ l) (sym (ap (λ p. p.1) pair)), λ more. (Some (y, more), (z.1.1 more, ap (λ v. Some (v, more)) value))))

front_turn : (v : Voice) (i : ℕ) (g : Game) → Front (λ ws. TurnOf v i g ws)
front_turn v i g ws left x (None, (t, is)) = absurd (cc)
front_turn v i g ws left x (Some u, (t, is)) =
    let pair : ◌≡◌ {A = Game × List ℕ} (x, left) (heard v (program_in (slice_get g.scene.stats i)) g u, u.left) = cc in
    let value : x ≡ heard v (program_in (slice_get g.scene.stats i)) g u = ap (λ p. p.0) pair in
    let z = turn_front g.scene i ws u t in
    (z.0, (z.1.0 ∙ ap (λ l. z.0 ++ l) (sym (ap (λ p. p.1) pair)), λ more. (Some (record u { left = more }), (z.1.1 more, ap (λ v. Some (v, more)) value))))

front_touch_as : (o : Option ℕ) (n : Place) (d : Way) (g : Game) → Front (λ ws. TouchesAs o n d g ws)
front_touch_as None n d g = front_none _
front_touch_as (Some i) n d g = front_then closed (λ ws. TurnOf VoiceOfScroll i (opened i g) ws) (front_turn VoiceOfScroll i (opened i g))

front_touch : (n : Place) (d : Way) (g : Game) → Front (λ ws. Touches n d g ws)
front_touch n d g = front_touch_as (scroll_at n g.scene) n d g

front_go : (o : Option Place) (side : Side) (b : Bounds) (from : Place) (g : Game) → Front (λ ws. GoesTo o side b from g ws)
front_go None side b from g = front_none _
front_go (Some n) side b from g = front_then (walks from n) (λ ws. Touches n (step_of side) g ws) (front_touch n (step_of side) g)

front_player : (intent : Intent) (b : Bounds) (from : Place) (g : Game) → Front (λ ws. PlayerDoes intent b from g ws)
front_player Nothing b from g = front_none g
front_player (Shoots side) b from g = front_none _
front_player (Goes side) b from g = front_go _ side b from g

front_object : (o : Option ℕ) (i : ℕ) (g : Game) → Front (λ ws. ObjectDoes o i g ws)
front_object None i g = front_none _
front_object (Some at) i g = front_then drifted (λ ws. TurnOf VoiceOfObject i g ws) (front_turn VoiceOfObject i g)

front_tick : (t : Piece) (k : Asked) (i : ℕ) (a : Stat) (g : Game) → Front (λ ws. TickAs t k i a g ws)
front_tick Player k i a g = front_player k.intent k.bounds a.place g
front_tick Object k i a g = front_object a.position i g
front_tick Lion k i a g = front_in_game g (lion a g.scene) (front_lion a g.scene)
front_tick Tiger k i a g = front_in_game g (tiger a g.scene) (front_tiger a g.scene)
front_tick Bullet k i a g = front_none _
front_tick Bear k i a g = front_none _
front_tick Pusher k i a g = front_none _
front_tick _ k i a g = front_none g

front_look_as : (due : Bool) (k : Asked) (i : ℕ) (a : Stat) (g : Game) → Front (λ ws. LookAs due k i a g ws)
front_look_as true k i a g = front_tick (piece_of (element_at g.scene a.place)) k i a (acted_by i g)
front_look_as false k i a g = front_none g

front_look : (k : Asked) (i : ℕ) (a : Stat) (g : Game) → Front (λ ws. LooksAt k i a g ws)
front_look k i a g = front_look_as (is_due k.tick i a.cycle) k i a g

-- ---- the step

-- a look, and then the rest of the chain
look_on : (k : Asked) (n : ℕ) (s : Stat) (g h : Game) (ws left : List ℕ) (x : Game) (rest : List ℕ) → looked_at g ≡ Some s
    → LooksAt k g.scene.ticking s g ws (Some (h, left))
    → (used : List ℕ) × ((left ≡ used ++ rest) × ((more : List ℕ) → Looks k n (next h) (used ++ more) (Some (x, more))))
    → (used : List ℕ) × ((ws ≡ used ++ rest) × ((more : List ℕ) → Looks k (suc n) g (used ++ more) (Some (x, more))))
look_on k n s g h ws left x rest is at z =
    let y = front_look k g.scene.ticking s g ws left h at in (
      y.0 ++ z.0,
      (
        y.1.0 ∙ ap (λ l. y.0 ++ l) z.1.0 ∙ sym (append_assoc y.0 z.0 rest),
        λ more.
            let P : List ℕ → Type 0 = λ l. Looks k (suc n) g l (Some (x, more)) in
            subst P (sym (append_assoc y.0 z.0 more)) (looked k n s g h (y.0 ++ (z.0 ++ more)) (z.0 ++ more) (Some (x, more)) is (y.1.1 (z.0 ++ more)) (z.1.1 more)),
      ),
    )

-- it says nothing of a chain that lacks a word
abbrev pub FrontTo : Asked → ℕ → Game → List ℕ → Drawn Game → Type 0
FrontTo k n g ws None = n ≡ n
FrontTo k n g ws (Some y) = (used : List ℕ) × ((ws ≡ used ++ y.1) × ((more : List ℕ) → Looks k n g (used ++ more) (Some (y.0, more))))

look_on_to : (k : Asked) (n : ℕ) (s : Stat) (g h : Game) (ws left : List ℕ) (e : Drawn Game) → looked_at g ≡ Some s
    → LooksAt k g.scene.ticking s g ws (Some (h, left)) → FrontTo k n (next h) left e
    → FrontTo k (suc n) g ws e
look_on_to k n s g h ws left None is at z = refl
look_on_to k n s g h ws left (Some y) is at z = look_on k n s g h ws left y.0 y.1 is at z

front_looks : (k : Asked) (n : ℕ) (g : Game) (ws : List ℕ) (e : Drawn Game) → Looks k n g ws e → FrontTo k n g ws e
front_looks _ _ _ _ _ (used_up k g ws) = ([], (refl, λ more. used_up k g more))
front_looks _ _ _ _ _ (over k n g ws is) = ([], (refl, λ more. over k n g more is))
front_looks _ _ _ _ _ (looked k n s g h ws left e is at rest) = look_on_to k n s g h ws left e is at (front_looks k n (next h) left e rest)
front_looks _ _ _ _ _ (lacked k n s g ws is at) = refl

pub front_step : (key : Key) (p q : Playtest) (ws left : List ℕ) → Step key p ws (Some (q, left))
    → (used : List ℕ) × ((ws ≡ used ++ left) × ((more : List ℕ) → Step key p (used ++ more) (Some (q, more))))
front_step key p q ws left (None, (d, is)) = absurd (cc)
front_step key p q ws left (Some (g, rest), (d, is)) =
    let pair : ◌≡◌ {A = Playtest × List ℕ} (q, left) (closed_with g p, rest) = cc in
    let value : q ≡ closed_with g p = ap (λ x. x.0) pair in
    let z = front_looks (asked key p) 1024 (from_first p.game) ws (Some (g, rest)) d in
    (z.0, (z.1.0 ∙ ap (λ l. z.0 ++ l) (sym (ap (λ x. x.1) pair)), λ more. (Some (g, more), (z.1.1 more, ap (λ v. Some (v, more)) value))))
