-- A turn of a program uses words of chance from the front, and those behind can be any others.
use Rattle.std.proofs.Common.{◌≡◌, ◌∙◌, ◌++◌, ◌==◌, if◌then◌else◌, ℕ, zero, suc, Bool, true, false, List, [], ◌∷◌, Option, Some, None, refl, sym, ap, subst, append_assoc}
use Rattle.zed_types.specs.declared.tile.Place.{Place}
use Rattle.zed_scene.specs.declared.stat.Stat.{Stat}
use Rattle.zed_scene.specs.declared.step.Step.{Step as Way}
use Rattle.zed_scene.specs.Places.{clockwise, counter_clockwise}
use Rattle.zed_scene.specs.Scene.{Scene}
use Rattle.zed_scene.specs.Seeking.{east, north}
use Rattle.zed_scene.specs.Trying.{try_move}
use Rattle.zed_scene.specs.Words.{Drawn, draw, ◌>>=◌}
use Rattle.zed_oop_syntax.specs.declared.commands.OopCommand.{OopCommand}
use Rattle.zed_oop_syntax.specs.declared.commands.OopCommand.TheVariants.{Go, Try, Walk, Shoot, If, Put}
use Rattle.zed_oop_syntax.specs.declared.conditions.Query.{Query}
use Rattle.zed_oop_syntax.specs.declared.conditions.Test.{Test}
use Rattle.zed_oop_syntax.specs.declared.conditions.Test.TheVariants.{Blocked}
use Rattle.zed_oop_syntax.specs.declared.heading.Course.{Course}
use Rattle.zed_oop_syntax.specs.declared.heading.Course.TheVariants.{Seek, Random, RandomNorthOrSouth, RandomNorthOrEast}
use Rattle.zed_oop_syntax.specs.declared.heading.Heading.{Heading}
use Rattle.zed_oop_syntax.specs.declared.heading.Turning.{Turning}
use Rattle.zed_oop_syntax.specs.declared.heading.Turning.TheVariants.{Sideways}
use Rattle.zed_oop_syntax.specs.declared.lines.Instruction.{Instruction}
use Rattle.zed_oop_syntax.specs.declared.lines.Instruction.TheVariants.{Step, Attempt}
use Rattle.zed_oop.specs.declared.acting.Next.{Next}
use Rattle.zed_oop.specs.declared.acting.Next.TheVariants.{Skip}
use Rattle.zed_oop.specs.declared.turning.After.{After}
use Rattle.zed_oop.specs.declared.turning.After.TheVariants.{Ends, Goes, Counts}
use Rattle.zed_oop.specs.declared.turning.Reading.{Reading}
use Rattle.zed_oop.specs.declared.turning.Reading.TheVariants.{Instructing, Commanding}
use Rattle.zed_oop.specs.Acting.{with_position}
use Rattle.zed_oop.specs.Effect.{Outcome as Followed, after_go, after_try, effect, if_true, known_or_error, put_kind, with_drawn}
use Rattle.zed_oop.specs.Leading.{course_led, known, led, turned, turned_all}
use Rattle.zed_oop.specs.Testing.{blocked, holds, is_way_blocked, negated_if, tested}
use Rattle.zed_oop.specs.Turn.{Chain, Does, Outcome, State, Turn, after, commanded, commands, counted, counts, ended, ends, finished, goes, instructed, instructs, lacked, lacks, over, settled, settled_by, start_of, state, stepped, stepped_by, stepped_if, used_up, went_on}
use Rattle.zed_oop.proofs.Drawing.{Front, Is, front_bind, front_draw, front_none, front_random, front_same, front_sought, front_up_or_down}

-- ---- directions and conditions

front_turned : (t : Turning) (d : Way) → Front (Is (turned t d))
front_turned Sideways d =
    front_bind (draw 2) (λ r ws. Some (if r == 0 then clockwise d else counter_clockwise d, ws)) (front_draw 2)
    (λ r. front_none (if r == 0 then clockwise d else counter_clockwise d))
front_turned _ d = front_none _

front_turned_all : (ts : List Turning) (d : Way) → Front (Is (turned_all ts d))
front_turned_all [] d = front_none d
front_turned_all (t ∷ ts) d = front_bind (turned_all ts d) (turned t) (front_turned_all ts d) (front_turned t)

front_course : (c : Course) (a : Stat) (s : Scene) → Front (Is (course_led c a s))
front_course Seek a s = front_sought a.place s
front_course Random a s = front_random
front_course RandomNorthOrSouth a s = front_up_or_down
front_course RandomNorthOrEast a s =
    front_bind (draw 2) (λ r ws. Some (if r == 0 then north else east, ws)) (front_draw 2) (λ r. front_none (if r == 0 then north else east))
front_course _ a s = front_none _

front_led : (ts : List Turning) (o : Option Course) (a : Stat) (s : Scene) → Front (Is (led ts o a s))
unfolding led
front_led ts None a s = front_none _
front_led ts (Some c) a s =
    front_bind (course_led c a s) (λ d ws. known (turned_all ts d ws)) (front_course c a s)
    (λ d. front_bind (turned_all ts d) (λ e ws. Some (Some e, ws)) (front_turned_all ts d) (λ e. front_none (Some e)))

front_blocked : (h : Heading) (a : Stat) (s : Scene) → Front (Is (blocked h a s))
unfolding blocked
front_blocked h a s =
    front_bind (led h.turns h.course a s) (λ d ws. Some (is_way_blocked a s d, ws)) (front_led h.turns h.course a s)
    (λ d. front_none (is_way_blocked a s d))

front_tested : (t : Test) (a : Stat) (s : Scene) → Front (Is (tested t a s))
front_tested (Blocked h) a s = front_blocked h a s
front_tested _ a s = front_none _

front_holds : (q : Query) (a : Stat) (s : Scene) → Front (Is (holds q a s))
unfolding holds
front_holds q a s =
    front_bind (tested q.test a s) (λ t ws. Some (negated_if q.negated t, ws)) (front_tested q.test a s)
    (λ t. front_none (negated_if q.negated t))

-- ---- commands

front_with : {X : Type 0} (f : X → Scene → Followed) (s : Scene) (g : List ℕ → Drawn (Option X)) → Front (Is g)
    → Front (Is (λ ws. with_drawn f s (g ws)))
front_with f s g front = front_bind g (λ d ws. Some (known_or_error f d s, ws)) front (λ d. front_none (known_or_error f d s))

front_effect : (c : OopCommand) (start : ℕ) (a : Stat) (s : Scene) → Front (Is (effect c start a s))
unfolding effect
front_effect (Go h) start a s =
    front_with (λ d t. after_go start (try_move a.place d t)) s (led h.turns h.course a s) (front_led h.turns h.course a s)
front_effect (Try h) start a s =
    front_with (λ d t. after_try (try_move a.place d t)) s (led h.turns h.course a s) (front_led h.turns h.course a s)
front_effect (Walk h) start a s = front_with _ s (led h.turns h.course a s) (front_led h.turns h.course a s)
front_effect (Shoot h) start a s = front_with _ s (led h.turns h.course a s) (front_led h.turns h.course a s)
front_effect (Put h k) start a s = front_with (put_kind a.place k) s (led h.turns h.course a s) (front_led h.turns h.course a s)
front_effect (If q) start a s = front_with if_true s (holds q a s) (front_holds q a s)
front_effect _ start a s = front_none _

-- ---- what comes of one instruction

-- an outcome as something drawn: how the turn goes on, the board and the messages
abbrev pub Came : Type 0
Came = After × (Scene × List (List ℕ))

shape : Outcome → Drawn Came
shape (goes r t) = Some ((Goes r, (t.scene, t.lines)), t.left)
shape (counts r t) = Some ((Counts r, (t.scene, t.lines)), t.left)
shape (ends t) = Some ((Ends, (t.scene, t.lines)), t.left)
shape lacks = None

shape_after : (a : After) (u : State) → ◌≡◌ {A = Drawn Came} (shape (after a u)) (Some ((a, (u.scene, u.lines)), u.left))
unfolding shape
shape_after Ends u = refl
shape_after (Goes r) u = refl
shape_after (Counts r) u = refl

from_came : Came × List ℕ → Outcome
from_came p = after p.0.0 (state p.0.1.0 p.1 p.0.1.1)

unshape : (o : Outcome) (p : Came × List ℕ) → ◌≡◌ {A = Drawn Came} (Some p) (shape o) → o ≡ from_came p
unfolding shape from_came
unshape (goes r t) p e = let q : ◌≡◌ {A = Came × List ℕ} ((Goes r, (t.scene, t.lines)), t.left) p = cc in ap from_came q
unshape (counts r t) p e = let q : ◌≡◌ {A = Came × List ℕ} ((Counts r, (t.scene, t.lines)), t.left) p = cc in ap from_came q
unshape (ends t) p e = let q : ◌≡◌ {A = Came × List ℕ} ((Ends, (t.scene, t.lines)), t.left) p = cc in ap from_came q
unshape lacks p e = absurd (cc)

front_stepped : (again next : ℕ) (m : Bool × Scene) (s : Scene) (ls : List (List ℕ))
    → Front (Is (λ ws. shape (stepped again next m (state s ws ls))))
unfolding shape
front_stepped again next (true, u) s ls = front_none _
front_stepped again next (false, u) s ls = front_none _

front_stepped_if : (here : Place) (again next : ℕ) (d : Option Way) (s : Scene) (ls : List (List ℕ))
    → Front (Is (λ ws. shape (stepped_if here again next d (state s ws ls))))
unfolding shape
front_stepped_if here again next None s ls = front_none _
front_stepped_if here again next (Some d) s ls = front_stepped again next (try_move here d s) s ls

stepped_bound : (o : Drawn (Option Way)) (here : Place) (again next : ℕ) (s : Scene) (ws : List ℕ) (ls : List (List ℕ))
    → ◌≡◌ {A = Drawn Came} (shape (stepped_by o here again next (state s ws ls))) (o >>= λ r. shape (stepped_if here again next r.0 (state s r.1 ls)))
unfolding shape
stepped_bound None here again next s ws ls = refl
stepped_bound (Some d) here again next s ws ls = refl

front_stepped_by : (h : Heading) (a : Stat) (again next : ℕ) (s : Scene) (ls : List (List ℕ))
    → Front (Is (λ ws. shape (stepped_by (led h.turns h.course a s ws) a.place again next (state s ws ls))))
front_stepped_by h a again next s ls =
    front_same (λ ws. shape (stepped_by (led h.turns h.course a s ws) a.place again next (state s ws ls)))
    (λ ws. led h.turns h.course a s ws >>= λ r. shape (stepped_if a.place again next r.0 (state s r.1 ls)))
    (λ ws. stepped_bound (led h.turns h.course a s ws) a.place again next s ws ls)
    (front_bind (led h.turns h.course a s) (λ d ws. shape (stepped_if a.place again next d (state s ws ls))) (front_led h.turns h.course a s) (λ d. front_stepped_if a.place again next d s ls))

front_instructed : (i : Instruction) (at next : ℕ) (a : Stat) (s : Scene) (ls : List (List ℕ))
    → Front (Is (λ ws. shape (instructed i at next a (state s ws ls))))
unfolding shape
front_instructed (Step h) at next a s ls = front_stepped_by h a at next s ls
front_instructed (Attempt h) at next a s ls = front_stepped_by h a next next s ls
front_instructed _ at next a s ls = front_none _

front_settled : (start : ℕ) (n : Next) (s : Scene) (ls : List (List ℕ)) → Front (Is (λ ws. shape (settled start n (state s ws ls))))
unfolding shape
front_settled start Skip s ls = front_none _
front_settled start _ s ls = front_none _

settled_bound : (start : ℕ) (o : Drawn (Next × Scene)) (s : Scene) (ws : List ℕ) (ls : List (List ℕ))
    → ◌≡◌ {A = Drawn Came} (shape (settled_by start o (state s ws ls))) (o >>= λ r. shape (settled start r.0.0 (state r.0.1 r.1 ls)))
unfolding shape
settled_bound start None s ws ls = refl
settled_bound start (Some d) s ws ls = refl

front_commanded : (c : Option OopCommand) (start next : ℕ) (a : Stat) (s : Scene) (ls : List (List ℕ))
    → Front (Is (λ ws. shape (commanded c start next a (state s ws ls))))
unfolding shape
front_commanded None start next a s ls = front_none _
front_commanded (Some c) start next a s ls =
    let t : Scene = with_position (Some next) s in
    front_same (λ ws. shape (settled_by start (effect c start a t ws) (state s ws ls)))
    (λ ws. effect c start a t ws >>= λ r. shape (settled start r.0.0 (state r.0.1 r.1 ls)))
    (λ ws. settled_bound start (effect c start a t ws) s ws ls)
    (front_bind (effect c start a t) (λ x ws. shape (settled start x.0 (state x.1 ws ls))) (front_effect c start a t) (λ x. front_settled start x.0 x.1 ls))

-- ---- a turn

front_ends : (s : Scene) (ls : List (List ℕ)) → Front (Is (λ ws. shape (ends (state s ws ls))))
unfolding shape
front_ends s ls = front_none _

abbrev pub with_left : List ℕ → State → State
with_left ws t = state t.scene ws t.lines

came : (F : List ℕ → Outcome) → Front (Is (λ ws. shape (F ws))) → (ws : List ℕ) (a : After) (u : State) → F ws ≡ after a u
    → (used : List ℕ) × ((ws ≡ used ++ u.left) × ((more : List ℕ) → F (used ++ more) ≡ after a (with_left more u)))
unfolding from_came
came F front ws a u e =
    let z = front ws u.left (a, (u.scene, u.lines)) (sym (shape_after a u) ∙ sym (ap shape e)) in
    (z.0, (z.1.0, λ more. unshape (F (z.0 ++ more)) ((a, (u.scene, u.lines)), more) (z.1.1 more)))

-- what is done with words left over
abbrev pub DoneWith : Reading → State → After → State → Type 0
DoneWith r t a u =
    (used : List ℕ) × ((t.left ≡ used ++ u.left) × ((more : List ℕ) → Does r (with_left (used ++ more) t) (after a (with_left more u))))

does_front : (r : Reading) (t : State) (o : Outcome) → Does r t o → (a : After) (u : State) → o ≡ after a u → DoneWith r t a u
does_front _ _ _ (over r t none) a u e =
    let z = came (λ ws. ends (with_left ws t)) (front_ends t.scene t.lines) t.left a u e in
    (z.0, (z.1.0, λ more. let P : Outcome → Type 0 = λ o. Does r (with_left (z.0 ++ more) t) o in subst P (z.1.1 more) (over r (with_left (z.0 ++ more) t) none)))
does_front _ _ _ (instructs t s at i next stands there) a u e =
    let z = came (λ ws. instructed i at next s (with_left ws t)) (front_instructed i at next s t.scene t.lines) t.left a u e in
    (z.0, (z.1.0, λ more. let P : Outcome → Type 0 = λ o. Does Instructing (with_left (z.0 ++ more) t) o in subst P (z.1.1 more) (instructs (with_left (z.0 ++ more) t) s at i next stands there)))
does_front _ _ _ (commands start t s at c next stands there) a u e =
    let z = came (λ ws. commanded c start next s (with_left ws t)) (front_commanded c start next s t.scene t.lines) t.left a u e in
    (z.0, (z.1.0, λ more. let P : Outcome → Type 0 = λ o. Does (Commanding start) (with_left (z.0 ++ more) t) o in subst P (z.1.1 more) (commands start (with_left (z.0 ++ more) t) s at c next stands there)))

-- it says nothing of a chain that lacks a word
abbrev pub ChainTo : ℕ → Reading → State → Option State → Type 0
ChainTo n r t None = n ≡ n
ChainTo n r t (Some u) =
    (used : List ℕ) × ((t.left ≡ used ++ u.left) × ((more : List ℕ) → Chain n r (with_left (used ++ more) t) (Some (with_left more u))))

finished_front : (r : Reading) (t : State) → ChainTo zero r t (Some (finished r t))
finished_front Instructing t = ([], (refl, λ more. used_up Instructing (with_left more t)))
finished_front (Commanding start) t = ([], (refl, λ more. used_up (Commanding start) (with_left more t)))

-- one instruction more in front of a chain
chained : (m n : ℕ) (r q : Reading) (t u : State) (a : After) (e : Option State)
    → ((s v : State) (f : Option State) → Does r s (after a v) → Chain m q v f → Chain n r s f) → DoneWith r t a u → ChainTo m q u e
    → ChainTo n r t e
chained m n r q t u a None link z y = refl
chained m n r q t u a (Some v) link z y = (
  z.0 ++ y.0,
  (
    z.1.0 ∙ ap (λ l. z.0 ++ l) y.1.0 ∙ sym (append_assoc z.0 y.0 v.left),
    λ more.
        let P : List ℕ → Type 0 = λ l. Chain n r (with_left l t) (Some (with_left more v)) in
        subst P (sym (append_assoc z.0 y.0 more)) (link (with_left (z.0 ++ (y.0 ++ more)) t) (with_left (y.0 ++ more) u) (Some (with_left more v)) (z.1.1 (y.0 ++ more)) (y.1.1 more)),
  ),
)

chain_front : (n : ℕ) (r : Reading) (t : State) (e : Option State) → Chain n r t e → ChainTo n r t e
chain_front _ _ _ _ (used_up r t) = finished_front r t
chain_front _ _ _ _ (ended n r t u d) =
    let z = does_front r t (ends u) d Ends u refl in
    (z.0, (z.1.0, λ more. ended n r (with_left (z.0 ++ more) t) (with_left more u) (z.1.1 more)))
chain_front _ _ _ _ (lacked n r t d) = refl
chain_front _ _ _ _ (went_on n r q t u e d rest) =
    chained (suc n) (suc n) r q t u (Goes q) e (λ s v f x y. went_on n r q s v f x y) (does_front r t (goes q u) d (Goes q) u refl) (chain_front (suc n) q u e rest)
chain_front _ _ _ _ (counted n r q t u e d rest) =
    chained n (suc n) r q t u (Counts q) e (λ s v f x y. counted n r q s v f x y) (does_front r t (counts q u) d (Counts q) u refl) (chain_front n q u e rest)

pub turn_front : (s : Scene) (i : ℕ) (ws : List ℕ) (u : State) → Turn s i ws (Some u)
    → (used : List ℕ) × ((ws ≡ used ++ u.left) × ((more : List ℕ) → Turn s i (used ++ more) (Some (record u { left = more }))))
turn_front s i ws u turn = chain_front 33 Instructing (start_of s i ws) (Some u) turn
