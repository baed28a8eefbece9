-- A turn ends: each step without a command word leads on in the program.
use Rattle.std.proofs.Common.{Result, Ok, Err, IfOk, Bool, true, false, ◌≡◌, ◌∙◌, ℕ, ◌<◌, ◌≤◌, List, length, Option, Some, None, ap, sym, subst, arith}
use Rattle.zed_oop.specs.declared.acting.Next.{Next}
use Rattle.zed_oop.specs.declared.acting.Next.TheVariants.{Skip, Stay, Command as CommandNext, SkipAndEnd, End as EndNext, Error}
use Rattle.zed_scene.specs.declared.stat.Stat.{Stat}
use Rattle.zed_oop_syntax.specs.declared.commands.OopCommand.{OopCommand}
use Rattle.zed_oop_syntax.specs.declared.lines.Instruction.{Instruction}
use Rattle.zed_oop_syntax.specs.declared.lines.Instruction.TheVariants.{End, Skipped, Blank, Step, Attempt, Command as CommandLine, Message}
use Rattle.zed_scene.specs.Scene.{Scene, program_of, running_stat}
use Rattle.zed_scene.specs.declared.step.Step.{Step as Way}
use Rattle.zed_oop.specs.declared.turning.Reading.{Reading}
use Rattle.zed_oop.specs.declared.turning.Reading.TheVariants.{Instructing, Commanding}
use Rattle.zed_types.specs.declared.tile.Place.{Place}
use Rattle.zed_oop.specs.Acting.{with_position}
use Rattle.zed_scene.specs.Trying.{try_move}
use Rattle.zed_oop.specs.Effect.{effect}
use Rattle.zed_oop.specs.Leading.{led}
use Rattle.zed_scene.specs.Words.{Drawn}
use Rattle.zed_oop_syntax.specs.Line.{IsAhead}
use Rattle.zed_scene.specs.declared.error.SceneError.{SceneError}
use Rattle.zed_oop.specs.declared.turning.After.{After}
use Rattle.zed_oop.specs.declared.turning.After.TheVariants.{Ends, Goes, Counts}
use Rattle.zed_oop.specs.Turn.{Outcome, State, commanded, goes, instructed, with_line, Comes, IsNearer, room, room_at, room_of, settled, settled_by, stepped, stepped_by, stepped_if, to_place}
use Rattle.zed_oop.proofs.ActingLemmas.{running_after_move, same_program}

-- the room where the running stat stands
room_here : (r : Reading) (s : Scene) (a : Stat) (at : ℕ) → running_stat s ≡ Some a → a.position ≡ Some at
    → room r s ≡ room_at r (length (program_of s a.program)) (Some at)
room_here r s a at here place = ap (λ o. room_of r o s) here ∙ ap (room_at r (length (program_of s a.program))) place

-- and behind a move in the program
room_moved : (r : Reading) (s : Scene) (a : Stat) (next : ℕ) → running_stat s ≡ Some a
    → room r (with_position (Some next) s) ≡ room_at r (length (program_of s a.program)) (Some next)
room_moved r s a next here =
    ap (λ o. room_of r o (with_position (Some next) s)) (running_after_move s a (Some next) here)
    ∙ ap (λ p. room_at r (length p) (Some next)) (same_program s (Some next) a.program)

-- a move that goes on ends where the state it comes to says
moved_to_room : (r q : Reading) (t u : State) (a : Stat) (next : ℕ) → running_stat t.scene ≡ Some a
    → goes r (to_place (Some next) t) ≡ goes q u
    → room q u.scene ≡ room_at r (length (program_of t.scene a.program)) (Some next)
moved_to_room r q t u a next here e =
    let one : r ≡ q = cc in
    let other : to_place (Some next) t ≡ u = cc in
    ap (λ x. room x u.scene) (sym one) ∙ (ap (λ (v : State). room r v.scene) (sym other) ∙ room_moved r t.scene a next here)

told_to_room : (q : Reading) (t u : State) (a : Stat) (next : ℕ) (m : List ℕ) → running_stat t.scene ≡ Some a
    → goes Instructing (with_line m (to_place (Some next) t)) ≡ goes q u
    → room q u.scene ≡ room_at Instructing (length (program_of t.scene a.program)) (Some next)
told_to_room q t u a next m here e =
    let one : Instructing ≡ q = cc in
    let other : with_line m (to_place (Some next) t) ≡ u = cc in
    ap (λ x. room x u.scene) (sym one) ∙ (ap (λ (v : State). room Instructing v.scene) (sym other) ∙ room_moved Instructing t.scene a next here)

no_step : (d : Drawn (Option Way)) (p : Place) (again next : ℕ) (t u : State) (q : Reading) → stepped_by d p again next t ≡ goes q u → ⊥
no_step None p again next t u q e = cc
no_step (Some d) p again next t u q e = led_no_step d.0 p again next (record t { left = d.1 }) u q e
  where
    stepped_no : (b : Bool) (again next : ℕ) (s : Scene) (t u : State) (q : Reading) → stepped again next (b, s) t ≡ goes q u → ⊥
    stepped_no true again next s t u q e = cc
    stepped_no false again next s t u q e = cc

    led_no_step : (d : Option Way) (p : Place) (again next : ℕ) (t u : State) (q : Reading) → stepped_if p again next d t ≡ goes q u → ⊥
    led_no_step None p again next t u q e = cc
    led_no_step (Some d) p again next t u q e = stepped_no (try_move p d t.scene).0 again next (try_move p d t.scene).1 t u q e

-- an instruction that goes on leaves less room
pub instructed_nearer : (i : Instruction) (at next : ℕ) (a : Stat) (t u : State) (q : Reading) → running_stat t.scene ≡ Some a
    → a.position ≡ Some at → IsAhead i at next (length (program_of t.scene a.program)) → instructed i at next a t ≡ goes q u
    → room q u.scene < room Instructing t.scene
instructed_nearer End at next a t u q here place w e = absurd (cc)
instructed_nearer Skipped at next a t u q here place w e =
    let old = room_here Instructing t.scene a at here place in
    let new = moved_to_room Instructing q t u a next here e in
    let h = w.0 in let k = w.1 in omega arith
instructed_nearer Blank at next a t u q here place w e =
    let old = room_here Instructing t.scene a at here place in
    let new = moved_to_room Instructing q t u a next here e in
    let h = w.0 in let k = w.1 in omega arith
instructed_nearer CommandLine at next a t u q here place w e =
    let old = room_here Instructing t.scene a at here place in
    let new = moved_to_room (Commanding at) q t u a next here e in
    let h = w.0 in let k = w.1 in omega arith
instructed_nearer (Message m) at next a t u q here place w e =
    let old = room_here Instructing t.scene a at here place in
    let new = told_to_room q t u a next m here e in
    let h = w.0 in let k = w.1 in omega arith
instructed_nearer (Step h) at next a t u q here place w e = absurd (no_step (led h.turns h.course a t.scene t.left) a.place at next t u q e)
instructed_nearer (Attempt h) at next a t u q here place w e =
    absurd (no_step (led h.turns h.course a t.scene t.left) a.place next next t u q e)

settled_no : (n : Next) (start : ℕ) (t u : State) (q : Reading) → settled start n t ≡ goes q u → ⊥
settled_no Skip start t u q e = cc
settled_no Stay start t u q e = cc
settled_no CommandNext start t u q e = cc
settled_no SkipAndEnd start t u q e = cc
settled_no EndNext start t u q e = cc
settled_no Error start t u q e = cc

pub no_command_goes : (d : Drawn (Next × Scene)) (start : ℕ) (t u : State) (q : Reading) → settled_by start d t ≡ goes q u → ⊥
no_command_goes None start t u q e = cc
no_command_goes (Some d) start t u q e = settled_no d.0.0 start (record t { scene = d.0.1; left = d.1 }) u q e

-- where no command put_if_walkable the turn goes on with less room
pub commanded_nearer : (k : Option OopCommand) (start at next : ℕ) (a : Stat) (t u : State) (q : Reading) → running_stat t.scene ≡ Some a
    → a.position ≡ Some at → at ≤ next → commanded k start next a t ≡ goes q u
    → room q u.scene < room (Commanding start) t.scene
commanded_nearer None start at next a t u q here place h e =
    let old = room_here (Commanding start) t.scene a at here place in
    let new = moved_to_room Instructing q t u a next here e in
    omega arith
commanded_nearer (Some c) start at next a t u q here place h e =
    absurd (no_command_goes (effect c start a (with_position (Some next) t.scene) t.left) start t u q e)

-- ---- as calls answer it

pub nearer_of : (o : Outcome) (r : Reading) (t u : State) (result : Result After SceneError)
    → ((q : Reading) → o ≡ goes q u → room q u.scene < room r t.scene) → Comes result o u
    → IfOk result (λ x. IsNearer x r t.scene u.scene)
nearer_of o r t u (Ok Ends) h e = tt
nearer_of o r t u (Ok (Goes q)) h e = h q e
nearer_of o r t u (Ok (Counts q)) h e = tt
nearer_of o r t u (Err x) h e = tt

pub instruction_nearer : (r : Reading) (t u : State) (a : Stat) (at : ℕ) (i : Instruction) (next : ℕ) (p : List ℕ) (result : Result After SceneError)
    → r ≡ Instructing → running_stat t.scene ≡ Some a → a.position ≡ Some at → p ≡ program_of t.scene a.program
    → IsAhead i at next (length p) → Comes result (instructed i at next a t) u
    → IfOk result (λ x. IsNearer x r t.scene u.scene)
instruction_nearer r t u a at i next p result is_i here place text ahead comes =
    let P : List ℕ → Type 0 = λ l. IsAhead i at next (length l) in
    let R : Reading → Type 0 = λ x. IfOk result (λ y. IsNearer y x t.scene u.scene) in
    subst R (sym is_i) (nearer_of (instructed i at next a t) Instructing t u result (λ q e. instructed_nearer i at next a t u q here place (subst P text ahead) e) comes)

pub command_nearer : (r : Reading) (t u : State) (a : Stat) (at start : ℕ) (k : Option OopCommand) (next : ℕ) (result : Result After SceneError)
    → r ≡ Commanding start → running_stat t.scene ≡ Some a → a.position ≡ Some at → at ≤ next → Comes result (commanded k start next a t) u
    → IfOk result (λ x. IsNearer x r t.scene u.scene)
command_nearer r t u a at start k next result is_c here place after comes =
    let R : Reading → Type 0 = λ x. IfOk result (λ y. IsNearer y x t.scene u.scene) in
    subst R (sym is_c) (nearer_of (commanded k start next a t) (Commanding start) t u result (λ q e. commanded_nearer k start at next a t u q here place after e) comes)
