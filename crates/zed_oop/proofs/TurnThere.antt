-- A turn comes to something.
use Rattle.std.proofs.Common.{◌≡◌, ◌∙◌, ℕ, zero, suc, ◌<◌, List, Option, Some, None, refl, ap, arith}
use Rattle.zed_scene.specs.declared.stat.Stat.{Stat}
use Rattle.zed_scene.specs.Scene.{Scene, program_of, running_stat}
use Rattle.zed_oop_syntax.specs.declared.commands.OopCommand.{OopCommand}
use Rattle.zed_oop_syntax.specs.Command.{CommandAt}
use Rattle.zed_oop_syntax.proofs.Ahead.{instruction_ahead, no_command_after}
use Rattle.zed_oop_syntax.proofs.CommandThere.{command_there}
use Rattle.zed_oop_syntax.proofs.OneInstruction.{instruction_there}
use Rattle.zed_oop.specs.declared.turning.Reading.{Reading}
use Rattle.zed_oop.specs.declared.turning.Reading.TheVariants.{Instructing, Commanding}
use Rattle.zed_oop.specs.Acting.{with_position}
use Rattle.zed_oop.specs.Effect.{effect}
use Rattle.zed_oop.specs.Turn.{Chain, Does, Outcome, State, Turn, commanded, commands, counted, counts, ended, ends, finished, goes, instructed, instructs, lacked, lacks, over, position_of, room, start_of, used_up, went_on}
use Rattle.zed_oop.proofs.RoomLemmas.{commanded_nearer, instructed_nearer, no_command_goes}

-- where the turn goes on, the end of the program is nearer
abbrev pub Nearer : Outcome → Reading → State → Type 0
Nearer o r t = (q : Reading) (u : State) → o ≡ goes q u → room q u.scene < room r t.scene

-- something comes of one instruction
abbrev pub DoesSome : Reading → State → Type 0
DoesSome r t = (o : Outcome) × (Does r t o × Nearer o r t)

ended_nearer : (r : Reading) (t : State) → Nearer (ends t) r t
ended_nearer r t q u e = absurd (cc)

commanded_some : (c : Option OopCommand) (start at next : ℕ) (a : Stat) (t : State) → running_stat t.scene ≡ Some a → a.position ≡ Some at
    → CommandAt (program_of t.scene a.program) at c next
    → Nearer (commanded c start next a t) (Commanding start) t
commanded_some None start at next a t here place x q u e =
    commanded_nearer None start at next a t u q here place (no_command_after (program_of t.scene a.program) at next x) e
commanded_some (Some c) start at next a t here place x q u e =
    absurd (no_command_goes (effect c start a (with_position (Some next) t.scene) t.left) start t u q e)

reads_some : (r : Reading) (t : State) (a : Stat) (at : ℕ) → running_stat t.scene ≡ Some a → a.position ≡ Some at → DoesSome r t
reads_some Instructing t a at here place =
    let found = instruction_there (program_of t.scene a.program) at in
    let x = found.1.1.0 in (
      instructed found.0 at found.1.0 a t,
      (
        instructs t a at found.0 found.1.0 (here, place) x,
        λ q u e. instructed_nearer found.0 at found.1.0 a t u q here place (instruction_ahead (program_of t.scene a.program) at found.0 found.1.0 x) e,
      ),
    )
reads_some (Commanding start) t a at here place =
    let found = command_there (program_of t.scene a.program) at in
    let x = found.1.1 in (
      commanded found.0 start found.1.0 a t,
      (
        commands start t a at found.0 found.1.0 (here, place) x,
        commanded_some found.0 start at found.1.0 a t here place x,
      ),
    )

does_there : (r : Reading) (t : State) → DoesSome r t
does_there r t = by_stat (running_stat t.scene) refl
  where
    by_place : (a : Stat) → running_stat t.scene ≡ Some a → (o : Option ℕ) → a.position ≡ o → DoesSome r t
    by_place a here None place = (ends t, (over r t (ap position_of here ∙ place), ended_nearer r t))
    by_place a here (Some at) place = reads_some r t a at here place

    by_stat : (o : Option Stat) → running_stat t.scene ≡ o → DoesSome r t
    by_stat None here = (ends t, (over r t (ap position_of here), ended_nearer r t))
    by_stat (Some a) here = by_place a here a.position refl

-- a chain up to the next command word, and what comes behind it
run_there : (n : ℕ) → ((r : Reading) (t : State) → (e : Option State) × Chain n r t e) → (k : ℕ) (r : Reading) (t : State)
    → room r t.scene < k
    → (e : Option State) × Chain (suc n) r t e
run_there n rest zero r t h = absurd (omega arith)
run_there n rest (suc k) r t h = by_outcome (does_there r t) (run_there n rest k)
  where
    by_outcome : DoesSome r t → ((q : Reading) (u : State) → room q u.scene < k → (e : Option State) × Chain (suc n) q u e)
        → (e : Option State) × Chain (suc n) r t e
    by_outcome (ends u, (d, w)) further = (Some u, ended n r t u d)
    by_outcome (lacks, (d, w)) further = (None, lacked n r t d)
    by_outcome (counts q u, (d, w)) further = let x = rest q u in (x.0, counted n r q t u x.0 d x.1)
    by_outcome (goes q u, (d, w)) further =
        let nearer = w q u refl in
        let x = further q u (omega arith) in
        (x.0, went_on n r q t u x.0 d x.1)

chain_there : (n : ℕ) (r : Reading) (t : State) → (e : Option State) × Chain n r t e
chain_there zero r t = (Some (finished r t), used_up r t)
chain_there (suc n) r t = run_there n (chain_there n) (suc (room r t.scene)) r t (omega arith)

-- a turn comes to something
pub turn_there : (s : Scene) (i : ℕ) (ws : List ℕ) → (e : Option State) × Turn s i ws e
turn_there s i ws = chain_there 33 Instructing (start_of s i ws)
