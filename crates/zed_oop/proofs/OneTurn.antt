-- A turn comes to one thing.
use Rattle.std.proofs.Common.{◌≡◌, ◌∙◌, ◌⊎◌, inl, inr, ℕ, zero, suc, List, Option, Some, None, refl, sym, ap, subst}
use Rattle.zed_scene.specs.declared.stat.Stat.{Stat}
use Rattle.zed_scene.specs.Scene.{Scene, program_of, running_stat}
use Rattle.zed_oop_syntax.specs.declared.commands.OopCommand.{OopCommand}
use Rattle.zed_oop_syntax.specs.declared.lines.Instruction.{Instruction}
use Rattle.zed_oop_syntax.specs.Command.{CommandAt}
use Rattle.zed_oop_syntax.specs.Line.{InstructionAt}
use Rattle.zed_oop_syntax.proofs.OneCommand.{command_one}
use Rattle.zed_oop_syntax.proofs.OneInstruction.{instruction_one}
use Rattle.zed_oop.specs.declared.turning.Reading.{Reading}
use Rattle.zed_oop.specs.declared.turning.Reading.TheVariants.{Instructing, Commanding}
use Rattle.zed_oop.specs.Turn.{Chain, Does, Outcome, Stands, State, Turn, commanded, commands, counted, counts, ended, ends, finished, goes, instructed, instructs, lacked, lacks, over, position_of, start_of, used_up, went_on}

-- what stands where a program is read, and what comes of it
Found : Reading → State → Stat → ℕ → Outcome → Type 0
Found Instructing t a at o =
    (i : Instruction) × ((next : ℕ) × (InstructionAt (program_of t.scene a.program) at i next × (o ≡ instructed i at next a t)))
Found (Commanding start) t a at o =
    (c : Option OopCommand) × ((next : ℕ) × (CommandAt (program_of t.scene a.program) at c next × (o ≡ commanded c start next a t)))

found_one : (r : Reading) (t : State) (a : Stat) (at : ℕ) (o q : Outcome) → Found r t a at o → Found r t a at q → o ≡ q
unfolding Found
found_one Instructing t a at o q x y =
    let one = instruction_one (program_of t.scene a.program) at x.0 y.0 x.1.0 y.1.0 x.1.1.0 y.1.1.0 in
    x.1.1.1 ∙ (ap (λ i. instructed i at x.1.0 a t) one.0 ∙ (ap (λ n. instructed y.0 at n a t) one.1 ∙ sym y.1.1.1))
found_one (Commanding start) t a at o q x y =
    let one = command_one (program_of t.scene a.program) at x.0 y.0 x.1.0 y.1.0 x.1.1.0 y.1.1.0 in
    x.1.1.1 ∙ (ap (λ c. commanded c start x.1.0 a t) one.0 ∙ (ap (λ n. commanded y.0 start n a t) one.1 ∙ sym y.1.1.1))

-- the turn is over, or something stands where the running stat reads
Opened : Reading → State → Outcome → Type 0
Opened r t o =
    ((position_of (running_stat t.scene) ≡ None) × (o ≡ ends t)) ⊎ ((a : Stat) × ((at : ℕ) × (Stands t.scene a at × Found r t a at o)))

opened : (r : Reading) (t : State) (o : Outcome) → Does r t o → Opened r t o
unfolding Opened Found
opened r t o (over r2 t2 x) = inl (x, refl)
opened r t o (instructs t2 a at i next stands there) = inr (a, (at, (stands, (i, (next, (there, refl))))))
opened r t o (commands start t2 a at c next stands there) = inr (a, (at, (stands, (c, (next, (there, refl))))))

-- one stat stands at one place
stands_one : (s : Scene) (a b : Stat) (m n : ℕ) → Stands s a m → Stands s b n → (a ≡ b) × (m ≡ n)
stands_one s a b m n x y =
    let both : Some a ≡ Some b = sym x.0 ∙ y.0 in
    let stat : a ≡ b = cc in
    let places : Some m ≡ Some n = sym x.1 ∙ (ap (λ (c : Stat). c.position) stat ∙ y.1) in
    let place : m ≡ n = cc in
    (stat, place)

-- and then it is somewhere
is_somewhere : (s : Scene) (a : Stat) (m : ℕ) → Stands s a m → position_of (running_stat s) ≡ None → ⊥
is_somewhere s a m x none =
    let is : position_of (running_stat s) ≡ Some m = ap position_of x.0 ∙ x.1 in
    absurd (cc)

opened_one : (r : Reading) (t : State) (o q : Outcome) → Opened r t o → Opened r t q → o ≡ q
unfolding Opened
opened_one r t o q (inl x) (inl y) = x.1 ∙ sym y.1
opened_one r t o q (inl x) (inr y) = absurd (is_somewhere t.scene y.0 y.1.0 y.1.1.0 x.0)
opened_one r t o q (inr x) (inl y) = absurd (is_somewhere t.scene x.0 x.1.0 x.1.1.0 y.0)
opened_one r t o q (inr x) (inr y) =
    let one = stands_one t.scene x.0 y.0 x.1.0 y.1.0 x.1.1.0 y.1.1.0 in
    let P : Stat → Type 0 = λ b. Found r t b y.1.0 q in
    let Q : ℕ → Type 0 = λ k. Found r t x.0 k q in
    found_one r t x.0 x.1.0 o q x.1.1.1 (subst Q (sym one.1) (subst P (sym one.0) y.1.1.1))

-- one thing comes of one instruction
pub does_one : (r : Reading) (t : State) (o q : Outcome) → Does r t o → Does r t q → o ≡ q
does_one r t o q x y = opened_one r t o q (opened r t o x) (opened r t q y)

-- what a chain comes to behind one instruction
Behind : ℕ → Outcome → Option State → Type 0
Behind n (ends u) e = e ≡ Some u
Behind n lacks e = e ≡ None
Behind n (goes q u) e = Chain (suc n) q u e
Behind n (counts q u) e = Chain n q u e

Begun : ℕ → Reading → State → Option State → Type 0
Begun zero r t e = e ≡ Some (finished r t)
Begun (suc n) r t e = (o : Outcome) × (Does r t o × Behind n o e)

begun : (n : ℕ) (r : Reading) (t : State) (e : Option State) → Chain n r t e → Begun n r t e
unfolding Begun Behind
begun n r t e (used_up r2 t2) = refl
begun n r t e (ended m r2 t2 u d) = (ends u, (d, refl))
begun n r t e (lacked m r2 t2 d) = (lacks, (d, refl))
begun n r t e (went_on m r2 q t2 u f d rest) = (goes q u, (d, rest))
begun n r t e (counted m r2 q t2 u f d rest) = (counts q u, (d, rest))

-- behind an instruction whose outcome is known
behind_known : (m : ℕ) (r : Reading) (t : State) (o : Outcome) (f : Option State) → Does r t o → Begun (suc m) r t f → Behind m o f
unfolding Begun
behind_known m r t o f d z = let P : Outcome → Type 0 = λ x. Behind m x f in subst P (sym (does_one r t o z.0 d z.1.0)) z.1.1

-- one thing comes of a chain
pub chain_one : (n : ℕ) (r : Reading) (t : State) (e : Option State) → Chain n r t e → (f : Option State) → Chain n r t f → e ≡ f
unfolding Begun Behind
chain_one n r t e (used_up r2 t2) f y = sym (begun zero r2 t2 f y)
chain_one n r t e (ended m r2 t2 u d) f y = sym (behind_known m r2 t2 (ends u) f d (begun (suc m) r2 t2 f y))
chain_one n r t e (lacked m r2 t2 d) f y = sym (behind_known m r2 t2 lacks f d (begun (suc m) r2 t2 f y))
chain_one n r t e (went_on m r2 q t2 u g d rest) f y =
    chain_one (suc m) q u g rest f (behind_known m r2 t2 (goes q u) f d (begun (suc m) r2 t2 f y))
chain_one n r t e (counted m r2 q t2 u g d rest) f y =
    chain_one m q u g rest f (behind_known m r2 t2 (counts q u) f d (begun (suc m) r2 t2 f y))

-- one thing comes of a turn
pub turn_one : (s : Scene) (i : ℕ) (ws : List ℕ) (e f : Option State) → Turn s i ws e → Turn s i ws f → e ≡ f
turn_one s i ws e f x y = chain_one 33 Instructing (start_of s i ws) e x f y
