-- Chains of instructions, step by step.
use Rattle.std.proofs.Common.{◌≡◌, ◌<◌, ℕ, zero, suc, arith, sym, Option, Some, None, Ok, ◌⊎◌, inl, inr, subst}
use Rattle.zed_scene.specs.declared.error.SceneError.{SceneError}
use Rattle.zed_scene.specs.declared.error.SceneError.TheVariants.{Memory, NoWords}
use Rattle.zed_oop.specs.declared.turning.After.{After}
use Rattle.zed_oop.specs.declared.turning.After.TheVariants.{Ends, Goes, Counts}
use Rattle.zed_oop.specs.declared.turning.Reading.{Reading}
use Rattle.zed_oop.specs.Turn.{Chain, Does, Runs, State, after, finished, used_up, counted, ended, lacked, lacks, went_on}

pub step_ends : (r : Reading) (t u : State) (a : After) (n : ℕ) → Does r t (after a u) → a ≡ Ends → Chain (suc n) r t (Some u)
step_ends r t u a n d e = let P : After → Type 0 = λ x. Does r t (after x u) in ended n r t u (subst P e d)

pub step_counts : (r q : Reading) (t u : State) (a : After) (n : ℕ) (e : Option State) → Does r t (after a u) → a ≡ Counts q → Chain n q u e
    → Chain (suc n) r t e
step_counts r q t u a n e d h rest = let P : After → Type 0 = λ x. Does r t (after x u) in counted n r q t u e (subst P h d) rest

pub step_goes : (r q : Reading) (t u : State) (a : After) (n : ℕ) (e : Option State) → Does r t (after a u) → a ≡ Goes q
    → Chain (suc n) q u e
    → Chain (suc n) r t e
step_goes r q t u a n e d h rest = let P : After → Type 0 = λ x. Does r t (after x u) in went_on n r q t u e (subst P h d) rest

-- a step that lacked a word, at the end of what is known to lead to it
pub step_lacks : (s r : Reading) (b t : State) (x : SceneError) → ((n : ℕ) (e : Option State) → Chain (suc n) r t e → Chain (suc n) s b e)
    → (x ≡ Memory) ⊎ ((x ≡ NoWords) × Does r t lacks)
    → (x ≡ Memory) ⊎ ((x ≡ NoWords) × ((n : ℕ) → Chain (suc n) s b None))
step_lacks s r b t x further (inl memory) = inl memory
step_lacks s r b t x further (inr w) = inr (w.0, λ n. further n None (lacked n r t w.1))

-- a run to a command word that lacked one, within a turn
pub run_lacks : (T : Option State → Type 0) (r : Reading) (t : State) (x : SceneError) (k : ℕ) → 0 < k
    → ((e : Option State) → Chain k r t e → T e) → (x ≡ Memory) ⊎ ((x ≡ NoWords) × ((m : ℕ) → Chain (suc m) r t None))
    → (x ≡ Memory) ⊎ ((x ≡ NoWords) × T None)
run_lacks T r t x k h further (inl memory) = inl memory
run_lacks T r t x zero h further (inr w) = absurd (omega arith)
run_lacks T r t x (suc n) h further (inr w) = inr (w.0, further None (w.1 n))

-- a run in which the turn ended
pub run_ends : (T : Option State → Type 0) (r : Reading) (t u : State) (o : Option Reading) (k : ℕ) → Runs (Ok o) r t u → o ≡ None → 0 < k
    → ((e : Option State) → Chain k r t e → T e)
    → T (Some u)
run_ends T r t u o zero runs e h further = absurd (omega arith)
run_ends T r t u o (suc n) runs e h further =
    let P : Option Reading → Type 0 = λ x. Runs (Ok x) r t u in
    let ended_runs : (m : ℕ) → Chain (suc m) r t (Some u) = subst P e runs in
    further (Some u) (ended_runs n)

-- all command words were read
pub all_read : (T : Option State → Type 0) (r : Reading) (t : State) (k : ℕ) → k ≡ 0 → ((e : Option State) → Chain k r t e → T e)
    → T (Some (finished r t))
all_read T r t k e further =
    let P : ℕ → Type 0 = λ n. Chain n r t (Some (finished r t)) in
    further (Some (finished r t)) (subst P (sym e) (used_up r t))

-- a run to a command word, within a turn
pub run_goes : (T : Option State → Type 0) (r q : Reading) (t u : State) (o : Option Reading) (m k : ℕ) → Runs (Ok o) r t u → o ≡ Some q
    → k ≡ suc m → ((e : Option State) → Chain k r t e → T e) → (e : Option State) → Chain m q u e
    → T e
run_goes T r q t u o m k runs is count further e rest =
    let P : Option Reading → Type 0 = λ x. Runs (Ok x) r t u in
    let on : (n : ℕ) (f : Option State) → Chain n q u f → Chain (suc n) r t f = subst P is runs in
    let Q : ℕ → Type 0 = λ n. Chain n r t e in
    further e (subst Q (sym count) (on m e rest))
