-- Chains of looks, look by look.
use Rattle.std.proofs.Common.{◌≡◌, ◌<◌, ℕ, zero, suc, arith, sym, List, Some, None, Bool, true, false, Ok, Err, ◌⊎◌, inl, inr, subst}
use Rattle.zed_scene.specs.declared.stat.Stat.{Stat}
use Rattle.zed_scene.specs.declared.error.SceneError.{SceneError}
use Rattle.zed_scene.specs.declared.error.SceneError.TheVariants.{Memory, NoWords}
use Rattle.zed_scene.specs.Words.{Drawn}
use Rattle.zed_play.specs.declared.game.Game.{Game}
use Rattle.zed_play.specs.declared.key.Asked.{Asked}
use Rattle.zed_play.specs.Step.{Looks, LooksOn, looked, looked_at, next, over, lacked, used_up}
use Rattle.zed_play.specs.Tick.{LooksAt}

-- one look at a stat, and then the rest
pub look_goes : (k : Asked) (i : ℕ) (a : Stat) (g h m : Game) (ws left : List ℕ) → looked_at g ≡ Some a → i ≡ g.scene.ticking
    → LooksAt k i a g ws (Some (h, left)) → m ≡ next h
    → LooksOn (Ok true) k g ws m left
look_goes k i a g h m ws left is here at to =
    let P : Game → Type 0 = λ x. LooksOn (Ok true) k g ws x left in
    let Q : ℕ → Type 0 = λ x. LooksAt k x a g ws (Some (h, left)) in
    let r : LooksOn (Ok true) k g ws (next h) left = λ n e rest. looked k n a g h ws left e is (subst Q here at) rest in
    subst P (sym to) r

pub look_lacks : (k : Asked) (i : ℕ) (a : Stat) (g m : Game) (ws left : List ℕ) (x : SceneError) → looked_at g ≡ Some a
    → i ≡ g.scene.ticking → (x ≡ Memory) ⊎ ((x ≡ NoWords) × LooksAt k i a g ws None)
    → LooksOn (Err x) k g ws m left
look_lacks k i a g m ws left x is here (inl memory) = inl memory
look_lacks k i a g m ws left x is here (inr w) =
    let Q : ℕ → Type 0 = λ y. LooksAt k y a g ws None in
    inr (w.0, λ n. lacked k n a g ws is (subst Q here w.1))

pub look_ends : (k : Asked) (g : Game) (ws : List ℕ) → looked_at g ≡ None → LooksOn (Ok false) k g ws g ws
look_ends k g ws is = λ n. over k n g ws is

-- within a chain
pub chain_ends : (T : Drawn Game → Type 0) (k : Asked) (b : Bool) (g h : Game) (ws left : List ℕ) (n : ℕ) → LooksOn (Ok b) k g ws h left
    → b ≡ false → 0 < n → ((e : Drawn Game) → Looks k n g ws e → T e)
    → T (Some (h, left))
chain_ends T k b g h ws left zero looks is more further = absurd (omega arith)
chain_ends T k b g h ws left (suc n) looks is more further =
    let P : Bool → Type 0 = λ x. LooksOn (Ok x) k g ws h left in
    let end : (m : ℕ) → Looks k (suc m) g ws (Some (h, left)) = subst P is looks in
    further (Some (h, left)) (end n)

pub chain_lacks : (T : Drawn Game → Type 0) (k : Asked) (x : SceneError) (g h : Game) (ws left : List ℕ) (n : ℕ)
    → LooksOn (Err x) k g ws h left → 0 < n → ((e : Drawn Game) → Looks k n g ws e → T e)
    → (x ≡ Memory) ⊎ ((x ≡ NoWords) × T None)
chain_lacks T k x g h ws left zero looks more further = absurd (omega arith)
chain_lacks T k x g h ws left (suc n) (inl memory) more further = inl memory
chain_lacks T k x g h ws left (suc n) (inr w) more further = inr (w.0, further None (w.1 n))

pub chain_over : (T : Drawn Game → Type 0) (k : Asked) (g : Game) (ws : List ℕ) (n : ℕ) → n ≡ 0
    → ((e : Drawn Game) → Looks k n g ws e → T e)
    → T (Some (g, ws))
chain_over T k g ws n e further =
    let P : ℕ → Type 0 = λ m. Looks k m g ws (Some (g, ws)) in
    further (Some (g, ws)) (subst P (sym e) (used_up k g ws))
