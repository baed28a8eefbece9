-- What is built of an argument is one, where the argument is.
use Rattle.std.proofs.Common.{◌≡◌, ◌∙◌, ℕ, Bool, true, false, ◌||◌, List, Result, Ok, Err, OnErr, ap, sym, refl}
use Rattle.std.specs.Str.{bytes_eq}
use Rattle.std.proofs.lemmas.Slice.Eq.{bytes_eq-Decides}

-- this is built of an argument that ends at a place
abbrev pub Built : {A B : Type 0} → (A → B) → (A → ℕ → Type 0) → B → ℕ → Type 0
Built {A = A} make At b end = (a : A) × ((b ≡ make a) × At a end)

-- this is what it is, and ends at a place
abbrev pub Alone : {B : Type 0} → B → ℕ → B → ℕ → Type 0
Alone c at b end = (b ≡ c) × (end ≡ at)

pub built_one : {A B : Type 0} (make : A → B) (At : A → ℕ → Type 0) → ((a e : A) (m n : ℕ) → At a m → At e n → (a ≡ e) × (m ≡ n))
    → (b d : B) (m n : ℕ) → Built make At b m → Built make At d n
    → (b ≡ d) × (m ≡ n)
built_one make At one b d m n x y =
    let same = one x.0 y.0 m n x.1.1 y.1.1 in
    (x.1.0 ∙ (ap make same.0 ∙ sym y.1.0), same.1)

pub alone_one : {B : Type 0} (c : B) (at : ℕ) (b d : B) (m n : ℕ) → Alone c at b m → Alone c at d n → (b ≡ d) × (m ≡ n)
alone_one c at b d m n x y = (x.0 ∙ sym y.0, x.1 ∙ sym y.1)

-- of two tests the one passes, or the other
pub by_either : {X : Type 0} (a b : Bool) → (a ≡ true → X) → (b ≡ true → X) → (a || b) ≡ true → X
by_either true b one other e = one refl
by_either false b one other e = other e

-- a word that was found to be another
pub by_word : {X : Type 0} (w x : List ℕ) → (w ≡ x → X) → bytes_eq w x ≡ true → X
by_word w x found e = found ((bytes_eq-Decides w x).0 e)

-- what a refusal wants is wanted by a call that hands it on
pub on_err : {A E : Type 0} {X Y : Type 0} (r : Result A E) → (X → Y) → OnErr r X → OnErr r Y
on_err (Ok a) f x = x
on_err (Err e) f x = f x
