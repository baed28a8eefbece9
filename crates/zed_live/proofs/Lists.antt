-- What is found in lists, and what all or some pass where one more is put in.
use Rattle.std.proofs.Common.{◌≡◌, ◌∙◌, ◌||◌, Bool, true, false, List, [], ◌∷◌, ◌++◌, find, Some, refl, ap, subst, true≢false}
use Rattle.std.specs.List.{AllByRecursion, list_any}
use Rattle.zed_types.proofs.Facts.{some_is, or_right}

-- ---- options

-- ---- what is found

-- what is found passes the test
pub found-passes : {X : Type 0} (q : X → Bool) (xs : List X) (x : X) → find q xs ≡ Some x → q x ≡ true
found-passes q [] x h = absurd (cc)
found-passes q (y ∷ xs) x h = go (q y) refl (found-passes q xs x)
  where
    go : (b : Bool) → q y ≡ b → (find q xs ≡ Some x → q x ≡ true) → q x ≡ true
    go true b more = let k : Some y ≡ Some x = rw b at h in subst (λ z. q z ≡ true) (some_is y x k) b
    go false b more = more (rw b at h)

-- ---- one more

pub all-insert : {X : Type 0} (P : X → Type 0) (low : List X) (e : X) (high : List X) → P e → AllByRecursion P (low ++ high)
    → AllByRecursion P (low ++ e ∷ high)
all-insert P [] e high p a = (p, a)
all-insert P (x ∷ low) e high p a = (a.0, all-insert P low e high p a.1)

pub here-all : {X : Type 0} (P : X → Type 0) (low : List X) (e : X) (high : List X) → AllByRecursion P (low ++ e ∷ high) → P e
here-all P [] e high a = a.0
here-all P (x ∷ low) e high a = here-all P low e high a.1

-- some pass with one more where it does, or some did
pub any-late : {X : Type 0} (q : X → Bool) (low : List X) (e : X) (high : List X)
    → list_any q (low ++ e ∷ high) ≡ (q e || list_any q (low ++ high))
any-late q [] e high = refl
any-late q (f ∷ low) e high = ap (λ v. q f || v) (any-late q low e high) ∙ swap (q f) (q e) (list_any q (low ++ high))
  where
    swap : (a b c : Bool) → (a || (b || c)) ≡ (b || (a || c))
    swap true true c = refl
    swap true false c = refl
    swap false b c = refl

-- what some pass, some pass with one more
pub any-insert : {X : Type 0} (q : X → Bool) (low : List X) (e : X) (high : List X) → list_any q (low ++ high) ≡ true
    → list_any q (low ++ e ∷ high) ≡ true
any-insert q low e high h = any-late q low e high ∙ or_right (q e) (list_any q (low ++ high)) h

pub any-here : {X : Type 0} (q : X → Bool) (low : List X) (e : X) (high : List X) → q e ≡ true → list_any q (low ++ e ∷ high) ≡ true
any-here q low e high h = any-late q low e high ∙ ap (λ v. v || list_any q (low ++ high)) h

-- what none passes, none passes with one more that doesn't
pub any-beside : {X : Type 0} (q : X → Bool) (low : List X) (e : X) (high : List X) → q e ≡ false
    → list_any q (low ++ e ∷ high) ≡ list_any q (low ++ high)
any-beside q low e high h = any-late q low e high ∙ ap (λ v. v || list_any q (low ++ high)) h

-- what follows of a test for each, follows for some
pub any-follows : {X : Type 0} (p q : X → Bool) → ((x : X) → p x ≡ true → q x ≡ true) → (xs : List X) → list_any p xs ≡ true
    → list_any q xs ≡ true
any-follows p q follows [] h = h
any-follows p q follows (x ∷ xs) h = go (p x) refl h (λ k. any-follows p q follows xs k)
  where
    go : (b : Bool) → p x ≡ b → (b || list_any p xs) ≡ true → (list_any p xs ≡ true → list_any q xs ≡ true) → (q x || list_any q xs) ≡ true
    go true b k more = ap (λ v. v || list_any q xs) (follows x b)
    go false b k more = or_right (q x) (list_any q xs) (more k)

-- what each fails, none passes
pub any-none : {X : Type 0} (P : X → Type 0) (q : X → Bool) → ((x : X) → P x → q x ≡ false) → (xs : List X) → AllByRecursion P xs
    → list_any q xs ≡ false
any-none P q fails [] a = refl
any-none P q fails (x ∷ xs) a = ap (λ v. v || list_any q xs) (fails x a.0) ∙ any-none P q fails xs a.1

-- what none passes, each fails
pub none-any : {X : Type 0} (q : X → Bool) (xs : List X) → list_any q xs ≡ false → AllByRecursion (λ x. q x ≡ false) xs
none-any q [] h = tt
none-any q (x ∷ xs) h = go (q x) refl h (λ k. none-any q xs k)
  where
    go : (b : Bool) → q x ≡ b → (b || list_any q xs) ≡ false → (list_any q xs ≡ false → AllByRecursion (λ y. q y ≡ false) xs)
        → AllByRecursion (λ y. q y ≡ false) (x ∷ xs)
    go true b k more = absurd (true≢false k)
    go false b k more = (b, more k)
