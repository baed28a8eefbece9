-- Where a part finds something, the whole does.
use Rattle.std.proofs.Common.{◌≡◌, ℕ, zero, suc, ◌+◌, ◌<◌, true, List, [], ◌∷◌, ◌++◌, length, get_or, refl, arith, length-append}
use Rattle.zed_world.specs.declared.stat.StatData.{StatData}
use Rattle.std.specs.List.{flat_map}
use Rattle.zed_lint.specs.Found.{Wants, each_from}
use Rattle.zed_lint.specs.Labels.{is_lost, label_findings}
use Rattle.zed_lint.specs.declared.finding.Finding.{Finding}
use Rattle.zed_lint.specs.declared.finding.Spot.{Spot}

-- the part in front
pub front : (a b : List Finding) → 0 < length a → 0 < length (a ++ b)
front a b some = omega (arith, length-append a b)

-- the part behind
pub back : (a b : List Finding) → 0 < length b → 0 < length (a ++ b)
back a b some = omega (arith, length-append a b)

from : {X : Type 0} (find : ℕ → X → List Finding) (k i : ℕ) (xs : List X) (x : X) → i < length xs → get_or xs i x ≡ x
    → 0 < length (find (k + i) x)
    → 0 < length (each_from find k xs)
from find k i [] x within is some = absurd (omega arith)
from find k zero (y ∷ xs) x within is some = front (find k y) (each_from find (k + 1) xs) (let e : k + 0 ≡ k = omega arith in rw is (rw e at some))
from find k (suc i) (y ∷ xs) x within is some = back (find k y) (each_from find (k + 1) xs) (from find (k + 1) i xs x (omega arith) is (let e : k + 1 + i ≡ k + suc i = omega arith in rw e some))

-- a member of a list
pub member : {X : Type 0} (find : ℕ → X → List Finding) (i : ℕ) (xs : List X) (x : X) → i < length xs → get_or xs i x ≡ x
    → 0 < length (find i x)
    → 0 < length (each_from find 0 xs)
member find i xs x within is some = from find 0 i xs x within is (let e : 0 + i ≡ i = omega arith in rw e some)

same_or : {X : Type 0} (i : ℕ) (xs : List X) (d : X) → get_or xs i (get_or xs i d) ≡ get_or xs i d
same_or i [] d = refl
same_or zero (x ∷ xs) d = refl
same_or (suc i) (x ∷ xs) d = same_or i xs d

-- or the element at a place
pub member_at : {X : Type 0} (find : ℕ → X → List Finding) (i : ℕ) (xs : List X) (d : X) → i < length xs
    → 0 < length (find i (get_or xs i d))
    → 0 < length (each_from find 0 xs)
member_at find i xs d within some = member find i xs (get_or xs i d) within (same_or i xs d) some

-- a label that no program has
pub lost : (spot : Spot) (stats : List StatData) (p : List ℕ) (at byte : ℕ) → is_lost stats p at ≡ true
    → 0 < length (label_findings spot stats p at byte)
lost spot stats p at byte is = rw is (omega arith)

-- ---- memory for what is found, and for what is read

-- something is found
pub found : (f : List Finding) (r : List ℕ) → 0 < length f → Wants f r
found f r some = omega (arith, some)

-- something is read
pub read : (f : List Finding) (r : List ℕ) → 0 < length r → Wants f r
read f r some = omega (arith, some)

-- the part in front
pub wants_front : (a b : List Finding) (r : List ℕ) → Wants a r → Wants (a ++ b) r
wants_front a b r some = omega (arith, length-append a b, some)

-- the part behind
pub wants_back : (a b : List Finding) (r : List ℕ) → Wants b r → Wants (a ++ b) r
wants_back a b r some = omega (arith, length-append a b, some)

wants_from : {X : Type 0} (find : ℕ → X → List Finding) (bytes : X → List ℕ) (k i : ℕ) (xs : List X) (x : X) → i < length xs → get_or xs i x ≡ x
    → Wants (find (k + i) x) (bytes x)
    → Wants (each_from find k xs) (flat_map bytes xs)
wants_from find bytes k i [] x within is some = absurd (omega arith)
wants_from find bytes k zero (y ∷ xs) x within is some =
    let e : k + 0 ≡ k = omega arith in
    let here : Wants (find k y) (bytes y) = rw is (rw e at some) in
    omega (arith, here, length-append (find k y) (each_from find (k + 1) xs), length-append (bytes y) (flat_map bytes xs))
wants_from find bytes k (suc i) (y ∷ xs) x within is some =
    let e : k + 1 + i ≡ k + suc i = omega arith in
    let on = wants_from find bytes (k + 1) i xs x (omega arith) is (rw e some) in
    omega (arith, on, length-append (find k y) (each_from find (k + 1) xs), length-append (bytes y) (flat_map bytes xs))

-- a member of a list
pub wants_member : {X : Type 0} (find : ℕ → X → List Finding) (bytes : X → List ℕ) (i : ℕ) (xs : List X) (x : X) → i < length xs → get_or xs i x ≡ x
    → Wants (find i x) (bytes x)
    → Wants (each_from find 0 xs) (flat_map bytes xs)
wants_member find bytes i xs x within is some = wants_from find bytes 0 i xs x within is (let e : 0 + i ≡ i = omega arith in rw e some)

-- a member of which bytes are read
pub read_member : {X : Type 0} (bytes : X → List ℕ) (i : ℕ) (xs : List X) (x : X) → i < length xs → get_or xs i x ≡ x
    → 0 < length (bytes x)
    → 0 < length (flat_map bytes xs)
read_member bytes i [] x within is some = absurd (omega arith)
read_member bytes zero (y ∷ xs) x within is some =
    let here : 0 < length (bytes y) = rw is some in
    omega (arith, here, length-append (bytes y) (flat_map bytes xs))
read_member bytes (suc i) (y ∷ xs) x within is some =
    let on = read_member bytes i xs x (omega arith) is some in
    omega (arith, on, length-append (bytes y) (flat_map bytes xs))
