-- What comes of all that is read, one thing after the other.
use Rattle.std.proofs.Common.{◌≡◌, ◌∙◌, ℕ, zero, suc, ◌-◌, ◌<◌, ◌≤◌, List, [], ◌++◌, Option, Some, None, append_assoc, arith, sym}
use Rattle.std.proofs.lemmas.List.{append-nil}
use Rattle.zed_lint.specs.Reading.{along, next_reading, read_at}
use Rattle.zed_lint.specs.declared.reading.Reading.{Reading}

-- one thing more was read
pub goes_on : {X : Type 0} (find : List ℕ → Reading → List X) (p : List ℕ) (n : ℕ) (o next : Option Reading) (r : Reading) (old new all : List X)
    → 0 < n
    → o ≡ Some r
    → old ++ along find p n o ≡ all
    → new ≡ old ++ find p r
    → next ≡ next_reading (read_at p r) r
    → new ++ along find p (n - 1) next ≡ all
goes_on find p zero o next r old new all some is before here on = absurd (omega arith)
goes_on find p (suc n) o next r old new all some is before here on =
    let e : suc n - 1 ≡ n = omega arith in
    let rest = along find p n (next_reading (read_at p r) r) in
    let now : old ++ (find p r ++ rest) ≡ all = rw is at before in
    rw (e, here, on) (append_assoc old (find p r) rest ∙ now)

-- nothing is read any more
pub stops : {X : Type 0} (find : List ℕ → Reading → List X) (p : List ℕ) (n : ℕ) (o : Option Reading) (old all : List X)
    → o ≡ None
    → old ++ along find p n o ≡ all
    → old ≡ all
stops find p zero o old all is before = sym (append-nil old) ∙ before
stops find p (suc n) o old all is before =
    let now : old ++ [] ≡ all = rw is at before in
    sym (append-nil old) ∙ now

-- no more may be read
pub ends : {X : Type 0} (find : List ℕ → Reading → List X) (p : List ℕ) (n : ℕ) (o : Option Reading) (old all : List X)
    → n ≤ 0
    → old ++ along find p n o ≡ all
    → old ≡ all
ends find p zero o old all none before = sym (append-nil old) ∙ before
ends find p (suc n) o old all none before = absurd (omega arith)
