-- Counts that rise.
use Rattle.std.proofs.Common.{◌≤◌, ℕ, Bool, true, false, arith, inl, inr}
use Rattle.std.proofs.lemmas.Bool.{cases_lt}
use Rattle.zed_host.specs.Counting.{Counts, NothingFailed, Rose, most_counted}

-- a rise that comes later
pub rose_later : (old middle now : ℕ) → old ≤ middle → Rose middle now → Rose old now
rose_later old middle now up rose =
    let more = rose.0 in (
      omega arith,
      λ low. elim (cases_lt middle most_counted) [
        | inl below ↦ (let rises = rose.1 below in omega arith)
        | inr above ↦ omega arith
      ],
    )

-- a rise that came before
pub rose_before : (old middle now : ℕ) → middle ≤ now → Rose old middle → Rose old now
rose_before old middle now up rose = let more = rose.0 in (omega arith, λ low. let rises = rose.1 low in omega arith)

-- where nothing failed, nothing rose
pub no_rise : (old middle now : ℕ) → middle ≤ now → NothingFailed old now → Rose old middle → ⊥
no_rise old middle now up calm rose = let rises = rose.1 calm.1 in let same = calm.0 in omega arith

-- a call never lowers a count
pub counted_up : (failed : Bool) (old new : ℕ) → Counts failed old new → old ≤ new
counted_up true old new count = count.0
counted_up false old new count = omega (arith, count)
