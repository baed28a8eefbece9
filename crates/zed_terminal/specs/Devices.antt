-- What a terminal and a source of chance tell.
use Rattle.std.specs.Prelude.{◌≡◌, ◌⊎◌, ◌+◌, ℕ, List, [], ◌∷◌, ◌++◌, Option, length, option_map}
use Rattle.zed_host.specs.Counting.{Rose}

-- a text was drawn behind those before, if the terminal tells what was drawn
abbrev pub drawing : List ℕ → Option (List (List ℕ)) → Option (List (List ℕ))
drawing text = option_map (λ texts. texts ++ text ∷ [])

-- a terminal was left once more, if it tells how often it was
abbrev pub once_more : Option ℕ → Option ℕ
once_more = option_map (λ times. times + 1)

-- it was left once, or not at all
abbrev pub AtMostOnce : Option ℕ → Option ℕ → Type 0
AtMostOnce old new = (new ≡ old) ⊎ (new ≡ once_more old)

-- these words came from a source of chance, the first that were to come, if it tells them
abbrev pub Brings : List ℕ → Option (List ℕ) → Option (List ℕ) → Type 0
Brings came old new = old ≡ option_map (λ rest. came ++ rest) new

-- what a source of chance tells: the words that are to come, if it tells them, and how many of its calls failed
pub record Chances : Type 0 where
  pub to_come : Option (List ℕ)
  pub failures : ℕ

-- a source that tells this
abbrev pub chances : Option (List ℕ) → ℕ → Chances
chances to_come failures = record { to_come = to_come; failures = failures }

-- these words came from it, and no call of it failed
abbrev pub Supplies : List ℕ → Chances → Chances → Type 0
Supplies came old new = Brings came old.to_come new.to_come × (new.failures ≡ old.failures)

-- how many words come for one step at most
abbrev pub most_words : ℕ
most_words = 131072

-- these words came from it, and no more: a call of it failed, or these are as many as may come for one step
abbrev pub GivesOut : List ℕ → Chances → Chances → Type 0
GivesOut came old new =
    Brings came old.to_come new.to_come × (Rose old.failures new.failures ⊎ ((length came ≡ most_words) × (new.failures ≡ old.failures)))
