-- Files written one after the other.
use Rattle.std.proofs.Common.{◌≡◌, ◌∙◌, ◌<◌, ◌+◌, ℕ, List, ◌∷◌, ap, drop, get_or, length, subst, sym, inl, inr}
use Rattle.std.proofs.lemmas.List.{drop_more}
use Rattle.zed_host.specs.Calls.{Writing}
use Rattle.zed_host.specs.HostContents.{HalfWritten}
use Rattle.zed_driver.specs.Effects.{Output}
use Rattle.zed_driver.specs.Hosts.{Hosts}
use Rattle.zed_driver.specs.Writes.{Broke, BrokeAmong, Wrote, WroteAll}

-- the next of the files
next_output : (fs : List Output) (k : ℕ) (f : Output) → k < length fs → f ≡ get_or fs k f → drop k fs ≡ f ∷ drop (k + 1) fs
next_output fs k f in_range is = drop_more fs k f in_range ∙ ap (λ x. x ∷ drop (k + 1) fs) (sym is)

-- one more was written, and behind it more may be
pub wrote_on : {H : Type 0} (h : Hosts H) (fs : List Output) (k : ℕ) (f : Output) (first old mid : H) → k < length fs → f ≡ get_or fs k f
    → Wrote h f old mid
    → ((new : H) → WroteAll h (drop k fs) old new → WroteAll h fs first new)
    → (new : H) → WroteAll h (drop (k + 1) fs) mid new → WroteAll h fs first new
wrote_on h fs k f first old mid in_range is wrote so new later =
    so new (subst (λ left. WroteAll h left old new) (sym (next_output fs k f in_range is)) (mid, wrote, later))

-- one of those failed
pub broke_on : {H : Type 0} (h : Hosts H) (fs : List Output) (k : ℕ) (f : Output) (first old mid : H) → k < length fs → f ≡ get_or fs k f
    → Wrote h f old mid
    → ((new : H) → BrokeAmong h (drop k fs) old new → BrokeAmong h fs first new)
    → (new : H) → BrokeAmong h (drop (k + 1) fs) mid new → BrokeAmong h fs first new
broke_on h fs k f first old mid in_range is wrote so new later =
    so new (subst (λ left. BrokeAmong h left old new) (sym (next_output fs k f in_range is)) (inr (mid, wrote, later)))

-- the next one failed
pub broke_at : {H : Type 0} (h : Hosts H) (fs : List Output) (k : ℕ) (f : Output) (first old new : H) → k < length fs → f ≡ get_or fs k f
    → Broke h (Writing f.name) (HalfWritten f.name f.bytes) old new
    → ((new : H) → BrokeAmong h (drop k fs) old new → BrokeAmong h fs first new) → BrokeAmong h fs first new
broke_at h fs k f first old new in_range is broke so =
    so new (subst (λ left. BrokeAmong h left old new) (sym (next_output fs k f in_range is)) (inl broke))
