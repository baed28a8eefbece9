-- How many runs texts have, and how often these were looked at, after edits.
use Rattle.std.specs.Prelude.{◌≡◌, ◌≤◌, ℕ, ◌+◌, ◌*◌, true, false, List, length, count_by, Option, Some, None}
use Rattle.zed_types.specs.declared.names.TextId.{TextId}
use Rattle.zed_op.specs.declared.op.Edit.{Edit}
use Rattle.zed_code.specs.Pieces.{Shown}
use Rattle.zed_code.specs.Visits.{greatest}
use Rattle.zed_texts.specs.ByName.{text_in}
use Rattle.zed_texts.specs.Texts.{Texts, changes_text, AllGrow}
use Rattle.zed_delivery.specs.declared.take.Taken.{Taken}

-- how many of these edits change a text
abbrev pub edits_of : TextId → List Edit → ℕ
edits_of t es = count_by (λ e. changes_text t e.op) es

-- a text that may be there has at most one run, and two for each of so many edits, and a count that has room
abbrev pub HasFew : ℕ → Option Shown → Type 0
HasFew n None = Unit {0}
HasFew n (Some x) = (length x.cutting ≤ 2 * n + 1) × (x.visits ≤ greatest)

-- so each text, by the edits of it
abbrev pub HaveFew : List Edit → Texts → Type 0
HaveFew es ts = (t : TextId) → HasFew (edits_of t es) (text_in t ts)

-- a text that may be there stays, and its count doesn't fall
abbrev pub IsNoLess : Option Shown → Option Shown → Type 0
IsNoLess None o = Unit {0}
IsNoLess (Some x) None = ⊥
IsNoLess (Some x) (Some y) = x.visits ≤ y.visits

-- so each text
abbrev pub NoneFalls : Texts → Texts → Type 0
NoneFalls xs ys = (t : TextId) → IsNoLess (text_in t xs) (text_in t ys)

-- texts that are changed by an edit alone
abbrev pub AreWorkedBy : Edit → Texts → Texts → Type 0
AreWorkedBy e xs ys = AllGrow (λ t. changes_text t e.op) xs ys

-- texts that are changed by an edit first, and then by others
abbrev pub AreWorkedFirstBy : Edit → Texts → Texts → Type 0
AreWorkedFirstBy e xs ys = (mid : Texts) × AreWorkedBy e xs mid × NoneFalls mid ys

-- what an edit that a body took did to the texts: no count falls; where it waits it did nothing, and where it wakes none it is alone
pub record Works (e : Edit) (t : Taken) (xs ys : Texts) : Type 0 where
  pub none_falls : NoneFalls xs ys
  pub held : t.held ≡ true → ys ≡ xs
  pub done : t.held ≡ false → AreWorkedFirstBy e xs ys
  pub calm : t.held ≡ false → t.woken ≡ 0 → AreWorkedBy e xs ys
