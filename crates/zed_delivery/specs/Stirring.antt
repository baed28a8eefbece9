-- What a cascade does to the texts of a body.
use Rattle.std.specs.Prelude.{◌≡◌, ◌≤◌, ◌<◌, ◌⊎◌, ℕ, ◌+◌, length}
use Rattle.zed_op.specs.declared.op.Edit.{Edit}
use Rattle.zed_delivery.specs.declared.body.Body.{Body}
use Rattle.zed_delivery.specs.Counts.{NoneFalls, AreWorkedBy, AreWorkedFirstBy}

-- so many edits in hand are tried: no count falls, and unless the texts are as before, not all of them wait beside those that waited
pub record Stirs (n : ℕ) (b c : Body) : Type 0 where
  pub none_falls : NoneFalls b.texts c.texts
  pub fewer : ((c.texts ≡ b.texts) × (length c.inbox ≤ length b.inbox + n)) ⊎ (length c.inbox < length b.inbox + n)

-- an edit is done, with all that it wakes: no count falls, and where no fewer wait than before, the texts change by it alone
pub record IsDoneWithAll (e : Edit) (b c : Body) : Type 0 where
  pub none_falls : NoneFalls b.texts c.texts
  pub first : AreWorkedFirstBy e b.texts c.texts
  pub alone : length b.inbox ≤ length c.inbox → AreWorkedBy e b.texts c.texts
