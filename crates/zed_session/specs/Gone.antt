-- What was done to a link that is let go.
use Rattle.std.specs.Prelude.{◌≡◌, ℕ, List, Option, None, Err, length, slice_index_or}
use Rattle.zed_host.specs.Counting.{Counts}
use Rattle.zed_link.specs.Counting.{Faulted}
use Rattle.zed_link.specs.Ends.{Changed, LinkEnds, TookFront}
use Rattle.zed_link.specs.Refusals.{is_fault}
use Rattle.zed_link.specs.Writing.{WritesAtMost}
use Rattle.zed_link.specs.declared.error.LinkError.{LinkError}
use Rattle.zed_link.specs.declared.pulled.Pulled.{Pulled}
use Rattle.zed_link.specs.declared.writes.Writes.{Writes}

-- what a link tells: its ends, and how many reads, writes, failed calls and writes that took none of some bytes there were
pub record LinkTold : Type 0 where
  pub ends : Option LinkEnds
  pub reads : ℕ
  pub writes : Writes
  pub failed : ℕ
  pub stalls : ℕ

-- a link that tells this
abbrev pub told : Option LinkEnds → ℕ → Writes → ℕ → ℕ → LinkTold
told ends reads writes failed stalls = record { ends = ends; reads = reads; writes = writes; failed = failed; stalls = stalls }

-- what the link of this place tells, by what all links tell
abbrev pub told_at : ℕ → List LinkTold → LinkTold
told_at i links = slice_index_or links i (told None 0 (record { made = 0; empty = 0 }) 0 0)

-- bytes were sent over a link up to a write that failed, or took none: a front of them was taken, and nothing else was asked of it
pub record FailedToSend (bytes : List ℕ) (old new : LinkTold) : Type 0 where
  pub ends : Changed (TookFront bytes) old.ends new.ends
  pub fault : Faulted old.failed new.failed old.stalls new.stalls
  pub writes : WritesAtMost (length bytes) old.writes new.writes
  pub reads : new.reads ≡ old.reads

-- a pull over a link was refused: only a read failed, and only where the link is told to have, and nothing was written to it
pub record FailedToReceive (e : LinkError) (old new : LinkTold) : Type 0 where
  pub fault : Counts (is_fault {X = Pulled} (Err e)) old.failed new.failed
  pub writes : new.writes ≡ old.writes
  pub stalls : new.stalls ≡ old.stalls
