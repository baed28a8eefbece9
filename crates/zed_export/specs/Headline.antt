-- The headline: what authors who work apart can count on.
use Rattle.std.specs.Prelude.{◌≡◌, ◌⊎◌, ℕ, ◌≤◌, false, List, Result, Ok, Err, IsOkAnd, MatchResult}
use Rattle.zed_types.specs.Limits.{largest_body}
use Rattle.zed_world.specs.Reading.{world_at}
use Rattle.zed_op.specs.declared.op.Edit.{Edit}
use Rattle.zed_op.specs.Set.{Agrees, AllFit, IsRising, set_of, union}
use Rattle.zed_op.specs.SetLaws.{HaveTheSame}
use Rattle.zed_op.specs.Sizes.{HaveSizes}
use Rattle.zed_edit.specs.declared.plain.Plain.{Plain}
use Rattle.zed_edit.specs.Replay.{replay, held}
use Rattle.zed_history.specs.Clash.{Agree}
use Rattle.zed_document.specs.Replica.{Replica}
use Rattle.zed_export.specs.declared.error.ExportError.{ExportError}
use Rattle.zed_export.specs.declared.error.ExportError.TheVariants.{Memory}
use Rattle.zed_export.specs.Limits.{saved}
use Rattle.zed_export.specs.World.{world_of}

-- what authors make: edits that fit, with numbers of the sizes of their types, and never two different ones with one stamp
pub record AreAuthored (es : List Edit) : Type 0 where
  pub fit : AllFit es
  pub sizes : HaveSizes es
  pub agree : Agrees es

-- what is saved of the set of such edits is read as the exported world
abbrev pub AuthoredIsRead : Type 0
AuthoredIsRead = (limit : ℕ) (es : List Edit) (file : List ℕ)
    → AreAuthored es → limit ≤ largest_body → saved limit (replay (set_of es)) ≡ Ok file
    → world_at file ≡ Ok (world_of (replay (set_of es)))

-- two replicas of one world, neither stale, that accepted the same edits, however they came by them
pub record HaveAcceptedTheSame (d o : Replica) : Type 0 where
  pub world : d.world ≡ o.world
  pub sound : d.is_stale ≡ false
  pub other_sound : o.is_stale ≡ false
  pub edits : HaveTheSame d.edits o.edits

-- what is shown is the document of one author who makes these edits one after the other, in stamp order
abbrev pub IsOneAuthors : List Edit → Plain → Type 0
IsOneAuthors es p = (made : List Edit) → IsRising made → HaveTheSame made es → p ≡ replay made

-- and what is held back are the edits that this author passes over
abbrev pub HoldsOneAuthors : List Edit → Type 0
HoldsOneAuthors es = (made : List Edit) → IsRising made → HaveTheSame made es → held es ≡ held made

-- two answers are alike, want of memory aside: equal values, or the same refusal
abbrev pub AreAlike : {X Y : Type 0} → (X → Y) → Result X ExportError → Result X ExportError → Type 0
AreAlike view a b =
    (a ≡ Err Memory) ⊎ ((b ≡ Err Memory)
    ⊎ MatchResult a (λ x. IsOkAnd b (λ y. view x ≡ view y)) (λ e. b ≡ Err e))

-- what one replica is after it has taken in another
pub record IsMergeOf (d o merged : Replica) : Type 0 where
  pub rising : IsRising d.edits
  pub other_rising : IsRising o.edits
  pub agree : Agree d.edits o.edits
  pub world : merged.world ≡ d.world
  pub one_world : d.world ≡ o.world
  pub edits : merged.edits ≡ union d.edits o.edits
  pub sound : merged.is_stale ≡ false

-- it doesn't matter which of two replicas takes in the other
abbrev pub MergingCommutes : Type 0
MergingCommutes = (d o one other : Replica) → IsMergeOf d o one → IsMergeOf o d other → HaveAcceptedTheSame one other

-- nor which two of three are merged first
abbrev pub MergingAssociates : Type 0
MergingAssociates = (a b c ab bc first last : Replica)
    → IsMergeOf a b ab → IsMergeOf ab c first → IsMergeOf b c bc → IsMergeOf a bc last → HaveAcceptedTheSame first last

-- a replica that takes in itself, or again what it took in, is as it was
abbrev pub MergingRepeats : Type 0
MergingRepeats = (d o one again : Replica)
    → IsMergeOf d o one → IsMergeOf one o again → HaveAcceptedTheSame again one

-- a replica that takes in itself is as it was
abbrev pub MergingItself : Type 0
MergingItself = (d one : Replica) → d.is_stale ≡ false → IsMergeOf d d one → HaveAcceptedTheSame one d
