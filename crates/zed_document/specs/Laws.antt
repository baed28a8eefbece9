-- What holds of documents, whatever their edits.
use Rattle.std.specs.Prelude.{◌≡◌, ℕ, false, List, [], ◌∷◌, ◌++◌}
use Rattle.zed_op.specs.declared.op.Edit.{Edit}
use Rattle.zed_op.specs.Set.{Agrees, IsRising, with_edit, union, set_of}
use Rattle.zed_op.specs.SetLaws.{HaveTheSame}
use Rattle.zed_history.specs.Clash.{Agree}
use Rattle.zed_document.specs.Counts.{Counts}
use Rattle.zed_document.specs.Replica.{Replica}
use Rattle.zed_document.specs.Same.{AreAlike, AreSame}

-- one document with the edits of another
abbrev pub merged : Replica → Replica → Replica
merged d o = record d { edits = union d.edits o.edits }

-- two documents of one world whose edits agree
abbrev pub CanMerge : Replica → Replica → Type 0
CanMerge d o = (d.world ≡ o.world) × IsRising d.edits × IsRising o.edits × Agree d.edits o.edits

-- it doesn't matter which of two takes in the other
abbrev pub MergeCommutes : Type 0
MergeCommutes = (d o : Replica) → CanMerge d o → AreSame (merged d o) (merged o d)

-- of three any two may be merged first
abbrev pub MergeAssociates : Type 0
MergeAssociates = (a b c : Replica) → CanMerge a b → CanMerge b c → CanMerge a c → AreSame (merged (merged a b) c) (merged a (merged b c))

-- to take in the same again changes nothing
abbrev pub MergeRepeats : Type 0
MergeRepeats = (d o : Replica) → CanMerge d o → AreSame (merged (merged d o) o) (merged d o)

-- nor does a document that takes in itself
abbrev pub MergeOfItself : Type 0
MergeOfItself = (d : Replica) → IsRising d.edits → AreSame (merged d d) d

-- whatever brought them there, documents of one world with the same edits are the same
abbrev pub EditsDecide : Type 0
EditsDecide = (d o : Replica) → d.world ≡ o.world → d.edits ≡ o.edits → AreSame d o

-- a document to which these edits were delivered, one after the other, however often its runs were looked at
abbrev pub document_of : ℕ → Counts → List Edit → Replica
document_of world counts es = record { world = world; edits = set_of es; is_stale = false; counts = counts }

-- it is made by one delivery after the other
abbrev pub DeliveriesMakeIt : Type 0
DeliveriesMakeIt = (world : ℕ) (c k : Counts) (es : List Edit) (e : Edit) → (document_of world c (es ++ e ∷ [])).edits ≡ with_edit e (document_of world k es).edits

-- a merge is as all deliveries of both
abbrev pub MergeIsDeliveries : Type 0
MergeIsDeliveries = (world : ℕ) (b c k : Counts) (es fs : List Edit) → Agrees (es ++ fs) → AreAlike (merged (document_of world b es) (document_of world c fs)) (document_of world k (es ++ fs))

-- neither the order of deliveries nor their repeats count
abbrev pub OrderNeverCounts : Type 0
OrderNeverCounts = (world : ℕ) (c k : Counts) (es fs : List Edit) → Agrees es → HaveTheSame es fs → AreSame (document_of world c es) (document_of world k fs)
