-- What deliveries come to doesn't depend on how often runs were looked at.
use Rattle.std.proofs.Common.{List, [], ◌∷◌, Result}
use mathlib.Core.Logic.{inl, inr}
use Rattle.zed_op.specs.declared.op.Edit.{Edit}
use Rattle.zed_document.specs.declared.error.DocumentError.{DocumentError}
use Rattle.zed_document.specs.Counts.{Counts}
use Rattle.zed_document.specs.Delivery.{DeliversEach, after_edit}
use Rattle.zed_document.specs.Replica.{Replica}

-- a document with other counts
abbrev pub with_counts : Counts → Replica → Replica
with_counts c d = record d { counts = c }

pub delivers_aside : (c : Counts) (d : Replica) (es : List Edit) (r : Result (Unit {0}) DocumentError) (left : List Edit)
    → DeliversEach (with_counts c d) es r left
    → DeliversEach d es r left
delivers_aside c d [] r left h = h
delivers_aside c d (e ∷ es) r left (inl one) = inl (one.0, one.1, delivers_aside c (after_edit e d) es r left one.2)
delivers_aside c d (e ∷ es) r left (inr one) = inr one
