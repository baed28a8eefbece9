-- What a pull comes to doesn't depend on how often the document's runs were looked at.
use Rattle.std.proofs.Common.{ℕ, List, Option, Result, Ok, Err}
use mathlib.Core.Logic.{inl, inr}
use Rattle.zed_op.specs.declared.op.Edit.{Edit}
use Rattle.zed_editfile.specs.Stream.{Progress}
use Rattle.zed_document.specs.declared.error.DocumentError.TheVariants as document
use Rattle.zed_document.specs.Counts.{Counts}
use Rattle.zed_document.specs.Replica.{Replica}
use Rattle.zed_document.proofs.CountsAside.{delivers_aside, with_counts}
use Rattle.zed_link.specs.declared.error.LinkError.{LinkError}
use Rattle.zed_link.specs.declared.error.LinkError.TheVariants.{Memory, Magic, NewVersion, OtherWorld, RecordLength, BadEdit, CutShort, Clash, Stale, LinkFault, TooManyTurns}
use Rattle.zed_link.specs.declared.pulled.Pulled.{Pulled}
use Rattle.zed_link.specs.Ends.{LinkEnds}
use Rattle.zed_link.specs.Pull.{AllDelivered, LeavesDocument, Pull, StopsForMemory}

all_aside : (c : Counts) (d : Replica) (es left : List Edit) → AllDelivered (with_counts c d) es left → AllDelivered d es left
all_aside c d es left h = delivers_aside c d es (Ok tt) left h

stops_aside : (c : Counts) (d : Replica) (es left : List Edit) → StopsForMemory (with_counts c d) es left → StopsForMemory d es left
stops_aside c d es left (front, e, rest, is, all, may) = (front, e, rest, is, all_aside c d front left all, may)

leaves_aside : (c : Counts) (d : Replica) (bytes : List ℕ) (es : List Edit) (p : Progress) (r : Result Pulled LinkError) (left : List Edit)
    → LeavesDocument (with_counts c d) bytes es p r left → LeavesDocument d bytes es p r left
leaves_aside c d bytes es p (Ok pulled) left h = (h.0, h.1, all_aside c d es left h.2, h.3)
leaves_aside c d bytes es p (Err LinkFault) left h = (h.0, all_aside c d es left h.1)
leaves_aside c d bytes es p (Err TooManyTurns) left h = (h.0, all_aside c d es left h.1)
leaves_aside c d bytes es p (Err Magic) left h = (h.0, all_aside c d es left h.1)
leaves_aside c d bytes es p (Err NewVersion) left h = (h.0, all_aside c d es left h.1)
leaves_aside c d bytes es p (Err OtherWorld) left h = (h.0, all_aside c d es left h.1)
leaves_aside c d bytes es p (Err RecordLength) left h = (h.0, all_aside c d es left h.1)
leaves_aside c d bytes es p (Err (BadEdit cause)) left h = (h.0, all_aside c d es left h.1)
leaves_aside c d bytes es p (Err CutShort) left h = (h.0, all_aside c d es left h.1)
leaves_aside c d bytes es p (Err (Clash s)) left h = delivers_aside c d es (Err (document.Clash s)) left h
leaves_aside c d bytes es p (Err Memory) left h =
    elim h [ inl s ↦ inl (stops_aside c d es left s) | inr q ↦ inr (q.0, all_aside c d es left q.1) ]
leaves_aside c d bytes es p (Err Stale) left h = h

pub pull_aside : (c : Counts) (d : Replica) (old new : Option LinkEnds) (count count' : ℕ) (r : Result Pulled LinkError) (left : List Edit)
    → Pull (with_counts c d) old new count count' r left → Pull d old new count count' r left
pull_aside c d old new count count' r left p = record {
  handed = p.handed;
  pieces = p.pieces;
  reads = p.reads;
  edits = p.edits;
  reader = p.reader;
  asks = p.asks;
  spells = p.spells;
  size = p.size;
  made = p.made;
  counted = p.counted;
  link = p.link;
  memory_only_when = p.memory_only_when;
  document = leaves_aside c d p.handed p.edits p.reader r left p.document;
}
