use Rattle.std.proofs.Common.{◌≡◌, ◌<◌, ℕ, List, Option, Some, drop}
use Rattle.zed_op.specs.declared.op.Edit.{Edit}
use Rattle.zed_op.specs.Set.{AllFit}
use Rattle.zed_files.specs.Files.{IsStream, Stream, stream_after}
use Rattle.zed_files.specs.Collected.{CameInto, FirstIsThere, IsStreamIn, world_in}
use Rattle.zed_files.specs.Texts.{texts_of}
use Rattle.zed_host.specs.Counting.{Rose}
use Rattle.zed_host.specs.HostContents.{AreRead, HostContents}
use Rattle.zed_files.proofs.Asked.{ReadSoFar}
use Rattle.zed_files.proofs.collect.read_all.Given as goal

-- the host is as it was, the first file is there if one was read, what the edits read so far came to, and these, before what the other files come to, are the stream
abbrev pub invariant-loop-name : goal.invariant-loop-name
invariant-loop-name g l = record {
  same : g.H.Host.contents l.host ≡ g.H.Host.contents l.fn.host;
  calm : g.H.Host.faults l.host ≡ g.H.Host.faults l.fn.host;
  uncounted : g.H.Host.failed l.host ≡ g.H.Host.failed l.fn.host;
  there : (t : HostContents) → g.H.Host.contents l.fn.host ≡ Some t → 0 < l.name-index → FirstIsThere t (texts_of l.names);
  done : List Edit;
  fit : AllFit done;
  came : CameInto done l.gathered.feed l.gathered.clash;
  asked : ReadSoFar g.H.Host.called l.names l.name-index l.fn.host l.host;
  read : (t : HostContents) (now : ℕ) (rest : List (Option (List ℕ))) → g.H.Host.contents l.fn.host ≡ Some t
      → AreRead (Rose (g.H.Host.faults l.fn.host) now) t (texts_of (drop l.name-index l.names)) rest
      → (s : Stream) → IsStream (world_in l.gathered.feed) rest s
      → IsStreamIn (Rose (g.H.Host.faults l.fn.host) now) t (texts_of l.names) (stream_after done s);
}
