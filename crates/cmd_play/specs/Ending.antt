-- What comes of a board that is played and kept.
use Rattle.std.specs.Prelude.{◌≡◌, ◌⊎◌, ℕ, List, Option, Some, None, Result, Ok, Err, ⊤}
use Rattle.zed_terminal.specs.declared.moves.Move.{Move}
use Rattle.zed_files.specs.declared.refusal.Refusal.{Refusal}
use Rattle.zed_files.specs.declared.refusal.Refusal.TheVariants.{File, Memory}
use Rattle.zed_host.specs.HostContents.{HalfPrinted, HostContents, StillTells, with_printed}
use Rattle.zed_terminal.specs.declared.input.Size.{Size}
use Rattle.zed_terminal.specs.Course.{Point}
use Rattle.zed_terminal.specs.Record.{moves_in, words_in}
use Rattle.zed_terminal.specs.Report.{report_of}
use Rattle.zed_terminal.specs.Stage.{Stage, behind_kept, stage}
use Rattle.cmd_play.specs.declared.opening.Going.{Going}
use Rattle.cmd_play.specs.Boards.{IsPerformed}
use Rattle.cmd_play.specs.Kept.{HalfRecorded, kept_in, with_record}
use Rattle.cmd_play.specs.Led.{Led}

-- what is asked to be played: the names of the files that the playtest is kept in, whether it goes on over boards, how large the terminal is, the board, and
-- the files of its world
pub record Request : Type 0 where
  pub words : Option (List ℕ)
  pub keys : Option (List ℕ)
  pub going : Going
  pub size : Size
  pub board : ℕ
  pub files : List (List ℕ)

-- this is asked for
abbrev pub request : Option (List ℕ) → Option (List ℕ) → Going → Size → ℕ → List (List ℕ) → Request
request words keys going size board files = record { words = words; keys = keys; going = going; size = size; board = board; files = files }

-- a stage where keys come before what is typed
abbrev pub with_keys : List Move → Stage → Stage
with_keys keys s = stage s.drawn s.terminal (behind_kept keys s.inputs) None s.chance

-- the board is played by what is kept, and then by what is typed
abbrev pub IsPlayed : Type 0 → HostContents → Request → Led → Result Point Refusal → Type 0
IsPlayed failed t q l r =
    IsPerformed failed t q.going q.board q.size (words_in (kept_in t q.words)) q.files (with_keys (moves_in (kept_in t q.keys)) l.before) (with_keys l.rest l.behind) r

-- what a host holds once a playtest is kept
abbrev pub kept_after : Request → Led → Point → HostContents → HostContents
kept_after q l p t = with_record q.words q.keys p l.rest t

-- and once it is told of, too
abbrev pub told_after : Request → Led → Point → HostContents → HostContents
told_after q l p t = with_printed (report_of p.play) (kept_after q l p t)

-- a playtest is refused, which leaves all as it was: for want of memory; or what is kept of it can't be read, and nothing is played; or on its way
abbrev pub RefusedBefore : Type 0 → HostContents → Request → Led → Refusal → HostContents → Type 0
RefusedBefore failed t q l e u =
    (u ≡ t) × ((e ≡ Memory) ⊎ ((e ≡ File) × failed × (l.behind ≡ l.before)) ⊎ IsPlayed failed t q l (Err e))

-- the host fails where it is kept
abbrev pub FailedToKeep : Type 0 → HostContents → Request → Led → Refusal → HostContents → Type 0
FailedToKeep failed t q l e u =
    failed × (e ≡ File) × ((p : Point) × IsPlayed failed t q l (Ok p) × HalfRecorded q.words q.keys p l.rest t u)

-- or where it is told of
abbrev pub FailedToTell : Type 0 → HostContents → Request → Led → Refusal → HostContents → Type 0
FailedToTell failed t q l e u =
    failed × (e ≡ File) × ((p : Point) × IsPlayed failed t q l (Ok p) × HalfPrinted (report_of p.play) (kept_after q l p t) u)

-- a board that is played and kept, and of which this is to be told, ends so
abbrev pub EndsKept : Type 0 → HostContents → Request → Led → Result (List ℕ) Refusal → Option HostContents → Type 0
EndsKept failed t q l (Ok text) new =
    (p : Point) × IsPlayed failed t q l (Ok p) × (text ≡ report_of p.play) × (new ≡ Some (kept_after q l p t))
EndsKept failed t q l (Err e) new = StillTells (λ u. RefusedBefore failed t q l e u ⊎ FailedToKeep failed t q l e u) new

-- and so does one of which it is told
abbrev pub EndsPlay : Type 0 → HostContents → Request → Led → Result ⊤ Refusal → Option HostContents → Type 0
EndsPlay failed t q l (Ok u) new = (p : Point) × IsPlayed failed t q l (Ok p) × (new ≡ Some (told_after q l p t))
EndsPlay failed t q l (Err e) new =
    StillTells (λ u. RefusedBefore failed t q l e u ⊎ FailedToKeep failed t q l e u ⊎ FailedToTell failed t q l e u) new
