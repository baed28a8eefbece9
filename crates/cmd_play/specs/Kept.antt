-- A playtest that is kept in two files: its words of chance in the one, its keys in the other.
use Rattle.std.specs.Prelude.{◌⊎◌, ◌<◌, ℕ, List, [], ◌++◌, length, Option, Some, None}
use Rattle.zed_terminal.specs.declared.moves.Move.{Move}
use Rattle.zed_host.specs.HostContents.{HalfWritten, HostContents, file_in, with_file}
use Rattle.zed_terminal.specs.Course.{Point}
use Rattle.zed_terminal.specs.Record.{spelled_moves, spelled_all}

-- the bytes of a file, or none where there is no file
abbrev pub bytes_or_none : Option (List ℕ) → List ℕ
bytes_or_none None = []
bytes_or_none (Some bytes) = bytes

-- what is kept in the file of a name, if one is named and there is one
abbrev pub kept_in : HostContents → Option (List ℕ) → List ℕ
kept_in t None = []
kept_in t (Some name) = bytes_or_none (file_in t name)

-- bytes are kept in the file of a name, if one is named
abbrev pub with_kept : Option (List ℕ) → List ℕ → HostContents → HostContents
with_kept None bytes t = t
with_kept (Some name) bytes t = with_file name bytes t

-- the bytes that are made to be kept in the file of a name: none, if none is named
abbrev pub made_for : Option (List ℕ) → List ℕ → List ℕ
made_for None bytes = []
made_for (Some name) bytes = bytes

-- that failed: all is as it was, or the file is a front of what it was to be
abbrev pub HalfKept : Option (List ℕ) → List ℕ → HostContents → HostContents → Type 0
HalfKept None bytes t u = ⊥
HalfKept (Some name) bytes t u = HalfWritten name bytes t u

-- the file of keys that were played, and of others behind them
abbrev pub key_bytes : Point → List Move → List ℕ
key_bytes p rest = spelled_moves p.keys ++ spelled_moves rest

-- a playtest is kept in the files of these names, with keys that weren't played behind those that were
abbrev pub with_record : Option (List ℕ) → Option (List ℕ) → Point → List Move → HostContents → HostContents
with_record words keys p rest t = with_kept keys (key_bytes p rest) (with_kept words (spelled_all p.words) t)

-- one of these files is named, and gets bytes
abbrev pub IsRecorded : Option (List ℕ) → Option (List ℕ) → Point → List Move → Type 0
IsRecorded words keys p rest = (0 < length (made_for words (spelled_all p.words))) ⊎ (0 < length (made_for keys (key_bytes p rest)))

-- that failed at the one file; or that one is whole, and it failed at the other
abbrev pub HalfRecorded : Option (List ℕ) → Option (List ℕ) → Point → List Move → HostContents → HostContents → Type 0
HalfRecorded words keys p rest t u =
    HalfKept words (spelled_all p.words) t u ⊎ HalfKept keys (key_bytes p rest) (with_kept words (spelled_all p.words) t) u
