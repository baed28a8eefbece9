-- Runs of a text, and what an insertion and a deletion do to a list of them.
use Rattle.std.specs.Prelude.{ℕ, zero, suc, ◌+◌, ◌-◌, Bool, true, false, ◌&&◌, if◌then◌else◌, nat_le, nat_lt, List, [], ◌∷◌, ◌++◌, length, min, count_by, Option, Some, None}
use Rattle.std.specs.List.{flat_map}
use Rattle.zed_types.specs.declared.stamp.Stamp.{Stamp}
use Rattle.zed_types.specs.declared.names.ElemId.{ElemId}
use Rattle.zed_types.specs.declared.text.ByteRange.{ByteRange}
use Rattle.zed_types.specs.Stamp.{before, same_stamp}
use Rattle.zed_code.specs.declared.run.Run.{Run}

-- a run of all the bytes of an insertion, alive: n of them, from a place of the store on
abbrev pub whole : Stamp → ℕ → ℕ → Run
whole s start n = record { stamp = s; first = 0; start = start; len = n; alive = true }

-- whether a byte is one of a run
abbrev pub has : ElemId → Run → Bool
has a r = same_stamp r.stamp a.name.stamp && (nat_le r.first a.name.index && nat_lt a.name.index (r.first + r.len))

-- the first bytes of a run
abbrev pub front : ℕ → Run → Run
front n r = record r { len = n }

-- a run without its first bytes
abbrev pub back : ℕ → Run → Run
back n r = record r { first = r.first + n; start = r.start + n; len = r.len - n }

-- how many runs stand before the first that has a byte
abbrev pub found : ElemId → List Run → ℕ
found a [] = 0
found a (r ∷ rs) = if has a r then 0 else suc (found a rs)

-- how many runs at the front are of later edits
abbrev pub passed : Stamp → List Run → ℕ
passed s [] = 0
passed s (r ∷ rs) = if before s r.stamp then suc (passed s rs) else 0

-- `run` behind the runs of later edits at the front
abbrev pub pass_runs : Run → List Run → List Run
pass_runs run [] = run ∷ []
pass_runs run (r ∷ rs) = if before run.stamp r.stamp then r ∷ pass_runs run rs else run ∷ r ∷ rs

-- how many bytes of a run there are up to a byte of it
abbrev pub up_to : ElemId → Run → ℕ
up_to a r = suc (a.name.index - r.first)

-- the runs that follow the one with a byte; none, where more of its bytes follow the byte
abbrev pub behind : ElemId → List Run → List Run
behind a [] = []
behind a (r ∷ rs) = if has a r then (if nat_lt (up_to a r) r.len then [] else rs) else behind a rs

-- how many runs of later edits an insertion passes
abbrev pub passed_after : Option ElemId → Stamp → List Run → ℕ
passed_after None s rs = passed s rs
passed_after (Some a) s rs = passed s (behind a rs)

-- the fewest runs that an insertion looks at: those that it passes, and one more, as far as there are so many
abbrev pub looks_to_put : Option ElemId → Stamp → List Run → ℕ
looks_to_put after s rs = min (passed_after after s rs + 1) (length rs)

-- `run` behind a byte of the run `r`
abbrev pub put_behind : ElemId → Run → Run → List Run → List Run
put_behind a run r rs =
    if nat_lt (up_to a r) r.len then front (up_to a r) r ∷ run ∷ back (up_to a r) r ∷ rs else r ∷ pass_runs run rs

-- `run` behind a byte and the runs of later edits that follow it
abbrev pub put_at : ElemId → Run → List Run → List Run
put_at a run [] = []
put_at a run (r ∷ rs) = if has a r then put_behind a run r rs else r ∷ put_at a run rs

-- `run` behind the byte named, or from the head, past the runs of later edits
abbrev pub put_run : Option ElemId → Run → List Run → List Run
put_run None run rs = pass_runs run rs
put_run (Some a) run rs = put_at a run rs

-- how many bytes of a run stand before a range
abbrev pub low : ByteRange → Run → ℕ
low x r = x.first - r.first

-- how many of its bytes stand before the end of a range
abbrev pub high : ByteRange → Run → ℕ
high x r = min r.len (suc x.last - r.first)

-- whether alive bytes of a run are in a range
abbrev pub touches : ByteRange → Run → Bool
touches x r = r.alive && (same_stamp r.stamp x.stamp && nat_lt (low x r) (high x r))

-- whether the end of a range stands before the end of a run of its insertion
abbrev pub reaches : ByteRange → Run → Bool
reaches x r = same_stamp r.stamp x.stamp && nat_lt x.last (r.first + r.len)

-- whether a run of the edit `s` has bytes numbered from n on
abbrev pub lasts : Stamp → ℕ → Run → Bool
lasts s n r = same_stamp r.stamp s && nat_lt n (r.first + r.len)

-- how many runs stand before the first of the edit `s` that has bytes from n on
abbrev pub sought : Stamp → ℕ → List Run → ℕ
sought s n [] = 0
sought s n (r ∷ rs) = if lasts s n r then 0 else suc (sought s n rs)

-- `run` at place i, or, unless n is 0, behind n bytes of the run there
abbrev pub put_in : ℕ → ℕ → Run → List Run → List Run
put_in i n run [] = run ∷ []
put_in zero n run (r ∷ rs) = if nat_lt 0 n then front n r ∷ run ∷ back n r ∷ rs else run ∷ r ∷ rs
put_in (suc i) n run (r ∷ rs) = r ∷ put_in i n run rs

-- the bytes of a run from one place to another
abbrev pub part : ℕ → ℕ → Run → Run
part i j r = record r { first = r.first + i; start = r.start + i; len = j - i }

-- a run whose bytes are dead
abbrev pub killed : Run → Run
killed r = record r { alive = false }

-- a run, unless it has no byte
abbrev pub if_any : Run → List Run
if_any r = if nat_lt 0 r.len then r ∷ [] else []

-- how many runs have alive bytes in a range
abbrev pub touched : ByteRange → List Run → ℕ
touched x rs = count_by (touches x) rs

-- a run whose bytes of a range are dead
abbrev pub pieces : ByteRange → Run → List Run
pieces x r =
    if touches x r then if_any (part 0 (low x r) r) ++ killed (part (low x r) (high x r) r) ∷ if_any (part (high x r) r.len r) else r ∷ []

-- a list of runs, in which the bytes of a range are dead
abbrev pub kill_runs : ByteRange → List Run → List Run
kill_runs x rs = flat_map (pieces x) rs
