-- Places in a text.
use Rattle.std.specs.Prelude.{◌≡◌, ◌≤◌, ◌<◌, ℕ, ◌+◌, nat_lt, if◌then◌else◌, List, ◌∷◌, length, drop}
use Rattle.zed_types.specs.declared.text.TextByte.{TextByte}
use Rattle.zed_code.specs.declared.run.Run.{Run}
use Rattle.zed_code.specs.declared.same.Cursor.{Cursor}
use Rattle.zed_code.specs.Blocks.{joined, list_at}
use Rattle.zed_code.specs.Cutting.{spelled}

-- what lists of runs spell from a place on
abbrev pub rest : List ℕ → List (List Run) → Cursor → List TextByte
rest store ls c = drop c.byte (spelled store (drop c.run (joined (drop c.block ls))))

-- the place behind a byte of a run with n bytes, in a list of m runs
abbrev pub stepped : ℕ → ℕ → Cursor → Cursor
stepped n m c =
    if nat_lt (c.byte + 1) n then record { block = c.block; run = c.run; byte = c.byte + 1 }
    else (if nat_lt (c.run + 1) m then record { block = c.block; run = c.run + 1; byte = 0 } else record { block = c.block + 1; run = 0; byte = 0 })

-- a place is at a byte of a run, or at the end
pub record IsPlace (c : Cursor) (ls : List (List Run)) : Type 0 where
  pub within : c.block ≤ length ls
  pub run : c.block < length ls → c.run < length (list_at c.block ls)
  pub byte : (r : Run) (qs : List Run) → drop c.run (list_at c.block ls) ≡ r ∷ qs → c.byte < r.len
  pub end : c.block ≡ length ls → (c.run ≡ 0) × (c.byte ≡ 0)
