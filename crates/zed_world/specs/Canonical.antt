-- Files that are what the writer makes.
use Rattle.std.specs.Prelude.{◌≡◌, ℕ, Bool, false, List, Result, Ok, Err}
use Rattle.std.specs.Str.{bytes_eq}
use Rattle.zed_types.specs.Limits.{largest_body}
use Rattle.zed_world.specs.declared.error.WorldError.{WorldError}
use Rattle.zed_world.specs.Contents.{Contents}
use Rattle.zed_world.specs.Reading.{world_at}
use Rattle.zed_world.specs.Writing.{written}

-- The bytes are a world file, and writing the world that is read from them gives them back.
pub record IsCanonical (bytes : List ℕ) : Type 0 where
  pub world : Contents
  pub read : world_at bytes ≡ Ok world
  pub rewritten : written largest_body world ≡ Ok bytes

-- what was written is just these bytes
abbrev pub is_text_of : List ℕ → Result (List ℕ) WorldError → Bool
is_text_of bytes (Ok text) = bytes_eq bytes text
is_text_of bytes (Err e) = false

-- what was read is written again as just these bytes
abbrev pub is_rewritten : List ℕ → Result Contents WorldError → Bool
is_rewritten bytes (Ok w) = is_text_of bytes (written largest_body w)
is_rewritten bytes (Err e) = false

-- the same as a test: a world file that is written again just as it was read
unfoldable pub is_canonical : List ℕ → Bool
is_canonical bytes = is_rewritten bytes (world_at bytes)
