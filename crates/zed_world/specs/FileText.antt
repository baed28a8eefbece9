-- What a world file says, by where in it things stand.
use Rattle.std.specs.Prelude.{◌≡◌, ℕ, suc, ℤ, pos, negsuc, ◌+◌, ◌-◌, ◌<◌, ◌≤◌, List, [], ◌∷◌, length, take, drop, slice_get, Option, Some, None, IfSome}
use Rattle.byteorder.specs.Endian.{little_number}
use Rattle.zed_types.specs.Limits.{largest_body}
use Rattle.zed_runs.specs.Runs.{Runs}
use Rattle.zed_world.specs.declared.stat.Code.{Code}
use Rattle.zed_world.specs.declared.stat.Code.TheVariants as code
use Rattle.zed_world.specs.declared.stat.StatData.{StatData}
use Rattle.zed_world.specs.declared.board.BoardData.{BoardData}
use Rattle.zed_world.specs.Contents.{Contents}
use Rattle.zed_world.specs.Fields.{integer_at, string_at}
use Rattle.zed_world.specs.Offsets.{header_at, properties_at, stat_with}

-- so many bytes from an offset on
abbrev pub part : List ℕ → ℕ → ℕ → List ℕ
part bytes at len = take len (drop at bytes)

-- two bytes as a number without a sign
abbrev pub word_at : List ℕ → ℕ → ℕ
word_at bytes at = little_number 2 (drop at bytes)

-- ---- the stats of a body, with their programs

-- the field of a stat that tells its program
abbrev pub length_field : List ℕ → ℕ → ℤ
length_field body at = integer_at body (at + 23)

-- a positive length is that of the bytes that follow the fields of the stat
abbrev pub own_length : ℤ → ℕ
own_length (pos n) = n
own_length (negsuc n) = 0

-- a negative length is the number of the stat that the program is shared with
abbrev pub shared_number : ℤ → Option ℕ
shared_number (pos n) = None
shared_number (negsuc n) = Some (suc n)

-- where a stat ends: after 33 bytes of fields and the bytes of its program
abbrev pub stat_end : List ℕ → ℕ → ℕ
stat_end body at = at + 33 + own_length (length_field body at)

-- stats stand at these places, the first here and each where the one before it ends
abbrev pub StandFrom : List ℕ → ℕ → List ℕ → Type 0
StandFrom body here [] = Unit {0}
StandFrom body here (place ∷ places) = (place ≡ here) × (stat_end body here ≤ length body) × StandFrom body (stat_end body here) places

-- the number that a stat at a place shares with, if there is such a stat and it shares
abbrev pub share_from : List ℕ → Option ℕ → Option ℕ
share_from body None = None
share_from body (Some place) = shared_number (length_field body place)

-- from stat n the negative lengths lead over this chain of stats to the owner of the program
abbrev pub LeadsTo : List ℕ → List ℕ → ℕ → List ℕ → ℕ → Type 0
LeadsTo body places n [] owner = n ≡ owner
LeadsTo body places n (next ∷ chain) owner = (share_from body (slice_get places n) ≡ Some next) × LeadsTo body places next chain owner

-- the program of a stat: none where its owner has no bytes; else its own bytes, or those of its owner
abbrev pub code_along : List ℕ → ℕ → List ℕ → Code
code_along chain owner [] = code.None
code_along [] owner (b ∷ bs) = code.Own (b ∷ bs)
code_along (next ∷ chain) owner (b ∷ bs) = code.Same owner

-- The program of stat n is that of the stat which the lengths lead to, and that one shares with none.
pub record IsCode (body places : List ℕ) (n : ℕ) (c : Code) : Type 0 where
  pub chain : List ℕ
  pub owner : ℕ
  pub place : ℕ
  pub leads : LeadsTo body places n chain owner
  pub there : slice_get places owner ≡ Some place
  pub owns : shared_number (length_field body place) ≡ None
  pub is : c ≡ code_along chain owner (part body (place + 33) (own_length (length_field body place)))

-- Stat n of a board stands at a place. It shares with a lower stat, if it shares.
pub record IsStat (boards : ℕ) (b : BoardData) (body places : List ℕ) (n place : ℕ) (s : StatData) : Type 0 where
  pub lower : IfSome (shared_number (length_field body place)) (λ k. k < n)
  pub fields : s ≡ stat_with boards (length b.stats) b.tiles (drop place body) s.code
  pub code : IsCode body places n s.code

-- ---- the body of a board

-- The name in 51 bytes, runs for the tiles, 86 bytes of properties, the number of stats without the player, and the stats; bytes may follow.
pub record IsBody (boards : ℕ) (b : BoardData) (body : List ℕ) : Type 0 where
  pub runs : ℕ
  pub within : 51 + runs + 88 ≤ length body
  pub name : b.name ≡ string_at 50 body 0
  pub tiles : Runs b.tiles (part body 51 runs)
  pub properties : b.properties ≡ properties_at boards (drop (51 + runs) body)
  pub count : integer_at body (51 + runs + 86) ≡ pos (length b.stats - 1)
  pub some : 1 ≤ length b.stats
  pub few : length b.stats ≤ 151
  pub places : List ℕ
  pub as_many : length places ≡ length b.stats
  pub stand : StandFrom body (51 + runs + 88) places
  pub stats : (n place : ℕ) (s : StatData) → slice_get places n ≡ Some place → slice_get b.stats n ≡ Some s
      → IsStat boards b body places n place s

-- ---- the file

-- where a board ends: after the two bytes of its size and so many of its body
abbrev pub board_end : List ℕ → ℕ → ℕ
board_end bytes at = at + 2 + word_at bytes at

-- A board stands at an offset.
pub record IsBoard (boards : ℕ) (bytes : List ℕ) (at : ℕ) (b : BoardData) : Type 0 where
  pub size : word_at bytes at ≤ largest_body
  pub within : board_end bytes at ≤ length bytes
  pub body : IsBody boards b (part bytes (at + 2) (word_at bytes at))

-- boards stand one after the other, the first here
abbrev pub AreBoards : ℕ → List ℕ → ℕ → List BoardData → Type 0
AreBoards boards bytes here [] = Unit {0}
AreBoards boards bytes here (b ∷ bs) = IsBoard boards bytes here b × AreBoards boards bytes (board_end bytes here) bs

-- A file of this world: the type word is that of -1, the number of boards without the title follows it, the boards begin at 512; bytes may follow the last.
pub record IsFileText (w : Contents) (bytes : List ℕ) : Type 0 where
  pub long : 512 ≤ length bytes
  pub type_word : word_at bytes 0 ≡ 65535
  pub count : integer_at bytes 2 ≡ pos (length w.boards - 1)
  pub some : 1 ≤ length w.boards
  pub few : length w.boards ≤ 101
  pub header : w.header ≡ header_at (length w.boards) bytes
  pub boards : AreBoards (length w.boards) bytes 512 w.boards
