-- How a tile looks in ZZT 3.2: its character of code page 437, and its attribute. The numbers are ZZT's, as its editor shows a board, with
-- dark boards lit; they are known from the public Reconstruction of ZZT (its table of elements, and the procedures that draw them).
use Rattle.std.specs.Prelude.{ℕ, ℤ, pos, negsuc, ◌+◌, ◌-◌, ◌*◌, ◌/◌, ◌%◌, ◌||◌, ◌==◌, nat_le, nat_lt, if◌then◌else◌, List, [], ◌∷◌, slice_index_or}
use Rattle.std.specs.Ordering.{int_eq}
use Rattle.zed_types.specs.declared.tile.Tile.{Tile}
use Rattle.zed_look.specs.declared.look.Pose.{Pose}
use Rattle.zed_look.specs.declared.look.Spot.{Spot}

-- the characters of the elements 0 to 46; an invisible wall (28) is seen in the editor, and blank in play
abbrev pub characters : List ℕ
characters =
    -- empty, edge, message timer, monitor, player, ammo, torch, gem, key, door
    32 ∷ 32 ∷ 32 ∷ 32 ∷ 2 ∷ 132 ∷ 157 ∷ 4 ∷ 12 ∷ 10
    -- scroll, passage, duplicator, bomb, energizer, star, clockwise, counter, bullet, water
    ∷ 232 ∷ 240 ∷ 250 ∷ 11 ∷ 127 ∷ 83 ∷ 47 ∷ 92 ∷ 248 ∷ 176
    -- forest, solid, normal, breakable, boulder, slider north-south, slider east-west, fake, invisible, blink wall
    ∷ 176 ∷ 219 ∷ 178 ∷ 177 ∷ 254 ∷ 18 ∷ 29 ∷ 178 ∷ 176 ∷ 206
    -- transporter, line, ricochet, ray east-west, bear, ruffian, object, slime, shark, spinning gun
    ∷ 197 ∷ 206 ∷ 42 ∷ 205 ∷ 153 ∷ 5 ∷ 2 ∷ 42 ∷ 94 ∷ 24
    -- pusher, lion, tiger, ray north-south, head, segment, an unused one
    ∷ 16 ∷ 234 ∷ 227 ∷ 186 ∷ 233 ∷ 79 ∷ 32 ∷ []

-- an element that looks the same wherever it stands
abbrev pub still : ℕ → ℕ
still n = slice_index_or characters n 32

-- ---- elements that look by a stat, by their neighbours or by the tick

-- a duplicator by P1
abbrev pub duplicator : ℕ → ℕ
duplicator p1 = if p1 == 2 then 249 else if p1 == 3 then 248 else if p1 == 4 then 111 else if p1 == 5 then 79 else 250

-- a bomb by P1: lit ones count down in digits
abbrev pub bomb : ℕ → ℕ
bomb p1 = if nat_le p1 1 then 11 else (p1 + 48) % 256

-- one of four characters
abbrev pub fourth : ℕ → ℕ → ℕ → ℕ → ℕ → ℕ
fourth a b c d k = if k == 0 then a else if k == 1 then b else if k == 2 then c else d

-- a star by the tick
abbrev pub star : ℕ → ℕ
star tick = fourth 179 47 196 92 (tick % 4)

-- a conveyor that turns clockwise, in a tick
abbrev pub clockwise : ℕ → ℕ
clockwise tick = star (tick / 3)

-- a conveyor that turns counter-clockwise, in a tick
abbrev pub counter : ℕ → ℕ
counter tick = fourth 92 196 47 179 (tick / 2 % 4)

-- a spinning gun in a tick
abbrev pub gun : ℕ → ℕ
gun tick = fourth 24 26 25 27 (tick / 2 % 4)

-- a pusher by the step of its stat
abbrev pub pusher : Pose → ℕ
pusher p =
    if int_eq p.step_x (pos 1) then 16 else if int_eq p.step_x (negsuc 0) then 17 else if int_eq p.step_y (negsuc 0) then 30 else 31

-- which of its four pictures a transporter shows, by the tick and its cycle
abbrev pub frame : ℕ → ℕ → ℕ
frame tick cycle = if cycle == 0 then 0 else tick / cycle % 4

-- the characters of transporters to the north and south, and to the west and east
abbrev pub upright : List ℕ
upright = 94 ∷ 126 ∷ 94 ∷ 45 ∷ 118 ∷ 95 ∷ 118 ∷ 95 ∷ []

abbrev pub level : List ℕ
level = 40 ∷ 60 ∷ 40 ∷ 179 ∷ 41 ∷ 62 ∷ 41 ∷ 179 ∷ []

-- one of eight characters: a step of -1 begins with the first of them, and each step more two later. Where there is none ZZT shows what its
-- memory happens to hold, and here it is element 30's own
abbrev pub eighth : List ℕ → ℤ → ℕ → ℕ
eighth eight step k =
    if int_eq step (negsuc 0) then slice_index_or eight k 197
    else if int_eq step (pos 0) then slice_index_or eight (2 + k) 197
    else if int_eq step (pos 1) then slice_index_or eight (4 + k) 197
    else if int_eq step (pos 2) then slice_index_or eight (6 + k) 197 else 197

-- a transporter by the step of its stat, in a tick
abbrev pub transporter : Pose → ℕ → ℕ
transporter p tick =
    if int_eq p.step_x (pos 0) then eighth upright p.step_y (frame tick p.cycle) else eighth level p.step_x (frame tick p.cycle)

-- the sixteen line walls by what they join: 1 for north, 2 for south, 4 for west and 8 for east
abbrev pub lines : List ℕ
lines = 249 ∷ 208 ∷ 210 ∷ 186 ∷ 181 ∷ 188 ∷ 187 ∷ 185 ∷ 198 ∷ 200 ∷ 201 ∷ 204 ∷ 205 ∷ 202 ∷ 203 ∷ []

-- a line wall
abbrev pub line : ℕ → ℕ
line joined = slice_index_or lines joined 206

-- ---- tiles

-- the character of a tile
abbrev pub character_of : Tile → Pose → ℕ → ℕ → ℕ
character_of t pose joined tick =
    if t.element == 12 then duplicator pose.p1
    else if t.element == 13 then bomb pose.p1
    else if t.element == 15 then star tick
    else if t.element == 16 then clockwise tick
    else if t.element == 17 then counter tick
    else if t.element == 30 then transporter pose tick
    else if t.element == 31 then line joined
    else if t.element == 36 then pose.p1
    else if t.element == 39 then gun tick
    else if t.element == 40 then pusher pose
    else if nat_le 47 t.element then t.colour
    else still t.element

-- a star has the next of the colours 9 to 15 whenever it is drawn
abbrev pub next_star : ℕ → ℕ
next_star colour = if nat_lt 15 ((colour + 1) % 256) then 9 else (colour + 1) % 256

-- empty and white text are white on black, other text white on its colour; so are elements over 53, as far as a byte goes
abbrev pub attribute_of : Tile → ℕ
attribute_of t =
    if t.element == 0 || t.element == 53 then 15
    else if t.element == 15 then next_star t.colour
    else if nat_le 47 t.element then ((t.element - 46) * 16 + 15) % 256
    else t.colour

-- what is shown of a tile
abbrev pub spot_of : Tile → Pose → ℕ → ℕ → Spot
spot_of t pose joined tick = record { character = character_of t pose joined tick; attribute = attribute_of t }
