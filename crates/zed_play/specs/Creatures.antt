-- Lions, tigers and bears.
use Rattle.std.specs.Prelude.{ℕ, pos, ◌+◌, ◌*◌, ◌%◌, Bool, true, false, ◌&&◌, ◌||◌, not, ◌==◌, nat_le, nat_lt, if◌then◌else◌, List, Option, Some, None}
use Rattle.zed_types.specs.declared.tile.Place.{Place}
use Rattle.zed_scene.specs.declared.stat.Stat.{Stat}
use Rattle.zed_scene.specs.Scene.{Scene, element_at}
use Rattle.zed_scene.specs.declared.shooting.Shooter.TheVariants.{Creature}
use Rattle.zed_scene.specs.declared.step.Step.{Step}
use Rattle.zed_scene.specs.Places.{ahead, apart, sign_of}
use Rattle.zed_scene.specs.Moving.{is_walkable}
use Rattle.zed_scene.specs.Seeking.{player_place, random_step, sought, still}
use Rattle.zed_scene.specs.Shooting.{shot}
use Rattle.zed_scene.specs.Words.{Drawn, draw, ◌>>=◌}
use Rattle.zed_play.specs.Acts.{attacks, moves}

-- whether a creature attacks an element: the player, and breakable walls if it breaks them
abbrev pub is_prey : Bool → ℕ → Bool
is_prey breaks e = e == 4 || (breaks && e == 23)

-- a creature that breaks walls or doesn't goes where it may, and attacks its prey
abbrev pub prowls : Bool → Option Place → Scene → Scene
prowls breaks None s = s
prowls breaks (Some n) s =
    if is_walkable (element_at s n) then moves n s else if is_prey breaks (element_at s n) then attacks n s else s

-- ---- the lion

-- by chance where P1 is below a number below 10, else towards the player
abbrev pub lion_step : Stat → Scene → List ℕ → Drawn Step
lion_step a s ws = do
  r ← draw 10 ws
  if nat_lt a.p1 r.0 then random_step r.1 else sought a.place s r.1

-- a lion's tick: it takes a step by chance or towards the player, and prowls along it
unfoldable pub lion : Stat → Scene → List ℕ → Drawn Scene
lion a s ws = do
  d ← lion_step a s ws
  Some (prowls false (ahead a.place d.0) s, d.1)

-- ---- the tiger

-- whether two columns, or two rows, differ by at most 2
abbrev pub up_to_two : ℕ → ℕ → Bool
up_to_two a b = nat_le (apart a b) 2

-- a creature's shot up or down towards the player: whether it didn't fail, and the board after it
abbrev pub shot_in_column : Place → Place → Scene → Bool × Scene
shot_in_column from to s = shot from (record { x = pos 0; y = sign_of to.y from.y }) Creature s

-- a creature's shot left or right towards the player: whether it didn't fail, and the board after it
abbrev pub shot_in_row : Place → Place → Scene → Bool × Scene
shot_in_row from to s = shot from (record { x = sign_of to.x from.x; y = pos 0 }) Creature s

-- the second shot, if the first failed and the rows differ by at most 2
abbrev pub or_in_row : Place → Place → Bool × Scene → Scene
or_in_row from to first =
    if first.0 then first.1 else if up_to_two to.y from.y then (shot_in_row from to first.1).1 else first.1

-- a tiger shoots up or down if the columns are near; if it doesn't or fails, sideways if the rows are
unfoldable pub tiger_shots : Place → Place → Scene → Scene
tiger_shots from to s =
    if up_to_two to.x from.x then or_in_row from to (shot_in_column from to s)
    else if up_to_two to.y from.y then (shot_in_row from to s).1 else s

-- it shoots where three times a number below 10 is at most P2 mod 128 and P2 is below 128
abbrev pub tiger_fires : ℕ → Stat → Scene → Scene
tiger_fires r a s =
    if nat_le (r * 3) (a.p2 % 128) && nat_lt a.p2 128 then tiger_shots a.place (player_place s a.place) s else s

-- then it does as a lion
unfoldable pub tiger : Stat → Scene → List ℕ → Drawn Scene
tiger a s ws = do
  r ← draw 10 ws
  lion a (tiger_fires r.0 a s) r.1

-- ---- the bear

-- whether two columns, or two rows, differ by at most 8 - P1
abbrev pub is_felt : ℕ → ℕ → ℕ → Bool
is_felt p1 a b = nat_le (apart a b + p1) 8

-- sideways if the columns differ and the player's row is felt; else up or down if its column is felt
abbrev pub bear_step : Place → Stat → Step
bear_step to a =
    if not (to.x == a.place.x) && is_felt a.p1 to.y a.place.y then record { x = sign_of to.x a.place.x; y = pos 0 }
    else if is_felt a.p1 to.x a.place.x then record { x = pos 0; y = sign_of to.y a.place.y }
    else still

-- a bear's tick: it prowls along its step to the player, and breaks walls
unfoldable pub bear : Stat → Scene → Scene
bear a s = prowls true (ahead a.place (bear_step (player_place s a.place) a)) s
