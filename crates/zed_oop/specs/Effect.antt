-- What each command does: a row each.
use Rattle.std.specs.Prelude.{◌≡◌, ◌≢◌, ◌⊎◌, ℕ, pos, Bool, true, false, ◌&&◌, nat_le, if◌then◌else◌, List, Option, Some, None, Result, MatchResult}
use Rattle.zed_types.specs.declared.tile.Place.{Place}
use Rattle.zed_oop.specs.declared.programs.Relabelling.TheVariants.{Hide, Show}
use Rattle.zed_oop.specs.declared.performing.Motion.{Motion}
use Rattle.zed_oop.specs.declared.performing.Motion.TheVariants.{Go as GoAlong, Try as TryAlong, Walk as WalkAlong, Put as PutAlong}
use Rattle.zed_oop.specs.declared.acting.Next.{Next}
use Rattle.zed_oop.specs.declared.acting.Next.TheVariants.{Skip, Stay, Command as CommandNext, SkipAndEnd, End as EndNext, Error}
use Rattle.zed_scene.specs.declared.stat.Stat.{Stat}
use Rattle.zed_oop_syntax.specs.declared.commands.OopCommand.{OopCommand}
use Rattle.zed_oop_syntax.specs.declared.commands.OopCommand.TheVariants.{Go, Try, Walk, Shoot, Set, Clear, If, Give, Take, End, EndGame, Idle, Restart, Send, Zap, Restore, Lock, Unlock, Become, Die, Put, Change, Cycle, Char, Bind, Nothing, Other}
use Rattle.zed_scene.specs.declared.error.SceneError.{SceneError}
use Rattle.zed_scene.specs.declared.error.SceneError.TheVariants.{Memory, NoWords}
use Rattle.zed_oop_syntax.specs.declared.heading.Heading.{Heading}
use Rattle.zed_oop_syntax.specs.declared.kinds.TileKind.{TileKind}
use Rattle.zed_scene.specs.Scene.{Scene}
use Rattle.zed_scene.specs.declared.shooting.Shooter.TheVariants.{Creature}
use Rattle.zed_scene.specs.declared.step.Step.{Step}
use Rattle.zed_oop.specs.Acting.{with_position, with_cycle, with_p1, with_p2, with_step}
use Rattle.zed_scene.specs.Trying.{try_move}
use Rattle.zed_scene.specs.Flags.{cut, flagged, unflagged, with_flags}
use Rattle.zed_oop.specs.Holding.{given, taken_from}
use Rattle.zed_oop.specs.Leading.{led}
use Rattle.zed_oop.specs.Making.{became, bound, converted, put_ahead}
use Rattle.zed_scene.specs.Removing.{with_health}
use Rattle.zed_oop.specs.Sending.{Sent, has_colon, relabelled, sent}
use Rattle.zed_scene.specs.Places.{ahead}
use Rattle.zed_scene.specs.Shooting.{lets_fly, shot}
use Rattle.zed_oop.specs.Testing.{holds}
use Rattle.zed_scene.specs.Words.{Drawn, ◌>>=◌}

-- how the turn goes on, and the board
abbrev pub Outcome : Type 0
Outcome = Next × Scene

-- what follows of what a program asks for; ERR where there is no such thing
abbrev pub known_or_error : {X : Type 0} → (X → Scene → Outcome) → Option X → Scene → Outcome
known_or_error f None s = (Error, s)
known_or_error f (Some x) s = f x s

-- what follows of a direction or a truth that was drawn; ERR where there is none
abbrev pub with_drawn : {X : Type 0} → (X → Scene → Outcome) → Scene → Drawn (Option X) → Drawn Outcome
with_drawn f s drawn = do
  d ← drawn
  Some (known_or_error f d.0 s, d.1)

-- what follows of the step to which a direction leads; ERR where it is no direction
abbrev pub along : Heading → (Step → Scene → Outcome) → Stat → Scene → List ℕ → Drawn Outcome
along h f a s ws = with_drawn f s (led h.turns h.course a s ws)

-- ---- the rows

-- after GO: the rest of the line is skipped, or if it wasn't done, the position is its `#`; the turn ends
abbrev pub after_go : ℕ → Bool × Scene → Outcome
after_go start (true, s) = (SkipAndEnd, s)
after_go start (false, s) = (EndNext, with_position (Some start) s)

-- after TRY: the rest of the line is skipped and the turn ends; where it wasn't done a command follows
abbrev pub after_try : Bool × Scene → Outcome
after_try (true, s) = (SkipAndEnd, s)
after_try (false, s) = (CommandNext, s)

-- after IF: a command follows where it is true, else the rest of the line is skipped
abbrev pub if_true : Bool → Scene → Outcome
if_true true s = (CommandNext, s)
if_true false s = (Skip, s)

-- after TAKE: the rest of the line is skipped; where there wasn't so much a command follows
abbrev pub or_command : Bool × Scene → Outcome
or_command (true, s) = (Skip, s)
or_command (false, s) = (CommandNext, s)

-- after BIND: the turn goes on in the new program, or where no stat is named so, behind the line
abbrev pub bound_or_skip : Bool × Scene → Outcome
bound_or_skip (true, s) = (Stay, s)
bound_or_skip (false, s) = (Skip, s)

-- after SEND: the turn goes on where the own position was set to, or else behind the line
abbrev pub messaged : Sent → Outcome
messaged t = if t.to_itself then (Stay, t.scene) else (Skip, t.scene)

-- after a word that is no command: as SEND, but ERR if it has no colon and the own position wasn't set
abbrev pub messaged_or_error : Bool → Sent → Outcome
messaged_or_error colon t =
    if t.to_itself then (Stay, t.scene) else if colon then (Skip, t.scene) else (Error, t.scene)

-- the turn goes on behind the rest of the line
abbrev pub skips : Scene → Outcome
skips s = (Skip, s)

-- by CHANGE tiles of the first kind become the second; ERR where one of the kinds is none
abbrev pub change : Option TileKind → Option TileKind → Scene → Outcome
change None k s = (Error, s)
change (Some j) None s = (Error, s)
change (Some j) (Some k) s = (Skip, converted j k s)

-- by PUT a kind is put ahead along a step; ERR where the kind is none
abbrev pub put_kind : Place → Option TileKind → Step → Scene → Outcome
put_kind here None d s = (Error, s)
put_kind here (Some k) d s = (Skip, put_ahead here d k s)

-- by SHOOT a shot flies along a step; the turn ends
abbrev pub shoots : Stat → Step → Scene → Outcome
shoots a d s = (SkipAndEnd, (shot a.place d Creature s).1)

-- the command that began with the `#` at `start`, of the stat a
unfoldable pub effect : OopCommand → ℕ → Stat → Scene → List ℕ → Drawn Outcome
effect (Go h) start a s ws = along h (λ d t. after_go start (try_move a.place d t)) a s ws
effect (Try h) start a s ws = along h (λ d t. after_try (try_move a.place d t)) a s ws
effect (Walk h) start a s ws = along h (λ d t. (Skip, with_step d t)) a s ws
effect (Shoot h) start a s ws = along h (shoots a) a s ws
effect (Put h k) start a s ws = along h (put_kind a.place k) a s ws
effect (If q) start a s ws = with_drawn if_true s (holds q a s ws)
effect (Set w) start a s ws = Some (skips (with_flags (flagged (cut w) s.flags) s), ws)
effect (Clear w) start a s ws = Some (skips (with_flags (unflagged (cut w) s.flags) s), ws)
effect (Give k v) start a s ws = Some (known_or_error (λ c t. skips (given c v t)) k s, ws)
effect (Take k v) start a s ws = Some (known_or_error (λ c t. or_command (taken_from c v t)) k s, ws)
effect End start a s ws = Some ((EndNext, with_position None s), ws)
effect EndGame start a s ws = Some (skips (with_health (pos 0) s), ws)
effect Idle start a s ws = Some ((SkipAndEnd, s), ws)
effect Restart start a s ws = Some ((Stay, with_position (Some 0) s), ws)
effect (Send w) start a s ws = Some (messaged (sent w s), ws)
effect (Zap w) start a s ws = Some (skips (relabelled Hide w s), ws)
effect (Restore w) start a s ws = Some (skips (relabelled Show w s), ws)
effect Lock start a s ws = Some (skips (with_p2 1 s), ws)
effect Unlock start a s ws = Some (skips (with_p2 0 s), ws)
effect (Become k) start a s ws = Some (known_or_error (λ j t. (SkipAndEnd, became j a.place t)) k s, ws)
effect Die start a s ws = Some ((SkipAndEnd, became (record { colour = None; element = 0 }) a.place s), ws)
effect (Change j k) start a s ws = Some (change j k s, ws)
effect (Cycle v) start a s ws = Some (skips (if nat_le 1 v then with_cycle v s else s), ws)
effect (Char v) start a s ws = Some (skips (if nat_le 1 v && nat_le v 255 then with_p1 v s else s), ws)
effect (Bind w) start a s ws = Some (bound_or_skip (bound w s), ws)
effect Nothing start a s ws = Some (skips s, ws)
effect (Other w) start a s ws = Some (messaged_or_error (has_colon w) (sent w s), ws)

-- what a command that has a direction, and is no shot, does along its step, which only the contracts of its code cite
abbrev pub done_along : Motion → ℕ → Stat → Step → Scene → Outcome
done_along GoAlong start a d s = after_go start (try_move a.place d s)
done_along TryAlong start a d s = after_try (try_move a.place d s)
done_along WalkAlong start a d s = (Skip, with_step d s)
done_along (PutAlong k) start a d s = put_kind a.place k d s

-- a call did this and left these words, or told that a word is lacking
abbrev pub Plays : {X : Type 0} → Result X SceneError → Scene → List ℕ → Drawn (X × Scene) → Type 0
Plays result s left drawn =
    MatchResult result (λ x. drawn ≡ Some ((x, s), left)) (λ e. (e ≡ NoWords) × (drawn ≡ None))

-- a call did this and left these words, or told that a word is lacking, or that memory was refused
abbrev pub Performs : {X : Type 0} → Result X SceneError → Scene → List ℕ → Drawn (X × Scene) → Type 0
Performs result s left drawn =
    MatchResult result (λ x. drawn ≡ Some ((x, s), left)) (λ e. (e ≡ Memory) ⊎ ((e ≡ NoWords) × (drawn ≡ None)))

-- ---- want of memory

-- a shot along the step to which a direction leads adds a bullet
abbrev pub ShotTakes : Heading → Stat → Scene → List ℕ → Type 0
ShotTakes h a s ws =
    (d : Step) × ((left : List ℕ) × ((led h.turns h.course a s ws ≡ Some (Some d, left)) × (lets_fly (ahead a.place d) s ≡ true)))

-- what a command does takes memory: SHOOT for a bullet, and SET for a word that changes a flag
abbrev pub EffectTakes : OopCommand → Stat → Scene → List ℕ → Type 0
EffectTakes (Shoot h) a s ws = ShotTakes h a s ws
EffectTakes (Set w) a s ws = flagged (cut w) s.flags ≢ s.flags
EffectTakes _ a s ws = ⊥

-- the error is told of a command that asks for what there isn't
abbrev pub IsError : Drawn Outcome → Type 0
IsError drawn = (s : Scene) × ((left : List ℕ) × (drawn ≡ Some ((Error, s), left)))
