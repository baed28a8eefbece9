-- Playtests on a stage: how one starts, and what a key does.
use Rattle.std.specs.Prelude.{◌≡◌, ℕ, Bool, true, false, List, Option, Some, None, is_none, IfSome, Result, Ok, Err}
use Rattle.zed_play.specs.declared.error.PlayError.{PlayError}
use Rattle.zed_play.specs.declared.error.PlayError.TheVariants as step
use Rattle.zed_play.specs.declared.key.Key.{Key}
use Rattle.zed_play.specs.Playtest.{Playtest}
use Rattle.zed_play.specs.Step.{Steps}
use Rattle.zed_screen.specs.declared.frame.Frame.{Frame}
use Rattle.zed_screen.specs.Frames.{Shows}
use Rattle.zed_screen.specs.Panel.{play_cell}
use Rattle.zed_session.specs.declared.error.SessionError.{SessionError}
use Rattle.zed_session.specs.declared.error.SessionError.TheVariants.{Memory, NoWords, Over, ScreenFault, KeyFault}
use Rattle.zed_session.specs.declared.playing.Playing.{Playing}
use Rattle.zed_session.specs.Devices.{first_of, showing, without_first}
use Rattle.zed_session.specs.Refusals.{ShownAfter, ShowsOnce}

-- whether a playtest goes on: it was started, and it has not ended
abbrev pub goes_on : Option Playtest → Bool
goes_on None = false
goes_on (Some p) = is_none p.ending

-- a key is taken and these are left: the kept key, or else the first of the source, if it tells its keys
abbrev pub Takes : Option Key → Option (List Key) → Option Key → Option (List Key) → Type 0
Takes (Some kept) keys key left = (key ≡ Some kept) × (left ≡ keys)
Takes None keys key left = IfSome keys (λ told. key ≡ first_of told) × (left ≡ without_first keys)

-- the playtest makes a step by a key, with this answer
abbrev pub MakesStep : Result ℕ PlayError → Key → List ℕ → Option Playtest → Option Playtest → Type 0
MakesStep answer key words old new =
    (p : Playtest) × (q : Playtest) × (old ≡ Some p) × (new ≡ Some q) × Steps answer key p words q

-- the key that is kept after a step with this answer: where words lacked, the one that it was made by
abbrev pub kept_after : Result ℕ PlayError → Key → Option Key
kept_after (Err step.NoWords) key = Some key
kept_after _ key = None

-- a key is taken, and the playtest makes a step by it, with this answer
abbrev pub Uses : Result ℕ PlayError → List ℕ → Playing → Option (List Key) → Playing → Option (List Key) → Type 0
Uses answer words old keys new left =
    (key : Key)
    × Takes old.kept keys (Some key) left
    × MakesStep answer key words old.playtest new.playtest
    × (new.kept ≡ kept_after answer key)

-- what a key comes to: a step, with the words that it used; no key is left; or one of five refusals
abbrev pub PlaysKey : Result (Option ℕ) SessionError → List ℕ → Playing → Option (List Key) → Playing → Option (List Key) → Type 0
PlaysKey (Ok (Some used)) words old keys new left = Uses (Ok used) words old keys new left
PlaysKey (Ok None) words old keys new left =
    (goes_on old.playtest ≡ true) × Takes old.kept keys None left × (new ≡ old)
PlaysKey (Err Over) words old keys new left = (goes_on old.playtest ≡ false) × (new ≡ old) × (left ≡ keys)
PlaysKey (Err KeyFault) words old keys new left =
    (goes_on old.playtest ≡ true) × (old.kept ≡ None) × (new ≡ old) × (left ≡ keys)
PlaysKey (Err NoWords) words old keys new left = Uses (Err step.NoWords) words old keys new left
PlaysKey (Err Memory) words old keys new left = Uses (Err step.Memory) words old keys new left
PlaysKey (Err ScreenFault) words old keys new left = (used : ℕ) × Uses (Ok used) words old keys new left
PlaysKey (Err _) words old keys new left = ⊥

-- a screen shows the picture of the playtest that was started, if it tells what it shows
abbrev pub ShowsPlay : Option Playtest → Option (Option Frame) → Option (Option Frame) → Type 0
ShowsPlay playtest old new =
    IfSome playtest (λ p. (frame : Frame) × (Shows frame (play_cell p) × (new ≡ showing frame old)))

-- what a screen shows after a key: the playtest after its step; or what it did before, where no step was made
abbrev pub ShowsKey : Result (Option ℕ) SessionError → Option Playtest → Option (Option Frame) → Option (Option Frame) → Type 0
ShowsKey (Ok (Some used)) playtest old new = ShowsPlay playtest old new
ShowsKey (Ok None) playtest old new = new ≡ old
ShowsKey (Err e) playtest old new = ShownAfter e old new

-- a screen shows one frame after a step: none where no step was made
abbrev pub ShowsStep : Result (Option ℕ) SessionError → Option (List Bool) → Option (List Bool) → Type 0
ShowsStep (Ok (Some used)) old new = ShowsOnce {X = Option ℕ} (Ok (Some used)) old new
ShowsStep (Ok None) old new = new ≡ old
ShowsStep (Err e) old new = ShowsOnce {X = Option ℕ} (Err e) old new
