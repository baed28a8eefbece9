-- What a session answers, as a command tells it.
use Rattle.std.proofs.Common.{◌≡◌, ◌∙◌, ◌≢◌, ◌<◌, ℕ, Bool, List, drop, true, false, Option, Some, None, Result, Ok, Err, MatchResult, ap, ap₂, refl, slice_get, subst, sym, inl, inr}
use Rattle.std.specs.Prelude.{◌⊎◌, option_map}
use Rattle.zed_world.specs.declared.board.BoardData.{BoardData}
use Rattle.zed_world.specs.declared.header.Header.{Header}
use Rattle.zed_world.specs.Contents.{Contents}
use Rattle.zed_op.specs.declared.op.Edit.{Edit}
use Rattle.zed_edit.specs.Replay.{replay}
use Rattle.zed_document.specs.Replica.{Replica}
use Rattle.zed_export.specs.declared.error.ExportError.{ExportError}
use Rattle.zed_export.specs.declared.error.ExportError.TheVariants as export
use Rattle.zed_export.specs.Limits.{exported}
use Rattle.zed_play.specs.declared.error.PlayError.{PlayError}
use Rattle.zed_play.specs.declared.error.PlayError.TheVariants as step_error
use Rattle.zed_play.specs.declared.key.Key.{Key}
use Rattle.zed_play.specs.Opening.{play_of}
use Rattle.zed_play.specs.Playtest.{Playtest}
use Rattle.zed_play.specs.Step.{Steps}
use Rattle.zed_session.specs.declared.error.SessionError.{SessionError}
use Rattle.zed_session.specs.declared.error.SessionError.TheVariants as session
use Rattle.zed_session.specs.declared.playing.Playing.{Playing}
use Rattle.zed_session.specs.Boards.{Answers, OfBoard as InSession, ShowsBoard, Starts, world_shown}
use Rattle.zed_session.specs.Devices.{AsksOnce, Foretold}
use Rattle.zed_session.specs.Play.{PlaysKey, ShowsKey, ShowsPlay, ShowsStep as ShowsOnStage, Takes, Uses, goes_on}
use Rattle.zed_session.specs.Refusals as told
use Rattle.zed_session.specs.Refusals.{ShowsOnce, is_key_fault}
use Rattle.zed_files.specs.declared.refusal.Refusal.{Refusal}
use Rattle.zed_files.specs.declared.refusal.Refusal.TheVariants.{Memory}
use Rattle.zed_files.specs.Refusals.{session_refusal}
use Rattle.cmd_show.specs.Stage.{Stage}
use Rattle.cmd_show.specs.Shown.{Course, EndsPlay, IsOver, IsPlayed, IsShown, Advances, LacksKey, OfBoard, OfWorld, Plays, PlaysOn, ShowsNothing, ShowsOn, ShowsStep, TakesKey, course, most_keys}

-- ---- how a playtest starts

-- the playtest that was started, and what it comes to the command does, whatever the stage is then
abbrev pub Begins : Stage → List ℕ → Playing → (Stage → Result (List ℕ) Refusal → Type 0) → Type 0
Begins d words new Comes =
    (first : Playtest) × (new ≡ record { playtest = Some first; kept = None }) × (first.ending ≡ None)
    × ((last : Stage) (r : Result (List ℕ) Refusal) → Plays (course d first words) last r → Comes last r)

-- either that, or the refusal is that of the command, and the stage is as it was
abbrev pub BeginsOr : Stage → List ℕ → Playing → (Stage → Result (List ℕ) Refusal → Type 0) → Result (Unit {0}) SessionError → Type 0
BeginsOr d words new Comes answer =
    MatchResult answer (λ _. Begins d words new Comes) (λ e. (session_refusal e ≡ Memory) ⊎ Comes d (Err (session_refusal e)))

on_board : (d : Stage) (header : Header) (board : Option BoardData) (words : List ℕ) (new : Playing) (answer : Result (Unit {0}) SessionError)
    → InSession header board (Starts new) answer
    → BeginsOr d words new (λ last. OfBoard (last ≡ d) header board (IsPlayed d last words)) answer
on_board d header (Some board) words new (Ok u) is = (play_of header board 1, is, refl, λ last r plays. plays)
on_board d header (Some board) words new (Err e) is = inl (ap session_refusal is)
on_board d header None words new (Ok u) is = absurd (cc)
on_board d header None words new (Err e) is = inr (let same : e ≡ session.NoBoard = cc in (ap (λ x. Err (session_refusal x)) same, refl))

in_world : (d : Stage) (world : Result Contents ExportError) (n : ℕ) (words : List ℕ) (new : Playing) (answer : Result (Unit {0}) SessionError)
    → Answers world n (Starts new) answer → BeginsOr d words new (λ last. OfWorld (last ≡ d) world n (IsPlayed d last words)) answer
in_world d (Ok w) n words new answer is = on_board d w.header (slice_get w.boards n) words new answer is
in_world d (Err e) n words new (Ok u) is = absurd (cc)
in_world d (Err e) n words new (Err x) is =
    inr (let same : x ≡ told.export_refusal e = cc in (ap (λ y. Err (session_refusal y)) same, refl))

-- a playtest is started on the world of a set of edits, or the command is refused
pub play_begins : (d : Stage) (limit : ℕ) (es : List Edit) (n : ℕ) (words : List ℕ) (new : Playing) (answer : Result (Unit {0}) SessionError)
    → Answers (exported limit (replay es)) n (Starts new) answer
    → BeginsOr d words new (λ last. PlaysOn d last limit (Ok es) n words) answer
play_begins d limit es n words new answer is = in_world d (exported limit (replay es)) n words new answer is

-- ---- how a board is not shown

-- the refusal is that of the command
abbrev pub RefusedOr : (Result (Unit {0}) Refusal → Type 0) → SessionError → Type 0
RefusedOr Comes e = (session_refusal e ≡ Memory) ⊎ Comes (Err (session_refusal e))

-- the screen failed at that, or the stage is as it was
abbrev pub HidesOn : Stage → Stage → SessionError → Type 0
HidesOn old new e = (e ≡ session.ScreenFault) ⊎ (new ≡ old)

hidden_board : (old new : Stage) (header : Header) (board : Option BoardData) (e : SessionError)
    → InSession {X = Unit {0}} header board (ShowsBoard old.shown new.shown) (Err e) → HidesOn old new e
    → (e ≡ session.ScreenFault → Foretold true old.screen new.screen)
    → RefusedOr (OfBoard (new ≡ old) header board (IsShown old new)) e
hidden_board old new header (Some board) e is hides failed = elim is [
  | inl lack ↦ inl (ap session_refusal lack)
  | inr fault ↦ inr (inr (ap (λ x. Err (session_refusal x)) fault, failed fault))
]
hidden_board old new header None e is hides failed =
    let same : e ≡ session.NoBoard = cc in
    inr (ap (λ x. Err (session_refusal x)) same, elim hides [ inl fault ↦ absurd (cc) | inr stays ↦ stays ])

limit_is_no_fault : (x : ExportError) → told.export_refusal x ≡ session.ScreenFault → ⊥
limit_is_no_fault export.Memory is = cc
limit_is_no_fault export.Stale is = cc
limit_is_no_fault export.NoWorld is = cc
limit_is_no_fault (export.BoardsOver n) is = cc
limit_is_no_fault (export.StatsOver b n) is = cc
limit_is_no_fault (export.BoardOver b n) is = cc

hidden_world : (old new : Stage) (world : Result Contents ExportError) (n : ℕ) (e : SessionError)
    → Answers {X = Unit {0}} world n (ShowsBoard old.shown new.shown) (Err e) → HidesOn old new e
    → (e ≡ session.ScreenFault → Foretold true old.screen new.screen)
    → RefusedOr (OfWorld (new ≡ old) world n (IsShown old new)) e
hidden_world old new (Ok w) n e is hides failed = hidden_board old new w.header (slice_get w.boards n) e is hides failed
hidden_world old new (Err x) n e is hides failed =
    let same : e ≡ told.export_refusal x = cc in
    inr (ap (λ y. Err (session_refusal y)) same, elim hides [ inl fault ↦ absurd (limit_is_no_fault x (sym same ∙ fault)) | inr stays ↦ stays ])

-- a screen that fails foretold it, if it foretold anything
screen_failed : (e : SessionError) (before after : Option (List Bool)) → ShowsOnce {X = Unit {0}} (Err e) before after
    → e ≡ session.ScreenFault → Foretold true before after
screen_failed e before after shows fault = rw fault at shows

-- a board of the world of a set of edits couldn't be shown
pub not_on_screen : (old new : Stage) (limit : ℕ) (es : List Edit) (n : ℕ) (e : SessionError)
    → Answers {X = Unit {0}} (exported limit (replay es)) n (ShowsBoard old.shown new.shown) (Err e)
    → ShowsOnce {X = Unit {0}} (Err e) old.screen new.screen
    → HidesOn old new e → RefusedOr (ShowsOn old new limit (Ok es) n) e
not_on_screen old new limit es n e is shows hides =
    hidden_world old new (exported limit (replay es)) n e is hides (screen_failed e old.screen new.screen shows)

-- a board of the world of a set of edits was shown
board_on : (old new : Stage) (header : Header) (board : Option BoardData) (u : Unit {0})
    → InSession {X = Unit {0}} header board (ShowsBoard old.shown new.shown) (Ok u) → Foretold false old.screen new.screen
    → OfBoard (new ≡ old) header board (IsShown old new) (Ok tt)
board_on old new header (Some board) u is passed = inl (refl, passed, (is.0, is.1.0, is.1.1))
board_on old new header None u is passed = absurd (cc)

world_on : (old new : Stage) (world : Result Contents ExportError) (n : ℕ) (u : Unit {0})
    → Answers {X = Unit {0}} world n (ShowsBoard old.shown new.shown) (Ok u) → Foretold false old.screen new.screen
    → OfWorld (new ≡ old) world n (IsShown old new) (Ok tt)
world_on old new (Ok w) n u is passed = board_on old new w.header (slice_get w.boards n) u is passed
world_on old new (Err x) n u is passed = absurd (cc)

pub on_screen : (old new : Stage) (limit : ℕ) (es : List Edit) (n : ℕ) (u : Unit {0})
    → Answers {X = Unit {0}} (exported limit (replay es)) n (ShowsBoard old.shown new.shown) (Ok u)
    → ShowsOnce {X = Unit {0}} (Ok u) old.screen new.screen
    → ShowsOn old new limit (Ok es) n (Ok tt)
on_screen old new limit es n u is shows = world_on old new (exported limit (replay es)) n u is shows

-- the world that a document shows, if it isn't stale
pub shown_of : (limit : ℕ) (d : Replica) → d.is_stale ≡ false → world_shown limit d ≡ exported limit (replay d.edits)
shown_of limit d sound = rw sound refl

-- ---- what a key comes to

-- where a playtest goes on and no key is kept, that is all
playing_is : (now : Playing) (p : Playtest) → now.playtest ≡ Some p → now.kept ≡ None → now ≡ record { playtest = Some p; kept = None }
playing_is now p played kept =
    let make : Option Playtest → Option Key → Playing = λ o k. record { playtest = o; kept = k } in
    ap₂ make played kept

same_play : (p q : Playtest) (o : Option Playtest) → o ≡ Some p → o ≡ Some q → p ≡ q
same_play p q o a b = cc

-- what is kept in play on the way: the playtest of a course, and no key; on its stage
abbrev pub IsAt : Course → Playing → Stage → Type 0
IsAt c now s = (now ≡ record { playtest = Some c.play; kept = None }) × (s ≡ c.stage)

-- a key that was kept is none
kept_none : (old : Playing) (p : Playtest) → old ≡ record { playtest = Some p; kept = None } → old.kept ≡ None
kept_none old p is = ap (λ (o : Playing). o.kept) is

-- a playtest that hasn't ended goes on
pub is_on : (o : Option Playtest) (p : Playtest) → o ≡ Some p → p.ending ≡ None → goes_on o ≡ true
is_on o p is going = rw (is, going) refl

-- a key is asked for
asked : (failing : Bool) (old : Playing) (s e : Stage) (c : Course) → IsAt c old s
    → c.play.ending ≡ None → (goes_on old.playtest ≡ true → AsksOnce old.kept failing s.source e.source)
    → Foretold failing s.source e.source
asked failing old s e c at going asks =
    subst (λ k. AsksOnce k failing s.source e.source) (kept_none old c.play at.0) (asks (is_on old.playtest c.play (ap (λ (o : Playing). o.playtest) at.0) going))

-- a step was made, and shown or not
step_made : (failing : Bool) (used : ℕ) (words : List ℕ) (old new : Playing) (s e : Stage) (c : Course)
    → IsAt c old s → words ≡ c.words → Uses (Ok used) words old s.keys new e.keys → Foretold false s.source e.source
    → ((q : Playtest) → new.playtest ≡ Some q → ShowsStep failing q s e)
    → (d : Course) × Advances failing c d × IsAt d new e × (d.words ≡ drop used words)
step_made failing used words old new s e c at same uses asks shows =
    let key = uses.0 in
    let step = uses.2 in
    let p = step.0 in
    let q = step.1 in
    let none = kept_none old c.play at.0 in
    let takes : Takes None s.keys (Some key) e.keys = rw none at uses.1 in
    let is : p ≡ c.play = same_play p c.play old.playtest step.2 (ap (λ (o : Playing). o.playtest) at.0) in
    let made : Steps (Ok used) key c.play words q = subst (λ x. Steps (Ok used) key x words q) is step.4 in
    let steps : Steps (Ok used) key c.play c.words q = subst (λ ws. Steps (Ok used) key c.play ws q) same made in
    let calls : TakesKey (Some key) c.stage e × ShowsStep failing q c.stage e =
    subst (λ x. TakesKey (Some key) x e × ShowsStep failing q x e) at.1 ((takes, asks), shows q step.3) in
    let d : Course = record { play = q; words = drop used c.words; stage = e } in
    (d, (key, used, calls.0, steps, refl, calls.1), (playing_is new q step.3 uses.3, refl), ap (λ ws. drop used ws) (sym same))

pub key_steps : (used : ℕ) (words : List ℕ) (old new : Playing) (s e : Stage) (c : Course)
    → IsAt c old s → words ≡ c.words → c.play.ending ≡ None → PlaysKey (Ok (Some used)) words old s.keys new e.keys
    → (goes_on old.playtest ≡ true → AsksOnce old.kept false s.source e.source) → ShowsOnStage (Ok (Some used)) s.screen e.screen
    → ShowsKey (Ok (Some used)) new.playtest s.shown e.shown
    → (d : Course) × Advances false c d × IsAt d new e × (d.words ≡ drop used words)
key_steps used words old new s e c at same going plays asks once shows =
    step_made false used words old new s e c at same plays (asked false old s e c at going asks)
    (λ q is. (once, subst (λ o. ShowsPlay o s.shown e.shown) is shows))

-- no key was left
pub no_key : (n : ℕ) (words : List ℕ) (old new : Playing) (s e : Stage) (c : Course) → IsAt c old s
    → c.play.ending ≡ None → PlaysKey (Ok None) words old s.keys new e.keys
    → (goes_on old.playtest ≡ true → AsksOnce old.kept false s.source e.source)
    → ShowsOnStage (Ok None) s.screen e.screen → ShowsKey (Ok None) new.playtest s.shown e.shown
    → n < most_keys → (new.playtest ≡ Some c.play) × IsOver n c e
no_key n words old new s e c at going plays asks once shows few =
    let none = kept_none old c.play at.0 in
    let takes : Takes None s.keys None e.keys = rw none at plays.1 in
    let calls : TakesKey None c.stage e × ShowsNothing c.stage e =
    subst (λ x. TakesKey None x e × ShowsNothing x e) at.1 ((takes, asked false old s e c at going asks), (shows, once)) in
    (ap (λ (x : Playing). x.playtest) (plays.2 ∙ at.0), inr ((few, going), calls.0, calls.1))

still_on : (o : Option Playtest) (p : Playtest) → o ≡ Some p → p.ending ≡ None → goes_on o ≢ false
still_on o p is going off = let bad : true ≡ false = rw (is, going) at off in cc

-- a key was taken for a step with this answer, and nothing was shown
unshown : (answer : Result ℕ PlayError) (words : List ℕ) (old new : Playing) (s e : Stage) (c : Course)
    → IsAt c old s → words ≡ c.words → Uses answer words old s.keys new e.keys → Foretold false s.source e.source → ShowsNothing s e
    → (key : Key) × (q : Playtest) × TakesKey (Some key) c.stage e × ShowsNothing c.stage e × Steps answer key c.play c.words q
unshown answer words old new s e c at same uses asks shows =
    let key = uses.0 in
    let step = uses.2 in
    let p = step.0 in
    let q = step.1 in
    let none = kept_none old c.play at.0 in
    let takes : Takes None s.keys (Some key) e.keys = rw none at uses.1 in
    let is : p ≡ c.play = same_play p c.play old.playtest step.2 (ap (λ (o : Playing). o.playtest) at.0) in
    let by_words : Steps answer key c.play words q = subst (λ x. Steps answer key x words q) is step.4 in
    let made : Steps answer key c.play c.words q = subst (λ ws. Steps answer key c.play ws q) same by_words in
    let calls : TakesKey (Some key) c.stage e × ShowsNothing c.stage e =
    subst (λ x. TakesKey (Some key) x e × ShowsNothing x e) at.1 ((takes, asks), shows) in
    (key, q, calls.0, calls.1, made)

-- a refused key ends the play
pub key_refused : (why : SessionError) (n : ℕ) (words : List ℕ) (old new : Playing) (s e : Stage) (c : Course)
    → IsAt c old s → words ≡ c.words → c.play.ending ≡ None → PlaysKey (Err why) words old s.keys new e.keys
    → (goes_on old.playtest ≡ true → AsksOnce old.kept (is_key_fault {X = Option ℕ} (Err why)) s.source e.source)
    → ShowsOnStage (Err why) s.screen e.screen
    → ShowsKey (Err why) new.playtest s.shown e.shown
    → n < most_keys → EndsPlay n c e (Err (session_refusal why))
key_refused session.Over n words old new s e c at same going plays asks once shows few =
    absurd (still_on old.playtest c.play (ap (λ (o : Playing). o.playtest) at.0) going plays.0)
key_refused session.KeyFault n words old new s e c at same going plays asks once shows few =
    let lacks : LacksKey c e =
    subst (λ x. Foretold true x.source e.source × (e.keys ≡ x.keys) × ShowsNothing x e) at.1 (asked true old s e c at going asks, plays.3, (shows, once)) in
    inr (inr (inl (refl, (few, going), lacks)))
key_refused session.NoWords n words old new s e c at same going plays asks once shows few =
    let lacks = unshown (Err step_error.NoWords) words old new s e c at same plays (asked false old s e c at going asks) (shows, once) in
    let made = lacks.4 in
    inr (inl (refl, (few, going), (lacks.0, lacks.2, lacks.3, (made.0, (made.1.0, refl)))))
key_refused session.Memory n words old new s e c at same going plays asks once shows few =
    let lacks = unshown (Err step_error.Memory) words old new s e c at same plays (asked false old s e c at going asks) (shows, once) in
    inr (inr (inr (inr (inr (refl, inr ((few, going), lacks))))))
key_refused session.ScreenFault n words old new s e c at same going plays asks once shows few =
    let made = step_made true plays.0 words old new s e c at same plays.1 (asked false old s e c at going asks) (λ q is. once) in
    inr (inr (inr (inl (refl, (few, going), (made.0, made.1, made.2.1)))))
key_refused _ n words old new s e c at same going plays asks once shows few = absurd plays

-- the playtest that is lent is the one that was started
pub lent_is : {X : Type 0} (now : X → Playtest) (play : X) (o : Option X) (started : Option Playtest) (q : Playtest)
    → option_map now o ≡ started → o ≡ Some play
    → started ≡ Some q → now play ≡ q
lent_is now play o started q lent is at = let both : Some (now play) ≡ Some q = rw is at lent ∙ at in cc

-- a playtest is there, whatever a key came to
pub still_lent : {X : Type 0} (now : X → Playtest) (o : Option X) (used : Option ℕ) (words : List ℕ) (old new : Playing) (keys left : Option (List Key)) (p : Playtest)
    → old ≡ record { playtest = Some p; kept = None } → PlaysKey (Ok used) words old keys new left → option_map now o ≡ new.playtest
    → o ≡ None
    → ⊥
still_lent now o (Some used) words old new keys left p at plays lent none =
    let step = plays.2 in
    let bad : None ≡ Some step.1 = sym (ap (option_map now) none) ∙ lent ∙ step.3 in
    absurd (cc)
still_lent now o None words old new keys left p at plays lent none =
    let bad : None ≡ Some p = sym (ap (option_map now) none) ∙ lent ∙ ap (λ (x : Playing). x.playtest) (plays.2 ∙ at) in
    absurd (cc)
