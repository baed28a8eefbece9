use Rattle.std.proofs.Common.{◌≡◌, ◌+◌, ◌≤◌, ◌∙◌, ℕ, Option, ap, arith, Err, Ok, inl, inr, refl, sym}
use Rattle.std.proofs.lemmas.Result.{err_from_is_err_and}
use Rattle.std.specs.Prelude.{is_some}
use Rattle.zed_types.proofs.Facts.{none_is}
use Rattle.zed_play.specs.Playtest.{Playtest}
use Rattle.zed_files.specs.declared.refusal.Refusal.TheVariants.{Memory, TooManyTurns}
use Rattle.cmd_show.specs.Stage.{Stage, stage}
use Rattle.cmd_show.specs.Told.{told_of}
use Rattle.cmd_show.specs.Shown.{Course, EndsPlay, course, most_keys}
use Rattle.zed_files.specs.Refusals.{session_refusal}
use Rattle.zed_session.specs.declared.playing.Playing.{Playing}
use Rattle.cmd_show.proofs.Played.{is_on, key_refused, key_steps, lent_is, no_key, play_begins, shown_of, still_lent}
use Rattle.zed_files.proofs.OffStage.{keys_uncounted, off_on, screen_uncounted}
use Rattle.cmd_show.proofs.Idle.{key_of_playing, of_playing, unbegun}
use Rattle.cmd_show.proofs.OffStage.{keys_on, screen_on, unbegun_off}
use Rattle.cmd_show.proofs.Stepping.{at_start, none_more, one_more}
use Rattle.cmd_show.proofs.Boards.{passed_board, refused_board}
use Rattle.cmd_show.proofs.playing.play_board.Goals as goal

-- it doesn't begin
pub returns-in_err-start-clause-plays : goal.returns-in_err-start-clause-plays
returns-in_err-start-clause-plays g c =
    let before : Stage =
    stage ((goal.Screen-dyn g c.args.screen.now).shown c.args.screen.now.1)
    ((goal.Screen-dyn g c.args.screen.now).screen_foretells c.args.screen.now.1)
    ((goal.Keys-dyn g c.args.keys.now).left c.args.keys.now.1)
    ((goal.Keys-dyn g c.args.keys.now).keys_foretell c.args.keys.now.1) in
    let p = err_from_is_err_and c.from_residual.result c.from_residual.ensures.1 in
    let same : p.0 ≡ session_refusal c.in_err-start.field-0.0 = p.2 in
    let d = c.args.document.now in
    let begins = play_begins before c.args.limit d.edits c.args.board c.args.words.now c.start.new.self (Err c.in_err-start.field-0.0)
    (rw (shown_of c.args.limit d c.requires.sound) at c.in_err-start.ensures.result) in
    rw (p.1, same) (elim begins [ inl memory ↦ inl (memory, refl) | inr comes ↦ inr comes ])

-- it begins
pub loop-init : goal.loop-init
loop-init g c =
    let before : Stage =
    stage ((goal.Screen-dyn g c.args.screen.now).shown c.args.screen.now.1)
    ((goal.Screen-dyn g c.args.screen.now).screen_foretells c.args.screen.now.1)
    ((goal.Keys-dyn g c.args.keys.now).left c.args.keys.now.1)
    ((goal.Keys-dyn g c.args.keys.now).keys_foretell c.args.keys.now.1) in
    let d = c.args.document.now in
    let begins = play_begins before c.args.limit d.edits c.args.board c.args.words.now c.start.new.self (Ok c.in_ok-start.field-0)
    (rw (shown_of c.args.limit d c.requires.sound) at c.in_ok-start.ensures.result) in
    let first : Course = course before begins.0 c.args.words.now in
    record {
      first = first;
      now = first;
      at = (begins.1, refl);
      words = refl;
      going = begins.2;
      few = omega arith;
      leads = at_start first;
      comes = begins.3;
      screen_calm = refl;
      keys_calm = refl;
    }

-- a key is refused
pub returns-in_err-used-clause-plays : goal.returns-in_err-used-clause-plays
returns-in_err-used-clause-plays g c =
    let after : Stage =
    stage ((goal.Screen-dyn g c.loop.screen.now).shown c.play_key.new.screen)
    ((goal.Screen-dyn g c.loop.screen.now).screen_foretells c.play_key.new.screen)
    ((goal.Keys-dyn g c.loop.keys.now).left c.play_key.new.keys)
    ((goal.Keys-dyn g c.loop.keys.now).keys_foretell c.play_key.new.keys) in
    let p = err_from_is_err_and c.from_residual-in_err-used.result c.from_residual-in_err-used.ensures.1 in
    let same : p.0 ≡ session_refusal c.in_err-used.field-0.0 = p.2 in
    let old = c.loop.invariant in
    let e = c.in_err-used.field-0.0 in
    let how = key_refused e c.loop.counter c.loop.left.now _ _ _ after old.now old.at old.words old.going
    c.in_err-used.ensures.result c.in_err-used.ensures.key_foretold c.in_err-used.ensures.screen_foretold c.in_err-used.ensures.shown c.loop-test.true in
    rw (p.1, same) (inr (old.comes after (Err (session_refusal e)) (c.loop.counter, old.now, old.few, none_more c.loop.counter old.first old.now old.leads, how)))

-- no key is left
pub returns-in_default-used-clause-plays : goal.returns-in_default-used-clause-plays
returns-in_default-used-clause-plays g c =
    let after : Stage =
    stage ((goal.Screen-dyn g c.loop.screen.now).shown c.play_key.new.screen)
    ((goal.Screen-dyn g c.loop.screen.now).screen_foretells c.play_key.new.screen)
    ((goal.Keys-dyn g c.loop.keys.now).left c.play_key.new.keys)
    ((goal.Keys-dyn g c.loop.keys.now).keys_foretell c.play_key.new.keys) in
    let old = c.loop.invariant in
    let stays = no_key c.loop.counter c.loop.left.now _ _ _ after old.now old.at old.going (rw c.in_default-used.is at c.in_ok-used.ensures.result) c.in_ok-used.ensures.key_foretold
    (rw c.in_default-used.is at c.in_ok-used.ensures.screen_foretold) (rw c.in_default-used.is at c.in_ok-used.ensures.shown) c.loop-test.true in
    let play : c.in-Some.play.now ≡ old.now.play =
    lent_is (λ p. p.now) c.in-Some.play c.playtest.result _ old.now.play c.playtest.ensures.result c.in-Some.is stays.0 in
    let text : c.in_ok-told.field-0.items ≡ told_of old.now.play = c.in_ok-told.ensures ∙ ap told_of play in
    old.comes after (Ok c.in_ok-told.field-0.items)
    (c.loop.counter, old.now, old.few, none_more c.loop.counter old.first old.now old.leads, inl (ap (λ t. Ok t) text, stays.1))

-- the playtest has ended
pub returns-then-is_some-clause-plays : goal.returns-then-is_some-clause-plays
returns-then-is_some-clause-plays g c =
    let after : Stage =
    stage ((goal.Screen-dyn g c.loop.screen.now).shown c.play_key.new.screen)
    ((goal.Screen-dyn g c.loop.screen.now).screen_foretells c.play_key.new.screen)
    ((goal.Keys-dyn g c.loop.keys.now).left c.play_key.new.keys)
    ((goal.Keys-dyn g c.loop.keys.now).keys_foretell c.play_key.new.keys) in
    let old = c.loop.invariant in
    let step = key_steps c.in-Some-used.used c.loop.left.now _ _ _ after old.now old.at old.words old.going (rw c.in-Some-used.is at c.in_ok-used.ensures.result)
    c.in_ok-used.ensures.key_foretold (rw c.in-Some-used.is at c.in_ok-used.ensures.screen_foretold) (rw c.in-Some-used.is at c.in_ok-used.ensures.shown) in
    let now = step.0 in
    let play : c.in-Some.play.now ≡ now.play = lent_is (λ p. p.now) c.in-Some.play c.playtest.result _ now.play c.playtest.ensures.result c.in-Some.is (ap (λ (p : Playing). p.playtest) step.2.0) in
    let text : c.in_ok-told-2.field-0.items ≡ told_of now.play = c.in_ok-told-2.ensures ∙ ap told_of play in
    let ending : c.ending.result ≡ now.play.ending = c.ending.ensures.result ∙ ap (λ (p : Playtest). p.ending) play in
    let leads = one_more c.loop.counter old.first old.now now old.leads step.1 in
    let below = c.loop-test.true in
    let few : c.loop.counter + 1 ≤ most_keys = omega (arith, below) in
    old.comes after (Ok c.in_ok-told-2.field-0.items) (
      c.loop.counter + 1,
      now,
      few,
      none_more (c.loop.counter + 1) old.first now leads,
      inl (ap (λ t. Ok t) text, inl (ap is_some (sym ending) ∙ sym c.is_some.ensures ∙ c.if-is_some.true, step.2.1)),
    )

-- a step was made, and it goes on
pub loop-preserved : goal.loop-preserved
loop-preserved g c =
    let after : Stage =
    stage ((goal.Screen-dyn g c.loop.screen.now).shown c.play_key.new.screen)
    ((goal.Screen-dyn g c.loop.screen.now).screen_foretells c.play_key.new.screen)
    ((goal.Keys-dyn g c.loop.keys.now).left c.play_key.new.keys)
    ((goal.Keys-dyn g c.loop.keys.now).keys_foretell c.play_key.new.keys) in
    let old = c.loop.invariant in
    let step = key_steps c.in-Some-used.used c.loop.left.now _ _ _ after old.now old.at old.words old.going (rw c.in-Some-used.is at c.in_ok-used.ensures.result)
    c.in_ok-used.ensures.key_foretold (rw c.in-Some-used.is at c.in_ok-used.ensures.screen_foretold) (rw c.in-Some-used.is at c.in_ok-used.ensures.shown) in
    let now = step.0 in
    let play : c.in-Some.play.now ≡ now.play = lent_is (λ p. p.now) c.in-Some.play c.playtest.result _ now.play c.playtest.ensures.result c.in-Some.is (ap (λ (p : Playing). p.playtest) step.2.0) in
    let ending : c.ending.result ≡ now.play.ending = c.ending.ensures.result ∙ ap (λ (p : Playtest). p.ending) play in
    let below = c.loop-test.true in
    record {
      first = old.first;
      now = now;
      at = step.2;
      words = c.split_at.ensures.back ∙ sym step.3;
      going = sym ending ∙ none_is c.ending.result (sym c.is_some.ensures ∙ c.if-is_some.false);
      few = omega (arith, below);
      leads = one_more c.loop.counter old.first old.now now old.leads step.1;
      comes = old.comes;
      screen_calm = c.in_ok-used.ensures.screen_faults ∙ old.screen_calm;
      keys_calm = c.in_ok-used.ensures.key_faults ∙ old.keys_calm;
    }

-- all keys were used that may be
pub returns-clause-plays : goal.returns-clause-plays
returns-clause-plays g c =
    let old = c.loop.invariant in
    let few = old.few in
    let past = c.loop-test.false in
    let all : c.loop.counter ≡ most_keys = omega (arith, few, past) in
    inr (old.comes _ (Err TooManyTurns) (c.loop.counter, old.now, old.few, none_more c.loop.counter old.first old.now old.leads, inr (inr (inr (inr (inl (refl, all, old.going, old.at.1)))))))

-- a playtest that was started goes on
pub returns-in_default : goal.returns-in_default
returns-in_default g c =
    let old = c.loop.invariant in
    absurd (still_lent (λ p. p.now) c.playtest.result c.in_ok-used.used c.loop.left.now _ _ _ _ old.now.play old.at.0 c.in_ok-used.ensures.result c.playtest.ensures.result c.in_default.is)

-- memory is lacking for what is told where no key is left
pub returns-in_err-told-clause-plays : goal.returns-in_err-told-clause-plays
returns-in_err-told-clause-plays g c =
    let after : Stage =
    stage ((goal.Screen-dyn g c.loop.screen.now).shown c.play_key.new.screen)
    ((goal.Screen-dyn g c.loop.screen.now).screen_foretells c.play_key.new.screen)
    ((goal.Keys-dyn g c.loop.keys.now).left c.play_key.new.keys)
    ((goal.Keys-dyn g c.loop.keys.now).keys_foretell c.play_key.new.keys) in
    let p = err_from_is_err_and c.from_residual-in_err-told.result c.from_residual-in_err-told.ensures.1 in
    let same : p.0 ≡ Memory = p.2 in
    let old = c.loop.invariant in
    let stays = no_key c.loop.counter c.loop.left.now _ _ _ after old.now old.at old.going (rw c.in_default-used.is at c.in_ok-used.ensures.result) c.in_ok-used.ensures.key_foretold
    (rw c.in_default-used.is at c.in_ok-used.ensures.screen_foretold) (rw c.in_default-used.is at c.in_ok-used.ensures.shown) c.loop-test.true in
    let lacks : EndsPlay c.loop.counter old.now after (Err Memory) = inr (inr (inr (inr (inr (refl, inl stays.1))))) in
    rw (p.1, same) (inr (old.comes after (Err Memory) (c.loop.counter, old.now, old.few, none_more c.loop.counter old.first old.now old.leads, lacks)))

-- or where the playtest has ended
pub returns-in_err-told-2-clause-plays : goal.returns-in_err-told-2-clause-plays
returns-in_err-told-2-clause-plays g c =
    let after : Stage =
    stage ((goal.Screen-dyn g c.loop.screen.now).shown c.play_key.new.screen)
    ((goal.Screen-dyn g c.loop.screen.now).screen_foretells c.play_key.new.screen)
    ((goal.Keys-dyn g c.loop.keys.now).left c.play_key.new.keys)
    ((goal.Keys-dyn g c.loop.keys.now).keys_foretell c.play_key.new.keys) in
    let p = err_from_is_err_and c.from_residual-in_err-told-2.result c.from_residual-in_err-told-2.ensures.1 in
    let same : p.0 ≡ Memory = p.2 in
    let old = c.loop.invariant in
    let step = key_steps c.in-Some-used.used c.loop.left.now _ _ _ after old.now old.at old.words old.going (rw c.in-Some-used.is at c.in_ok-used.ensures.result)
    c.in_ok-used.ensures.key_foretold (rw c.in-Some-used.is at c.in_ok-used.ensures.screen_foretold) (rw c.in-Some-used.is at c.in_ok-used.ensures.shown) in
    let now = step.0 in
    let play : c.in-Some.play.now ≡ now.play = lent_is (λ p. p.now) c.in-Some.play c.playtest.result _ now.play c.playtest.ensures.result c.in-Some.is (ap (λ (p : Playing). p.playtest) step.2.0) in
    let ending : c.ending.result ≡ now.play.ending = c.ending.ensures.result ∙ ap (λ (p : Playtest). p.ending) play in
    let leads = one_more c.loop.counter old.first old.now now old.leads step.1 in
    let below = c.loop-test.true in
    let few : c.loop.counter + 1 ≤ most_keys = omega (arith, below) in
    let lacks : EndsPlay (c.loop.counter + 1) now after (Err Memory) =
    inr (inr (inr (inr (inr (refl, inl (inl (ap is_some (sym ending) ∙ sym c.is_some.ensures ∙ c.if-is_some.true, step.2.1))))))) in
    rw (p.1, same) (inr (old.comes after (Err Memory) (c.loop.counter + 1, now, few, none_more (c.loop.counter + 1) old.first now leads, lacks)))

-- ---- what was asked of screen and keys

-- nothing, where it doesn't begin
pub returns-in_err-start-clause-idle : goal.returns-in_err-start-clause-idle
returns-in_err-start-clause-idle g c = unbegun c.from_residual.result _ (refl, refl)

pub returns-in_err-used-clause-idle : goal.returns-in_err-used-clause-idle
returns-in_err-used-clause-idle g c =
    let old = c.loop.invariant in
    of_playing c.from_residual-in_err-used.result (session_refusal c.in_err-used.field-0.0) _ c.from_residual-in_err-used.ensures.1
    (key_of_playing c.in_err-used.field-0.0 c.loop.left.now _ _ _ _ (is_on _ old.now.play (ap (λ (p : Playing). p.playtest) old.at.0) old.going) c.in_err-used.ensures.result)

pub returns-in_err-told-clause-idle : goal.returns-in_err-told-clause-idle
returns-in_err-told-clause-idle g c = of_playing c.from_residual-in_err-told.result Memory _ c.from_residual-in_err-told.ensures.1 refl

pub returns-in_err-told-2-clause-idle : goal.returns-in_err-told-2-clause-idle
returns-in_err-told-2-clause-idle g c =
    of_playing c.from_residual-in_err-told-2.result Memory _ c.from_residual-in_err-told-2.ensures.1 refl

-- ---- faults of screen and keys

-- it doesn't begin
pub returns-in_err-start-clause-key_faults : goal.returns-in_err-start-clause-key_faults
returns-in_err-start-clause-key_faults g c =
    keys_uncounted c.from_residual.result _ _ (off_on c.from_residual.result (session_refusal c.in_err-start.field-0.0) c.from_residual.ensures.1 (unbegun_off _ c.args.board c.start.new.self c.in_err-start.field-0.0 c.in_err-start.ensures.result)) refl

pub returns-in_err-start-clause-screen_faults : goal.returns-in_err-start-clause-screen_faults
returns-in_err-start-clause-screen_faults g c =
    screen_uncounted c.from_residual.result _ _ (off_on c.from_residual.result (session_refusal c.in_err-start.field-0.0) c.from_residual.ensures.1 (unbegun_off _ c.args.board c.start.new.self c.in_err-start.field-0.0 c.in_err-start.ensures.result)) refl

-- a key is refused
pub returns-in_err-used-clause-key_faults : goal.returns-in_err-used-clause-key_faults
returns-in_err-used-clause-key_faults g c =
    keys_on (Option ℕ) c.from_residual-in_err-used.result c.in_err-used.field-0.0 _ _ _ c.from_residual-in_err-used.ensures.1 c.loop.invariant.keys_calm c.in_err-used.ensures.key_faults

pub returns-in_err-used-clause-screen_faults : goal.returns-in_err-used-clause-screen_faults
returns-in_err-used-clause-screen_faults g c =
    screen_on (Option ℕ) c.from_residual-in_err-used.result c.in_err-used.field-0.0 _ _ _ c.from_residual-in_err-used.ensures.1 c.loop.invariant.screen_calm c.in_err-used.ensures.screen_faults

-- memory is lacking for what is told
pub returns-in_err-told-clause-key_faults : goal.returns-in_err-told-clause-key_faults
returns-in_err-told-clause-key_faults g c =
    keys_uncounted c.from_residual-in_err-told.result _ _ (off_on c.from_residual-in_err-told.result Memory c.from_residual-in_err-told.ensures.1 (refl, refl)) (c.in_ok-used.ensures.key_faults ∙ c.loop.invariant.keys_calm)

pub returns-in_err-told-clause-screen_faults : goal.returns-in_err-told-clause-screen_faults
returns-in_err-told-clause-screen_faults g c =
    screen_uncounted c.from_residual-in_err-told.result _ _ (off_on c.from_residual-in_err-told.result Memory c.from_residual-in_err-told.ensures.1 (refl, refl)) (c.in_ok-used.ensures.screen_faults ∙ c.loop.invariant.screen_calm)

pub returns-in_err-told-2-clause-key_faults : goal.returns-in_err-told-2-clause-key_faults
returns-in_err-told-2-clause-key_faults g c =
    keys_uncounted c.from_residual-in_err-told-2.result _ _ (off_on c.from_residual-in_err-told-2.result Memory c.from_residual-in_err-told-2.ensures.1 (refl, refl)) (c.in_ok-used.ensures.key_faults ∙ c.loop.invariant.keys_calm)

pub returns-in_err-told-2-clause-screen_faults : goal.returns-in_err-told-2-clause-screen_faults
returns-in_err-told-2-clause-screen_faults g c =
    screen_uncounted c.from_residual-in_err-told-2.result _ _ (off_on c.from_residual-in_err-told-2.result Memory c.from_residual-in_err-told-2.ensures.1 (refl, refl)) (c.in_ok-used.ensures.screen_faults ∙ c.loop.invariant.screen_calm)

-- ---- where there is no such board, that is told
pub returns-in_err-start-clause-no_board : goal.returns-in_err-start-clause-no_board
returns-in_err-start-clause-no_board g c =
    let p = err_from_is_err_and c.from_residual.result c.from_residual.ensures.1 in
    let same : p.0 ≡ session_refusal c.in_err-start.field-0.0 = p.2 in
    rw (p.1, same) (refused_board _ _ c.args.board _ c.in_err-start.field-0.0 (rw (shown_of c.args.limit c.args.document.now c.requires.sound) at c.in_err-start.ensures.result))

pub returns-in_err-used-clause-no_board : goal.returns-in_err-used-clause-no_board
returns-in_err-used-clause-no_board g c =
    passed_board _ c.args.board _ c.in_ok-start.field-0 _ (rw (shown_of c.args.limit c.args.document.now c.requires.sound) at c.in_ok-start.ensures.result)

pub returns-in_default-used-clause-no_board : goal.returns-in_default-used-clause-no_board
returns-in_default-used-clause-no_board g c =
    passed_board _ c.args.board _ c.in_ok-start.field-0 _ (rw (shown_of c.args.limit c.args.document.now c.requires.sound) at c.in_ok-start.ensures.result)

pub returns-then-is_some-clause-no_board : goal.returns-then-is_some-clause-no_board
returns-then-is_some-clause-no_board g c =
    passed_board _ c.args.board _ c.in_ok-start.field-0 _ (rw (shown_of c.args.limit c.args.document.now c.requires.sound) at c.in_ok-start.ensures.result)

pub returns-clause-no_board : goal.returns-clause-no_board
returns-clause-no_board g c =
    passed_board _ c.args.board _ c.in_ok-start.field-0 _ (rw (shown_of c.args.limit c.args.document.now c.requires.sound) at c.in_ok-start.ensures.result)

pub returns-in_err-told-clause-no_board : goal.returns-in_err-told-clause-no_board
returns-in_err-told-clause-no_board g c =
    passed_board _ c.args.board _ c.in_ok-start.field-0 _ (rw (shown_of c.args.limit c.args.document.now c.requires.sound) at c.in_ok-start.ensures.result)

pub returns-in_err-told-2-clause-no_board : goal.returns-in_err-told-2-clause-no_board
returns-in_err-told-2-clause-no_board g c =
    passed_board _ c.args.board _ c.in_ok-start.field-0 _ (rw (shown_of c.args.limit c.args.document.now c.requires.sound) at c.in_ok-start.ensures.result)
