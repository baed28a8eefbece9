use Rattle.std.proofs.Common.{◌≡◌, ◌≤◌, List, None, Ok, Result, ℕ}
use Rattle.zed_files.specs.declared.refusal.Refusal.{Refusal}
use Rattle.cmd_show.specs.Stage.{Stage, stage}
use Rattle.cmd_show.specs.Shown.{Course, Plays, PlaysOn, most_keys}
use Rattle.cmd_show.proofs.Played.{IsAt}
use Rattle.cmd_show.proofs.Stepping.{Leads}
use Rattle.cmd_show.proofs.playing.play_board.Given as goal

-- the playtest goes on: its steps follow on those from the first, and no call of screen or keys failed
abbrev pub invariant-loop : goal.invariant-loop
invariant-loop g l = record {
  first : Course;
  now : Course;
  at : IsAt now l.playing (stage ((goal.Screen-dyn g l.screen.now).shown l.screen.now.1)
      ((goal.Screen-dyn g l.screen.now).screen_foretells l.screen.now.1)
      ((goal.Keys-dyn g l.keys.now).left l.keys.now.1)
      ((goal.Keys-dyn g l.keys.now).keys_foretell l.keys.now.1));
  words : l.left ≡ now.words;
  going : now.play.ending ≡ None;
  few : l.counter ≤ most_keys;
  leads : Leads l.counter first now;
  comes : (last : Stage) (r : Result (List ℕ) Refusal) → Plays first last r
      → PlaysOn (stage ((goal.Screen-dyn g l.fn.screen.now).shown l.fn.screen.now.1)
      ((goal.Screen-dyn g l.fn.screen.now).screen_foretells l.fn.screen.now.1)
      ((goal.Keys-dyn g l.fn.keys.now).left l.fn.keys.now.1)
      ((goal.Keys-dyn g l.fn.keys.now).keys_foretell l.fn.keys.now.1)) last l.fn.limit (Ok l.document.edits) l.fn.board l.words r;
  screen_calm : (goal.Screen-dyn g l.screen.now).screen_failures l.screen.now.1 ≡ (goal.Screen-dyn g l.fn.screen.now).screen_failures l.fn.screen.now.1;
  keys_calm : (goal.Keys-dyn g l.keys.now).key_failures l.keys.now.1 ≡ (goal.Keys-dyn g l.fn.keys.now).key_failures l.fn.keys.now.1;
}
