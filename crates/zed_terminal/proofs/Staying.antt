-- What is played of one board is played over boards too, until the player leaves it.
use Rattle.std.proofs.Common.{◌≡◌, ◌∙◌, ℕ, zero, suc, Bool, false, Option, Some, None, Result, Ok, Err, ap, inl, inr, refl, subst, sym}
use Rattle.std.specs.Prelude.{⊤}
use Rattle.zed_world.specs.Contents.{Contents}
use Rattle.zed_play.specs.declared.ending.Ending.{Ending}
use Rattle.zed_play.specs.declared.ending.Ending.TheVariants.{Left, Died, Failed}
use Rattle.zed_play.specs.declared.entering.Way.{Way}
use Rattle.zed_play.specs.declared.key.Key.{Key}
use Rattle.zed_play.specs.Entering.{way_of}
use Rattle.zed_play.specs.Playtest.{Playtest}
use Rattle.zed_terminal.specs.declared.overlay.Act.{Act}
use Rattle.zed_terminal.specs.declared.overlay.Act.TheVariants.{Play, Choose, Show, Resize}
use Rattle.zed_terminal.specs.declared.error.TurnError.{TurnError}
use Rattle.zed_terminal.specs.Course.{Advances, Course, Does, Ends, Plays, PlaysOn, Point, StepsOn, asked_at, behind_step, course, next_by, next_of}
use Rattle.zed_terminal.specs.Overlaid.{or_other}
use Rattle.zed_terminal.specs.Devices.{Chances}
use Rattle.zed_terminal.specs.Performing.{played_to}
use Rattle.zed_terminal.specs.Stage.{Stage}
use Rattle.zed_terminal.specs.Staying.{IsStill, SameUntilLeft}

-- no playtest goes on but over boards
next_none : (way : Way) (o : Option Ending) (p : Playtest) → next_by None way o p ≡ None
next_none way None p = refl
next_none way (Some (Left board)) p = refl
next_none way (Some Died) p = refl
next_none way (Some Failed) p = refl

-- nor where the player didn't leave
next_still : (w : Option Contents) (way : Way) (o : Option Ending) (p : Playtest) → ((board : ℕ) → o ≡ Some (Left board) → ⊥)
    → next_by w way o p ≡ None
next_still w way None p still = refl
next_still w way (Some (Left board)) p still = absurd (still board refl)
next_still w way (Some Died) p still = refl
next_still w way (Some Failed) p still = refl

steps_still : (w : Option Contents) (key : Key) (a b : Point) (chance chance_then : Chances) → IsStill b.play
    → StepsOn None key a chance b chance_then → StepsOn w key a chance b chance_then
steps_still w key a b chance chance_then still (mid, supplied, is) =
    let none = next_none (way_of key a.play) mid.play.ending mid.play in
    let here : b.play ≡ mid.play = ap (λ (x : Point). x.play) is ∙ ap (λ n. or_other n mid.play) none in
    let there : IsStill mid.play = subst IsStill here still in
    let same : next_of None key a.play mid.play ≡ next_of w key a.play mid.play =
    none ∙ sym (next_still w (way_of key a.play) mid.play.ending mid.play there) in
    (mid, supplied, is ∙ ap (λ n. behind_step n key a mid) same)

does_still : (w : Option Contents) (act : Act) (a b : Point) (chance chance_then : Chances) → IsStill b.play
    → Does None act a chance b chance_then → Does w act a chance b chance_then
does_still w (Play key) a b chance chance_then still plays = elim plays [
  | inl step ↦ inl (step.0, steps_still w key a b chance chance_then still step.1)
  | inr over ↦ inr over
]
does_still w (Choose c) a b chance chance_then still is = is
does_still w (Show shown) a b chance chance_then still is = is
does_still w (Resize size) a b chance chance_then still is = is

advances_still : (w : Option Contents) (failing : Bool) (c d : Course) → IsStill d.at.play → Advances None failing c d
    → Advances w failing c d
advances_still w failing c d still (input, takes, answers, draws) =
    (input, takes, does_still w (asked_at input c.at) c.at d.at c.stage.chance d.stage.chance still answers, draws)

-- ---- what has ended stays so

does_ended : (act : Act) (a b : Point) (chance chance_then : Chances) (e : Ending) → a.play.ending ≡ Some e
    → Does None act a chance b chance_then → b.play.ending ≡ Some e
does_ended (Play key) a b chance chance_then e ended plays = elim plays [
  | inl step ↦ absurd (let no = sym step.0 ∙ ended in cc)
  | inr over ↦ ap (λ (x : Point). x.play.ending) over.1 ∙ ended
]
does_ended (Choose c) a b chance chance_then e ended (is, still) = ap (λ (x : Point). x.play.ending) is ∙ ended
does_ended (Show shown) a b chance chance_then e ended (is, still) = ap (λ (x : Point). x.play.ending) is ∙ ended
does_ended (Resize size) a b chance chance_then e ended (is, still) = ap (λ (x : Point). x.play.ending) is ∙ ended

plays_ended : (n : ℕ) (c d : Course) (e : Ending) → Plays None n c d → c.at.play.ending ≡ Some e → d.at.play.ending ≡ Some e
plays_ended zero c d e is ended = ap (λ (x : Course). x.at.play.ending) is ∙ ended
plays_ended (suc n) c d e (next, going, (input, takes, answers, draws), on) ended =
    plays_ended n next d e on (does_ended (asked_at input c.at) c.at next.at c.stage.chance next.stage.chance e ended answers)

-- who hasn't left after so many turns hadn't before
still_before : (n : ℕ) (c d : Course) → Plays None n c d → IsStill d.at.play → IsStill c.at.play
still_before n c d plays still board left = still board (plays_ended n c d (Left board) plays left)

plays_still : (w : Option Contents) (n : ℕ) (c d : Course) → IsStill d.at.play → Plays None n c d → Plays w n c d
plays_still w zero c d still is = is
plays_still w (suc n) c d still (next, going, advances, on) =
    (next, going, advances_still w false c next (still_before n next d on still) advances, plays_still w n next d still on)

-- a course that came to its end, which is no refusal
still_at : (n : ℕ) (c last : Course) → IsStill last.at.play → Ends None n c last (Ok tt) → IsStill c.at.play
still_at n c last still ends = elim ends [
  | inl over ↦ subst (λ (x : Course). IsStill x.at.play) over.2 still
  | inr more ↦ elim more [
    | inl idle ↦ subst (λ (x : Point). IsStill x.play) idle.2.3 still
    | inr refused ↦ elim refused [
      | inl why ↦ absurd (let no = why.1 in cc)
      | inr many ↦ absurd (let no = many.0 in cc)
    ]
  ]
]

ends_still : (w : Option Contents) (n : ℕ) (c last : Course) → Ends None n c last (Ok tt) → Ends w n c last (Ok tt)
ends_still w n c last ends = elim ends [
  | inl over ↦ inl over
  | inr more ↦ elim more [
    | inl idle ↦ inr (inl idle)
    | inr refused ↦ elim refused [
      | inl why ↦ absurd (let no = why.1 in cc)
      | inr many ↦ absurd (let no = many.0 in cc)
    ]
  ]
]

plays_on_still : (w : Option Contents) (first last : Course) → IsStill last.at.play → PlaysOn None first last (Ok tt)
    → PlaysOn w first last (Ok tt)
plays_on_still w first last still (n, c, few, plays, ends) =
    (n, c, few, plays_still w n first c (still_at n c last still ends) plays, ends_still w n c last ends)

-- what was told of it is that it was played to its end
told_still : (w : Option Contents) (told : Result ⊤ TurnError) (first : Course) (at last : Point) (new : Stage) → IsStill last.play
    → PlaysOn None first (course at new) told → Ok last ≡ played_to told at → PlaysOn w first (course at new) told
told_still w (Err e) first at last new still on is = absurd (cc)
told_still w (Ok u) first at last new still on is =
    let same : last ≡ at = cc in
    plays_on_still w first (course at new) (subst (λ (x : Point). IsStill x.play) same still) on

pub same_until_left : SameUntilLeft
same_until_left w first last old new still performs = elim performs [
  | inl (drawn, terminal, at, told, draws, on, is) ↦ inl (drawn, terminal, at, told, draws, told_still (Some w) told _ at last new still on is, is)
  | inr more ↦ inr more
]
