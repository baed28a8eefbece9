-- What was performed comes again of what is kept of it.
use Rattle.std.proofs.Common.{◌≡◌, ◌∙◌, ℕ, List, Option, Result, Ok, Err, ap, inl, inr, subst, sym}
use Rattle.std.specs.Prelude.{⊤}
use Rattle.zed_world.specs.Contents.{Contents}
use Rattle.zed_play.specs.Playtest.{Playtest}
use Rattle.zed_terminal.specs.declared.input.Size.{Size}
use Rattle.zed_terminal.specs.declared.error.TurnError.{TurnError}
use Rattle.zed_terminal.specs.Again.{Comes}
use Rattle.zed_terminal.specs.Course.{Course, Plays, PlaysOn, Point, course}
use Rattle.zed_terminal.specs.Performing.{PerformancesComeAgain, at_start, played_to}
use Rattle.zed_terminal.specs.Stage.{Stage}
use Rattle.zed_terminal.proofs.Again.{plays_again}

-- a playtest comes to this point by the keys and words that are kept there
abbrev pub ComesTo : Option Contents → Playtest → Point → Type 0
ComesTo w p at = Comes w p at.keys at.words at.play at.left

came_to : (w : Option Contents) (n : ℕ) (size : Size) (p : Playtest) (words : List ℕ) (s : Stage) (c : Course)
    → Plays w n (course (at_start size p words) s) c
    → ComesTo w p c.at
came_to w n size p words s c plays =
    let again = plays_again w n (course (at_start size p words) s) c plays in
    subst (λ keys. Comes w p keys c.at.words c.at.play c.at.left) (sym again.2) (subst (λ all. Comes w p again.0 all c.at.play c.at.left) (sym again.3) again.4)

played_again : (w : Option Contents) (told : Result ⊤ TurnError) (size : Size) (p : Playtest) (words : List ℕ) (s new : Stage) (at last : Point)
    → PlaysOn w (course (at_start size p words) s) (course at new) told → Ok last ≡ played_to told at → ComesTo w p last
played_again w (Err e) size p words s new at last on is = absurd (cc)
played_again w (Ok u) size p words s new at last (n, c, few, plays, ends) is =
    let here : last ≡ at = cc in
    let there = came_to w n size p words s c plays in
    let at_end : at ≡ c.at = elim ends [
      | inl over ↦ ap (λ (x : Course). x.at) over.2
      | inr more ↦ elim more [
        | inl none ↦ none.2.3
        | inr refused ↦ elim refused [
          | inl err ↦ absurd (let no = err.1 in cc)
          | inr turns ↦ absurd (let no = turns.0 in cc)
        ]
      ]
    ] in
    subst (λ x. ComesTo w p x) (sym (here ∙ at_end)) there

pub performances_come_again : PerformancesComeAgain
performances_come_again w size p words old new last performs = elim performs [
  | inl played ↦ played_again w played.3 size p words _ new played.2 last played.5 played.6
  | inr more ↦ elim more [
    | inl fault ↦ absurd (let no = fault.0 in cc)
    | inr memory ↦ absurd (let no = memory.0 in cc)
  ]
]
