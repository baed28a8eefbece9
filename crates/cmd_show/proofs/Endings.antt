-- How `show` and `play` end.
use Rattle.zed_op.specs.declared.op.Edit.{Edit}
use Rattle.zed_files.specs.declared.refusal.Refusal.{Refusal}
use Rattle.zed_files.specs.declared.refusal.Refusal.TheVariants.{File, Memory}
use Rattle.std.proofs.Common.{◌≡◌, ◌∙◌, ℕ, List, Option, Some, None, Result, Ok, Err, MatchResult, ap, refl, subst, sym, inl, inr}
use Rattle.std.specs.Global.{Vec}
use Rattle.std.specs.Prelude.{⊤, IfErr}
use mathlib.Core.Logic.{◌⊎◌}
use Rattle.cmd_show.specs.Shown.{PlaysFile, PlaysOn, ShowsOn, chances_in, IsPlayedOf, ComesToShow, ComesToPlay, LacksForPlay}
use Rattle.zed_host.specs.HostContents.{HostContents, IsRead, file_in}
use Rattle.zed_host.proofs.ReadFiles.{read_so}
use Rattle.zed_files.specs.Collected.{Collects}
use Rattle.zed_files.specs.Effects.{Effect, Ends, Leaves}
use Rattle.cmd_show.specs.Stage.{Stage}
use Rattle.zed_files.proofs.Endings.{collected_so, refused_ends}

pub show_so : (old new : Stage) (t : HostContents) (limit board : ℕ) (files : List (List ℕ)) (p q : Type 0) (r : Result Effect Refusal)
    → (p → q) → ComesToShow p old new t limit board files r
    → ComesToShow q old new t limit board files r
show_so old new t limit board files p q r so is = (is.0, is.1, collected_so p q t files is.0 so is.2, is.3, is.4)

file_so : (old new : Stage) (p q : Type 0) (t : HostContents) (names : List (List ℕ)) (read : Option (List ℕ)) (limit board : ℕ) (r : Result (List ℕ) Refusal)
    → (p → q)
    → PlaysFile old new read limit board (Collects p t names) r → PlaysFile old new read limit board (Collects q t names) r
file_so old new p q t names None limit board r so is = is
file_so old new p q t names (Some bytes) limit board r so is = (is.0, collected_so p q t names is.0 so is.1, is.2)

played_so : (old new : Stage) (p q : Type 0) (t : HostContents) (limit board : ℕ) (chance : List ℕ) (files : List (List ℕ)) (r : Result (List ℕ) Refusal)
    → (p → q)
    → IsPlayedOf p old new t limit board chance files r → IsPlayedOf q old new t limit board chance files r
played_so old new p q t limit board chance files r so is =
    (is.0, read_so p q t chance is.0 so is.1, file_so old new p q t files is.0 limit board r so is.2)

pub play_so : (old new : Stage) (t : HostContents) (limit board : ℕ) (chance : List ℕ) (files : List (List ℕ)) (p q : Type 0) (r : Result Effect Refusal)
    → (p → q)
    → ComesToPlay p old new t limit board chance files r → ComesToPlay q old new t limit board chance files r
play_so old new t limit board chance files p q r so is = (is.0, played_so old new p q t limit board chance files is.0 so is.1, is.2)

-- where nothing is played, nothing is told of a playtest
pub not_played : (failed : Type 0) (old new : Stage) (limit board : ℕ) (chance : List ℕ) (names : List (List ℕ)) (t : HostContents) (e : Refusal)
    → ((e ≡ Memory) × (new ≡ old)) ⊎ IsPlayedOf failed old new t limit board chance names (Err e)
    → (e ≡ Memory) ⊎ ComesToPlay failed old new t limit board chance names (Err e)
not_played failed old new limit board chance names t e why = elim why [ inl memory ↦ inl memory.0 | inr is ↦ inr (Err e, is, refl) ]

-- a command that answers this
abbrev refused : Refusal → Result ⊤ Refusal
refused e = Err e

-- what is so of the stage where that was for want of memory
pub lacks_for_play : (failed : Type 0) (old new : Stage) (limit board : ℕ) (chance : List ℕ) (names : List (List ℕ)) (t : HostContents) (e : Refusal)
    → ((e ≡ Memory) × (new ≡ old)) ⊎ IsPlayedOf failed old new t limit board chance names (Err e) → refused e ≡ Err Memory
    → LacksForPlay failed old new t limit board chance names
lacks_for_play failed old new limit board chance names t e why is = elim why [
  | inl memory ↦ inl memory.1
  | inr played ↦ inr (let same : e ≡ Memory = cc in subst (λ e. IsPlayedOf failed old new t limit board chance names (Err e)) same played)
]

-- a write doesn't answer that
pub no_memory : (result : Result ⊤ Refusal) → MatchResult result (λ _. ⊤) (λ e. e ≡ File) → result ≡ Err Memory → ⊥
no_memory (Ok u) file memory = cc
no_memory (Err e) file memory = cc

pub print_wants_none : (p : Type 0) (result : Result ⊤ Refusal) → IfErr result (λ e. e ≡ File) → IfErr result (λ e. e ≡ Memory → p)
print_wants_none p (Ok u) file = tt
print_wants_none p (Err e) file = λ memory. absurd (let both : File ≡ Memory = sym file ∙ memory in cc)

-- and nothing shown
pub not_shown : (failed : Type 0) (old : Stage) (limit board : ℕ) (names : List (List ℕ)) (t : HostContents) (e : Refusal)
    → (e ≡ Memory) ⊎ Collects failed t names (Err e) → (e ≡ Memory) ⊎ ComesToShow failed old old t limit board names (Err e)
not_shown failed old limit board names t e why =
    elim why [ inl memory ↦ inl memory | inr first ↦ inr (Err e, Err e, first, (refl, refl), refl) ]

-- a board is shown, or not
pub show_ends : (failed : Type 0) (old after : Stage) (limit : ℕ) (result : Result (Unit {0}) Refusal) (asked board : ℕ) (names : List (List ℕ)) (t : HostContents) (es : List Edit) (new : Option HostContents)
    → new ≡ Some t
    → asked ≡ board → Collects failed t names (Ok es)
    → MatchResult result (λ _. ShowsOn old after limit (Ok es) asked (Ok tt)) (λ e. (e ≡ Memory) ⊎ ShowsOn old after limit (Ok es) asked (Err e))
    → Ends failed (ComesToShow failed old after t limit board names) t result new
show_ends failed old after limit (Ok u) asked board names t es new at same all is =
    (Leaves, (Ok es, Ok tt, all, subst (λ n. ShowsOn old after limit (Ok es) n (Ok tt)) same is, refl), at)
show_ends failed old after limit (Err e) asked board names t es new at same all why =
    refused_ends failed (ComesToShow failed old after t limit board names) t e new at (elim why [
      | inl memory ↦ inl memory
      | inr is ↦ inr (Ok es, Err e, all, subst (λ n. ShowsOn old after limit (Ok es) n (Err e)) same is, refl)
    ])

-- what is told of a playtest by the words of a file that was read
pub played_result : (failed : Type 0) (old new : Stage) (limit : ℕ) (result : Result (Vec ℕ) Refusal) (t : HostContents) (asked board : ℕ) (chance bytes words : List ℕ) (names : List (List ℕ)) (es : List Edit)
    → asked ≡ board → words ≡ chances_in bytes → file_in t chance ≡ Some bytes → Collects failed t names (Ok es)
    → MatchResult result (λ text. PlaysOn old new limit (Ok es) asked words (Ok text.items))
    (λ e. ((e ≡ Memory) × (new ≡ old)) ⊎ PlaysOn old new limit (Ok es) asked words (Err e))
    → MatchResult result (λ text. IsPlayedOf failed old new t limit board chance names (Ok text.items))
    (λ e. ((e ≡ Memory) × (new ≡ old)) ⊎ IsPlayedOf failed old new t limit board chance names (Err e))
played_result failed old new limit (Ok text) t asked board chance bytes words names es same are held all is = (
  Some bytes,
  inl (sym held),
  (
    Ok es,
    all,
    subst (λ n. PlaysOn old new limit (Ok es) n (chances_in bytes) (Ok text.items)) same
        (subst (λ ws. PlaysOn old new limit (Ok es) asked ws (Ok text.items)) are is),
  ),
)
played_result failed old new limit (Err e) t asked board chance bytes words names es same are held all why =
    elim why [
      | inl memory ↦ inl memory
      | inr is ↦ inr (
        Some bytes,
        inl (sym held),
        (
          Ok es,
          all,
          subst (λ n. PlaysOn old new limit (Ok es) n (chances_in bytes) (Err e)) same
              (subst (λ ws. PlaysOn old new limit (Ok es) asked ws (Err e)) are is),
        ),
      )
    ]

-- where the words couldn't be had
pub not_read : (failed : Type 0) (old : Stage) (t : HostContents) (limit board : ℕ) (chance : List ℕ) (names : List (List ℕ)) (e : Refusal)
    → (e ≡ Memory) ⊎ (e ≡ File) → (e ≡ File → IsRead failed t chance None)
    → ((e ≡ Memory) × (old ≡ old)) ⊎ IsPlayedOf failed old old t limit board chance names (Err e)
not_read failed old t limit board chance names e why none = elim why [
  | inl memory ↦ inl (memory, refl)
  | inr file ↦ inr (None, none file, (ap (λ x. Err x) file, refl))
]

-- where the edits couldn't be had
pub not_collected : (failed : Type 0) (old : Stage) (t : HostContents) (limit board : ℕ) (chance bytes : List ℕ) (names : List (List ℕ)) (e : Refusal)
    → file_in t chance ≡ Some bytes → (e ≡ Memory) ⊎ Collects failed t names (Err e)
    → ((e ≡ Memory) × (old ≡ old)) ⊎ IsPlayedOf failed old old t limit board chance names (Err e)
not_collected failed old t limit board chance bytes names e held why =
    elim why [ inl memory ↦ inl (memory, refl) | inr first ↦ inr (Some bytes, inl (sym held), (Err e, first, (refl, refl))) ]
