-- Refusals other than `File`.
use Rattle.zed_export.specs.declared.error.ExportError.{ExportError}
use Rattle.zed_op.specs.declared.op.Edit.{Edit}
use Rattle.zed_world.specs.declared.board.BoardData.{BoardData}
use Rattle.zed_world.specs.declared.header.Header.{Header}
use Rattle.zed_files.specs.declared.refusal.Refusal.{Refusal}
use Rattle.zed_files.specs.declared.refusal.Refusal.TheVariants.{File, Memory}
use Rattle.zed_session.specs.Refusals as told
use Rattle.std.proofs.Common.{◌≡◌, ◌∙◌, ℕ, List, Option, Some, None, Result, Ok, Err, inl, inr}
use Rattle.std.specs.Prelude.{◌⊎◌, MatchResult, slice_get}
use Rattle.zed_export.specs.Limits.{exported}
use Rattle.zed_edit.specs.Replay.{replay}
use Rattle.zed_world.specs.Contents.{Contents}
use Rattle.zed_files.specs.Refusals.{export_refusal}
use Rattle.cmd_show.specs.Shown.{Course, EndsPlay, IsPlayed, IsShown, OfBoard, OfWorld, OnBoard, PlaysOn, ShowsOn}
use Rattle.zed_files.proofs.Failures.{session_is_other}
use Rattle.cmd_show.specs.Stage.{Stage}

-- what is done with a board
board_is_other : {X : Type 0} (Idle : Type 0) (world : Result Contents ExportError) (n : ℕ) (Does : OnBoard X) (e : Refusal)
    → ((header : Header) (board : BoardData) → Does header board (Err e) → e ≡ File → ⊥) → OfWorld Idle world n Does (Err e) → e ≡ File → ⊥
board_is_other Idle (Err x) n Does e other of is = session_is_other (told.export_refusal x) (let why = of.0 in let same : export_refusal x ≡ e = cc in same ∙ is)
board_is_other Idle (Ok w) n Does e other of is = go (slice_get w.boards n) of
  where
    go : (board : Option BoardData) → OfBoard Idle w.header board Does (Err e) → ⊥
    go None bad = let no = bad.0 in cc
    go (Some board) does = other w.header board does is

pub shown_is_other : (limit : ℕ) (es : List Edit) (n : ℕ) (old new : Stage) (e : Refusal) → ShowsOn old new limit (Ok es) n (Err e)
    → e ≡ File
    → ⊥
shown_is_other limit es n old new e of is =
    board_is_other (new ≡ old) (exported limit (replay es)) n (IsShown old new) e
    (λ header board shown file. elim shown [ inl ok ↦ (let no = ok.0 in cc) | inr fault ↦ (let no = fault.0 in cc) ]) of is

pub played_is_other : (limit : ℕ) (es : List Edit) (n : ℕ) (old new : Stage) (words : List ℕ) (e : Refusal)
    → PlaysOn old new limit (Ok es) n words (Err e) → e ≡ File
    → ⊥
played_is_other limit es n old new words e of is =
    board_is_other (new ≡ old) (exported limit (replay es)) n (IsPlayed old new words) e (λ header board plays file. ends plays.0 plays.1 plays.4) of is
  where
    ends : (n : ℕ) (c : Course) → EndsPlay n c new (Err e) → ⊥
    ends n c how = elim how [
      | inl ok ↦ (let no = ok.0 in cc)
      | inr how ↦ elim how [
        | inl lacks ↦ (let no = lacks.0 in cc)
        | inr how ↦ elim how [
          | inl key ↦ (let no = key.0 in cc)
          | inr how ↦ elim how [
            | inl screen ↦ (let no = screen.0 in cc)
            | inr how ↦ elim how [ inl turns ↦ (let no = turns.0 in cc) | inr memory ↦ (let no = memory.0 in cc) ]
          ]
        ]
      ]
    ]

-- a refusal of memory, whatever else is so then
pub or_memory : {X : Type 0} (P : X → Type 0) (So : Type 0) (Q : Refusal → Type 0) (answer : Result X Refusal)
    → MatchResult answer P (λ e. ((e ≡ Memory) × So) ⊎ Q e)
    → MatchResult answer P (λ e. (e ≡ Memory) ⊎ Q e)
or_memory P So Q (Ok x) is = is
or_memory P So Q (Err e) why = elim why [ inl memory ↦ inl memory.0 | inr other ↦ inr other ]
