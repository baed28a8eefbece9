-- No limit is want of memory.
use Rattle.std.proofs.Common.{◌≡◌, ℕ, ◌+◌, Bool, true, false, List, [], ◌∷◌, length, Option, Some, None, Result, Ok, Err, ◌⊎◌, inl, inr, refl, ap, ◌∙◌}
use Rattle.std.specs.Prelude.{◌-◌, nat_lt, if◌then◌else◌}
use Rattle.zed_world.specs.declared.board.BoardData.{BoardData}
use Rattle.zed_world.specs.Writing.{body_text, first_over, unless_refused, world_text, written, HasText}
use Rattle.zed_world.specs.Contents.{Contents}
use Rattle.zed_world.specs.declared.error.WorldError.{WorldError}
use Rattle.zed_world.specs.declared.error.WorldError.TheVariants as world
use Rattle.zed_op.specs.declared.thing.Thing.TheVariants as thing
use Rattle.zed_types.specs.Names.{title}
use Rattle.zed_edit.specs.declared.plain.Plain.{Plain}
use Rattle.zed_edit.specs.Document.{has}
use Rattle.zed_edit.specs.Numbers.{alive_boards}
use Rattle.zed_export.specs.declared.error.ExportError.{ExportError}
use Rattle.zed_export.specs.declared.error.ExportError.TheVariants.{Memory, Stale, NoWorld, BoardsOver, StatsOver, BoardOver}
use Rattle.zed_export.specs.Limits.{Answers, saved, unless_over, unless_stale, board_refusal, boards_refusal, body_refusal, count_refusal, or_else, refusal_of, stats_refusal, title_refusal, told}
use Rattle.zed_export.specs.World.{exported_boards, world_of}
use Rattle.zed_edit.specs.Replay.{replay}
use Rattle.zed_document.specs.Replica.{Replica}
use Rattle.zed_take.specs.Refusals.{IsOver, IsWithin, over_told}
use Rattle.zed_take.specs.declared.error.TakeError.{TakeError}
use Rattle.zed_take.specs.declared.error.TakeError.TheVariants.{WorldOver}

abbrev memory : Option ExportError
memory = Some Memory

abbrev found : ExportError → Option ExportError
found e = Some e

abbrev nothing : Option ExportError
nothing = None

-- the first of two that is found isn't Memory where neither is
neither : (a b : Option ExportError) → (a ≡ memory → ⊥) → (b ≡ memory → ⊥) → or_else a b ≡ memory → ⊥
neither None b f g h = g h
neither (Some e) b f g h = f h

when : (c : Bool) (e : ExportError) → (e ≡ Memory → ⊥) → (if c then found e else nothing) ≡ memory → ⊥
when true e f h = f (let k : found e ≡ memory = h in cc)
when false e f h = absurd (let no : nothing ≡ memory = h in cc)

unless : (c : Bool) (e : ExportError) → (e ≡ Memory → ⊥) → (if c then nothing else found e) ≡ memory → ⊥
unless false e f h = f (let k : found e ≡ memory = h in cc)
unless true e f h = absurd (let no : nothing ≡ memory = h in cc)

not_board : (limit n : ℕ) (b : BoardData) → board_refusal limit n b ≡ memory → ⊥
not_board limit n b =
    neither (stats_refusal n (length b.stats)) (body_refusal limit n (length (body_text b)))
    (when (nat_lt 150 (length b.stats - 1)) (StatsOver n (length b.stats - 1)) (λ e. absurd (cc)))
    (when (nat_lt limit (length (body_text b))) (BoardOver n (told (length (body_text b)))) (λ e. absurd (cc)))

not_boards : (limit n : ℕ) (bs : List BoardData) → boards_refusal limit n bs ≡ memory → ⊥
not_boards limit n [] h = absurd (let no : nothing ≡ memory = h in cc)
not_boards limit n (b ∷ bs) h =
    neither (board_refusal limit n b) (boards_refusal limit (n + 1) bs) (not_board limit n b) (not_boards limit (n + 1) bs) h

pub no_memory : (limit : ℕ) (p : Plain) → refusal_of limit p ≡ memory → ⊥
no_memory limit p =
    neither (title_refusal p) (or_else (count_refusal (length (alive_boards p))) (boards_refusal limit 0 (exported_boards p)))
    (unless (has p (thing.Board title)) NoWorld (λ e. absurd (cc)))
    (neither (count_refusal (length (alive_boards p))) (boards_refusal limit 0 (exported_boards p))
    (when (nat_lt 100 (length (alive_boards p) - 1)) (BoardsOver (length (alive_boards p) - 1)) (λ e. absurd (cc)))
    (not_boards limit 0 (exported_boards p)))

abbrev refused_of : {X : Type 0} (view : X → List ℕ) → ExportError → Result X ExportError
refused_of view e = Err e

abbrev lacking : {X : Type 0} (view : X → List ℕ) → Result X ExportError
lacking view = Err Memory

-- an export that lacks memory alone is within the limits
within : {X : Type 0} (view : X → List ℕ) (stale : Bool) (over : Option ExportError) (text : List ℕ) → (over ≡ memory → ⊥)
    → Answers view (if stale then (Err Stale) else unless_over over text) (Err Memory) → (stale ≡ false) × (over ≡ None)
within view true over text not h = absurd (let no : lacking view ≡ refused_of view Stale = h in cc)
within view false None text not h = (refl, refl)
within view false (Some e) text not h = absurd (not (let same : lacking view ≡ refused_of view e = h in cc))

pub lacks : {X : Type 0} (view : X → List ℕ) (d : Replica) → Answers view (unless_stale d (saved 32767)) (Err Memory) → IsWithin d
lacks view d h =
    within view d.is_stale (refusal_of 32767 (replay d.edits)) (world_text (world_of (replay d.edits))) (no_memory 32767 (replay d.edits)) h

-- ---- the world

abbrev over : WorldError → Option WorldError
over e = Some e

abbrev not_over : Option WorldError
not_over = None

abbrev text_as : List ℕ → Result (List ℕ) WorldError
text_as text = Ok text

abbrev refusal_as : WorldError → Result (List ℕ) WorldError
refusal_as e = Err e

abbrev told_as : TakeError → Option TakeError
told_as e = Some e

abbrev untold : Option TakeError
untold = None

-- only boards are over a limit
pub record IsBoardOver (e : WorldError) : Type 0 where
  pub board : ℕ
  pub bytes : ℕ
  pub is : e ≡ world.BoardOver board bytes

only_boards : (n : ℕ) (bs : List BoardData) (e : WorldError) → first_over 32767 n bs ≡ Some e → IsBoardOver e
only_boards n [] e h = absurd (let no : not_over ≡ over e = h in cc)
only_boards n (b ∷ bs) e h = go (nat_lt 32767 (length (body_text b))) (λ k. only_boards (n + 1) bs e k) h
  where
    go : (c : Bool) → (first_over 32767 (n + 1) bs ≡ Some e → IsBoardOver e)
        → (if c then over (world.BoardOver n (length (body_text b))) else first_over 32767 (n + 1) bs) ≡ Some e
        → IsBoardOver e
    go true more k = record { board = n; bytes = length (body_text b); is = (let same : over (world.BoardOver n (length (body_text b))) ≡ over e = k in cc) }
    go false more k = more k

refused_for : (o : Option WorldError) (text : List ℕ) (e : WorldError) → unless_refused o text ≡ Err e → o ≡ Some e
refused_for None text e h = absurd (let no : text_as text ≡ refusal_as e = h in cc)
refused_for (Some x) text e h = (let same : refusal_as x ≡ refusal_as e = h in let one : x ≡ e = cc in ap Some one)

over_for : (w : Contents) (e : WorldError) → written 32767 w ≡ Err e → first_over 32767 0 w.boards ≡ Some e
unfolding written
over_for w e h = refused_for (first_over 32767 0 w.boards) (world_text w) e h

-- what is told of a world is a board that is over
pub told_over : (w : Contents) (e : WorldError) (t : TakeError) → (e ≡ world.Memory) ⊎ (written 32767 w ≡ Err e) → over_told e ≡ Some t
    → IsOver w t
told_over w e t gives h =
    elim gives [
      | inl m ↦ absurd (let no : untold ≡ told_as t = (rw m at h) in cc)
      | inr is ↦ (let o = over_for w e is in
          let b = only_boards 0 w.boards e o in
          let same : told_as (WorldOver b.board b.bytes) ≡ told_as t = (rw b.is at h) in
          (b.board, b.bytes, o ∙ ap Some b.is, (let q : t ≡ WorldOver b.board b.bytes = cc in q)))
    ]

-- and where nothing is told only memory lacks
pub told_none : (w : Contents) (e : WorldError) → (e ≡ world.Memory) ⊎ (written 32767 w ≡ Err e) → (e ≡ world.Memory → HasText 32767 w)
    → over_told e ≡ None
    → HasText 32767 w
told_none w e gives lacks h =
    elim gives [
      | inl m ↦ lacks m
      | inr is ↦ (let b = only_boards 0 w.boards e (over_for w e is) in
          absurd (let no : told_as (WorldOver b.board b.bytes) ≡ untold = (rw b.is at h) in cc))
    ]

fits_of : (o : Option WorldError) (t text : List ℕ) → unless_refused o t ≡ Ok text → (o ≡ None) × (text ≡ t)
fits_of None t text h = (refl, (let same : text_as t ≡ text_as text = h in cc))
fits_of (Some e) t text h = absurd (let no : refusal_as e ≡ text_as text = h in cc)

-- what is written is the one text, and no board is over
pub written_fits : (w : Contents) (text : List ℕ) → written 32767 w ≡ Ok text → HasText 32767 w × (text ≡ world_text w)
unfolding written
written_fits w text h = fits_of (first_over 32767 0 w.boards) (world_text w) text h
