-- An export that lacks memory, for the sake of a board.
use Rattle.std.proofs.lemmas.Option.{slice_get-map}
use Rattle.std.specs.Prelude.{option_map}
use Rattle.zed_types.specs.declared.names.BoardId.{BoardId}
use Rattle.zed_edit.specs.declared.plain.Board.{Board}
use Rattle.zed_edit.specs.Numbers.{alive_boards, board_numbered, boards_there}
use Rattle.zed_edit.proofs.Numbering.{numbered-so}
use Rattle.zed_laws.specs.NameOrder.{IsOrdered}
use Rattle.zed_laws.proofs.ApartBoards.{boards_there_are_apart}
use Rattle.zed_session.specs.declared.error.SessionError.TheVariants.{Memory, NoBoard}
use Rattle.std.proofs.Common.{◌∙◌, ap, refl, sym, ◌≡◌, ◌≢◌, ◌+◌, ℕ, Bool, true, false, List, [], ◌∷◌, Option, Some, None, Err, cond, slice_get}
use Rattle.zed_world.specs.declared.board.BoardData.{BoardData}
use Rattle.zed_world.specs.Contents.{Contents}
use Rattle.zed_edit.specs.declared.plain.Plain.{Plain}
use Rattle.zed_edit.specs.Replay.{replay}
use Rattle.zed_document.specs.Replica.{Replica}
use Rattle.zed_export.specs.declared.error.ExportError.{ExportError}
use Rattle.zed_export.specs.declared.error.ExportError.TheVariants as export
use Rattle.zed_export.specs.Limits.{Answers as Exports, boards_refusal, board_refusal, exported, or_else, refusal_of, title_refusal, unless_over}
use Rattle.zed_export.specs.World.{exported_board, exported_boards, world_of}
use Rattle.zed_session.specs.declared.error.SessionError.{SessionError}
use Rattle.zed_session.specs.Boards.{GivesWorld, lack_of, world_shown}

-- what is told where memory is lacking, by the name of a board if there is one
abbrev pub lack_by : Option BoardId → SessionError
lack_by (Some id) = Memory
lack_by None = NoBoard

named : (f : Board → BoardData) (o : Option Board) → lack_by (option_map (λ b. b.id) o) ≡ lack_of (option_map f o)
named f (Some b) = refl
named f None = refl

-- a document tells the name of just the boards that its world has
pub lack_named : (p : Plain) (n : ℕ) → IsOrdered p → lack_by (board_numbered p n) ≡ lack_of (slice_get (exported_boards p) n)
lack_named p n ordered =
    ap lack_by (numbered-so (boards_there p) (boards_there_are_apart p ordered) n)
    ∙ named (exported_board p) (slice_get (alive_boards p) n)
    ∙ ap lack_of (sym (slice_get-map (exported_board p) (alive_boards p) n))

-- no limit is told as want of memory
abbrev IsOther : Option ExportError → Type 0
IsOther o = o ≢ Some export.Memory

on_true : (b : Bool) (e : ExportError) → e ≢ export.Memory → IsOther (cond b (Some e) None)
on_true true e other = λ same. other (cc)
on_true false e other = λ same. cc

on_false : (b : Bool) (e : ExportError) → e ≢ export.Memory → IsOther (cond b None (Some e))
on_false true e other = λ same. cc
on_false false e other = λ same. other (cc)

either : (first other : Option ExportError) → IsOther first → IsOther other → IsOther (or_else first other)
either None other a b = b
either (Some e) other a b = a

of_boards : (limit n : ℕ) (bs : List BoardData) → IsOther (boards_refusal limit n bs)
of_boards limit n [] = λ same. cc
of_boards limit n (b ∷ bs) =
    either (board_refusal limit n b) (boards_refusal limit (n + 1) bs)
    (either _ _ (on_true _ _ (λ same. cc)) (on_true _ _ (λ same. cc))) (of_boards limit (n + 1) bs)

of_world : (limit : ℕ) (p : Plain) → IsOther (refusal_of limit p)
of_world limit p =
    either (title_refusal p) _ (on_false _ _ (λ same. cc)) (either _ _ (on_true _ _ (λ same. cc)) (of_boards limit 0 (exported_boards p)))

-- memory was lacking
lack_within : (limit : Option ExportError) (w : Contents) (n : ℕ) (told : SessionError) → IsOther limit
    → told ≡ lack_of (slice_get w.boards n)
    → Exports {X = Contents} (λ x. x) (unless_over limit w) (Err export.Memory) → GivesWorld (unless_over limit w) n (Err told)
lack_within None w n told other is same = is
lack_within (Some e) w n told other is same = absurd (other (cc))

pub lack_given : (limit : ℕ) (p : Plain) (n : ℕ) (told : SessionError) → told ≡ lack_of (slice_get (exported_boards p) n)
    → Exports {X = Contents} (λ x. x) (exported limit p) (Err export.Memory) → GivesWorld (exported limit p) n (Err told)
lack_given limit p n told is same = lack_within (refusal_of limit p) (world_of p) n told (of_world limit p) is same

pub lack_shown : (limit : ℕ) (d : Replica) (n : ℕ) (told : SessionError) → d.is_stale ≡ false
    → told ≡ lack_of (slice_get (exported_boards (replay d.edits)) n)
    → Exports {X = Contents} (λ x. x) (world_shown limit d) (Err export.Memory) → GivesWorld (world_shown limit d) n (Err told)
lack_shown limit d n told sound is same = rw sound (lack_given limit (replay d.edits) n told is (rw sound at same))
