-- Setting again what the line of an edit says.
use Rattle.std.specs.Prelude.{◌≡◌, ◌≤◌, ◌↔◌, ℕ, true, false, List, ◌∷◌, map, codes, Option, Some, None, Ok}
use Rattle.zed_op.specs.declared.op.Op.{Op}
use Rattle.zed_op.specs.declared.op.Op.TheVariants.{SetHeader, SetBoard, SetStat}
use Rattle.zed_op.specs.declared.op.Edit.{Edit}
use Rattle.zed_op.specs.Fit.{Fits}
use Rattle.zed_op.specs.Set.{with_edit}
use Rattle.zed_op.specs.Sizes.{IsOp}
use Rattle.zed_log.specs.Fields.{board_name, stat_name}
use Rattle.zed_log.specs.Line.{op_text}
use Rattle.zed_history.specs.Clock.{is_spent}
use Rattle.zed_edit.specs.Replay.{can, do_edit, replay}
use Rattle.zed_document.specs.Authoring.{authored}
use Rattle.zed_document.specs.Replica.{Replica}
use Rattle.zed_action.specs.Deeds.{Authors, Made}
use Rattle.zed_set_words.specs.declared.wishes.Wish.{Wish}
use Rattle.zed_set_words.specs.Rows.{wish_of}
use Rattle.zed_set_words.specs.Values.{Word}
use Rattle.cmd_set.specs.Granting.{Sets}
use Rattle.cmd_set.specs.Printed.{HasBytes, Piece, Plain, TextHasBytes, board_words, header_words, line_of, stat_words, word_of}

-- the words of an edit that sets something, as its line has them; other edits have none
abbrev pub pieces_of : Op → Option (List Piece)
pieces_of (SetHeader setting) = Some (Plain (codes "header") ∷ header_words setting)
pieces_of (SetBoard b setting) = Some (Plain (codes "board") ∷ Plain (board_name b) ∷ board_words setting)
pieces_of (SetStat s setting) = Some (Plain (codes "stat") ∷ Plain (stat_name s) ∷ stat_words setting)
pieces_of _ = None

-- the string that an op sets, if it sets one, has bytes alone
abbrev pub SetsBytes : Op → Type 0
SetsBytes (SetHeader setting) = HasBytes setting
SetsBytes (SetBoard b setting) = TextHasBytes setting
SetsBytes _ = Unit {0}

-- an edit without a fault, each value of which has the size of its field
pub record IsSound (e : Edit) : Type 0 where
  pub fits : Fits e
  pub sizes : IsOp e.op
  pub bytes : SetsBytes e.op

-- the words of a line wish something that does to every document what authoring this op does
abbrev pub WishesOp : List Word → Op → Type 0
WishesOp words op =
    (w : Wish) × (wish_of words ≡ Ok w)
    × ((d : Replica) (replica : ℕ) (made : Made) → Sets d replica w made ↔ Authors d replica op made)

-- the line of an edit that sets something has these words, and they wish the same op
abbrev pub PrintedWishesItsOp : Type 0
PrintedWishesItsOp =
    (e : Edit) (pieces : List Piece) → pieces_of e.op ≡ Some pieces → IsSound e
    → (op_text e.op ≡ line_of pieces) × WishesOp (map word_of pieces) e.op

-- an author of this number can do what an edit does: the document isn't stale, has a time left, and all that the edit names was made there
pub record CanRedo (d : Replica) (replica : ℕ) (e : Edit) : Type 0 where
  pub sound : d.is_stale ≡ false
  pub author : 1 ≤ replica
  pub left : is_spent d.edits 1 ≡ false
  pub there : can (replay d.edits) e ≡ true

-- the edits of a document with one more: this op at the next time
abbrev pub one_more : Replica → ℕ → Op → List Edit
one_more d replica op = with_edit (authored d.edits replica op) d.edits

-- the words of the line of an edit, set in a document that has what the edit names, make just one edit, with the same op; it writes the
-- registers that the first edit would write there
abbrev pub PrintedSetsTheSame : Type 0
PrintedSetsTheSame =
    (e : Edit) (pieces : List Piece) (w : Wish) (d : Replica) (replica : ℕ) (made : Made)
    → pieces_of e.op ≡ Some pieces → IsSound e → CanRedo d replica e
    → wish_of (map word_of pieces) ≡ Ok w → Sets d replica w made
    → (made ≡ Ok (one_more d replica e.op)) × (replay (one_more d replica e.op) ≡ do_edit (replay d.edits) e)
