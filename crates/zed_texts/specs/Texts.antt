-- The texts of a live document: their elements, put in edit by edit, and how their runs grow.
use Rattle.std.specs.Prelude.{◌≡◌, ◌≤◌, ◌<◌, is_some, ℕ, Bool, true, false, List, [], map, length, Option, Some, None}
use Rattle.zed_types.specs.Limits.{largest_body}
use Rattle.zed_types.specs.declared.stamp.Stamp.{Stamp}
use Rattle.zed_types.specs.declared.names.TextId.{TextId}
use Rattle.zed_types.specs.declared.text.TextByte.{TextByte}
use Rattle.zed_types.specs.Names.{same_text}
use Rattle.zed_types.specs.Text.{run_from, put_late, kill}
use Rattle.zed_op.specs.declared.op.Op.{Op}
use Rattle.zed_op.specs.declared.op.Op.TheVariants.{Genesis, TextAdd, TextInsert, TextDelete}
use Rattle.zed_edit.specs.declared.plain.Text.{Text}
use Rattle.zed_laws.specs.Making.{made_texts}
use Rattle.zed_code.specs.Pieces.{Shown}
use Rattle.zed_code.specs.Text.{elements, has_from, StandsAfter, IsNewStamp, HasMore}
use Rattle.zed_types.specs.Stamp.{genesis_stamp}
use Rattle.zed_code.specs.Visits.{LooksAtSome}
use Rattle.zed_texts.specs.ByName.{ByName, text_in, add_all, change}

-- texts as runs
abbrev pub Texts : Type 0
Texts = ByName Shown

-- texts as their elements, dead ones included
abbrev pub Elements : Type 0
Elements = ByName (List TextByte)

-- the elements of each text, however it is cut into runs
abbrev pub elements_of : Texts → Elements
elements_of ys = map (λ y. (y.0, elements y.1)) ys

-- texts as one author has them, each under its name
abbrev pub named : List Text → Elements
named xs = map (λ x. (x.id, x.elements)) xs

-- the texts after an edit, whenever it comes: one is changed, or those that it makes are added
abbrev pub texts_after : Stamp → Op → Elements → Elements
texts_after s (TextInsert t after bytes) xs = change t (put_late after s (run_from s 0 bytes)) xs
texts_after s (TextDelete t range) xs = change t (kill range) xs
texts_after s op xs = add_all (named (made_texts s op)) xs

-- the elements of the text that may be there
abbrev pub elements_or_none : Option (List TextByte) → List TextByte
elements_or_none None = []
elements_or_none (Some xs) = xs

-- an insertion can be put in: the byte named is there, of an earlier edit, and none has its stamp
abbrev pub IsReady : Stamp → Op → Elements → Type 0
IsReady s (TextInsert t after bytes) xs =
    StandsAfter after s (elements_or_none (text_in t xs))
    × IsNewStamp s (elements_or_none (text_in t xs))
IsReady s _ xs = Unit {0}

-- putting an edit in takes memory where it makes texts, puts bytes into a text that is there, or names bytes that its text has
abbrev pub MayTakeMemory : Op → Elements → Type 0
MayTakeMemory (Genesis bytes) xs = Unit {0}
MayTakeMemory TextAdd xs = Unit {0}
MayTakeMemory (TextInsert t after bytes) xs = (is_some (text_in t xs) ≡ true) × (0 < length bytes)
MayTakeMemory (TextDelete t range) xs =
    (range.first ≤ range.last) × (has_from range.stamp range.first (elements_or_none (text_in t xs)) ≡ true)
MayTakeMemory _ xs = ⊥

-- whether an op changes the text of a name
abbrev pub changes_text : TextId → Op → Bool
changes_text t (TextInsert u after bytes) = same_text u t
changes_text t (TextDelete u range) = same_text u t
changes_text t _ = false

-- a text that is changed has at most two runs more, and at most one look more than it had runs
abbrev pub IsWorked : Shown → Shown → Type 0
IsWorked x y = HasMore 2 x y × LooksAtSome (length x.cutting) x.visits y.visits

-- a text that is made has at most one run, which was never looked at
abbrev pub IsUnworked : Shown → Type 0
IsUnworked y = (length y.cutting ≤ 1) × (y.visits ≡ 0)

-- a text before and after: one that isn't changed is the very same
abbrev pub MayBeWorked : Bool → Shown → Shown → Type 0
MayBeWorked true x y = IsWorked x y
MayBeWorked false x y = x ≡ y

-- so what stands under a name, where no text goes and one may come
abbrev pub Grows : Bool → Option Shown → Option Shown → Type 0
Grows changed (Some x) (Some y) = MayBeWorked changed x y
Grows changed (Some x) None = ⊥
Grows changed None (Some y) = IsUnworked y
Grows changed None None = Unit {0}

-- so under each name, the edit changing the texts that pass
abbrev pub AllGrow : (TextId → Bool) → Texts → Texts → Type 0
AllGrow changed xs ys = (t : TextId) → Grows (changed t) (text_in t xs) (text_in t ys)

-- the bytes of a text
abbrev pub bytes_of : List TextByte → List ℕ
bytes_of xs = map (λ x. x.byte) xs

-- a text of the world as it is made: its bytes are alive, few enough, and numbered from 0
abbrev pub IsOpened : Text → Type 0
IsOpened x =
    (x.elements ≡ run_from genesis_stamp 0 (bytes_of x.elements)) × (length x.elements ≤ largest_body)
