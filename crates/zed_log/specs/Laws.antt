-- What the laws on lines promise.
use Rattle.std.specs.Prelude.{◌≡◌, ◌≢◌, ℕ, nat_le, Bool, true, false, List, [], ◌∷◌, ◌++◌, length}
use Rattle.std.specs.List.{flat_map, list_all, AllByRecursion}
use Rattle.zed_op.specs.declared.op.Op.{Op}
use Rattle.zed_op.specs.declared.op.Op.TheVariants.{Genesis, StatAdd}
use Rattle.zed_op.specs.declared.op.Edit.{Edit}
use Rattle.zed_log.specs.declared.length.Length.{Length}
use Rattle.zed_log.specs.declared.length.Length.TheVariants.{Short, Full}
use Rattle.zed_log.specs.Line.{line_text, marked_at, text_at}

-- a new stat is given six bytes and three numbers, as its type says
abbrev pub IsWhole : Op → Type 0
IsWhole (StatAdd b f) = (length f.bytes ≡ 6) × (length f.numbers ≡ 3)
IsWhole _ = Unit {0}

-- so it is in each of these edits
abbrev pub AreWhole : List Edit → Type 0
AreWhole es = AllByRecursion (λ e. IsWhole e.op) es

-- neither line begins the other, unless the two edits are one
abbrev pub DiffersFrom : Edit → Edit → Type 0
DiffersFrom e f = (x y : List ℕ) → line_text e ++ x ≡ line_text f ++ y → (e ≡ f) × (x ≡ y)

-- the lines of edits, one after another
abbrev pub log_text : List Edit → List ℕ
log_text es = flat_map line_text es

-- the lines of edits, short or in full, with a mark at each edit that a test tells
abbrev pub log_at : Length → (Edit → Bool) → List Edit → List ℕ
log_at l is_held es = flat_map (λ e. marked_at l (is_held e) e) es

-- the same in full
abbrev pub marked_log : (Edit → Bool) → List Edit → List ℕ
marked_log is_held es = log_at Full is_held es

-- these edits, however they are marked, have no text that those have, unless they are the same
abbrev pub IsKnownByLines : List Edit → List Edit → Type 0
IsKnownByLines es fs = (is_held was_held : Edit → Bool) → marked_log is_held es ≡ marked_log was_held fs → es ≡ fs

-- no control byte (below 32) stands in a text
abbrev pub HasNoControl : List ℕ → Type 0
HasNoControl text = list_all (λ c. nat_le 32 c) text ≡ true

-- a line is a text without control bytes and a line feed (10)
abbrev pub IsOneLine : List ℕ → Type 0
IsOneLine line = (text : List ℕ) × (line ≡ text ++ 10 ∷ []) × HasNoControl text

-- whether an op makes a world
abbrev pub makes_world : Op → Bool
makes_world (Genesis bytes) = true
makes_world op = false

-- what makes no world has its line in full, also where lines are short
abbrev pub IsShortAsItIs : Edit → Type 0
IsShortAsItIs e = makes_world e.op ≡ false → text_at Short e ≡ line_text e

-- the short line of what makes a world is no edit's line in full
abbrev pub IsNoLineInFull : Edit → Edit → Type 0
IsNoLineInFull e f = makes_world e.op ≡ true → text_at Short e ≢ line_text f
