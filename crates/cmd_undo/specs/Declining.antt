-- What is answered where nothing is undone.
use Rattle.std.specs.Prelude.{ℕ, false, List, [], ◌∷◌, ◌++◌, None, codes}
use Rattle.std.specs.Fmt.{decimal}
use Rattle.zed_types.specs.declared.stamp.Stamp.{Stamp}
use Rattle.zed_op.specs.declared.op.Edit.{Edit}
use Rattle.zed_driver.specs.Effects.{Effect, effect, noted}
use Rattle.zed_log.specs.declared.length.Length.TheVariants.{Short}
use Rattle.zed_log.specs.Line.{marked_at}

-- nothing is written or printed, this note says why, and the status is 1
abbrev pub declined : List ℕ → Effect
declined note = noted note (effect [] None 1)

-- what is said behind a stamp
unfoldable pub no_such : List ℕ
no_such = codes " is no edit that can be undone: 'log' has the stamps\n"

-- the refusal, and the stamp
abbrev pub missing_front : Stamp → List ℕ
missing_front s = codes "zztool: NoSuch\n" ++ decimal s.time ++ 46 ∷ decimal s.replica

-- no edit of this stamp can be undone
abbrev pub missing_text : Stamp → List ℕ
missing_text s = missing_front s ++ no_such

-- the refusal: an edit of this stamp needs what is to be undone
abbrev pub needed_front : Stamp → List ℕ
needed_front s = codes "zztool: NeededBy " ++ decimal s.time ++ 32 ∷ decimal s.replica

-- what is said before the line of that edit
unfoldable pub built_on_it : List ℕ
built_on_it = codes "\nbuilt on it: "

-- this edit of another author does
abbrev pub needed_text : Edit → List ℕ
needed_text e = (needed_front e.stamp ++ built_on_it) ++ marked_at Short false e
