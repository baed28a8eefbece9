-- Lines of edits that set nothing.
use Rattle.std.proofs.Common.{◌≡◌, codes, Option, Some, None, refl, subst}
use Rattle.zed_op.specs.declared.op.Op.{Op}
use Rattle.zed_op.specs.declared.op.Op.TheVariants.{Genesis, SetHeader, BoardAdd, BoardRemove, SetBoard, SetCells, StatAdd, StatRemove, SetStat, TextAdd, TextInsert, TextDelete}
use Rattle.zed_log.specs.Line.{op_text}
use Rattle.zed_set_words.specs.Rows.{reading, wish_of}
use Rattle.zed_set_words.specs.Values.{Word}
use Rattle.cmd_set.specs.Printed.{BeginsWith, IsWrong, OtherIsNotRead}

genesis_wrong : IsWrong (codes "genesis")
unfolding wish_of reading
genesis_wrong others = refl

add_wrong : IsWrong (codes "add")
unfolding wish_of reading
add_wrong others = refl

remove_wrong : IsWrong (codes "remove")
unfolding wish_of reading
remove_wrong others = refl

cells_wrong : IsWrong (codes "cells")
unfolding wish_of reading
cells_wrong others = refl

insert_wrong : IsWrong (codes "insert")
unfolding wish_of reading
insert_wrong others = refl

delete_wrong : IsWrong (codes "delete")
unfolding wish_of reading
delete_wrong others = refl

abbrev Holds : Op → Word → Type 0
Holds op word = BeginsWith word (op_text op) × IsWrong word

abbrev just : Word → Option Word
just w = Some w

abbrev nothing : Option Word
nothing = None

by : (op : Op) (word said : Word) → just said ≡ just word → Holds op said → Holds op word
by op word said same holds = let is : said ≡ word = cc in subst (Holds op) is holds

pub other_is_not_read : OtherIsNotRead
other_is_not_read (Genesis bytes) word same = by (Genesis bytes) word (codes "genesis") same ((_, refl), genesis_wrong)
other_is_not_read (SetHeader setting) word same = absurd (let no : nothing ≡ just word = same in cc)
other_is_not_read (BoardAdd s) word same = by (BoardAdd s) word (codes "add") same ((_, refl), add_wrong)
other_is_not_read (BoardRemove b) word same = by (BoardRemove b) word (codes "remove") same ((_, refl), remove_wrong)
other_is_not_read (SetBoard b setting) word same = absurd (let no : nothing ≡ just word = same in cc)
other_is_not_read (SetCells b r t) word same = by (SetCells b r t) word (codes "cells") same ((_, refl), cells_wrong)
other_is_not_read (StatAdd b f) word same = by (StatAdd b f) word (codes "add") same ((_, refl), add_wrong)
other_is_not_read (StatRemove s) word same = by (StatRemove s) word (codes "remove") same ((_, refl), remove_wrong)
other_is_not_read (SetStat s setting) word same = absurd (let no : nothing ≡ just word = same in cc)
other_is_not_read TextAdd word same = by TextAdd word (codes "add") same ((_, refl), add_wrong)
other_is_not_read (TextInsert t after bytes) word same = by (TextInsert t after bytes) word (codes "insert") same ((_, refl), insert_wrong)
other_is_not_read (TextDelete t r) word same = by (TextDelete t r) word (codes "delete") same ((_, refl), delete_wrong)
