-- The names of things, when two are of one thing, and the name of the title.
use Rattle.std.specs.Prelude.{◌≡◌, ℕ, Bool, true, ◌&&◌, ◌||◌, ◌==◌, nat_lt, List, [], ◌∷◌}
use Rattle.std.specs.declared.cmp.Ordering.{Ordering}
use Rattle.std.specs.Ordering.{nat_cmp, ordering_then}
use Rattle.std.specs.List.{AllByRecursion}
use Rattle.zed_types.specs.declared.stamp.Stamp.{Stamp}
use Rattle.zed_types.specs.declared.names.Name.{Name}
use Rattle.zed_types.specs.declared.names.BoardId.{BoardId}
use Rattle.zed_types.specs.declared.names.StatId.{StatId}
use Rattle.zed_types.specs.declared.names.TextId.{TextId}
use Rattle.zed_types.specs.declared.names.ElemId.{ElemId}
use Rattle.zed_types.specs.Stamp.{before, same_stamp, stamp_cmp}

-- thing n of the edit with stamp s
abbrev pub name_of : Stamp → ℕ → Name
name_of s n = record { stamp = s; index = n }

-- board n of an edit
abbrev pub board_of : Stamp → ℕ → BoardId
board_of s n = record { name = name_of s n }

-- stat n of an edit
abbrev pub stat_of : Stamp → ℕ → StatId
stat_of s n = record { name = name_of s n }

-- text n of an edit
abbrev pub text_of : Stamp → ℕ → TextId
text_of s n = record { name = name_of s n }

-- byte n of an edit, of one text
abbrev pub byte_of : Stamp → ℕ → ElemId
byte_of s n = record { name = name_of s n }

-- whether two names are of one thing of a kind
abbrev pub same_name : Name → Name → Bool
same_name a b = same_stamp a.stamp b.stamp && a.index == b.index

-- whether two names are of one board
abbrev pub same_board : BoardId → BoardId → Bool
same_board a b = same_name a.name b.name

-- whether two names are of one stat
abbrev pub same_stat : StatId → StatId → Bool
same_stat a b = same_name a.name b.name

-- whether two names are of one text
abbrev pub same_text : TextId → TextId → Bool
same_text a b = same_name a.name b.name

-- whether two names are of one byte of a text
abbrev pub same_element : ElemId → ElemId → Bool
same_element a b = same_name a.name b.name

-- the name of the title: the first board of the world that a Genesis makes
abbrev pub title : BoardId
title = board_of (record { time = 1; replica = 0 }) 0

-- whether a name comes before another: by stamp, and then by index
abbrev pub is_earlier : Name → Name → Bool
is_earlier a b = before a.stamp b.stamp || (same_stamp a.stamp b.stamp && nat_lt a.index b.index)

-- the order of names
abbrev pub name_cmp : Name → Name → Ordering
name_cmp a b = ordering_then (stamp_cmp a.stamp b.stamp) (nat_cmp a.index b.index)

-- the name of each member comes before those of the members behind it
abbrev pub NamesRise : {X : Type 0} → (X → Name) → List X → Type 0
NamesRise name [] = Unit {0}
NamesRise name (x ∷ xs) = AllByRecursion (λ y. is_earlier (name x) (name y) ≡ true) xs × NamesRise name xs
