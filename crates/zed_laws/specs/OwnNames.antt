-- Boards, stats and texts have names of their own.
use Rattle.std.specs.Prelude.{◌≡◌, false, List, [], ◌∷◌}
use Rattle.std.specs.List.{AllByRecursion}
use Rattle.zed_types.specs.declared.names.Name.{Name}
use Rattle.zed_types.specs.Names.{same_name}
use Rattle.zed_op.specs.declared.op.Edit.{Edit}
use Rattle.zed_op.specs.Set.{IsRising}
use Rattle.zed_edit.specs.Document.{all_stats}
use Rattle.zed_edit.specs.Replay.{replay}

-- no two of these have one name
abbrev pub NamesDiffer : {X : Type 0} → (X → Name) → List X → Type 0
NamesDiffer name [] = Unit {0}
NamesDiffer name (x ∷ xs) = AllByRecursion (λ y. same_name (name x) (name y) ≡ false) xs × NamesDiffer name xs

-- no two boards have one name
abbrev pub BoardsHaveOwnNames : Type 0
BoardsHaveOwnNames = (es : List Edit) → IsRising es → NamesDiffer (λ b. b.id.name) (replay es).boards

-- no two stats have one name, whichever boards they are on
abbrev pub StatsHaveOwnNames : Type 0
StatsHaveOwnNames = (es : List Edit) → IsRising es → NamesDiffer (λ s. s.id.name) (all_stats (replay es))

-- no two texts have one name
abbrev pub TextsHaveOwnNames : Type 0
TextsHaveOwnNames = (es : List Edit) → IsRising es → NamesDiffer (λ t. t.id.name) (replay es).texts
