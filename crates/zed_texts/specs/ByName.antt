-- What belongs to texts, each under the name of its text, in the order of the names.
use Rattle.std.specs.Prelude.{ℕ, map, Option}
use Rattle.std.specs.List.{position}
use Rattle.std.specs.declared.cmp.Ordering.{Ordering}
use Rattle.zed_types.specs.declared.names.Name.{Name}
use Rattle.zed_types.specs.declared.names.TextId.{TextId}
use Rattle.zed_types.specs.Names.{same_text}
use Rattle.zed_stats.specs.ByName as names

-- values of texts, each under the name of its text
abbrev pub ByName : Type 0 → Type 0
ByName X = names.Under TextId X

-- what names a text
abbrev pub text_name : TextId → Name
text_name t = t.name

-- the order of names: by stamp, and then by index
abbrev pub text_cmp : TextId → TextId → Ordering
text_cmp a b = names.key_cmp text_name a b

-- what stands under a name, if something does
abbrev pub text_in : {X : Type 0} → TextId → ByName X → Option X
text_in t ys = names.under text_name t ys

-- the number of a name in the order of names
abbrev pub number_of : {X : Type 0} → TextId → ByName X → Option ℕ
number_of t ys = position (λ x. same_text t x) (map (λ y. y.0) ys)

-- a value is added at its place, unless one of its name is there
abbrev pub add : {X : Type 0} → TextId → X → ByName X → ByName X
add t x ys = names.add text_name t x ys

-- values are added one after the other
abbrev pub add_all : {X : Type 0} → ByName X → ByName X → ByName X
add_all xs ys = names.add_all text_name xs ys

-- what stands under a name, changed
abbrev pub change : {X : Type 0} → TextId → (X → X) → ByName X → ByName X
change t f ys = names.change text_name t f ys
