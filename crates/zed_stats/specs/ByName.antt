-- Values that stand under keys, in the order of the names of the keys. What `name` tells is the name of a key.
use Rattle.std.specs.Prelude.{◌≡◌, Bool, if◌then◌else◌, List, [], ◌∷◌, is_some, Option}
use Rattle.std.specs.declared.cmp.Ordering.{Ordering}
use Rattle.std.specs.Map.{lookup}
use Rattle.zed_types.specs.declared.names.Name.{Name}
use Rattle.zed_types.specs.Names.{is_earlier, name_cmp, same_name}

-- values, each under its key
abbrev pub Under : Type 0 → Type 0 → Type 0
Under K X = List (K × X)

-- a key is told by its name
abbrev pub IsOnlyName : {K : Type 0} → (K → Name) → Type 0
IsOnlyName {K} name = (a b : K) → name a ≡ name b → a ≡ b

-- keys in the order of their names
abbrev pub key_cmp : {K : Type 0} → (K → Name) → K → K → Ordering
key_cmp name a b = name_cmp (name a) (name b)

-- whether two keys have one name
abbrev pub same : {K : Type 0} → (K → Name) → K → K → Bool
same name a b = same_name (name a) (name b)

-- what stands under a key, if something does
abbrev pub under : {K X : Type 0} → (K → Name) → K → Under K X → Option X
under name k ys = lookup (same name k) ys

-- a value at its place: before those of later names
abbrev pub put : {K X : Type 0} → (K → Name) → K → X → Under K X → Under K X
put name k x [] = (k, x) ∷ []
put name k x (y ∷ ys) = if is_earlier (name k) (name y.0) then (k, x) ∷ y ∷ ys else y ∷ put name k x ys

-- a value is added, unless one stands under its key
abbrev pub add : {K X : Type 0} → (K → Name) → K → X → Under K X → Under K X
add name k x ys = if is_some (under name k ys) then ys else put name k x ys

-- values are added one after the other
abbrev pub add_all : {K X : Type 0} → (K → Name) → Under K X → Under K X → Under K X
add_all name [] ys = ys
add_all name (x ∷ xs) ys = add_all name xs (add name x.0 x.1 ys)

-- what stands under a key, changed
abbrev pub change : {K X : Type 0} → (K → Name) → K → (X → X) → Under K X → Under K X
change name k f [] = []
change name k f (y ∷ ys) = if same name k y.0 then (y.0, f y.1) ∷ ys else y ∷ change name k f ys
