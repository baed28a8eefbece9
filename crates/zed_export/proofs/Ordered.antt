-- Names of what isn't removed stand in their order.
use Rattle.std.proofs.Common.{◌≡◌, ℕ, zero, suc, ◌<◌, Bool, true, false, cond, not, List, [], ◌∷◌, length, get_or, map, arith}
use Rattle.std.specs.Prelude.{filter}
use Rattle.std.specs.List.{AllByRecursion}
use Rattle.zed_types.specs.declared.names.Name.{Name}
use Rattle.zed_types.specs.Names.{NamesRise, is_earlier}
use Rattle.zed_edit.specs.declared.plain.Board.{Board}
use Rattle.zed_edit.specs.declared.plain.Stat.{Stat}
use Rattle.zed_edit.specs.declared.plain.Plain.{Plain}
use Rattle.zed_laws.specs.NameOrder.{IsOrdered}
use Rattle.zed_edit.specs.Numbers.{boards_there}
use Rattle.zed_export.specs.Fields.{stat_names}
use Rattle.zed_export.proofs.Each.{each_filtered}

all-map : {X Y : Type 0} (P : Y → Type 0) (f : X → Y) (xs : List X) → AllByRecursion (λ x. P (f x)) xs → AllByRecursion P (map f xs)
all-map P f [] h = tt
all-map P f (x ∷ xs) h = (h.0, all-map P f xs h.1)

-- what holds of each member holds of one
pub all_at : {X : Type 0} (P : X → Type 0) (xs : List X) (i : ℕ) (d : X) → i < length xs → AllByRecursion P xs → P (get_or xs i d)
all_at P [] i d lt h = absurd (omega arith)
all_at P (x ∷ xs) zero d lt h = h.0
all_at P (x ∷ xs) (suc i) d lt h = all_at P xs i d (omega arith) h.1

-- some of what is in order is in order
rise-filter : {X : Type 0} (name : X → Name) (test : X → Bool) (xs : List X) → NamesRise name xs → NamesRise name (filter test xs)
rise-filter name test [] h = tt
rise-filter name test (x ∷ xs) h = go (test x) (rise-filter name test xs h.1)
  where
    go : (t : Bool) → NamesRise name (filter test xs) → NamesRise name (cond t (x ∷ filter test xs) (filter test xs))
    go true rest = (each_filtered (λ y. is_earlier (name x) (name y) ≡ true) test xs h.0, rest)
    go false rest = rest

-- names are in order where their things are
rise-map : {X Y : Type 0} (f : X → Y) (name : Y → Name) (xs : List X) → NamesRise (λ x. name (f x)) xs → NamesRise name (map f xs)
rise-map f name [] h = tt
rise-map f name (x ∷ xs) h = (all-map (λ y. is_earlier (name (f x)) (name y) ≡ true) f xs h.0, rise-map f name xs h.1)

pub names_there_rise : (p : Plain) → IsOrdered p → NamesRise (λ n. n) (map (λ b. b.id.name) (boards_there p))
names_there_rise p h =
    rise-map (λ (b : Board). b.id.name) (λ n. n) _ (rise-filter (λ (b : Board). b.id.name) (λ (b : Board). not b.removed) p.boards h.boards)

pub stat_names_rise : (b : Board) → NamesRise (λ s. s.id.name) b.stats → NamesRise (λ n. n) (stat_names b)
stat_names_rise b h =
    rise-map (λ (s : Stat). s.id.name) (λ n. n) _ (rise-filter (λ (s : Stat). s.id.name) (λ (s : Stat). not s.removed) b.stats h)
