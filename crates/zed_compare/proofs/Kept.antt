-- The findings of registers among all.
use Rattle.std.proofs.Common.{◌≡◌, ◌∙◌, ℕ, zero, suc, ◌+◌, true, false, List, [], ◌∷◌, ◌++◌, Option, Some, None, Result, Ok, Err, OnOk, refl, ap}
use Rattle.std.specs.Prelude.{filter_map, option_map}
use Rattle.std.specs.List.{cons_option}
use Rattle.std.proofs.lemmas.List.{append_assoc}
use Rattle.std.proofs.lemmas.List.Elements.{filter-append}
use Rattle.zed_types.specs.declared.names.BoardId.{BoardId}
use Rattle.zed_types.specs.declared.names.StatId.{StatId}
use Rattle.zed_types.specs.declared.tile.Tile.{Tile}
use Rattle.zed_edit.specs.declared.plain.Board.{Board}
use Rattle.zed_sides.specs.declared.side.Overridden.{Overridden}
use Rattle.zed_compare.specs.declared.finding.Finding.{Finding}
use Rattle.zed_compare.specs.declared.finding.Finding.TheVariants as finding
use Rattle.zed_compare.specs.declared.registers.BoardRegister.{BoardRegister}
use Rattle.zed_compare.specs.declared.registers.StatRegister.{StatRegister}
use Rattle.zed_compare.specs.declared.registers.WorldRegister.{WorldRegister}
use Rattle.zed_join.specs.declared.sides.Views.{Views}
use Rattle.zed_compare.specs.Findings.{board_finding, cell_of, cells_from, found_on, is_of_register, of_registers, stat_finding, world_finding}
use Rattle.zed_compare.specs.Registers.{of_that_board, of_that_stat, of_world}

-- another finding changes none
pub adds_none : (xs : List Finding) (y : Finding) → is_of_register y ≡ false → of_registers (xs ++ y ∷ []) ≡ of_registers xs
adds_none xs y other = filter-append is_of_register xs (y ∷ []) ∙ rw other (nil (of_registers xs))
  where
    nil : (zs : List Finding) → zs ++ [] ≡ zs
    nil [] = refl
    nil (z ∷ zs) = ap (λ l. z ∷ l) (nil zs)

-- findings that are all of registers come behind those that there were
pub adds_all : (old new xs : List Finding) → new ≡ old ++ xs → of_registers xs ≡ xs → of_registers new ≡ of_registers old ++ xs
adds_all old new xs is all = ap of_registers is ∙ filter-append is_of_register old xs ∙ ap (λ l. of_registers old ++ l) all

-- what is found of registers is of registers
module _ {R : Type 0} (found : R → Option Finding) (each : (r : R) (f : Finding) → found r ≡ Some f → is_of_register f ≡ true) where
  pub all_kept : (rs : List R) → of_registers (filter_map found rs) ≡ filter_map found rs
  all_kept [] = refl
  all_kept (r ∷ rs) = go (found r) refl (all_kept rs)
    where
      go : (o : Option Finding) → found r ≡ o → of_registers (filter_map found rs) ≡ filter_map found rs
          → of_registers (cons_option o (filter_map found rs)) ≡ cons_option o (filter_map found rs)
      go None is more = more
      go (Some f) is more = rw (each r f is) (ap (λ l. f ∷ l) more)

made : {X : Type 0} (make : X → Finding) (o : Option X) (f : Finding) → ((x : X) → is_of_register (make x) ≡ true) → option_map make o ≡ Some f
    → is_of_register f ≡ true
made make None f each is = cc
made make (Some x) f each is =
    let q : make x ≡ f = cc in
    let h : is_of_register (make x) ≡ true = each x in
    rw q at h

pub world_kept : (w : Views) (rs : List WorldRegister) → of_registers (filter_map (world_finding w) rs) ≡ filter_map (world_finding w) rs
world_kept w rs = all_kept (world_finding w) (λ r f is. made (finding.World r) (of_world w r) f (λ x. refl) is) rs

pub board_kept : (w : Views) (b : BoardId) (rs : List BoardRegister) → of_registers (filter_map (board_finding w b) rs) ≡ filter_map (board_finding w b) rs
board_kept w b rs = all_kept (board_finding w b) (λ r f is. made (finding.Board b r) (of_that_board w b r) f (λ x. refl) is) rs

pub stat_kept : (w : Views) (b : BoardId) (x : StatId) (rs : List StatRegister)
    → of_registers (filter_map (stat_finding w b x) rs) ≡ filter_map (stat_finding w b x) rs
stat_kept w b x rs = all_kept (stat_finding w b x) (λ r f is. made (finding.Stat x r) (of_that_stat w b x r) f (λ y. refl) is) rs

pub cells_kept : (b : BoardId) (base mine theirs union : List Tile) (i n : ℕ)
    → of_registers (cells_from b base mine theirs union i n) ≡ cells_from b base mine theirs union i n
unfolding cells_from
cells_kept b base mine theirs union i zero = refl
cells_kept b base mine theirs union i (suc n) = go (cell_of base mine theirs union i) (cells_kept b base mine theirs union (i + 1) n)
  where
    rest : List Finding
    rest = cells_from b base mine theirs union (i + 1) n

    go : (o : Option Overridden) → of_registers rest ≡ rest
        → of_registers (cons_option (option_map (finding.Cell b i) o) rest) ≡ cons_option (option_map (finding.Cell b i) o) rest
    go None more = more
    go (Some x) more = ap (λ l. finding.Cell b i x ∷ l) more

-- and so are those of the cells of a board
pub found_kept : (b : BoardId) (base mine theirs union : Option Board) → of_registers (found_on b base mine theirs union) ≡ found_on b base mine theirs union
found_kept b None mine theirs union = refl
found_kept b (Some base) None theirs union = refl
found_kept b (Some base) (Some mine) None union = refl
found_kept b (Some base) (Some mine) (Some theirs) None = refl
found_kept b (Some base) (Some mine) (Some theirs) (Some union) = cells_kept b base.tiles mine.tiles theirs.tiles union.tiles 0 1500

-- where a call found findings that are all of registers
pub kept_on : {E : Type 0} (r : Result (Unit {0}) E) (old new xs : List Finding) → OnOk r (new ≡ old ++ xs) → of_registers xs ≡ xs
    → OnOk r (of_registers new ≡ of_registers old ++ xs)
kept_on (Ok u) old new xs is all = adds_all old new xs is all
kept_on (Err e) old new xs is all = tt

-- so it is with each of some
pub kept_each : {E I : Type 0} (P : I → Type 0) (xs : I → List Finding) (r : Result (Unit {0}) E) (old new : List Finding)
    → OnOk r ((i : I) → P i → new ≡ old ++ xs i) → ((i : I) → of_registers (xs i) ≡ xs i)
    → OnOk r ((i : I) → P i → of_registers new ≡ of_registers old ++ xs i)
kept_each P xs (Ok u) old new is all = λ i so. adds_all old new (xs i) (is i so) (all i)
kept_each P xs (Err e) old new is all = tt

-- four pieces behind each other
pub four : {X : Type 0} (o p q r s a b c d : List X) → p ≡ o ++ a → q ≡ p ++ b → r ≡ q ++ c → s ≡ r ++ d → s ≡ o ++ (((a ++ b) ++ c) ++ d)
four o p q r s a b c d e f g h =
    h
    ∙ ap (λ l. l ++ d) (g ∙ ap (λ l. l ++ c) (f ∙ ap (λ l. l ++ b) e ∙ append_assoc o a b) ∙ append_assoc o (a ++ b) c)
    ∙ append_assoc o ((a ++ b) ++ c) d
