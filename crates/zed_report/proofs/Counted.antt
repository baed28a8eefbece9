-- How many findings there are at least, and the worlds of two sets.
use Rattle.std.proofs.Common.{◌≡◌, ◌≤◌, Bool, true, false, cond, List, [], ◌∷◌, Result, Ok, Err, IfOk, refl, subst, length, arith}
use Rattle.zed_op.specs.declared.op.Edit.{Edit}
use Rattle.zed_edit.specs.declared.plain.Plain.{Plain}
use Rattle.zed_report.specs.declared.comparing.Comparison.{Comparison}
use Rattle.zed_compare.specs.declared.finding.Finding.{Finding}
use Rattle.zed_join.specs.declared.sides.Sides.{Sides}
use Rattle.zed_join.specs.declared.sides.Views.{Views}
use Rattle.zed_compare.specs.Findings.{is_of_register, of_registers, register_findings}
use Rattle.zed_join.specs.Sides.{AreSides, ShowSides}
use Rattle.zed_compare.specs.Silence.{worlds}

-- those of registers are no more than all
pub some_of : (xs : List Finding) → length (of_registers xs) ≤ length xs
some_of [] = omega arith
some_of (x ∷ xs) = go (is_of_register x) (some_of xs)
  where
    go : (b : Bool) → length (of_registers xs) ≤ length xs → length (cond b (x ∷ of_registers xs) (of_registers xs)) ≤ length (x ∷ xs)
    go true more = omega (arith, more)
    go false more = omega (arith, more)

-- what documents of two sets show
worlds_shown : (es fs : List Edit) (s : Sides) (w : Views) → AreSides es fs s → ShowSides s w → w ≡ worlds es fs
worlds_shown es fs s w sides shown =
    let make : Plain → Plain → Plain → Plain → Views = λ a b c d. record { base = a; mine = b; theirs = c; union = d } in
    let path : make w.base w.mine w.theirs w.union ≡ make (worlds es fs).base (worlds es fs).mine (worlds es fs).theirs (worlds es fs).union =
    rw (shown.base, shown.mine, shown.theirs, shown.union, sides.base.0, sides.mine.0, sides.theirs.0, sides.union.0) refl in
    path

-- what is told of what they show is told of the sets
pub shown_told : {E : Type 0} (es fs : List Edit) (s : Sides) (w : Views) (r : Result Comparison E) → ShowSides s w
    → IfOk r (λ c. length (register_findings w) ≤ c.found) → AreSides es fs s → IfOk r (λ c. length (register_findings (worlds es fs)) ≤ c.found)
shown_told es fs s w (Ok c) shown is sides = subst (λ v. length (register_findings v) ≤ c.found) (worlds_shown es fs s w sides shown) is
shown_told es fs s w (Err e) shown is sides = tt
