use Rattle.std.proofs.Common.{◌≡◌, ◌∙◌, ℕ, suc, Bool, true, false, not, length, map, slice_get, Some, sym, ap, arith, true≢false}
use Rattle.std.proofs.lemmas.List.{length-map}
use Rattle.std.proofs.lemmas.Option.{slice_get-get_or}
use Rattle.zed_edit.proofs.Ordered.{some-below}
use Rattle.zed_edit.specs.declared.numbers.Standing.{Standing}
use Rattle.zed_edit.specs.Numbers.{comes_before, standing, stands_before}
use Rattle.zed_view.specs.View.{board_at}
use Rattle.zed_view.proofs.Firsts.{image_at, put-past}
use Rattle.zed_view.proofs.first.is_past.Goals as goal

failed : (t : Bool) → not t ≡ true → t ≡ false
failed true h = absurd (true≢false (sym h))
failed false h = let e : false ≡ false = ap not h in e

pub returns-in-Some : goal.returns-in-Some
returns-in-Some c = λ h.
    let at = board_at c.args.view.now in
    let ps = c.args.first.now in
    let last = c.in-Some.last.now in
    let there = c.in-Some.ensures.lookup.3 in
    let found : slice_get ps 100 ≡ Some last = slice_get-get_or ps 100 0 there.0 ∙ ap (λ (j : ℕ). Some j) (sym (there.1 0)) in
    let below = some-below ps 100 last found in
    let long : length (map at ps) ≡ suc 100 = omega (arith, length-map ps at, below, c.requires.few) in
    let no : comes_before (at c.args.i) (at last) ≡ false
    = ap (λ (s : Standing). stands_before s (standing (at last))) (sym c.standing_of.ensures) ∙ ap (stands_before c.standing_of.result) (sym c.standing_of-in-Some.ensures) ∙ sym c.is_before.ensures ∙ failed c.is_before.result h in
    put-past 100 (at c.args.i) (at last) (map at ps) c.requires.order long (image_at at ps 100 last found) no
