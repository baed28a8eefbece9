use mathlib.Core.Logic.{inl, inr}
use Rattle.std.proofs.Common.{◌≡◌, ◌≤◌, ◌<◌, ℕ, List, length, slice_get, get_or, sym, ap, ◌∙◌, arith}
use Rattle.zed_code.specs.Halving.{IsNumber}
use Rattle.zed_code.proofs.Entries.{some-number, some-place}
use Rattle.zed_code.proofs.hints.keep_hint.Goals as goal

is_number : (places : List ℕ) (b n m : ℕ) → m ≡ n → n < length places → get_or places n 0 ≤ b → IsNumber places b m
is_number places b n m e l le = record {
  within = omega (arith, e, l);
  place = λ p g.
      let h : get_or places n 0 ≡ p =
      some-number (get_or places n 0) p (sym (some-place places n 0 l) ∙ ap (slice_get places) (sym e) ∙ g) in
      omega (arith, h, le);
}

pub returns-then-places-number-clause-hints : goal.returns-then-places-number-clause-hints
returns-then-places-number-clause-hints c hint one =
    elim (c.set_hint.ensures.hints hint one) [
      | inl old ↦ inl old
      | inr own ↦ inr (own.0, is_number c.args.places.now c.args.block (get_or c.args.blocks.now c.args.block c.index-blocks-block.result).id hint.1 own.1 c.if-number-places.true c.if-places-number.true)
    ]
