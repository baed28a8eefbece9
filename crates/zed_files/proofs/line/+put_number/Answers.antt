use Rattle.std.proofs.Common.{◌≡◌, ◌∙◌, ◌+◌, ◌%◌, ◌/◌, ◌<◌, ℕ, List, [], ◌∷◌, ◌++◌, length, length-append, append_assoc, arith, ap, sym}
use Rattle.std.specs.Fmt.{decimal}
use Rattle.smallvec.specs.SmallVec.{SmallVec}
use Rattle.zed_files.proofs.Digits.{digits_longer, more_digits, one_digit, one_long, tenth_less}
use Rattle.zed_files.proofs.line.+put_number.Goals.{then-number-ge10, else-number-ge10}
use Rattle.zed_files.proofs.line.+put_number.Goals as goal

pub put_number-requires : goal.put_number-requires
put_number-requires t c =
    let n = c.args.number in
    let less : n / 10 < n = tenth_less n c.if-number-ge10.true in
    let longer = digits_longer n c.if-number-ge10.true (omega (arith, c.ranges.number.fits)) in
    (omega (arith, c.decreases, less), omega (arith, c.requires, longer))

pub push_reserved-requires : goal.push_reserved-requires
push_reserved-requires t c =
    let n = c.args.number in
    elim c.if-number-ge10.branch [
      | then-number-ge10 w ↦
          let items = ap length w.put_number.ensures.items in
          let all = length-append c.args.bytes.now.items (decimal (n / 10)) in
          let longer = digits_longer n w.if-number-ge10.true (omega (arith, c.ranges.number.fits)) in
          rw w.bytes-is (omega arith, omega (arith, items, all, longer, w.put_number.ensures.capacity, c.requires))
      | else-number-ge10 w ↦
          let one = one_long n w.if-number-ge10.false in
          rw w.bytes-is (omega arith, omega (arith, one, c.requires))
    ]

pub returns-clause-items : goal.returns-clause-items
returns-clause-items t c =
    let n = c.args.number in
    let old : List ℕ = c.args.bytes.now.items in
    let last : List ℕ = (48 + n % 10) ∷ [] in
    let pushed : c.push_reserved.new.self.items ≡ c.if-number-ge10.bytes.items ++ last =
    c.push_reserved.ensures.items ∙ ap (λ (d : ℕ). c.if-number-ge10.bytes.items ++ d ∷ []) c.digit_of.ensures in
    elim c.if-number-ge10.branch [
      | then-number-ge10 w ↦
          let digits = more_digits n w.if-number-ge10.true (omega (arith, c.ranges.number.fits)) in
          pushed ∙ ap (λ (b : SmallVec ℕ). b.items ++ last) w.bytes-is ∙ ap (λ (xs : List ℕ). xs ++ last) w.put_number.ensures.items
          ∙ append_assoc old (decimal (n / 10)) last ∙ ap (λ (ds : List ℕ). old ++ ds) (sym digits)
      | else-number-ge10 w ↦
          let digit = one_digit n w.if-number-ge10.false in
          pushed ∙ ap (λ (b : SmallVec ℕ). b.items ++ last) w.bytes-is ∙ ap (λ (ds : List ℕ). old ++ ds) (sym digit)
    ]
