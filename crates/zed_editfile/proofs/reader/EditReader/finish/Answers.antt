use Rattle.std.proofs.Common.{◌≡◌, ℕ, true, length, arith, Option, Some, None, subst}
use Rattle.std.specs.Prelude.{is_some}
use Rattle.std.proofs.lemmas.List.{nil_from_length}
use Rattle.zed_editfile.specs.Stream.{Progress, Reads, AreRecords, IsTextOf}
use Rattle.zed_editfile.proofs.Found.{ends_whole}
use Rattle.zed_editfile.proofs.reader.EditReader.finish.Goals as goal

not_none : (w : Option ℕ) → is_some w ≡ true → w ≡ None → ⊥
not_none None s n = absurd cc
not_none (Some x) s n = absurd cc

pub returns-clause-whole : goal.returns-clause-whole
returns-clause-whole c = λ bytes found r.
    let i = c.self.inside in
    let none : length i.kept.items ≡ 0 = grind arith in
    let P : Progress → Type 0 = λ p. Reads bytes found p → (x : ℕ) × (p.world ≡ Some x) × AreRecords found × IsTextOf x found bytes in
    subst P c.self.view_is (λ r. ends_whole i.asked i.world i.version i.kept.items i.fault bytes found c.in_default.is (not_none i.world c.if-is_none.ensures) (nil_from_length i.kept.items none) r) r
