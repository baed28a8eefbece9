use Rattle.std.proofs.Common.{◌≡◌, ℕ, List, Some, ap, subst}
use Rattle.std.specs.Prelude.{OnOk}
use Rattle.zed_op.specs.declared.op.Edit.{Edit}
use Rattle.zed_editfile.specs.Stream.{AreRecords, IsTextOf, Progress, Reads}
use Rattle.zed_link.specs.Feed.{FeedState}
use Rattle.zed_link.proofs.feed.Feed.finish.Goals as goal

pub returns-clause-whole : goal.returns-clause-whole
returns-clause-whole c =
    let v : c.self.inside.reader ≡ c.args.self.now.progress = ap (λ (s : FeedState). s.progress) c.self.view_is in
    let P : Progress → Type 0 = λ p. OnOk c.finish.result ((bytes : List ℕ) (found : List Edit) → Reads bytes found p → (world : ℕ) × (p.world ≡ Some world) × AreRecords found × IsTextOf world found bytes) in
    subst P v c.finish.ensures.whole
