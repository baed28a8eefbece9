use Rattle.std.proofs.Common.{◌≡◌, ◌∙◌, ◌⊎◌, ℕ, Option, Some, None, Ok, ap, sym, subst}
use Rattle.std.specs.Prelude.{MatchOption}
use Rattle.zed_editfile.specs.Stream.{Progress}
use Rattle.zed_system.specs.Loss.{IsFaulty}
use Rattle.zed_system.proofs.Files.{all_read, file_there, no_file}
use Rattle.zed_system.proofs.loss.read.Goals as goal

pub returns-in-Some : goal.returns-in-Some
returns-in-Some c =
    let reads = all_read c.args.bytes.now _ _ _ _ c.new-edits.ensures.items c.new-reader.ensures.reads c.feed.ensures.feeds in
    let told = subst (λ (t : Option ℕ). MatchOption t (IsFaulty c.finish.result ⊎ ((c.finish.result ≡ Ok tt) × (c.world.result ≡ None))) (λ n. (c.finish.result ≡ Ok tt) × (c.world.result ≡ Some n))) c.in-Some.is c.in_ok-world.ensures in
    file_there c.args.bytes.now _ _ c.finish.result c.in-Some.world reads c.finish.ensures.whole (told.0, sym c.world.ensures ∙ told.1)

pub returns-in-None : goal.returns-in-None
returns-in-None c =
    let reads = all_read c.args.bytes.now _ _ _ _ c.new-edits.ensures.items c.new-reader.ensures.reads c.feed.ensures.feeds in
    let told = subst (λ (t : Option ℕ). MatchOption t (IsFaulty c.finish.result ⊎ ((c.finish.result ≡ Ok tt) × (c.world.result ≡ None))) (λ n. (c.finish.result ≡ Ok tt) × (c.world.result ≡ Some n))) c.in-None.is c.in_ok-world.ensures in
    no_file c.one_reading.ensures.one c.one_reading.ensures.file c.args.bytes.now _ _ c.finish.result
    (c.feed.ensures.asked ∙ ap (λ (q : Progress). q.asked) c.new-reader.ensures.new) c.finish.ensures.result reads
    (subst (λ w. IsFaulty c.finish.result ⊎ ((c.finish.result ≡ Ok tt) × (w ≡ None))) c.world.ensures told)
