use Rattle.std.proofs.Common.{rules, ◌≡◌, ◌-◌, ◌++◌, ◌∷◌, [], true, length, sym, ◌∙◌, arith}
use Rattle.zed_document.specs.Authoring.{alone}
use Rattle.zed_document.specs.Stretches.{ends_before}
use Rattle.zed_document.proofs.Stretched.{last-stretched, last-alone, none-alone}
use Rattle.zed_document.proofs.deletion.add_name.Goals as goal
use Rattle.zed_document.proofs.deletion.add_name.Goals.{then-count-gt0+else-ends_before, else-count-gt0}

pub returns-then-ends_before : goal.returns-then-ends_before
returns-then-ends_before c =
    let n : c.len-count.result ≡ length c.args.ranges.now.items = search rules in
    let t : ends_before c.index-last.result.now c.args.name ≡ true = sym c.ends_before.ensures ∙ c.if-ends_before.true in
    rw c.stretch.ensures (sym (last-stretched c.args.ranges.now.items (c.len-count.result - 1) c.args.name c.index-last.result.now (omega arith) c.index-last.ensures t))

pub returns : goal.returns
returns c =
    let n : c.len-count.result ≡ length c.args.ranges.now.items = search rules in
    let pushed : c.push.new.self.items ≡ c.args.ranges.now.items ++ alone c.args.name ∷ [] = search rules in
    elim c.if-count-gt0.branch [
      | then-count-gt0+else-ends_before w ↦ pushed ∙ sym (last-alone c.args.ranges.now.items (c.len-count.result - 1) c.args.name w.index-last.result.now (omega arith) w.index-last.ensures (sym w.ends_before.ensures ∙ w.if-ends_before.false))
      | else-count-gt0 w ↦ pushed ∙ sym (none-alone c.args.ranges.now.items c.args.name (omega (arith, w.if-count-gt0.false)))
    ]
