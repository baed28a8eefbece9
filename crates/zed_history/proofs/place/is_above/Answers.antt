use Rattle.std.proofs.Common.{◌≡◌, ◌<◌, arith, length, rules}
use Rattle.zed_types.specs.Stamp.{before}
use Rattle.zed_history.proofs.Spots.{above-on, get-at}
use Rattle.zed_history.proofs.place.is_above.Goals as goal

pub returns-then-place-edits : goal.returns-then-place-edits
returns-then-place-edits c =
    let within : c.args.place < length c.args.edits.now = omega arith in
    let is : c.is_before.result ≡ before c.args.stamp c.index-edits-place.result.stamp = search rules in
    above-on c.is_before.result c.args.stamp c.args.edits.now c.args.place c.index-edits-place.result c.requires within
    (get-at c.args.edits.now c.args.place c.index-edits-place.result within c.index-edits-place.is) is
