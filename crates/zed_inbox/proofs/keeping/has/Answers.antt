use Rattle.std.proofs.Common.{ap, ◌∙◌}
use Rattle.std.specs.BTreeMap.{is_at}
use Rattle.std.specs.Map.{lookup, values_of}
use Rattle.std.specs.Option.{is_some}
use Rattle.zed_types.specs.Stamp.{stamp_cmp}
use Rattle.zed_inbox.proofs.Stamped.{lookup_stamped, find_some}
use Rattle.zed_inbox.proofs.keeping.has.Goals as goal

pub returns : goal.returns
returns c =
    let s = c.args.stamp in
    let es = values_of c.args.edits.now.entries in
    c.contains_key.ensures
    ∙ ap (λ m. is_some (lookup (is_at (stamp_cmp s)) m)) c.requires
    ∙ ap is_some (lookup_stamped s es) ∙ find_some s es
