use Rattle.std.proofs.Common.{rules, ◌≡◌, length, ◌∙◌}
use Rattle.zed_code.specs.Blocks.{runs_of}
use Rattle.zed_code.specs.Runs.{whole, if_any}
use Rattle.zed_types.specs.Stamp.{genesis_stamp}
use Rattle.zed_code.proofs.PutBytes.{spelled-cutting, first-spells}
use Rattle.zed_code.proofs.text.Text.genesis.Goals as goal

pub returns-clause-ok : goal.returns-clause-ok
returns-clause-ok c =
    let stored : c.in_ok-store.store.items ≡ c.args.bytes.now = search rules in
    let made : runs_of c.in_ok-blocks.blocks.items ≡ if_any (whole genesis_stamp 0 (length c.args.bytes.now)) = search rules in
    spelled-cutting c.in_ok-store.store.items (runs_of c.in_ok-blocks.blocks.items) ∙ rw (stored, made) (first-spells genesis_stamp c.args.bytes.now)
