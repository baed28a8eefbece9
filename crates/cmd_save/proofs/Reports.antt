-- The text of a world that goes over no limit.
use Rattle.zed_edit.specs.declared.plain.Plain.{Plain}
use Rattle.zed_export.specs.declared.error.ExportError.{ExportError}
use Rattle.std.proofs.Common.{◌≡◌, ℕ, false, Option, Some, None, Ok, refl}
use Rattle.zed_world.specs.Contents.{Contents}
use Rattle.zed_world.specs.Writing.{HasText}
use Rattle.zed_edit.specs.Replay.{replay}
use Rattle.zed_document.specs.Replica.{Replica}
use Rattle.zed_export.specs.Limits.{Answers, exported, refusal_of, unless_over as over, unless_stale}
use Rattle.zed_export.specs.World.{exported_boards, world_of}
use Rattle.zed_export.proofs.Within.{boards_within, none_over}

-- a world that goes over no limit has a text within it
within : (limit : ℕ) (p : Plain) (w : Contents) (o : Option ExportError) → refusal_of limit p ≡ o
    → Answers {X = Contents} (λ x. x) (over o (world_of p)) (Ok w)
    → HasText limit w
within limit p w None none is = rw (is) (none_over limit 0 (exported_boards p) (boards_within limit p none))
within limit p w (Some e) some is = absurd (cc)

pub has_text : (limit : ℕ) (d : Replica) (w : Contents) → d.is_stale ≡ false
    → Answers {X = Contents} (λ x. x) (unless_stale d (exported limit)) (Ok w)
    → HasText limit w
has_text limit d w sound is = within limit (replay d.edits) w (refusal_of limit (replay d.edits)) refl (rw sound at is)
