use Rattle.std.proofs.Common.{◌≡◌, ℕ, ◌≤◌, ◌++◌, List, [], length, Option, Some, None, Ok, refl, sym, ap, ◌∙◌}
use Rattle.std.specs.List.{AllByRecursion}
use Rattle.std.proofs.lemmas.List.{append-nil}
use Rattle.zed_types.specs.declared.limits.TheConstants.{READ_BODY_LIMIT}
use Rattle.zed_world.specs.Contents.{Contents}
use Rattle.zed_world.specs.Normal.{HasNormalParts}
use Rattle.zed_world.specs.Reading.{world_at}
use Rattle.zed_world.specs.Writing.{body_text, world_text}
use Rattle.zed_op.specs.Set.{set_of}
use Rattle.zed_op.specs.SetLaws.{SetIsRising, SetKeepsFit}
use Rattle.zed_edit.specs.declared.plain.Plain.{Plain}
use Rattle.zed_edit.specs.Replay.{replay}
use Rattle.zed_op.specs.Sizes.{HasSizes}
use Rattle.zed_laws.specs.Integers.{ReplayKeepsIntegers}
use Rattle.zed_laws.specs.NameOrder.{ReplayIsOrdered}
use Rattle.zed_laws.specs.Regular.{ReplayIsRegular}
use Rattle.zed_export.specs.declared.error.ExportError.{ExportError}
use Rattle.zed_export.specs.World.{exported_boards, world_of}
use Rattle.zed_export.specs.Limits.{refusal_of, unless_over, SavedIsRead}
use Rattle.zed_export.specs.Headline.{AuthoredIsRead}
use Rattle.zed_op.proofs.SetLaws.{each-set}
use Rattle.zed_export.proofs.IntegersFit.{integers_normal}
use Rattle.zed_export.proofs.Within.{boards_within, all_readable}
use Rattle.zed_export.proofs.exporting.saved_is_read.Goals as goal

WrittenIsRead : Type 0
WrittenIsRead = (w : Contents) (rest : List ℕ) → HasNormalParts w → AllByRecursion (λ b. length (body_text b) ≤ READ_BODY_LIMIT) w.boards → world_at (world_text w ++ rest) ≡ Ok w

read_again : WrittenIsRead → SavedIsRead
unfolding WrittenIsRead
read_again law limit p file low normal e = go (refusal_of limit p) refl e
  where
    go : (o : Option ExportError) → refusal_of limit p ≡ o → unless_over o (world_text (world_of p)) ≡ Ok file
        → world_at file ≡ Ok (world_of p)
    go (Some refusal) h e = absurd (cc)
    go None h e =
        let text : world_text (world_of p) ≡ file = cc in
        ap world_at (sym text ∙ sym (append-nil (world_text (world_of p)))) ∙ law (world_of p) [] normal (all_readable limit 0 (exported_boards p) low (boards_within limit p h))

authored_is_read : SavedIsRead → SetIsRising → SetKeepsFit → ReplayIsOrdered → ReplayIsRegular → ReplayKeepsIntegers → AuthoredIsRead
authored_is_read read rising fit ordered regular integers limit es file authored low answer = go (refusal_of limit p) refl answer
  where
    p : Plain
    p = replay (set_of es)

    normal : refusal_of limit p ≡ None → HasNormalParts (world_of p)
    normal within = integers_normal limit p (regular (set_of es) (fit es authored.fit)) (ordered (set_of es) (rising es)) (integers (set_of es) (each-set HasSizes es authored.sizes)) low within

    go : (o : Option ExportError) → refusal_of limit p ≡ o → unless_over o (world_text (world_of p)) ≡ Ok file
        → world_at file ≡ Ok (world_of p)
    go (Some refusal) h a = absurd (cc)
    go None h a = read limit p file low (normal h) answer

pub returns : goal.returns
unfolding WrittenIsRead
returns c =
    let read = read_again c.written_is_read.ensures.back in
    record { normal = read; authored = authored_is_read read c.sets_rise.ensures.set c.sets_stay_fit.ensures.set c.replay_is_ordered.ensures c.replay_is_regular.ensures.regular c.replay_is_regular.ensures.integers }
