use Rattle.std.proofs.Common.{rules, subst, sym, [], ◌∷◌, ◌++◌}
use Rattle.std.specs.Prelude.{OnErr, is_err}
use Rattle.zed_system.specs.declared.folder.Old.{Old}
use Rattle.zed_system.specs.declared.folder.Old.TheVariants.{Kept}
use Rattle.zed_system.specs.Steps.{Keep, Rename, StopsIn, Went, making, placing, taken, taking}
use Rattle.zed_system.proofs.Steps.{done_on, later_fails, stops_before, stops_first, stops_later}
use Rattle.zed_system.proofs.folder.take_place.Goals as goal
use Rattle.zed_system.proofs.folder.take_place.Goals.{in-Dropped, in-Kept+in_ok-keep-in-Kept}

-- the new file wasn't made
pub returns-in_err-make-clause-stopped : goal.returns-in_err-make-clause-stopped
returns-in_err-make-clause-stopped g c =
    let stopped = stops_before (making c.args.bytes.now) (taking c.args.old) _ _ c.in_err-make.ensures.stopped in
    search rules

-- the old file wasn't kept
pub returns-in_err-keep-in-Kept-clause-stopped : goal.returns-in_err-keep-in-Kept-clause-stopped
returns-in_err-keep-in-Kept-clause-stopped g c =
    let bytes = c.args.bytes.now in
    let before = g.F.Folder.steps c.args.folder.now in
    let after = g.F.Folder.steps c.keep.new.self in
    let failed = stops_first Keep (Rename ∷ []) _ _ c.in_err-keep-in-Kept.ensures.asked in
    let kept : StopsIn (placing Kept bytes) [] before after =
    stops_later (making bytes) (Keep ∷ Rename ∷ []) _ _ _ c.in_ok-make.ensures.asked failed in
    let stopped : StopsIn (placing c.args.old bytes) [] before after =
    subst (λ (old : Old). StopsIn (placing old bytes) [] before after) (sym c.in-Kept.is) kept in
    search rules

-- the new file wasn't renamed
pub returns-clause-stopped : goal.returns-clause-stopped
returns-clause-stopped g c =
    let bytes = c.args.bytes.now in
    let before = g.F.Folder.steps c.args.folder.now in
    let after = g.F.Folder.steps c.rename.new.self in
    elim c.match-old.branch [
      | in-Dropped w ↦
          let renamed = subst (λ folder. Went (taken Rename (is_err c.rename.result) ∷ []) (g.F.Folder.steps folder) after) w.folder-is c.rename.ensures.asked in
          subst (λ (old : Old). OnErr c.rename.result (StopsIn (placing old bytes) [] before after)) (sym w.in-Dropped.is)
          (later_fails c.rename.result (making bytes) Rename _ _ _ c.in_ok-make.ensures.asked renamed)
      | in-Kept+in_ok-keep-in-Kept w ↦
          let renamed = subst (λ folder. Went (taken Rename (is_err c.rename.result) ∷ []) (g.F.Folder.steps folder) after) w.folder-is c.rename.ensures.asked in
          let kept = done_on (making bytes) (Keep ∷ []) _ _ _ c.in_ok-make.ensures.asked w.in_ok-keep-in-Kept.ensures.asked in
          subst (λ (old : Old). OnErr c.rename.result (StopsIn (placing old bytes) [] before after)) (sym w.in-Kept.is)
          (later_fails c.rename.result (making bytes ++ Keep ∷ []) Rename _ _ _ kept renamed)
    ]
