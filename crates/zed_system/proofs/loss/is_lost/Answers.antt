use Rattle.std.proofs.Common.{◌∙◌, Option, sym, subst}
use Rattle.std.specs.Prelude.{Contains, MatchOption}
use Rattle.zed_op.specs.declared.op.Edit.{Edit}
use Rattle.zed_system.specs.declared.loss.FileEdits.{FileEdits}
use Rattle.zed_system.specs.Loss.{Has, HasAll, IsEditFile, IsNoFile}
use Rattle.zed_system.proofs.Covered.{has_all, has_each, one_world, told}
use Rattle.zed_system.proofs.loss.is_lost.Goals as goal

pub returns-then-old-new : goal.returns-then-old-new
returns-then-old-new c =
    let old = subst (λ (r : Option FileEdits). MatchOption r (IsNoFile c.args.old.now) (λ file. IsEditFile file.world file.edits.items c.args.old.now)) c.in-Some.is c.in_ok-old.ensures in
    let new = subst (λ (r : Option FileEdits). MatchOption r (IsNoFile c.args.new.now) (λ file. IsEditFile file.world file.edits.items c.args.new.now)) c.in-Some-2.is c.in_ok-new.ensures in
    (λ no. absurd cc, λ has. absurd (c.if-old-new.true (one_world c.one_reading.ensures.one c.one_reading.ensures.file _ _ _ _ _ _ old new has)))

pub returns : goal.returns
returns c =
    let old = subst (λ (r : Option FileEdits). MatchOption r (IsNoFile c.args.old.now) (λ file. IsEditFile file.world file.edits.items c.args.old.now)) c.in-Some.is c.in_ok-old.ensures in
    let new = subst (λ (r : Option FileEdits). MatchOption r (IsNoFile c.args.new.now) (λ file. IsEditFile file.world file.edits.items c.args.new.now)) c.in-Some-2.is c.in_ok-new.ensures in
    let set = c.deref.ensures.value ∙ c.in_ok-set.ensures.set in
    let edits = c.deref-2.ensures.value in
    let each = subst (λ xs. (e : Edit) → Contains xs e → Has c.deref.result.now e) edits in
    let back = subst (λ xs. (e : Edit) → Contains xs e → Has c.deref.result.now e) (sym edits) in
    told c.has_each.result (HasAll c.args.new.now c.args.old.now) _
    (λ all. has_all _ _ _ _ _ _ _ c.if-old-new.false old new set (each all))
    (λ has. back (has_each c.one_reading.ensures.one c.one_reading.ensures.file _ _ _ _ _ _ _ old new set has))
    c.has_each.ensures
