use Rattle.std.proofs.Common.{◌≡◌, ℕ, List, length, ◌++◌, Option, Some, None, [], sym, subst, arith}
use Rattle.std.proofs.lemmas.List.{nil_from_length}
use Rattle.zed_editfile.specs.declared.error.EditFileError.{EditFileError}
use Rattle.zed_editfile.specs.Stream.{Advances, Progress, Feeds, Steps}
use Rattle.zed_editfile.proofs.Found.{feeds_empty, feeds_nothing, goes_on, stands}
use Rattle.zed_editfile.proofs.reader.EditReader.feed.Goals as goal

pub returns-in-Some-clause-feeds : goal.returns-in-Some-clause-feeds
returns-in-Some-clause-feeds c =
    let P : Progress → Type 0 = λ p. Feeds c.args.piece.now c.args.out.now.items c.args.out.now.items p p in
    let here : Progress = record { asked = c.self.inside.asked; world = c.self.inside.world; version = c.self.inside.version; rest = c.self.inside.kept.items; fault = c.self.inside.fault } in
    subst P c.self.view_is (feeds_nothing c.args.piece.now c.args.out.now.items here c.in-Some.fault c.in-Some.is)

pub returns-then-is_empty-clause-feeds : goal.returns-then-is_empty-clause-feeds
returns-then-is_empty-clause-feeds c =
    let before = c.args.out.now.items in
    let here : Progress = record { asked = c.self.inside.asked; world = c.self.inside.world; version = c.self.inside.version; rest = c.self.inside.kept.items; fault = c.self.inside.fault } in
    let none : length c.args.piece.now ≡ 0 = grind arith in
    let nil : c.args.piece.now ≡ [] = nil_from_length c.args.piece.now none in
    let P : Progress → Type 0 = λ p. Feeds c.args.piece.now before before p p in
    subst P c.self.view_is (subst (λ (x : List ℕ). Feeds x before before here here) (sym nil) (feeds_empty before here))

pub returns-in-Ok-clause-feeds : goal.returns-in-Ok-clause-feeds
returns-in-Ok-clause-feeds c =
    let x = c.args.piece.now in
    let before = c.args.out.now.items in
    let after = c.advance.new.out.items in
    let i = c.self.inside in
    let g = goes_on i.asked i.world c.advance.new.world i.version c.advance.new.version i.kept.items x before after (record { rest = c.advance.new.kept.items; fault = None }) c.in-Ok.ensures.advances in
    let P : Option EditFileError → Type 0 = λ f. Feeds x before after (record { asked = i.asked; world = i.world; version = i.version; rest = i.kept.items; fault = f }) (record { asked = i.asked; world = c.advance.new.world; version = c.advance.new.version; rest = c.advance.new.kept.items; fault = f }) in
    let Q : Progress → Type 0 = λ p. Feeds x before after p (record { asked = i.asked; world = c.advance.new.world; version = c.advance.new.version; rest = c.advance.new.kept.items; fault = i.fault }) in
    subst Q c.self.view_is (subst P (sym c.in_default.is) g)

pub returns-in-Err-clause-feeds : goal.returns-in-Err-clause-feeds
returns-in-Err-clause-feeds c =
    let x = c.args.piece.now in
    let before = c.args.out.now.items in
    let after = c.advance.new.out.items in
    let i = c.self.inside in
    let g = goes_on i.asked i.world c.advance.new.world i.version c.advance.new.version i.kept.items x before after (record { rest = []; fault = Some c.in-Err.fault }) c.in-Err.ensures.advances in
    let P : Option EditFileError → Type 0 = λ f. Feeds x before after (record { asked = i.asked; world = i.world; version = i.version; rest = i.kept.items; fault = f }) (record { asked = i.asked; world = c.advance.new.world; version = c.advance.new.version; rest = []; fault = Some c.in-Err.fault }) in
    let Q : Progress → Type 0 = λ p. Feeds x before after p (record { asked = i.asked; world = c.advance.new.world; version = c.advance.new.version; rest = []; fault = Some c.in-Err.fault }) in
    rw c.clear.ensures.items (subst Q c.self.view_is (subst P (sym c.in_default.is) g))

-- by this piece alone
pub returns-then-is_empty-clause-steps : goal.returns-then-is_empty-clause-steps
returns-then-is_empty-clause-steps c = λ none.
    let before = c.args.out.now.items in
    let i = c.self.inside in
    let nothing : length c.args.piece.now ≡ 0 = grind arith in
    let nil : c.args.piece.now ≡ [] = nil_from_length c.args.piece.now nothing in
    let here : Progress = record { asked = i.asked; world = i.world; version = i.version; rest = i.kept.items; fault = i.fault } in
    let S : Option EditFileError → Type 0 = λ f. Advances i.asked i.world i.world i.version i.version i.kept.items (i.kept.items ++ []) before before (record { rest = i.kept.items; fault = f }) in
    let stays = subst S (sym c.in_default.is) (stands i.asked i.world i.version i.kept.items before (c.self.invariant c.in_default.is)) in
    let P : Progress → Type 0 = λ p. Steps c.args.piece.now before before p p in
    subst P c.self.view_is (subst (λ (x : List ℕ). Steps x before before here here) (sym nil) stays)

pub returns-in-Ok-clause-steps : goal.returns-in-Ok-clause-steps
returns-in-Ok-clause-steps c = λ none.
    let x = c.args.piece.now in
    let before = c.args.out.now.items in
    let after = c.advance.new.out.items in
    let i = c.self.inside in
    let S : Option EditFileError → Type 0 = λ f. Advances i.asked i.world c.advance.new.world i.version c.advance.new.version i.kept.items (i.kept.items ++ x) before after (record { rest = c.advance.new.kept.items; fault = f }) in
    let Q : Progress → Type 0 = λ p. Steps x before after p (record { asked = i.asked; world = c.advance.new.world; version = c.advance.new.version; rest = c.advance.new.kept.items; fault = i.fault }) in
    subst Q c.self.view_is (subst S (sym c.in_default.is) c.in-Ok.ensures.advances)

pub returns-in-Err-clause-steps : goal.returns-in-Err-clause-steps
returns-in-Err-clause-steps c = λ none.
    let x = c.args.piece.now in
    let before = c.args.out.now.items in
    let after = c.advance.new.out.items in
    let i = c.self.inside in
    let Q : Progress → Type 0 = λ p. Steps x before after p (record { asked = i.asked; world = c.advance.new.world; version = c.advance.new.version; rest = []; fault = Some c.in-Err.fault }) in
    rw c.clear.ensures.items (subst Q c.self.view_is c.in-Err.ensures.advances)
