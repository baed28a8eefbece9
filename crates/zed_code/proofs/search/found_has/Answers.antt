use Rattle.std.proofs.Common.{Option, false, sym, ◌∙◌, subst}
use Rattle.zed_code.specs.declared.search.Found.{Found}
use Rattle.zed_code.specs.Blocks.{lists, joined, before_spot}
use Rattle.zed_code.specs.Found.{IsFound}
use Rattle.zed_code.proofs.Hinting.{spot-read}
use Rattle.zed_code.proofs.Finding.{any-at}
use Rattle.zed_code.proofs.Rests.{none}
use Rattle.zed_code.proofs.search.found_has.Goals as goal

pub returns-in-Some : goal.returns-in-Some
returns-in-Some c h =
    let ls = lists c.args.blocks.now in
    let P : Option Found → Type 0 = λ f. IsFound f ls in
    let is = subst P c.in-Some.is c.requires in
    let at = c.in-Some.last.at in
    let there = spot-read at ls c.runs_at.result.now none is.0 c.runs_at.ensures in
    any-at c.args.id (before_spot at ls) (joined ls) _ _ there (sym c.has.ensures ∙ h)
