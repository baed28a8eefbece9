use Rattle.std.proofs.Common.{◌≡◌, Option, subst, arith}
use Rattle.zed_types.specs.declared.names.ElemId.{ElemId}
use Rattle.zed_code.specs.declared.search.Found.{Found}
use Rattle.zed_code.specs.Blocks.{lists, joined, before_spot}
use Rattle.zed_code.specs.Found.{IsFound}
use Rattle.zed_code.specs.Runs.{sought}
use Rattle.zed_code.proofs.Deaths.{any_err}
use Rattle.zed_code.proofs.Hinting.{inside-runs}
use Rattle.zed_code.proofs.search.seek.Goals as goal

pub returns-in_ok-keep_far-in-Some-clause-visits : goal.returns-in_ok-keep_far-in-Some-clause-visits
returns-in_ok-keep_far-in-Some-clause-visits c =
    let ls = lists c.args.blocks.now in
    let P : Option Found → Type 0 = λ f. IsFound f ls in
    let is = subst P c.in-Some.ensures.found c.requires.found in
    (1, c.look.ensures.visits, omega arith, omega (arith, inside-runs c.in-Some.last.at ls is.0), λ some. omega arith)

pub returns-in_err-keep_far-in-Some-clause-memory_only_when : goal.returns-in_err-keep_far-in-Some-clause-memory_only_when
returns-in_err-keep_far-in-Some-clause-memory_only_when c =
    let ls = lists c.args.blocks.now in
    let P : Option Found → Type 0 = λ f. IsFound f ls in
    let is = subst P c.in-Some.ensures.found c.requires.found in
    let Q : ElemId → Type 0 = λ x. before_spot c.in-Some.last.at ls ≡ sought x.name.stamp x.name.index (joined ls) in
    let there = subst Q c.in-Some.ensures.id is.1 in
    any_err c.from_residual.result (omega (arith, inside-runs c.in-Some.last.at ls is.0, there))
