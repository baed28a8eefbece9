use Rattle.zed_driver.specs.Hosts.{hosts}
use Rattle.zed_tool.proofs.Driven.{acted, told_tells}
use Rattle.zed_tool.proofs.Lacking.{every_not, lints_not, lists_not, logs_not, pages_not, prints_not, shows_not}
use Rattle.zed_tool.proofs.program.act.Goals as goal

pub returns-in-Open-clause-acted : goal.returns-in-Open-clause-acted
returns-in-Open-clause-acted g c =
    let is = c.open_world.ensures in
    let so = rw (c.forcing_of.ensures) at is in
    rw c.in-Open.is (acted _ _ _ _ _ _ so)

pub returns-in-Take-clause-acted : goal.returns-in-Take-clause-acted
returns-in-Take-clause-acted g c =
    let is = c.take_world.ensures in
    let so = rw (c.forcing_of-forcing.ensures) at is in
    rw c.in-Take.is (acted _ _ _ _ _ _ so)

pub tell-requires : goal.tell-requires
tell-requires g c =
    logs_not c.length_of.result c.filter_of.result

pub returns-in-Log-clause-acted : goal.returns-in-Log-clause-acted
returns-in-Log-clause-acted g c =
    let is = c.tell.ensures in
    let so = rw (c.length_of.ensures, c.filter_of.ensures, c.as_slice.ensures.value) at is in
    rw c.in-Log.is (acted _ _ _ _ _ _ so)

pub tell-requires-in-List : goal.tell-requires-in-List
tell-requires-in-List g c = lists_not c.listing_of-listing.result

pub returns-in-List-clause-acted : goal.returns-in-List-clause-acted
returns-in-List-clause-acted g c =
    let is = c.tell-in-List.ensures in
    let so = rw (c.listing_of-listing.ensures, c.as_slice-in-List.ensures.value) at is in
    rw c.in-List.is (acted _ _ _ _ _ _ so)

pub tell-requires-in-Show : goal.tell-requires-in-Show
tell-requires-in-Show g c = shows_not c.form_of-form.result c.in-Show.board

pub returns-in-Show-clause-acted : goal.returns-in-Show-clause-acted
returns-in-Show-clause-acted g c =
    let is = c.tell-in-Show.ensures in
    let so = rw (c.form_of-form.ensures, c.as_slice-in-Show.ensures.value) at is in
    rw c.in-Show.is (acted _ _ _ _ _ _ so)

pub tell-requires-in-Page : goal.tell-requires-in-Page
tell-requires-in-Page g c = pages_not

pub returns-in-Page-clause-acted : goal.returns-in-Page-clause-acted
returns-in-Page-clause-acted g c =
    let is = c.tell-in-Page.ensures in
    let so = rw (c.as_slice-in-Page.ensures.value) at is in
    rw c.in-Page.is (acted _ _ _ _ _ _ so)

pub tell-requires-in-Lint : goal.tell-requires-in-Lint
tell-requires-in-Lint g c = lints_not c.strictness_of-strictness.result

pub returns-in-Lint-clause-acted : goal.returns-in-Lint-clause-acted
returns-in-Lint-clause-acted g c =
    let is = c.tell-in-Lint.ensures in
    let so = rw (c.strictness_of-strictness.ensures, c.as_slice-in-Lint.ensures.value) at is in
    rw c.in-Lint.is (acted _ _ _ _ _ _ so)

pub tell-requires-in-Program : goal.tell-requires-in-Program
tell-requires-in-Program g c = prints_not c.in-Program.board c.in-Program.stat

pub returns-in-Program-clause-acted : goal.returns-in-Program-clause-acted
returns-in-Program-clause-acted g c =
    let is = c.tell-in-Program.ensures in
    let so = rw (c.as_slice-in-Program.ensures.value) at is in
    rw c.in-Program.is (acted _ _ _ _ _ _ so)

pub tell-requires-in-Programs : goal.tell-requires-in-Programs
tell-requires-in-Programs g c = every_not

pub returns-in-Programs-clause-acted : goal.returns-in-Programs-clause-acted
returns-in-Programs-clause-acted g c =
    let is = c.tell-in-Programs.ensures in
    let so = rw (c.as_slice-in-Programs.ensures.value) at is in
    rw c.in-Programs.is (acted _ _ _ _ _ _ so)

pub returns-in-Compare-clause-acted : goal.returns-in-Compare-clause-acted
returns-in-Compare-clause-acted g c =
    let is = c.compare_files.ensures in
    let so = rw (c.compare_strictness_of-strictness.ensures) at is in
    rw c.in-Compare.is (acted _ _ _ _ _ _ so)

pub returns-in-Undo-clause-acted : goal.returns-in-Undo-clause-acted
returns-in-Undo-clause-acted g c =
    let is = c.undo.ensures in
    let so = rw (c.trial_of.ensures, c.others_of.ensures, c.filter_of-filter.ensures, c.as_slice-stamps.ensures.value) at is in
    rw c.in-Undo.is (acted _ _ _ _ _ _ so)

pub returns-in-UndoPull-clause-acted : goal.returns-in-UndoPull-clause-acted
returns-in-UndoPull-clause-acted g c =
    let is = c.undo-in-UndoPull.ensures in
    let so = rw (c.trial_of-in-UndoPull.ensures, c.others_of-in-UndoPull.ensures) at is in
    rw c.in-UndoPull.is (acted _ _ _ _ _ _ so)

pub returns-in-Set-clause-acted : goal.returns-in-Set-clause-acted
returns-in-Set-clause-acted g c =
    let is = c.set_words.ensures in
    let so = rw (c.as_slice-in-Set.ensures.value) at is in
    rw c.in-Set.is (acted _ _ _ _ _ _ so)

pub returns-in-SetProgram-clause-acted : goal.returns-in-SetProgram-clause-acted
returns-in-SetProgram-clause-acted g c =
    let is = c.set_program.ensures in
    let so = is in
    rw c.in-SetProgram.is (acted _ _ _ _ _ _ so)

pub returns-in-Play-clause-acted : goal.returns-in-Play-clause-acted
returns-in-Play-clause-acted g c =
    let failures = c.play.ensures.failures in
    let asked = c.play.ensures.asked in
    rw c.in-Play.is (record {
      ends = λ t at. (let ended = c.play.ensures.ends t at in
          (c.play.result, rw (c.going_of.ensures, c.size_of.ensures, c.as_slice-in-Play.ensures.value) at ended, c.played.ensures));
      asked = (c.play.result, rw c.as_slice-in-Play.ensures.value at asked, c.played.ensures);
      steps = tt;
      failures = told_tells g.H.Host.faults g.H.Host.failed c.play.result _ _ _ c.played.ensures failures;
    })
