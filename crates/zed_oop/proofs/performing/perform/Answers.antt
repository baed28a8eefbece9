use Rattle.zed_oop.proofs.Taking.{plays_no_memory}
use Rattle.zed_oop.proofs.performing.perform.Goals as goal

pub returns-in-Go-clause-memory_only_when : goal.returns-in-Go-clause-memory_only_when
returns-in-Go-clause-memory_only_when c = plays_no_memory c.do_along.result c.do_along.new.scene c.do_along.new.words _ c.do_along.ensures

pub returns-in-Try-clause-memory_only_when : goal.returns-in-Try-clause-memory_only_when
returns-in-Try-clause-memory_only_when c =
    let d = c.do_along-in-Try in
    plays_no_memory d.result d.new.scene d.new.words _ d.ensures

pub returns-in-Walk-clause-memory_only_when : goal.returns-in-Walk-clause-memory_only_when
returns-in-Walk-clause-memory_only_when c =
    let d = c.do_along-in-Walk in
    plays_no_memory d.result d.new.scene d.new.words _ d.ensures

pub returns-in-Put-clause-memory_only_when : goal.returns-in-Put-clause-memory_only_when
returns-in-Put-clause-memory_only_when c =
    let d = c.do_along-in-Put in
    plays_no_memory d.result d.new.scene d.new.words _ d.ensures

pub returns-in-If-clause-memory_only_when : goal.returns-in-If-clause-memory_only_when
returns-in-If-clause-memory_only_when c = plays_no_memory c.do_if.result c.do_if.new.scene c.do_if.new.words _ c.do_if.ensures
