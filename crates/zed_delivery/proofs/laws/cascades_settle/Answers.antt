use Rattle.zed_delivery.proofs.Cascades.{cascades_begin, edits_arrive, edits_are_done, edits_are_held, things_are_released, cascades_end}
use Rattle.zed_delivery.proofs.laws.cascades_settle.Goals as goal

pub returns-clause-begin : goal.returns-clause-begin
returns-clause-begin c = cascades_begin

pub returns-clause-arrive : goal.returns-clause-arrive
returns-clause-arrive c = edits_arrive

pub returns-clause-done : goal.returns-clause-done
returns-clause-done c = edits_are_done

pub returns-clause-held : goal.returns-clause-held
returns-clause-held c = edits_are_held

pub returns-clause-released : goal.returns-clause-released
returns-clause-released c = things_are_released

pub returns-clause-end : goal.returns-clause-end
returns-clause-end c = cascades_end
