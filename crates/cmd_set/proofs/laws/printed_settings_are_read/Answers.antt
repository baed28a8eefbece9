use Rattle.cmd_set.proofs.Read.{field_is_read, header_is_read, property_is_read}
use Rattle.cmd_set.proofs.laws.printed_settings_are_read.Goals as goal

pub returns-clause-header : goal.returns-clause-header
returns-clause-header c = header_is_read

pub returns-clause-property : goal.returns-clause-property
returns-clause-property c = property_is_read

pub returns-clause-field : goal.returns-clause-field
returns-clause-field c = field_is_read
