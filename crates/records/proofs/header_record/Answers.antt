-- Zeros, or what is said, beside the reply.
use Rattle.std.proofs.Common.{◌∙◌, ap}
use Rattle.records.specs.Records.{the_header_record, with_reply}
use Rattle.records.proofs.header_record.Goals as goal

pub returns-in-Ok : goal.returns-in-Ok
returns-in-Ok c = rw (c.in-Ok.is, c.replied_record.ensures, c.refusal.ensures)

pub returns-in-Err : goal.returns-in-Err
unfolding Rattle.rules.specs.Reading.refused_by
returns-in-Err c = rw (c.in-Err.is, c.replied_record-in-Err.ensures, c.nothing.ensures)
