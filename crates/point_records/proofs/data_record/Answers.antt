-- By the three cases.
use Rattle.point_records.proofs.Made.{data_present}
use Rattle.point_records.proofs.data_record.Goals as goal

pub returns-in-Present : goal.returns-in-Present
returns-in-Present c = data_present _ _ _ c.in-Present.is c.number.ensures

pub returns-in-Absent : goal.returns-in-Absent
returns-in-Absent c = rw c.in-Absent.is

pub returns-in-Outside : goal.returns-in-Outside
returns-in-Outside c = rw c.in-Outside.is
