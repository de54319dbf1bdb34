-- Each format by its own function.
use Rattle.read_records.specs.Firsts.{first_record_of}
use Rattle.read_records.proofs.record_at.Goals as goal

pub returns-in-Pec : goal.returns-in-Pec
unfolding first_record_of
returns-in-Pec c = rw c.in-Pec.is c.pec_record.ensures

pub returns-in-Dst : goal.returns-in-Dst
unfolding first_record_of
returns-in-Dst c = rw c.in-Dst.is c.dst_record.ensures

pub returns-in-Exp : goal.returns-in-Exp
unfolding first_record_of
returns-in-Exp c = rw c.in-Exp.is c.exp_record.ensures

pub returns-in-Jef : goal.returns-in-Jef
unfolding first_record_of
returns-in-Jef c = rw c.in-Jef.is c.exp_record-in-Jef.ensures
