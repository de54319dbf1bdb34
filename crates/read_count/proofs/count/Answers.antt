-- Each row by its own loop.
use Rattle.read_count.proofs.count.Goals as goal

pub returns-in-Pec : goal.returns-in-Pec
returns-in-Pec c = rw c.in-Pec.is c.count_steps.ensures

pub returns-in-Dst : goal.returns-in-Dst
returns-in-Dst c = rw c.in-Dst.is c.count_triples.ensures

pub returns-in-Exp : goal.returns-in-Exp
returns-in-Exp c = rw c.in-Exp.is c.count_pairs.ensures

pub returns-in-Jef : goal.returns-in-Jef
returns-in-Jef c = rw c.in-Jef.is c.count_pairs-in-Jef.ensures
