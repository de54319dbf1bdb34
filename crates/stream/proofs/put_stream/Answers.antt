-- Each format writes its own.
use Rattle.stream.proofs.put_stream.Goals as goal

pub returns-in-Dst : goal.returns-in-Dst
returns-in-Dst c = rw c.in-Dst.is c.put_triples.ensures

pub returns-in-Exp : goal.returns-in-Exp
returns-in-Exp c = rw c.in-Exp.is c.put_pairs.ensures

pub returns-in-Jef : goal.returns-in-Jef
returns-in-Jef c = rw c.in-Jef.is c.put_pairs-in-Jef.ensures
