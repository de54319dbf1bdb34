-- By the format. EXP, JEF and VP3 hold no name.
use Rattle.rules.specs.Files.{file_of, file_told, write_verdict}
use Rattle.stitch_box.proofs.write_stitch_file.Goals as goal

pub returns-in-Dst : goal.returns-in-Dst
returns-in-Dst c = rw c.in-Dst.is c.dst_from_stream.ensures

pub returns-in-Exp : goal.returns-in-Exp
unfolding write_verdict file_of file_told
returns-in-Exp c = let e = c.in-Exp.is in
    record { answered = rw e c.write_exp.ensures.answered; stored = rw e c.write_exp.ensures.stored }

pub returns-in-Jef : goal.returns-in-Jef
unfolding write_verdict file_of file_told
returns-in-Jef c = let e = c.in-Jef.is in
    record { answered = rw e c.write_jef.ensures.answered; stored = rw e c.write_jef.ensures.stored }

pub returns-in-Pec : goal.returns-in-Pec
returns-in-Pec c = rw c.in-Pec.is c.write_pec_file.ensures

pub returns-in-Pes : goal.returns-in-Pes
returns-in-Pes c = rw c.in-Pes.is c.pes_from_stream.ensures

pub returns-in-Vp3 : goal.returns-in-Vp3
unfolding write_verdict file_of file_told
returns-in-Vp3 c = let e = c.in-Vp3.is in
    record { answered = rw e c.write_vp3.ensures.answered; stored = rw e c.write_vp3.ensures.stored }
