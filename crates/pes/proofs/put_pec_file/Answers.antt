-- The signature, and then the part.
use native.Mathlib.Omega.{arith}
use Rattle.rules.specs.Lists.{commands, threads_of}
use Rattle.rules.specs.Pec.{pec_file}
use Rattle.laws.specs.Buffers.{put-put}
use Rattle.laws.specs.Lengths.{pec-length}
use borrow.Author.Rules.{rules}
use Rattle.pes.proofs.put_pec_file.Goals as goal

pub write_pec-requires : goal.write_pec-requires
write_pec-requires c = let put-text = c.put_text-part in
    let a = c.args in
    let cs = commands a.xs.now a.ys.now a.kinds.now in
    let ts = threads_of a.threads.now in
    let g = c.requires.drawn in
    record { b_value = c.requires.b_value; kinds_len_bound = (g.long, (g.few, g.steps)); n_value = g.bytes; threads_in_bounds = omega (arith, pec-length a.name.now cs ts, put-text.ensures.same, c.requires.threads_in_bounds) }

pub returns : goal.returns
unfolding pec_file
returns c =
    (put-put c.put_text-part.ensures c.write_pec.ensures.0, c.write_pec.ensures.1)

pub put_text-part-requires : goal.put_text-part-requires
unfolding pec_file
put_text-part-requires c = search rules
