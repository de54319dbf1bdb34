-- Five puts in a row are one.
use native.Mathlib.Omega.{arith}
use Rattle.rules.specs.Vocabulary.{joined}
use Rattle.laws.specs.Buffers.{put-put, put-nothing}
use Rattle.jef.proofs.Parts.{edges-ends, words-ends}
use Rattle.jef.proofs.put_sizes.Goals as goal

pub put_edges-third-requires : goal.put_edges-third-requires
put_edges-third-requires c = omega (arith, words-ends)

pub put_edges-fourth-requires : goal.put_edges-fourth-requires
put_edges-fourth-requires c = omega (arith, words-ends, edges-ends)

pub put_edges-fifth-requires : goal.put_edges-fifth-requires
put_edges-fifth-requires c = omega (arith, words-ends, edges-ends)

pub put_edges-requires : goal.put_edges-requires
put_edges-requires c = let early = c.before.before.before.before.before.before.before.before.before.before.before in
    omega (arith, words-ends, edges-ends, early)

pub returns : goal.returns
unfolding joined
returns c = let put-edges3 = c.put_edges-fifth in
    let put-edges2 = c.put_edges-fourth in
    let put-edges = c.put_edges-third in let put-twice = c.put_twice-second in
    let half-up2 = c.half_up-2 in
    let half_up = c.half_up in
    put-put (rw (half_up.ensures, half-up2.ensures) at put-twice.ensures)
    (put-put put-edges.ensures
    (put-put put-edges2.ensures
    (put-put put-edges3.ensures
    (put-put c.put_edges.ensures (put-nothing _ _)))))
