-- The parts in a row; every byte is from 0 on, so of the name the same bytes stay as in its definition.
use native.Mathlib.Omega.{arith}
use Rattle.laws.specs.Buffers.{put-put, put-nothing}
use lib.Dec.{leb-zero}
use Rattle.rules.specs.Vocabulary.{joined}
use Rattle.rules.specs.Lists.{pec_name}
use Rattle.laws.specs.Lengths.{length-name}
use Rattle.pec_part.proofs.put_label.Goals as goal

pub put-blanks-requires : goal.put-blanks-requires
unfolding pec_name
put-blanks-requires c = let put-name = c.put_name-end in let put3 = c.put3-text in
    omega (arith, put3.ensures.same, put-name.ensures.same, simp leb-zero at put-name.ensures.ends, length-name c.args.name.now)

pub put_times-picture-requires : goal.put_times-picture-requires
unfolding pec_name
put_times-picture-requires c = let put = c.put-blanks in let put-name = c.put_name-end in
    let put3 = c.put3-text in
    omega (arith, put3.ensures.same, put-name.ensures.same, simp leb-zero at put-name.ensures.ends, put.ensures.same, length-name c.args.name.now)

pub put4-requires : goal.put4-requires
unfolding pec_name
put4-requires c = let put-times = c.put_times-picture in let put = c.put-blanks in
    let put-name = c.put_name-end in let put3 = c.put3-text in
    omega (
      arith,
      put3.ensures.same,
      put-name.ensures.same,
      simp leb-zero at put-name.ensures.ends,
      put.ensures.same,
      put-times.ensures.same,
      length-name c.args.name.now,
    )

pub returns : goal.returns
unfolding joined pec_name
returns c = let put-times = c.put_times-picture in
    let put = c.put-blanks in
    let put-name = c.put_name-end in let put3 = c.put3-text in
    put-put put3.ensures (put-put (simp leb-zero at put-name.ensures)
    (put-put put.ensures (put-put put-times.ensures (put-put c.put4.ensures (put-nothing _ _)))))
