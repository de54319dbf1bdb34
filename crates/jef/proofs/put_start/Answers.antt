-- Seven puts in a row are one; the date and two zeros are one part.
use native.Mathlib.Omega.{arith}
use Rattle.rules.specs.Vocabulary.{little, joined}
use Rattle.laws.specs.Buffers.{put-put, put-nothing}
use Rattle.jef.proofs.put_start.Goals as goal

pub put_word-date-requires : goal.put_word-date-requires
unfolding little
put_word-date-requires c = omega arith

pub put_text-zeros-requires : goal.put_text-zeros-requires
unfolding little
put_text-zeros-requires c = omega arith

pub put2-fourth-requires : goal.put2-fourth-requires
unfolding little
put2-fourth-requires c = omega arith

pub put_word-fifth-requires : goal.put_word-fifth-requires
unfolding little
put_word-fifth-requires c = omega arith

pub put_word-sixth-requires : goal.put_word-sixth-requires
unfolding little
put_word-sixth-requires c = omega arith

pub put_word-requires : goal.put_word-requires
unfolding little
put_word-requires c = omega arith

pub returns : goal.returns
unfolding joined
returns c = let put-word4 = c.put_word-sixth in
    let put-word3 = c.put_word-fifth in
    let put2 = c.put2-fourth in let put-text = c.put_text-zeros in
    let put-word2 = c.put_word-date in
    let put_word = c.put_word-second in
    put-put put_word.ensures
    (put-put put-word2.ensures
    (put-put (put-put put-text.ensures put2.ensures)
    (put-put put-word3.ensures
    (put-put put-word4.ensures
    (put-put c.put_word.ensures (put-nothing _ _))))))
