-- Four puts in a row are one.
use native.Mathlib.Omega.{arith}
use Rattle.rules.specs.Vocabulary.{little, joined}
use Rattle.rules.specs.Jef.{words}
use Rattle.laws.specs.Buffers.{put-put, put-nothing}
use borrow.Author.Rules.{rules}
use Rattle.jef.proofs.put_twice.Goals as goal

pub put_word-second-requires : goal.put_word-second-requires
unfolding little
put_word-second-requires c = search rules

pub put_word-third-requires : goal.put_word-third-requires
unfolding little
put_word-third-requires c = omega arith

pub put_word-fourth-requires : goal.put_word-fourth-requires
unfolding little
put_word-fourth-requires c = omega arith

pub put_word-requires : goal.put_word-requires
unfolding little
put_word-requires c = omega arith

pub returns : goal.returns
unfolding words joined
returns c = put-put c.put_word-second.ensures
    (put-put c.put_word-third.ensures
    (put-put c.put_word-fourth.ensures
    (put-put c.put_word.ensures (put-nothing _ _))))
