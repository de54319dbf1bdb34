-- Thirteen puts in a row are one; each number is small.
use mathlib.Core.Path.{ap, ◌∙◌}
use native.Mathlib.Omega.{arith}
use lib.IntN.{nat_abs}
use Rattle.rules.specs.Vocabulary.{joined}
use Rattle.rules.specs.Vp3.{big, field, hundred, text8, text16, producer}
use Rattle.laws.specs.Buffers.{put_as, put-put, put-nothing}
use Rattle.vp3.specs.Heads.{halves_text, design_text}
use Rattle.vp3.proofs.Numbers.{back-abs, minus-fits, asked, asked-minus, put-half, put-minus-half, step_small, step_is}
use Rattle.vp3.proofs.Rooms.{Room, some, behind}
use Rattle.vp3.proofs.heads.put_design.Goals as goal

pub half-requires : goal.half-requires
half-requires c = back-abs c.args.m.x (omega (arith, c.requires.1.0.x))

pub put_hundred-y-requires : goal.put_hundred-y-requires
put_hundred-y-requires c = (asked c.half.result c.half.ensures.1, omega (arith, c.requires))

pub half-requires-2 : goal.half-requires-2
half-requires-2 c = back-abs c.args.m.y (omega (arith, c.requires.1.0.y))

pub overflow_sub-half : goal.overflow_sub-half
overflow_sub-half c = minus-fits c.half-2.result (omega (arith, c.half-2.ensures.1))

pub put_hundred-zeros-requires : goal.put_hundred-zeros-requires
unfolding hundred field big
put_hundred-zeros-requires c =
    let room1 : Room c.put_hundred-y.new.out c.put_hundred-y.result 117 = behind 117 tt c.put_hundred-y.ensures (record { enough = c.requires.1.1.1 }) in
    (asked-minus c.half-2.result c.half-2.ensures.1, some 4 tt room1)

pub put3-sizes-requires : goal.put3-sizes-requires
unfolding hundred field big
put3-sizes-requires c =
    let room1 : Room c.put_hundred-y.new.out c.put_hundred-y.result 117 = behind 117 tt c.put_hundred-y.ensures (record { enough = c.requires.1.1.1 }) in
    let room2 : Room c.put_hundred-zeros.new.out c.put_hundred-zeros.result 113 = behind 113 tt c.put_hundred-zeros.ensures room1 in
    some 3 tt room2

pub put_halves-empty-requires : goal.put_halves-empty-requires
unfolding hundred field big
put_halves-empty-requires c =
    let room1 : Room c.put_hundred-y.new.out c.put_hundred-y.result 117 = behind 117 tt c.put_hundred-y.ensures (record { enough = c.requires.1.1.1 }) in
    let room2 : Room c.put_hundred-zeros.new.out c.put_hundred-zeros.result 113 = behind 113 tt c.put_hundred-zeros.ensures room1 in
    let room3 : Room c.put3-sizes.new.out c.put3-sizes.result 110 = behind 110 tt c.put3-sizes.ensures room2 in
    let b = c.args.b in (
      rw (c.spread-w.ensures, step_is b.max.x b.min.x c.requires.0.right c.requires.0.left) (step_small b.max.x b.min.x c.requires.0.right c.requires.0.left),
      (
        rw (c.spread-h.ensures, step_is b.max.y b.min.y c.requires.0.bottom c.requires.0.top) (step_small b.max.y b.min.y c.requires.0.bottom c.requires.0.top),
        some 24 tt room3,
      ),
    )

pub returns : goal.returns
unfolding design_text joined text16 text8 big producer
returns c = let b = c.args.b in let m = c.args.m in let w = c.spread-w.ensures ∙ ap nat_abs (step_is b.max.x b.min.x c.requires.0.right c.requires.0.left) in
    let h = c.spread-h.ensures ∙ ap nat_abs (step_is b.max.y b.min.y c.requires.0.bottom c.requires.0.top) in
    put-put (put_as c.put_hundred-y.ensures (put-half m.x c.half.result (omega (arith, c.requires.1.0.x)) c.half.ensures))
    (put-put (put_as c.put_hundred-zeros.ensures (put-minus-half m.y c.half-2.result (omega (arith, c.requires.1.0.y)) c.half-2.ensures))
    (put-put c.put3-sizes.ensures (put-put (rw (w, h) at c.put_halves-empty.ensures) (put-put c.put4-matrix.ensures
    (put-put c.put_be32-second.ensures (put-put c.put_be32-third.ensures (put-put c.put_be32-fourth.ensures (put-put c.put_be32-mark.ensures
    (put-put c.put_text-version.ensures (put-put c.put2-producer.ensures (put-put c.put_text16-count.ensures (put-put c.put_be16.ensures (put-nothing _ _)))))))))))))

pub put4-matrix-requires : goal.put4-matrix-requires
unfolding hundred field big halves_text joined
put4-matrix-requires c =
    let room1 : Room c.put_hundred-y.new.out c.put_hundred-y.result 117 = behind 117 tt c.put_hundred-y.ensures (record { enough = c.requires.1.1.1 }) in
    let room2 : Room c.put_hundred-zeros.new.out c.put_hundred-zeros.result 113 = behind 113 tt c.put_hundred-zeros.ensures room1 in
    let room3 : Room c.put3-sizes.new.out c.put3-sizes.result 110 = behind 110 tt c.put3-sizes.ensures room2 in
    let room4 : Room c.put_halves-empty.new.out c.put_halves-empty.result 86 = behind 86 tt c.put_halves-empty.ensures room3 in
    some 4 tt room4

pub put_be32-second-requires : goal.put_be32-second-requires
unfolding hundred field big halves_text joined
put_be32-second-requires c =
    let room1 : Room c.put_hundred-y.new.out c.put_hundred-y.result 117 = behind 117 tt c.put_hundred-y.ensures (record { enough = c.requires.1.1.1 }) in
    let room2 : Room c.put_hundred-zeros.new.out c.put_hundred-zeros.result 113 = behind 113 tt c.put_hundred-zeros.ensures room1 in
    let room3 : Room c.put3-sizes.new.out c.put3-sizes.result 110 = behind 110 tt c.put3-sizes.ensures room2 in
    let room4 : Room c.put_halves-empty.new.out c.put_halves-empty.result 86 = behind 86 tt c.put_halves-empty.ensures room3 in
    let room5 : Room c.put4-matrix.new.out c.put4-matrix.result 82 = behind 82 tt c.put4-matrix.ensures room4 in
    some 4 tt room5

pub put_be32-third-requires : goal.put_be32-third-requires
unfolding hundred field big halves_text joined
put_be32-third-requires c =
    let room1 : Room c.put_hundred-y.new.out c.put_hundred-y.result 117 = behind 117 tt c.put_hundred-y.ensures (record { enough = c.requires.1.1.1 }) in
    let room2 : Room c.put_hundred-zeros.new.out c.put_hundred-zeros.result 113 = behind 113 tt c.put_hundred-zeros.ensures room1 in
    let room3 : Room c.put3-sizes.new.out c.put3-sizes.result 110 = behind 110 tt c.put3-sizes.ensures room2 in
    let room4 : Room c.put_halves-empty.new.out c.put_halves-empty.result 86 = behind 86 tt c.put_halves-empty.ensures room3 in
    let room5 : Room c.put4-matrix.new.out c.put4-matrix.result 82 = behind 82 tt c.put4-matrix.ensures room4 in
    let room6 : Room c.put_be32-second.new.out c.put_be32-second.result 78 = behind 78 tt c.put_be32-second.ensures room5 in
    some 4 tt room6

pub put_be32-fourth-requires : goal.put_be32-fourth-requires
unfolding hundred field big halves_text joined
put_be32-fourth-requires c =
    let room1 : Room c.put_hundred-y.new.out c.put_hundred-y.result 117 = behind 117 tt c.put_hundred-y.ensures (record { enough = c.requires.1.1.1 }) in
    let room2 : Room c.put_hundred-zeros.new.out c.put_hundred-zeros.result 113 = behind 113 tt c.put_hundred-zeros.ensures room1 in
    let room3 : Room c.put3-sizes.new.out c.put3-sizes.result 110 = behind 110 tt c.put3-sizes.ensures room2 in
    let room4 : Room c.put_halves-empty.new.out c.put_halves-empty.result 86 = behind 86 tt c.put_halves-empty.ensures room3 in
    let room5 : Room c.put4-matrix.new.out c.put4-matrix.result 82 = behind 82 tt c.put4-matrix.ensures room4 in
    let room6 : Room c.put_be32-second.new.out c.put_be32-second.result 78 = behind 78 tt c.put_be32-second.ensures room5 in
    let room7 : Room c.put_be32-third.new.out c.put_be32-third.result 74 = behind 74 tt c.put_be32-third.ensures room6 in
    some 4 tt room7

pub put_be32-mark-requires : goal.put_be32-mark-requires
unfolding hundred field big halves_text joined
put_be32-mark-requires c =
    let room1 : Room c.put_hundred-y.new.out c.put_hundred-y.result 117 = behind 117 tt c.put_hundred-y.ensures (record { enough = c.requires.1.1.1 }) in
    let room2 : Room c.put_hundred-zeros.new.out c.put_hundred-zeros.result 113 = behind 113 tt c.put_hundred-zeros.ensures room1 in
    let room3 : Room c.put3-sizes.new.out c.put3-sizes.result 110 = behind 110 tt c.put3-sizes.ensures room2 in
    let room4 : Room c.put_halves-empty.new.out c.put_halves-empty.result 86 = behind 86 tt c.put_halves-empty.ensures room3 in
    let room5 : Room c.put4-matrix.new.out c.put4-matrix.result 82 = behind 82 tt c.put4-matrix.ensures room4 in
    let room6 : Room c.put_be32-second.new.out c.put_be32-second.result 78 = behind 78 tt c.put_be32-second.ensures room5 in
    let room7 : Room c.put_be32-third.new.out c.put_be32-third.result 74 = behind 74 tt c.put_be32-third.ensures room6 in
    let room8 : Room c.put_be32-fourth.new.out c.put_be32-fourth.result 70 = behind 70 tt c.put_be32-fourth.ensures room7 in
    some 4 tt room8

pub put_text-version-requires : goal.put_text-version-requires
unfolding hundred field big halves_text joined
put_text-version-requires c =
    let room1 : Room c.put_hundred-y.new.out c.put_hundred-y.result 117 = behind 117 tt c.put_hundred-y.ensures (record { enough = c.requires.1.1.1 }) in
    let room2 : Room c.put_hundred-zeros.new.out c.put_hundred-zeros.result 113 = behind 113 tt c.put_hundred-zeros.ensures room1 in
    let room3 : Room c.put3-sizes.new.out c.put3-sizes.result 110 = behind 110 tt c.put3-sizes.ensures room2 in
    let room4 : Room c.put_halves-empty.new.out c.put_halves-empty.result 86 = behind 86 tt c.put_halves-empty.ensures room3 in
    let room5 : Room c.put4-matrix.new.out c.put4-matrix.result 82 = behind 82 tt c.put4-matrix.ensures room4 in
    let room6 : Room c.put_be32-second.new.out c.put_be32-second.result 78 = behind 78 tt c.put_be32-second.ensures room5 in
    let room7 : Room c.put_be32-third.new.out c.put_be32-third.result 74 = behind 74 tt c.put_be32-third.ensures room6 in
    let room8 : Room c.put_be32-fourth.new.out c.put_be32-fourth.result 70 = behind 70 tt c.put_be32-fourth.ensures room7 in
    let room9 : Room c.put_be32-mark.new.out c.put_be32-mark.result 66 = behind 66 tt c.put_be32-mark.ensures room8 in
    some 4 tt room9

pub put2-producer-requires : goal.put2-producer-requires
unfolding hundred field big halves_text joined
put2-producer-requires c =
    let room1 : Room c.put_hundred-y.new.out c.put_hundred-y.result 117 = behind 117 tt c.put_hundred-y.ensures (record { enough = c.requires.1.1.1 }) in
    let room2 : Room c.put_hundred-zeros.new.out c.put_hundred-zeros.result 113 = behind 113 tt c.put_hundred-zeros.ensures room1 in
    let room3 : Room c.put3-sizes.new.out c.put3-sizes.result 110 = behind 110 tt c.put3-sizes.ensures room2 in
    let room4 : Room c.put_halves-empty.new.out c.put_halves-empty.result 86 = behind 86 tt c.put_halves-empty.ensures room3 in
    let room5 : Room c.put4-matrix.new.out c.put4-matrix.result 82 = behind 82 tt c.put4-matrix.ensures room4 in
    let room6 : Room c.put_be32-second.new.out c.put_be32-second.result 78 = behind 78 tt c.put_be32-second.ensures room5 in
    let room7 : Room c.put_be32-third.new.out c.put_be32-third.result 74 = behind 74 tt c.put_be32-third.ensures room6 in
    let room8 : Room c.put_be32-fourth.new.out c.put_be32-fourth.result 70 = behind 70 tt c.put_be32-fourth.ensures room7 in
    let room9 : Room c.put_be32-mark.new.out c.put_be32-mark.result 66 = behind 66 tt c.put_be32-mark.ensures room8 in
    let room10 : Room c.put_text-version.new.out c.put_text-version.result 62 = behind 62 tt c.put_text-version.ensures room9 in
    some 2 tt room10

pub put_text16-count-requires : goal.put_text16-count-requires
unfolding hundred field big halves_text joined
put_text16-count-requires c =
    let room1 : Room c.put_hundred-y.new.out c.put_hundred-y.result 117 = behind 117 tt c.put_hundred-y.ensures (record { enough = c.requires.1.1.1 }) in
    let room2 : Room c.put_hundred-zeros.new.out c.put_hundred-zeros.result 113 = behind 113 tt c.put_hundred-zeros.ensures room1 in
    let room3 : Room c.put3-sizes.new.out c.put3-sizes.result 110 = behind 110 tt c.put3-sizes.ensures room2 in
    let room4 : Room c.put_halves-empty.new.out c.put_halves-empty.result 86 = behind 86 tt c.put_halves-empty.ensures room3 in
    let room5 : Room c.put4-matrix.new.out c.put4-matrix.result 82 = behind 82 tt c.put4-matrix.ensures room4 in
    let room6 : Room c.put_be32-second.new.out c.put_be32-second.result 78 = behind 78 tt c.put_be32-second.ensures room5 in
    let room7 : Room c.put_be32-third.new.out c.put_be32-third.result 74 = behind 74 tt c.put_be32-third.ensures room6 in
    let room8 : Room c.put_be32-fourth.new.out c.put_be32-fourth.result 70 = behind 70 tt c.put_be32-fourth.ensures room7 in
    let room9 : Room c.put_be32-mark.new.out c.put_be32-mark.result 66 = behind 66 tt c.put_be32-mark.ensures room8 in
    let room10 : Room c.put_text-version.new.out c.put_text-version.result 62 = behind 62 tt c.put_text-version.ensures room9 in
    let room11 : Room c.put2-producer.new.out c.put2-producer.result 60 = behind 60 tt c.put2-producer.ensures room10 in
    (omega arith, omega (arith, some 58 tt room11))

pub put_be16-requires : goal.put_be16-requires
unfolding hundred field big halves_text joined text16 text8
put_be16-requires c =
    let room1 : Room c.put_hundred-y.new.out c.put_hundred-y.result 117 = behind 117 tt c.put_hundred-y.ensures (record { enough = c.requires.1.1.1 }) in
    let room2 : Room c.put_hundred-zeros.new.out c.put_hundred-zeros.result 113 = behind 113 tt c.put_hundred-zeros.ensures room1 in
    let room3 : Room c.put3-sizes.new.out c.put3-sizes.result 110 = behind 110 tt c.put3-sizes.ensures room2 in
    let room4 : Room c.put_halves-empty.new.out c.put_halves-empty.result 86 = behind 86 tt c.put_halves-empty.ensures room3 in
    let room5 : Room c.put4-matrix.new.out c.put4-matrix.result 82 = behind 82 tt c.put4-matrix.ensures room4 in
    let room6 : Room c.put_be32-second.new.out c.put_be32-second.result 78 = behind 78 tt c.put_be32-second.ensures room5 in
    let room7 : Room c.put_be32-third.new.out c.put_be32-third.result 74 = behind 74 tt c.put_be32-third.ensures room6 in
    let room8 : Room c.put_be32-fourth.new.out c.put_be32-fourth.result 70 = behind 70 tt c.put_be32-fourth.ensures room7 in
    let room9 : Room c.put_be32-mark.new.out c.put_be32-mark.result 66 = behind 66 tt c.put_be32-mark.ensures room8 in
    let room10 : Room c.put_text-version.new.out c.put_text-version.result 62 = behind 62 tt c.put_text-version.ensures room9 in
    let room11 : Room c.put2-producer.new.out c.put2-producer.result 60 = behind 60 tt c.put2-producer.ensures room10 in
    let room12 : Room c.put_text16-count.new.out c.put_text16-count.result 2 = behind 2 tt c.put_text16-count.ensures room11 in
    some 2 tt room12
