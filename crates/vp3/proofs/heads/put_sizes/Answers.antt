-- Ten puts in a row are one; each number is small.
use mathlib.Core.Path.{ap}
use native.Mathlib.Omega.{arith}
use Rattle.rules.specs.Vocabulary.{joined}
use Rattle.rules.specs.Vp3.{big, field, hundred, text8, text16}
use Rattle.laws.specs.Buffers.{put_as, put-put, put-nothing}
use Rattle.vp3.specs.Heads.{sizes_text}
use Rattle.vp3.proofs.Numbers.{back-small, minus-fits, minus-back, asked, asked-minus}
use Rattle.vp3.proofs.Rooms.{Room, some, behind}
use Rattle.vp3.proofs.heads.put_sizes.Goals as goal

pub put_hundred-top-requires : goal.put_hundred-top-requires
put_hundred-top-requires c =
    let room1 : Room c.put2-right.new.out c.put2-right.result 32 = behind 32 tt c.put2-right.ensures (record { enough = c.requires.1.1.1.1 }) in (
      asked c.args.b.max.x (omega (arith, c.requires.0)),
      some 4 tt room1,
    )

pub overflow_sub-b : goal.overflow_sub-b
overflow_sub-b c = minus-fits c.args.b.min.y (omega (arith, c.requires.0))

pub put_hundred-left-requires : goal.put_hundred-left-requires
unfolding hundred field big
put_hundred-left-requires c =
    let room1 : Room c.put2-right.new.out c.put2-right.result 32 = behind 32 tt c.put2-right.ensures (record { enough = c.requires.1.1.1.1 }) in
    let room2 : Room c.put_hundred-top.new.out c.put_hundred-top.result 28 = behind 28 tt c.put_hundred-top.ensures room1 in (
      asked-minus c.args.b.min.y (omega (arith, c.requires.0)),
      some 4 tt room2,
    )

pub put_hundred-bottom-requires : goal.put_hundred-bottom-requires
unfolding hundred field big
put_hundred-bottom-requires c =
    let room1 : Room c.put2-right.new.out c.put2-right.result 32 = behind 32 tt c.put2-right.ensures (record { enough = c.requires.1.1.1.1 }) in
    let room2 : Room c.put_hundred-top.new.out c.put_hundred-top.result 28 = behind 28 tt c.put_hundred-top.ensures room1 in
    let room3 : Room c.put_hundred-left.new.out c.put_hundred-left.result 24 = behind 24 tt c.put_hundred-left.ensures room2 in (
      asked c.args.b.min.x (omega (arith, c.requires.0)),
      some 4 tt room3,
    )

pub overflow_sub-b-2 : goal.overflow_sub-b-2
overflow_sub-b-2 c = minus-fits c.args.b.max.y (omega (arith, c.requires.0))

pub put_hundred-count-requires : goal.put_hundred-count-requires
unfolding hundred field big
put_hundred-count-requires c =
    let room1 : Room c.put2-right.new.out c.put2-right.result 32 = behind 32 tt c.put2-right.ensures (record { enough = c.requires.1.1.1.1 }) in
    let room2 : Room c.put_hundred-top.new.out c.put_hundred-top.result 28 = behind 28 tt c.put_hundred-top.ensures room1 in
    let room3 : Room c.put_hundred-left.new.out c.put_hundred-left.result 24 = behind 24 tt c.put_hundred-left.ensures room2 in
    let room4 : Room c.put_hundred-bottom.new.out c.put_hundred-bottom.result 20 = behind 20 tt c.put_hundred-bottom.ensures room3 in (
      asked-minus c.args.b.max.y (omega (arith, c.requires.0)),
      some 4 tt room4,
    )

pub overflow_cast-commands : goal.overflow_cast-commands
overflow_cast-commands c = record { fits = omega (arith, c.requires) }

pub put_be32-first-requires : goal.put_be32-first-requires
unfolding hundred field big
put_be32-first-requires c =
    let room1 : Room c.put2-right.new.out c.put2-right.result 32 = behind 32 tt c.put2-right.ensures (record { enough = c.requires.1.1.1.1 }) in
    let room2 : Room c.put_hundred-top.new.out c.put_hundred-top.result 28 = behind 28 tt c.put_hundred-top.ensures room1 in
    let room3 : Room c.put_hundred-left.new.out c.put_hundred-left.result 24 = behind 24 tt c.put_hundred-left.ensures room2 in
    let room4 : Room c.put_hundred-bottom.new.out c.put_hundred-bottom.result 20 = behind 20 tt c.put_hundred-bottom.ensures room3 in
    let room5 : Room c.put_hundred-count.new.out c.put_hundred-count.result 16 = behind 16 tt c.put_hundred-count.ensures room4 in
    some 4 tt room5

pub overflow_cast-blocks : goal.overflow_cast-blocks
overflow_cast-blocks c = record { fits = omega (arith, c.requires) }

pub put2-second-requires : goal.put2-second-requires
unfolding hundred field big
put2-second-requires c =
    let room1 : Room c.put2-right.new.out c.put2-right.result 32 = behind 32 tt c.put2-right.ensures (record { enough = c.requires.1.1.1.1 }) in
    let room2 : Room c.put_hundred-top.new.out c.put_hundred-top.result 28 = behind 28 tt c.put_hundred-top.ensures room1 in
    let room3 : Room c.put_hundred-left.new.out c.put_hundred-left.result 24 = behind 24 tt c.put_hundred-left.ensures room2 in
    let room4 : Room c.put_hundred-bottom.new.out c.put_hundred-bottom.result 20 = behind 20 tt c.put_hundred-bottom.ensures room3 in
    let room5 : Room c.put_hundred-count.new.out c.put_hundred-count.result 16 = behind 16 tt c.put_hundred-count.ensures room4 in
    let room6 : Room c.put_be32-first.new.out c.put_be32-first.result 12 = behind 12 tt c.put_be32-first.ensures room5 in
    some 2 tt room6

pub put3-third-requires : goal.put3-third-requires
unfolding hundred field big
put3-third-requires c =
    let room1 : Room c.put2-right.new.out c.put2-right.result 32 = behind 32 tt c.put2-right.ensures (record { enough = c.requires.1.1.1.1 }) in
    let room2 : Room c.put_hundred-top.new.out c.put_hundred-top.result 28 = behind 28 tt c.put_hundred-top.ensures room1 in
    let room3 : Room c.put_hundred-left.new.out c.put_hundred-left.result 24 = behind 24 tt c.put_hundred-left.ensures room2 in
    let room4 : Room c.put_hundred-bottom.new.out c.put_hundred-bottom.result 20 = behind 20 tt c.put_hundred-bottom.ensures room3 in
    let room5 : Room c.put_hundred-count.new.out c.put_hundred-count.result 16 = behind 16 tt c.put_hundred-count.ensures room4 in
    let room6 : Room c.put_be32-first.new.out c.put_be32-first.result 12 = behind 12 tt c.put_be32-first.ensures room5 in
    let room7 : Room c.put2-second.new.out c.put2-second.result 10 = behind 10 tt c.put2-second.ensures room6 in
    some 3 tt room7

pub put3-size-requires : goal.put3-size-requires
unfolding hundred field big
put3-size-requires c =
    let room1 : Room c.put2-right.new.out c.put2-right.result 32 = behind 32 tt c.put2-right.ensures (record { enough = c.requires.1.1.1.1 }) in
    let room2 : Room c.put_hundred-top.new.out c.put_hundred-top.result 28 = behind 28 tt c.put_hundred-top.ensures room1 in
    let room3 : Room c.put_hundred-left.new.out c.put_hundred-left.result 24 = behind 24 tt c.put_hundred-left.ensures room2 in
    let room4 : Room c.put_hundred-bottom.new.out c.put_hundred-bottom.result 20 = behind 20 tt c.put_hundred-bottom.ensures room3 in
    let room5 : Room c.put_hundred-count.new.out c.put_hundred-count.result 16 = behind 16 tt c.put_hundred-count.ensures room4 in
    let room6 : Room c.put_be32-first.new.out c.put_be32-first.result 12 = behind 12 tt c.put_be32-first.ensures room5 in
    let room7 : Room c.put2-second.new.out c.put2-second.result 10 = behind 10 tt c.put2-second.ensures room6 in
    let room8 : Room c.put3-third.new.out c.put3-third.result 7 = behind 7 tt c.put3-third.ensures room7 in
    some 3 tt room8

pub overflow_cast-len : goal.overflow_cast-len
overflow_cast-len c = record { fits = omega (arith, c.requires) }

pub put_be32-requires : goal.put_be32-requires
unfolding hundred field big
put_be32-requires c =
    let room1 : Room c.put2-right.new.out c.put2-right.result 32 = behind 32 tt c.put2-right.ensures (record { enough = c.requires.1.1.1.1 }) in
    let room2 : Room c.put_hundred-top.new.out c.put_hundred-top.result 28 = behind 28 tt c.put_hundred-top.ensures room1 in
    let room3 : Room c.put_hundred-left.new.out c.put_hundred-left.result 24 = behind 24 tt c.put_hundred-left.ensures room2 in
    let room4 : Room c.put_hundred-bottom.new.out c.put_hundred-bottom.result 20 = behind 20 tt c.put_hundred-bottom.ensures room3 in
    let room5 : Room c.put_hundred-count.new.out c.put_hundred-count.result 16 = behind 16 tt c.put_hundred-count.ensures room4 in
    let room6 : Room c.put_be32-first.new.out c.put_be32-first.result 12 = behind 12 tt c.put_be32-first.ensures room5 in
    let room7 : Room c.put2-second.new.out c.put2-second.result 10 = behind 10 tt c.put2-second.ensures room6 in
    let room8 : Room c.put3-third.new.out c.put3-third.result 7 = behind 7 tt c.put3-third.ensures room7 in
    let room9 : Room c.put3-size.new.out c.put3-size.result 4 = behind 4 tt c.put3-size.ensures room8 in
    some 4 tt room9

pub returns : goal.returns
unfolding sizes_text joined text16 text8 big
returns c =
    let b = c.args.b in
    put-put c.put2-right.ensures
    (put-put (put_as c.put_hundred-top.ensures (ap hundred (back-small b.max.x (omega (arith, c.requires.0)))))
    (put-put (put_as c.put_hundred-left.ensures (ap hundred (minus-back b.min.y (omega (arith, c.requires.0)))))
    (put-put (put_as c.put_hundred-bottom.ensures (ap hundred (back-small b.min.x (omega (arith, c.requires.0)))))
    (put-put (put_as c.put_hundred-count.ensures (ap hundred (minus-back b.max.y (omega (arith, c.requires.0)))))
    (put-put c.put_be32-first.ensures (put-put (put-put c.put2-second.ensures c.put3-third.ensures)
    (put-put c.put3-size.ensures (put-put c.put_be32.ensures (put-nothing _ _)))))))))

pub shape_of-out : goal.shape_of-out
shape_of-out c = (returns c).same
