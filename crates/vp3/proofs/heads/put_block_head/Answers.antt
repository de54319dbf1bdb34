-- Ten puts in a row are one; each number is small.
use native.Mathlib.Omega.{arith}
use Rattle.rules.specs.Vocabulary.{joined}
use Rattle.rules.specs.Vp3.{big, field, hundred, text8, hex_text, color_text}
use Rattle.laws.specs.Buffers.{put_as, put-put, put-nothing}
use Rattle.vp3.specs.Heads.{color_bytes, block_text}
use Rattle.vp3.proofs.Numbers.{minus-fits, asked, asked-minus, twice-fits, less-fits, less_asked, put-less, put-minus-less}
use Rattle.vp3.proofs.Numbers.{step_fits, step-asked, minus-step-fits, minus-step-asked, put_step, put-minus-step}
use Rattle.vp3.proofs.Rooms.{Room, some, behind}
use Rattle.vp3.proofs.heads.put_block_head.Goals as goal

pub put_be32-x-requires : goal.put_be32-x-requires
put_be32-x-requires c =
    let room1 : Room c.put3-size.new.out c.put3-size.result 53 = behind 53 tt c.put3-size.ensures (record { enough = c.requires.1.1 }) in
    some 4 tt room1

pub overflow_mul-w : goal.overflow_mul-w
overflow_mul-w c = twice-fits c.args.w.x c.args.m.x c.requires.1.0.x c.requires.0.x

pub overflow_sub-w : goal.overflow_sub-w
overflow_sub-w c = less-fits c.args.w.x c.args.m.x c.requires.1.0.x c.requires.0.x

pub half-requires : goal.half-requires
half-requires c = less_asked c.args.w.x c.args.m.x c.requires.1.0.x c.requires.0.x

pub put_hundred-y-requires : goal.put_hundred-y-requires
unfolding big
put_hundred-y-requires c =
    let room1 : Room c.put3-size.new.out c.put3-size.result 53 = behind 53 tt c.put3-size.ensures (record { enough = c.requires.1.1 }) in
    let room2 : Room c.put_be32-x.new.out c.put_be32-x.result 49 = behind 49 tt c.put_be32-x.ensures room1 in
    (asked c.half.result c.half.ensures.1, some 4 tt room2)

pub overflow_mul-w-2 : goal.overflow_mul-w-2
overflow_mul-w-2 c = twice-fits c.args.w.y c.args.m.y c.requires.1.0.y c.requires.0.y

pub overflow_sub-w-2 : goal.overflow_sub-w-2
overflow_sub-w-2 c = less-fits c.args.w.y c.args.m.y c.requires.1.0.y c.requires.0.y

pub half-requires-2 : goal.half-requires-2
half-requires-2 c = less_asked c.args.w.y c.args.m.y c.requires.1.0.y c.requires.0.y

pub overflow_sub-half : goal.overflow_sub-half
overflow_sub-half c = minus-fits c.half-2.result (omega (arith, c.half-2.ensures.1))

pub put_hundred-color-requires : goal.put_hundred-color-requires
unfolding big hundred field
put_hundred-color-requires c =
    let room1 : Room c.put3-size.new.out c.put3-size.result 53 = behind 53 tt c.put3-size.ensures (record { enough = c.requires.1.1 }) in
    let room2 : Room c.put_be32-x.new.out c.put_be32-x.result 49 = behind 49 tt c.put_be32-x.ensures room1 in
    let room3 : Room c.put_hundred-y.new.out c.put_hundred-y.result 45 = behind 45 tt c.put_hundred-y.ensures room2 in
    (asked-minus c.half-2.result c.half-2.ensures.1, some 4 tt room3)

pub put_color-dx-requires : goal.put_color-dx-requires
unfolding big hundred field
put_color-dx-requires c =
    let room1 : Room c.put3-size.new.out c.put3-size.result 53 = behind 53 tt c.put3-size.ensures (record { enough = c.requires.1.1 }) in
    let room2 : Room c.put_be32-x.new.out c.put_be32-x.result 49 = behind 49 tt c.put_be32-x.ensures room1 in
    let room3 : Room c.put_hundred-y.new.out c.put_hundred-y.result 45 = behind 45 tt c.put_hundred-y.ensures room2 in
    let room4 : Room c.put_hundred-color.new.out c.put_hundred-color.result 41 = behind 41 tt c.put_hundred-color.ensures room3 in
    some 23 tt room4

pub overflow_sub-w-3 : goal.overflow_sub-w-3
overflow_sub-w-3 c = step_fits c.args.w.to_x c.args.w.x c.requires.1.0.to_x c.requires.1.0.x

pub put_hundred-dy-requires : goal.put_hundred-dy-requires
unfolding big hundred field color_bytes joined text8 color_text hex_text
put_hundred-dy-requires c =
    let room1 : Room c.put3-size.new.out c.put3-size.result 53 = behind 53 tt c.put3-size.ensures (record { enough = c.requires.1.1 }) in
    let room2 : Room c.put_be32-x.new.out c.put_be32-x.result 49 = behind 49 tt c.put_be32-x.ensures room1 in
    let room3 : Room c.put_hundred-y.new.out c.put_hundred-y.result 45 = behind 45 tt c.put_hundred-y.ensures room2 in
    let room4 : Room c.put_hundred-color.new.out c.put_hundred-color.result 41 = behind 41 tt c.put_hundred-color.ensures room3 in
    let room5 : Room c.put_color-dx.new.out c.put_color-dx.result 18 = behind 18 tt c.put_color-dx.ensures room4 in
    (step-asked c.args.w.to_x c.args.w.x c.requires.1.0.to_x c.requires.1.0.x, some 4 tt room5)

pub overflow_sub-w-4 : goal.overflow_sub-w-4
overflow_sub-w-4 c = step_fits c.args.w.to_y c.args.w.y c.requires.1.0.to_y c.requires.1.0.y

pub overflow_sub-w-5 : goal.overflow_sub-w-5
overflow_sub-w-5 c = minus-step-fits c.args.w.to_y c.args.w.y c.requires.1.0.to_y c.requires.1.0.y

pub put_hundred-mark-requires : goal.put_hundred-mark-requires
unfolding big hundred field color_bytes joined text8 color_text hex_text
put_hundred-mark-requires c =
    let room1 : Room c.put3-size.new.out c.put3-size.result 53 = behind 53 tt c.put3-size.ensures (record { enough = c.requires.1.1 }) in
    let room2 : Room c.put_be32-x.new.out c.put_be32-x.result 49 = behind 49 tt c.put_be32-x.ensures room1 in
    let room3 : Room c.put_hundred-y.new.out c.put_hundred-y.result 45 = behind 45 tt c.put_hundred-y.ensures room2 in
    let room4 : Room c.put_hundred-color.new.out c.put_hundred-color.result 41 = behind 41 tt c.put_hundred-color.ensures room3 in
    let room5 : Room c.put_color-dx.new.out c.put_color-dx.result 18 = behind 18 tt c.put_color-dx.ensures room4 in
    let room6 : Room c.put_hundred-dy.new.out c.put_hundred-dy.result 14 = behind 14 tt c.put_hundred-dy.ensures room5 in
    (minus-step-asked c.args.w.to_y c.args.w.y c.requires.1.0.to_y c.requires.1.0.y, some 4 tt room6)

pub put3-length-requires : goal.put3-length-requires
unfolding big hundred field color_bytes joined text8 color_text hex_text
put3-length-requires c =
    let room1 : Room c.put3-size.new.out c.put3-size.result 53 = behind 53 tt c.put3-size.ensures (record { enough = c.requires.1.1 }) in
    let room2 : Room c.put_be32-x.new.out c.put_be32-x.result 49 = behind 49 tt c.put_be32-x.ensures room1 in
    let room3 : Room c.put_hundred-y.new.out c.put_hundred-y.result 45 = behind 45 tt c.put_hundred-y.ensures room2 in
    let room4 : Room c.put_hundred-color.new.out c.put_hundred-color.result 41 = behind 41 tt c.put_hundred-color.ensures room3 in
    let room5 : Room c.put_color-dx.new.out c.put_color-dx.result 18 = behind 18 tt c.put_color-dx.ensures room4 in
    let room6 : Room c.put_hundred-dy.new.out c.put_hundred-dy.result 14 = behind 14 tt c.put_hundred-dy.ensures room5 in
    let room7 : Room c.put_hundred-mark.new.out c.put_hundred-mark.result 10 = behind 10 tt c.put_hundred-mark.ensures room6 in
    some 3 tt room7

pub overflow_add-w-2 : goal.overflow_add-w-2
overflow_add-w-2 c = record { fits = omega (arith, c.requires.1.0.len) }

pub overflow_cast-w-2 : goal.overflow_cast-w-2
overflow_cast-w-2 c = record { fits = omega (arith, c.requires.1.0.len) }

pub put_be32-opening-requires : goal.put_be32-opening-requires
unfolding big hundred field color_bytes joined text8 color_text hex_text
put_be32-opening-requires c =
    let room1 : Room c.put3-size.new.out c.put3-size.result 53 = behind 53 tt c.put3-size.ensures (record { enough = c.requires.1.1 }) in
    let room2 : Room c.put_be32-x.new.out c.put_be32-x.result 49 = behind 49 tt c.put_be32-x.ensures room1 in
    let room3 : Room c.put_hundred-y.new.out c.put_hundred-y.result 45 = behind 45 tt c.put_hundred-y.ensures room2 in
    let room4 : Room c.put_hundred-color.new.out c.put_hundred-color.result 41 = behind 41 tt c.put_hundred-color.ensures room3 in
    let room5 : Room c.put_color-dx.new.out c.put_color-dx.result 18 = behind 18 tt c.put_color-dx.ensures room4 in
    let room6 : Room c.put_hundred-dy.new.out c.put_hundred-dy.result 14 = behind 14 tt c.put_hundred-dy.ensures room5 in
    let room7 : Room c.put_hundred-mark.new.out c.put_hundred-mark.result 10 = behind 10 tt c.put_hundred-mark.ensures room6 in
    let room8 : Room c.put3-length.new.out c.put3-length.result 7 = behind 7 tt c.put3-length.ensures room7 in
    some 4 tt room8

pub put3-requires : goal.put3-requires
unfolding big hundred field color_bytes joined text8 color_text hex_text
put3-requires c =
    let room1 : Room c.put3-size.new.out c.put3-size.result 53 = behind 53 tt c.put3-size.ensures (record { enough = c.requires.1.1 }) in
    let room2 : Room c.put_be32-x.new.out c.put_be32-x.result 49 = behind 49 tt c.put_be32-x.ensures room1 in
    let room3 : Room c.put_hundred-y.new.out c.put_hundred-y.result 45 = behind 45 tt c.put_hundred-y.ensures room2 in
    let room4 : Room c.put_hundred-color.new.out c.put_hundred-color.result 41 = behind 41 tt c.put_hundred-color.ensures room3 in
    let room5 : Room c.put_color-dx.new.out c.put_color-dx.result 18 = behind 18 tt c.put_color-dx.ensures room4 in
    let room6 : Room c.put_hundred-dy.new.out c.put_hundred-dy.result 14 = behind 14 tt c.put_hundred-dy.ensures room5 in
    let room7 : Room c.put_hundred-mark.new.out c.put_hundred-mark.result 10 = behind 10 tt c.put_hundred-mark.ensures room6 in
    let room8 : Room c.put3-length.new.out c.put3-length.result 7 = behind 7 tt c.put3-length.ensures room7 in
    let room9 : Room c.put_be32-opening.new.out c.put_be32-opening.result 3 = behind 3 tt c.put_be32-opening.ensures room8 in
    some 3 tt room9

pub returns : goal.returns
unfolding block_text joined
returns c =
    let w = c.args.w in let m = c.args.m in let half = c.half in let half2 = c.half-2 in
    put-put c.put3-size.ensures (put-put c.put_be32-x.ensures
    (put-put (put_as c.put_hundred-y.ensures (put-less w.x m.x c.requires.1.0.x c.requires.0.x half.result half.ensures))
    (put-put (put_as c.put_hundred-color.ensures (put-minus-less w.y m.y c.requires.1.0.y c.requires.0.y half2.result half2.ensures))
    (put-put c.put_color-dx.ensures
    (put-put (put_as c.put_hundred-dy.ensures (put_step w.to_x w.x c.requires.1.0.to_x c.requires.1.0.x))
    (put-put (put_as c.put_hundred-mark.ensures (put-minus-step w.to_y w.y c.requires.1.0.to_y c.requires.1.0.y))
    (put-put c.put3-length.ensures (put-put c.put_be32-opening.ensures (put-put c.put3.ensures (put-nothing _ _))))))))))

pub shape_of-out : goal.shape_of-out
shape_of-out c = (returns c).same
