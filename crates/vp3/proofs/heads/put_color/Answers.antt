-- Ten puts in a row are one.
use native.Mathlib.Omega.{arith}
use Rattle.rules.specs.Vocabulary.{joined}
use Rattle.rules.specs.Vp3.{big, text8, hex_text, color_text}
use Rattle.laws.specs.Buffers.{put-put}
use Rattle.vp3.specs.Heads.{color_bytes}
use Rattle.vp3.proofs.heads.put_color.Goals as goal

pub put_hex-g-requires : goal.put_hex-g-requires
unfolding hex_text
put_hex-g-requires c = omega (arith, c)

pub put_hex-last-requires : goal.put_hex-last-requires
unfolding hex_text
put_hex-last-requires c = omega (arith, c)

pub put2-requires : goal.put2-requires
unfolding hex_text
put2-requires c = omega (arith, c)

pub returns : goal.returns
unfolding color_bytes joined text8 big color_text hex_text
returns c =
    put-put c.put2-red.ensures (put-put c.put3-zeros.ensures (put-put c.put3-mark.ensures (put-put c.put2-empty.ensures (put-put c.put2-length.ensures
    (put-put c.put3-hash.ensures (put-put c.put_hex-r.ensures (put-put c.put_hex-g.ensures (put-put c.put_hex-last.ensures c.put2.ensures))))))))

pub shape_of-out : goal.shape_of-out
shape_of-out c = (returns c).same
