-- Thirteen bytes.
use Rattle.laws.specs.Buffers.{put-put}
use Rattle.rules.specs.Pec.{pec_colors}
use Rattle.pec_part.proofs.put_no_colors.Goals as goal

pub returns : goal.returns
unfolding pec_colors
returns c = let put43 = c.put4-count in
    let put42 = c.put4-third in
    let put4 = c.put4-second in
    put-put put4.ensures (put-put put42.ensures (put-put put43.ensures c.put.ensures))
