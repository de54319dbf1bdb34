-- The length, then the text.
use mathlib.Core.Path.{sym}
use native.Mathlib.Omega.{arith}
use Rattle.rules.specs.Vp3.{big, text8, text16}
use Rattle.laws.specs.Buffers.{put-put}
use Rattle.vp3_cmd.proofs.Bytes.{length-wide}
use Rattle.vp3_cmd.proofs.put_text16.Goals as goal

pub put_wide-requires : goal.put_wide-requires
unfolding big
put_wide-requires c = omega (arith, c.put_be16-wide.ensures, c.requires)

pub returns : goal.returns
unfolding text16 text8
returns c =
    put-put (rw (sym (length-wide c.args.text.now)) at c.put_be16-wide.ensures) c.put_wide.ensures
