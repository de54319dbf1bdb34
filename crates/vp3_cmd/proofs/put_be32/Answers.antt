-- The bytes of the definition.
use Rattle.laws.specs.Buffers.{put_as}
use Rattle.vp3_cmd.proofs.Bytes.{big-four}
use Rattle.vp3_cmd.proofs.put_be32.Goals as goal

pub returns : goal.returns
returns c = put_as (rw c.to_be_bytes-b.ensures at c.put4.ensures) (big-four c.args.v)
