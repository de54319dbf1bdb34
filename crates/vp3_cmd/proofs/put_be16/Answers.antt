-- The bytes of the definition.
use Rattle.laws.specs.Buffers.{put_as}
use Rattle.vp3_cmd.proofs.Bytes.{big-two}
use Rattle.vp3_cmd.proofs.put_be16.Goals as goal

pub returns : goal.returns
returns c = put_as (rw c.to_be_bytes-b.ensures at c.put2.ensures) (big-two c.args.v)
