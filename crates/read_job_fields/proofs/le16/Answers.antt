-- Two bytes.
use Prim.Native.Nat.{◌+◌, ◌<◌}
use mathlib.Core.Path.{sym}
use native.Mathlib.Omega.{arith}
use lib.ListN.{get_or}
use Rattle.laws.specs.Jobs.{two_at}
use Rattle.read_job_fields.proofs.le16.Goals as goal

small : (c : goal.After-shared_slice_known-2-1) →
    (let a = c.args in (get_or a.job.now a.at 0 < 256) × (get_or a.job.now (a.at + 1) 0 < 256))
small c = let a = c.args in let k = c.shared_slice_known-2-1.given in (omega (arith, k a.at), omega (arith, k (a.at + 1)))

pub returns : goal.returns
returns c = let a = c.args in (sym (two_at a.job.now a.at c.requires), omega (arith, small c))
