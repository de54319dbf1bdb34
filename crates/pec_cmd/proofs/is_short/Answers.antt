-- The answer is that of the two comparisons of `between`.
use mathlib.Core.Path.{sym}
use lib.IntN.{pos, neg_ℤ}
use mir.Facts.{to_z-of_z}
use Rattle.rules.specs.Vocabulary.{between}
use Rattle.laws.specs.Tests.{and-no-left}
use Rattle.laws.specs.Ints.{ints, seen, false-le, true-le}
use Rattle.pec_cmd.proofs.is_short.Goals as goal

pub returns-then-z-ltminus63 : goal.returns-then-z-ltminus63
unfolding between
returns-then-z-ltminus63 c =
    sym (and-no-left _ _ (false-le (neg_ℤ (pos 63)) c.args.z (omega (ints, seen c.ranges.z, c.if-z-ltminus63.true))))

pub returns : goal.returns
unfolding between
returns c =
    rw (true-le (neg_ℤ (pos 63)) c.args.z (omega (ints, seen c.ranges.z, c.if-z-ltminus63.false)), to_z-of_z c.ranges.z)
