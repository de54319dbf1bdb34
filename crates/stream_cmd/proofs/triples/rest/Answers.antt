-- The product is the weight with the sign of the digit.
use borrow.Author.Rules.{rules}
use native.Mathlib.Omega.{arith}
use lib.IntN.{pos, ◌-ℤ◌, ◌*ℤ◌}
use mir.Syntax.{w32}
use mir.Val.{SFits}
use mir.Facts.{to_z-of_z}
use Rattle.laws.specs.Ints.{fits-times}
use Rattle.rules.specs.Dst.{digit}
use Rattle.stream_cmd.proofs.Digits.{taken, rest-fits}
use Rattle.stream_cmd.proofs.triples.rest.Goals as goal

pub overflow_cast-result : goal.overflow_cast-result
overflow_cast-result c = search rules

pub overflow_mul-result : goal.overflow_mul-result
overflow_mul-result c =
    let product : SFits w32 (c.args.d *ℤ pos c.args.weight) = fits-times c.args.d (pos c.args.weight) 1 255 c.requires.1 (omega arith) (omega arith) in
    rw (to_z-of_z c.ranges.d, to_z-of_z (overflow_cast-result c)) product

pub overflow_sub-result : goal.overflow_sub-result
overflow_sub-result c =
    let product : SFits w32 (c.args.d *ℤ pos c.args.weight) = fits-times c.args.d (pos c.args.weight) 1 255 c.requires.1 (omega arith) (omega arith) in
    let difference : SFits w32 (c.args.z -ℤ c.args.d *ℤ pos c.args.weight) = rw (taken c.args.weight c.args.d c.args.z c.requires.1)
    (rest-fits c.args.weight (digit 0 c.args.d) c.args.z (omega arith) c.requires.0) in
    rw (to_z-of_z c.ranges.z, to_z-of_z c.ranges.d, to_z-of_z (overflow_cast-result c), to_z-of_z product) difference

pub returns : goal.returns
returns c =
    let product : SFits w32 (c.args.d *ℤ pos c.args.weight) = fits-times c.args.d (pos c.args.weight) 1 255 c.requires.1 (omega arith) (omega arith) in
    let difference : SFits w32 (c.args.z -ℤ c.args.d *ℤ pos c.args.weight) = rw (taken c.args.weight c.args.d c.args.z c.requires.1)
    (rest-fits c.args.weight (digit 0 c.args.d) c.args.z (omega arith) c.requires.0) in
    rw (to_z-of_z c.ranges.z, to_z-of_z c.ranges.d, to_z-of_z (overflow_cast-result c), to_z-of_z product, to_z-of_z difference)
    (taken c.args.weight c.args.d c.args.z c.requires.1)
