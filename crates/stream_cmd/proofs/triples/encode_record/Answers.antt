-- Each pair of bits is that of a greedy digit.
use mathlib.Core.Path.{◌≡◌}
use Rattle.std.proofs.Common.{FitsSigned, w32}
use native.Mathlib.Omega.{arith}
use lib.IntN.{pos, neg_ℤ, ◌-ℤ◌}
use mir.Facts.{to_z-of_z}
use Rattle.rules.specs.Dst.{dst_bytes}
use Rattle.laws.specs.Ints.{ints, seen, abs_is, abs_neg}
use Rattle.stream_cmd.proofs.Digits.{back, sign-back}
use Rattle.stream_cmd.proofs.triples.encode_record.Goals as goal

pub overflow_sub-dy : goal.overflow_sub-dy
overflow_sub-dy c = omega (ints, seen c.ranges.dy, abs_is c.args.dy)

pub digits_of-y-requires : goal.digits_of-y-requires
digits_of-y-requires c =
    let minus-y : back (pos 0 -ℤ back c.args.dy) ≡ neg_ℤ c.args.dy = let h = overflow_sub-dy c in omega (ints, seen c.ranges.dy) in
    rw (minus-y, abs_neg c.args.dy) c.requires.1.1

pub overflow_add-result-7 : goal.overflow_add-result-7
overflow_add-result-7 c =
    omega (arith, c.bits-9.ensures.1, c.requires.0)

pub overflow_add-result-8 : goal.overflow_add-result-8
overflow_add-result-8 c =
    omega (arith, c.bits-9.ensures.1, c.requires.0)

pub returns : goal.returns
unfolding dst_bytes
returns c =
    let h : FitsSigned w32 (pos 0 -ℤ back c.args.dy) = omega (ints, seen c.ranges.dy, abs_is c.args.dy) in
    let minus-y : back (pos 0 -ℤ back c.args.dy) ≡ neg_ℤ c.args.dy = omega (ints, seen c.ranges.dy) in
    rw (c.bits.ensures.0, c.bits-2.ensures.0, c.bits-3.ensures.0, c.bits-4.ensures.0, c.bits-5.ensures.0)
    (rw (c.bits-6.ensures.0, c.bits-7.ensures.0, c.bits-8.ensures.0, c.bits-9.ensures.0, c.bits-10.ensures.0)
    (rw (c.digits_of-x.ensures, c.digits_of-y.ensures, minus-y, to_z-of_z c.ranges.dx) (simp sign-back)))
