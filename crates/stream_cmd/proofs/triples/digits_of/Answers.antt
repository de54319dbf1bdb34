-- One digit after the other, each of what the one before it leaves.
use mathlib.Core.Path.{◌≡◌}
use mir.Facts.{to_z-of_z}
use Rattle.rules.specs.Dst.{digit, z27, z9, z3, z1}
use Rattle.stream_cmd.specs.Cmds.{digit_value}
use Rattle.stream_cmd.proofs.Digits.{back, value-small, lower-small, digit-is, rest-is}
use Rattle.stream_cmd.proofs.triples.digits_of.Goals as goal

pub rest-z27-requires : goal.rest-z27-requires
rest-z27-requires c =
    let d81 : back c.digit-d81.result ≡ digit_value (digit 40 c.args.z) = digit-is 40 (to_z-of_z c.ranges.z) c.digit-d81.type_inv c.digit-d81.ensures in
    rw (to_z-of_z c.ranges.z, d81) (c.requires, value-small _)

pub rest-z9-requires : goal.rest-z9-requires
rest-z9-requires c =
    let is27 : back c.rest-z27.result ≡ z27 c.args.z = unfold z27 in rest-is 40 (to_z-of_z c.ranges.z) c.digit-d81.type_inv c.digit-d81.ensures 81 c.rest-z27.type_inv c.rest-z27.ensures in
    let d27 : back c.digit-d27.result ≡ digit_value (digit 13 (z27 c.args.z)) = digit-is 13 is27 c.digit-d27.type_inv c.digit-d27.ensures in
    rw (is27, d27) ((lower-small c.args.z c.requires).0, value-small _)

pub rest-z3-requires : goal.rest-z3-requires
unfolding z27 z9
rest-z3-requires c =
    let is27 : back c.rest-z27.result ≡ z27 c.args.z = rest-is 40 (to_z-of_z c.ranges.z) c.digit-d81.type_inv c.digit-d81.ensures 81 c.rest-z27.type_inv c.rest-z27.ensures in
    let is9 : back c.rest-z9.result ≡ z9 c.args.z = rest-is 13 is27 c.digit-d27.type_inv c.digit-d27.ensures 27 c.rest-z9.type_inv c.rest-z9.ensures in
    let d9 : back c.digit-d9.result ≡ digit_value (digit 4 (z9 c.args.z)) = digit-is 4 is9 c.digit-d9.type_inv c.digit-d9.ensures in
    rw (is9, d9) ((lower-small c.args.z c.requires).1.0, value-small _)

pub rest-z1-requires : goal.rest-z1-requires
unfolding z27 z9 z3
rest-z1-requires c =
    let is27 : back c.rest-z27.result ≡ z27 c.args.z = rest-is 40 (to_z-of_z c.ranges.z) c.digit-d81.type_inv c.digit-d81.ensures 81 c.rest-z27.type_inv c.rest-z27.ensures in
    let is9 : back c.rest-z9.result ≡ z9 c.args.z = rest-is 13 is27 c.digit-d27.type_inv c.digit-d27.ensures 27 c.rest-z9.type_inv c.rest-z9.ensures in
    let is3 : back c.rest-z3.result ≡ z3 c.args.z = rest-is 4 is9 c.digit-d9.type_inv c.digit-d9.ensures 9 c.rest-z3.type_inv c.rest-z3.ensures in
    let d3 : back c.digit-d3.result ≡ digit_value (digit 1 (z3 c.args.z)) = digit-is 1 is3 c.digit-d3.type_inv c.digit-d3.ensures in
    rw (is3, d3) ((lower-small c.args.z c.requires).1.1, value-small _)

pub returns : goal.returns
unfolding z27 z9 z3 z1
returns c =
    let d81 : back c.digit-d81.result ≡ digit_value (digit 40 c.args.z) = digit-is 40 (to_z-of_z c.ranges.z) c.digit-d81.type_inv c.digit-d81.ensures in
    let is27 : back c.rest-z27.result ≡ z27 c.args.z = rest-is 40 (to_z-of_z c.ranges.z) c.digit-d81.type_inv c.digit-d81.ensures 81 c.rest-z27.type_inv c.rest-z27.ensures in
    let d27 : back c.digit-d27.result ≡ digit_value (digit 13 (z27 c.args.z)) = digit-is 13 is27 c.digit-d27.type_inv c.digit-d27.ensures in
    let is9 : back c.rest-z9.result ≡ z9 c.args.z = rest-is 13 is27 c.digit-d27.type_inv c.digit-d27.ensures 27 c.rest-z9.type_inv c.rest-z9.ensures in
    let d9 : back c.digit-d9.result ≡ digit_value (digit 4 (z9 c.args.z)) = digit-is 4 is9 c.digit-d9.type_inv c.digit-d9.ensures in
    let is3 : back c.rest-z3.result ≡ z3 c.args.z = rest-is 4 is9 c.digit-d9.type_inv c.digit-d9.ensures 9 c.rest-z3.type_inv c.rest-z3.ensures in
    let d3 : back c.digit-d3.result ≡ digit_value (digit 1 (z3 c.args.z)) = digit-is 1 is3 c.digit-d3.type_inv c.digit-d3.ensures in
    let is1 : back c.rest-z1.result ≡ z1 c.args.z = rest-is 1 is3 c.digit-d3.type_inv c.digit-d3.ensures 3 c.rest-z1.type_inv c.rest-z1.ensures in
    rw (d81, d27, d9, d3, digit-is 0 is1 c.digit-d1.type_inv c.digit-d1.ensures)
