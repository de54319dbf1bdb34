-- Two bytes, in two's complement.
use Prim.Native.Nat.{◌+◌, ◌*◌, ◌<◌}
use mathlib.Core.Path.{ap, ◌∙◌}
use native.Mathlib.Omega.{arith}
use lib.ListN.{get_or}
use mir.Syntax.{w32}
use Rattle.rules.specs.Vocabulary.{signed}
use Rattle.laws.specs.Ints.{ret}
use Rattle.read_vp3_stitches.proofs.Stepping.{word_at}
use Rattle.read_vp3_stitches.proofs.steps.s16.Goals as goal

pub overflow_cast-n : goal.overflow_cast-n
overflow_cast-n c =
    let high : let a = c.args in get_or a.bytes.now a.at 0 < 256 = omega (arith, c.shared_slice_known-2-1.given c.args.at) in
    omega (arith, high)

pub overflow_mul-n : goal.overflow_mul-n
overflow_mul-n c =
    let high : let a = c.args in get_or a.bytes.now a.at 0 < 256 = omega (arith, c.shared_slice_known-2-1.given c.args.at) in
    omega (arith, high)

pub overflow_cast-n-2 : goal.overflow_cast-n-2
overflow_cast-n-2 c =
    let word : let a = c.args in 256 * get_or a.bytes.now a.at 0 + get_or a.bytes.now (a.at + 1) 0 < 65536 = let g = c.shared_slice_known-3-1.given in let i = c.args.at in omega (arith, g i, g (i + 1)) in
    omega (arith, word)

pub overflow_add-n-2 : goal.overflow_add-n-2
overflow_add-n-2 c =
    let word : let a = c.args in 256 * get_or a.bytes.now a.at 0 + get_or a.bytes.now (a.at + 1) 0 < 65536 = let g = c.shared_slice_known-3-1.given in let i = c.args.at in omega (arith, g i, g (i + 1)) in
    omega (arith, word)

pub signed16-requires : goal.signed16-requires
signed16-requires c =
    let word : let a = c.args in 256 * get_or a.bytes.now a.at 0 + get_or a.bytes.now (a.at + 1) 0 < 65536 = let g = c.shared_slice_known-3-1.given in let i = c.args.at in omega (arith, g i, g (i + 1)) in
    word

pub returns : goal.returns
returns c =
    ret w32 c.signed16.result c.signed16.type_inv ∙ c.signed16.ensures ∙ ap (signed 15) (word_at c.args.bytes.now c.args.at c.requires)
