-- By the sign of the offset.
use mathlib.Core.Path.{◌≡◌, sym, ◌∙◌}
use mir.Syntax.{w32}
use mir.Val.{to_z, of_z}
use Rattle.rules.specs.Text.{word_at}
use mir.Facts.{to_z-of_z}
use Rattle.laws.specs.Ints.{ints, seen}
use Rattle.read.proofs.Stitches.{jef-none, jef-from}
use Rattle.read.proofs.jef_stitches.Goals as goal

pub returns-then-offset-lt0 : goal.returns-then-offset-lt0
returns-then-offset-lt0 c =
    let told : word_at 0 c.args.file.now ≡ to_z w32 (of_z w32 c.args.offset) = c.requires ∙ sym (to_z-of_z c.ranges.offset) in
    jef-none _ told c.if-offset-lt0.true

pub overflow_cast-offset : goal.overflow_cast-offset
overflow_cast-offset c = omega (ints, seen c.ranges.offset)

pub returns : goal.returns
returns c =
    let told : word_at 0 c.args.file.now ≡ to_z w32 (of_z w32 c.args.offset) = c.requires ∙ sym (to_z-of_z c.ranges.offset) in
    c.rest.ensures.result_value ∙ jef-from _ told c.if-offset-lt0.false
