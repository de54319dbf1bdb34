-- The block's colour is that of its number.
use Rattle.read_builder.proofs.Parts.{own-colour}
use Rattle.read_builder.specs.Colour.{colour_in}
use Rattle.read_passes.proofs.answers.close.Goals as goal

pub put_block-requires : goal.put_block-requires
put_block-requires c =
    let b = c.args.b in
    rw (c.color_of.ensures, own-colour (colour_in c.args.colors.now) b.block b.begun) c.requires.begun_in_bounds

pub returns : goal.returns
returns c = let b = c.args.b in
    record { runs_value = c.put_run.ensures; blocks_value = rw (c.color_of.ensures, own-colour (colour_in c.args.colors.now) b.block b.begun) at c.put_block.ensures }
