-- A block's fields, then its stitches.
use mir.Facts.{to_z-of_z}
use mir.Syntax.{w32}
use mir.Val.{SFits}
use Rattle.read_vp3_fields.specs.Fields.{within}
use Rattle.hoop_vp3.proofs.Blockwise.{no-fault, stays, few, passes_on, passes-out}
use borrow.Author.Rules.{rules}
use Rattle.hoop_vp3.proofs.fits_block.Goals as goal

pub unwrap-k-requires : goal.unwrap-k-requires
unwrap-k-requires c =
    let x : SFits w32 c.args.s.x = search rules in
    let y : SFits w32 c.args.s.y = search rules in
    no-fault c.requires c.block_at.result (rw (to_z-of_z x, to_z-of_z y) at c.block_at.ensures)

pub fits_stitches-requires : goal.fits_stitches-requires
unfolding within
fits_stitches-requires c =
    let x : SFits w32 c.args.s.x = search rules in
    let y : SFits w32 c.args.s.y = search rules in
    let told = rw (to_z-of_z x, to_z-of_z y, c.unwrap-k.ensures) at c.block_at.ensures in
    rw (to_z-of_z x, to_z-of_z y) (record { bytes_len_bound = few c.requires told; bytes_value = stays c.requires told })

pub returns-then-not-fits_stitches : goal.returns-then-not-fits_stitches
unfolding within
returns-then-not-fits_stitches c =
    let x : SFits w32 c.args.s.x = search rules in
    let y : SFits w32 c.args.s.y = search rules in
    let told = rw (to_z-of_z x, to_z-of_z y, c.unwrap-k.ensures) at c.block_at.ensures in
    passes-out c.requires told _ (rw (to_z-of_z x, to_z-of_z y) at c.fits_stitches.ensures) c.if-not-fits_stitches.true

pub returns : goal.returns
unfolding within
returns c =
    let x : SFits w32 c.args.s.x = search rules in
    let y : SFits w32 c.args.s.y = search rules in
    let told = rw (to_z-of_z x, to_z-of_z y, c.unwrap-k.ensures) at c.block_at.ensures in
    let next-x : SFits w32 c.unwrap-k.result.x = search rules in
    let next-y : SFits w32 c.unwrap-k.result.y = search rules in
    passes_on c.requires told _ (rw (to_z-of_z x, to_z-of_z y) at c.fits_stitches.ensures) c.if-not-fits_stitches.false
    (to_z-of_z next-x) (to_z-of_z next-y)
