-- One block, by `fills-by`.
use Rattle.std.proofs.Common.{refl, arith}
use mir.Facts.{to_z-of_z}
use mir.Syntax.{w32}
use mir.Val.{SFits}
use borrow.Author.Rules.{rules}
use Rattle.read_vp3_fields.specs.Fields.{within}
use Rattle.read_vp3.proofs.Blockwise.{no-fault, fill-ready, run_room, block_room, last-small, fills-by}
use Rattle.read_vp3.proofs.fill_block.Goals as goal

pub unwrap-k-requires : goal.unwrap-k-requires
unwrap-k-requires c =
    let x : SFits w32 c.args.f.b.x = search rules in
    let y : SFits w32 c.args.f.b.y = search rules in
    no-fault c.requires c.block_at.result (rw (to_z-of_z x, to_z-of_z y) at c.block_at.ensures)

pub fill_stitches-b-requires : goal.fill_stitches-b-requires
unfolding within
fill_stitches-b-requires c =
    let x : SFits w32 c.args.f.b.x = search rules in
    let y : SFits w32 c.args.f.b.y = search rules in
    fill-ready c.requires (rw (to_z-of_z x, to_z-of_z y, c.unwrap-k.ensures) at c.block_at.ensures)

pub put_run-requires : goal.put_run-requires
unfolding within
put_run-requires c =
    let x : SFits w32 c.args.f.b.x = search rules in
    let y : SFits w32 c.args.f.b.y = search rules in
    let told = rw (to_z-of_z x, to_z-of_z y, c.unwrap-k.ensures) at c.block_at.ensures in
    rw c.fill_stitches-b.ensures.builder (omega (arith, run_room c.requires told, c.fill_stitches-b.auto))

pub put_block-requires : goal.put_block-requires
unfolding within
put_block-requires c =
    let x : SFits w32 c.args.f.b.x = search rules in
    let y : SFits w32 c.args.f.b.y = search rules in
    let told = rw (to_z-of_z x, to_z-of_z y, c.unwrap-k.ensures) at c.block_at.ensures in
    rw c.fill_stitches-b.ensures.builder (block_room c.requires told _)

pub color_change-requires : goal.color_change-requires
unfolding within
color_change-requires c =
    let x : SFits w32 c.args.f.b.x = search rules in
    let y : SFits w32 c.args.f.b.y = search rules in
    let told = rw (to_z-of_z x, to_z-of_z y, c.unwrap-k.ensures) at c.block_at.ensures in
    let f : SFits w32 c.fill_stitches-b.result.x = search (rules, c.fill_stitches-b.type_inv) in
    let g : SFits w32 c.fill_stitches-b.result.y = search (rules, c.fill_stitches-b.type_inv) in
    last-small c.requires told c.fill_stitches-b.ensures.builder f.sfits g.sfits

pub returns : goal.returns
unfolding within
returns c =
    let x : SFits w32 c.args.f.b.x = search rules in
    let y : SFits w32 c.args.f.b.y = search rules in
    let told = rw (to_z-of_z x, to_z-of_z y, c.unwrap-k.ensures) at c.block_at.ensures in
    let next-x : SFits w32 c.unwrap-k.result.x = search rules in
    let next-y : SFits w32 c.unwrap-k.result.y = search rules in
    fills-by c.requires told refl refl refl c.fill_stitches-b.ensures c.put_run.ensures c.number_of.ensures.0 c.put_block.ensures
    (rw (to_z-of_z next-x, to_z-of_z next-y) at c.color_change.ensures)
