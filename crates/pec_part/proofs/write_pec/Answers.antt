-- The header, what stands before the stitches, the stitches and the thumbnails.
use mir.Syntax.{w32}
use mir.Val.{SFits}
use Rattle.rules.specs.Lists.{commands, threads_of}
use Rattle.laws.specs.Buffers.{put_as, put-put}
use Rattle.geom.proofs.Sizes.{width_is, height-is}
use Rattle.pec_part.proofs.Bounds.{threads_few, bytes_small}
use Rattle.pec_part.proofs.Whole.{part-as, room-header, room-sizes, room-stitches, room-icons}
use borrow.Author.Rules.{rules}
use Rattle.pec_part.proofs.write_pec.Goals as goal

pub put_header-block-requires : goal.put_header-block-requires
put_header-block-requires c = let a = c.args in
    let cs = commands a.xs.now a.ys.now a.kinds.now in
    let ts = threads_of a.threads.now in
    let few = threads_few a.threads.now c.requires.kinds_len_bound.1.0 in
    record { threads_len_bound = c.requires.kinds_len_bound.1.0; at_in_bounds = room-header a.name.now cs ts a.out.now a.at few c.requires.threads_in_bounds }

pub put_sizes-stitches-requires : goal.put_sizes-stitches-requires
put_sizes-stitches-requires c = let a = c.args in
    let cs = commands a.xs.now a.ys.now a.kinds.now in
    let ts = threads_of a.threads.now in
    let few = threads_few a.threads.now c.requires.kinds_len_bound.1.0 in record { n_bound = bytes_small a.xs.now a.ys.now a.kinds.now c.requires.kinds_len_bound.0 c.requires.n_value; at_in_bounds = room-sizes a.name.now cs ts a.out.now a.at few c.requires.threads_in_bounds c.put_header-block.ensures.0 }

pub pec_encode-pictures-requires : goal.pec_encode-pictures-requires
pec_encode-pictures-requires c = let a = c.args in
    let cs = commands a.xs.now a.ys.now a.kinds.now in
    let ts = threads_of a.threads.now in
    let few = threads_few a.threads.now c.requires.kinds_len_bound.1.0 in record {
      kinds_value = c.requires.kinds_len_bound.1.1;
      kinds_in_bounds = room-stitches a.name.now cs ts a.out.now a.at few c.requires.threads_in_bounds c.put_header-block.ensures.0
          a.n c.spread-w.result
          c.spread-h.result c.put_sizes-stitches.ensures;
    }

pub put_icons-requires : goal.put_icons-requires
put_icons-requires c = let a = c.args in
    let cs = commands a.xs.now a.ys.now a.kinds.now in
    let ts = threads_of a.threads.now in
    let few = threads_few a.threads.now c.requires.kinds_len_bound.1.0 in record {
      b_value = c.requires.b_value;
      kinds_in_bounds = room-icons a.name.now cs ts a.out.now a.at few c.requires.threads_in_bounds c.put_header-block.ensures.0
          a.n c.spread-w.result
          c.spread-h.result c.put_sizes-stitches.ensures c.pec_encode-pictures.ensures;
    }

pub returns : goal.returns
returns c =
    let across : (let b = c.args.b in SFits w32 b.min.x × SFits w32 b.max.x) = (search (rules, c.struct_told-1.given), search (rules, c.struct_told-2-1.given)) in
    let down : (let b = c.args.b in SFits w32 b.min.y × SFits w32 b.max.y) = (search (rules, c.struct_told-3-1.given), search (rules, c.struct_told-4-1.given)) in
    let a = c.args in
    let cs = commands a.xs.now a.ys.now a.kinds.now in
    let ts = threads_of a.threads.now in
    let header = c.put_header-block.ensures in
    let w = width_is cs c.requires.b_value across.0 across.1 c.spread-w.ensures in
    let h = height-is cs c.requires.b_value down.0 down.1 c.spread-h.ensures in (
      put_as
          (put-put header.0
          (put-put c.put_sizes-stitches.ensures (put-put c.pec_encode-pictures.ensures c.put_icons.ensures)))
          (part-as a.name.now cs ts c.requires.n_value w h),
      header.1,
    )
