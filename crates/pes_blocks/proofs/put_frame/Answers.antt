-- The parts in a row.
use native.Mathlib.Omega.{arith}
use Rattle.rules.specs.Vocabulary.{joined}
use Rattle.laws.specs.Buffers.{put-put, put-nothing}
use Rattle.pes_blocks.proofs.Whole.{length-emb, length_fields, length-sizes}
use Rattle.pes_blocks.proofs.put_frame.Goals as goal

pub put_matrix-sizes-requires : goal.put_matrix-sizes-requires
put_matrix-sizes-requires c = let put-emb = c.put_emb-matrix in
    record { w_bound = c.requires.w_bound; at_in_bounds = omega (arith, put-emb.ensures.same, length-emb) }

pub put_sizes-seg-requires : goal.put_sizes-seg-requires
put_sizes-seg-requires c = let put-matrix = c.put_matrix-sizes in let put-emb = c.put_emb-matrix in
    omega (arith, put-emb.ensures.same, length-emb, put-matrix.ensures.same, length_fields c.args.w c.args.h)

pub put_seg-requires : goal.put_seg-requires
put_seg-requires c = let put-sizes = c.put_sizes-seg in let put-matrix = c.put_matrix-sizes in
    let put-emb = c.put_emb-matrix in
    omega (
      arith,
      put-emb.ensures.same,
      length-emb,
      put-matrix.ensures.same,
      length_fields c.args.w c.args.h,
      put-sizes.ensures.same,
      length-sizes c.args.w c.args.h,
    )

pub returns : goal.returns
unfolding joined
returns c = let put-sizes = c.put_sizes-seg in
    let put-matrix = c.put_matrix-sizes in
    let put-emb = c.put_emb-matrix in
    put-put put-emb.ensures (put-put put-matrix.ensures (put-put put-sizes.ensures (put-put c.put_seg.ensures (put-nothing _ _))))
