-- The start, the blocks and the part.
use Prim.Native.Nat.{ℕ, ◌+◌}
use mathlib.Core.Path.{ap, ◌∙◌}
use Rattle.rules.specs.Lists.{commands, threads_of}
use Rattle.laws.specs.Buffers.{put_as, put-put}
use Rattle.pes.proofs.Files.{start-long, file-as, room-start, room-blocks, room-part}
use Rattle.pes.proofs.put_pes_file.Goals as goal

pub put_start-blocks-requires : goal.put_start-blocks-requires
put_start-blocks-requires c = let a = c.args in
    let cs = commands a.xs.now a.ys.now a.kinds.now in
    let ts = threads_of a.threads.now in
    room-start a.name.now cs ts a.out.now c.requires.threads_in_bounds

pub write_pes_blocks-part-requires : goal.write_pes_blocks-part-requires
write_pes_blocks-part-requires c = let put-start = c.put_start-blocks in
    let a = c.args in
    let cs = commands a.xs.now a.ys.now a.kinds.now in
    let ts = threads_of a.threads.now in
    record { b_value = c.requires.b_value; coded = c.requires.coded; kinds_len_bound = (c.requires.drawn.long, c.requires.kinds_value); measures = c.requires.measures; threads_in_bounds = room-blocks a.name.now cs ts a.out.now c.requires.threads_in_bounds _ put-start.ensures }

pub write_pec-requires : goal.write_pec-requires
write_pec-requires c = let write-pes-blocks = c.write_pes_blocks-part in
    let put-start = c.put_start-blocks in
    let a = c.args in
    let cs = commands a.xs.now a.ys.now a.kinds.now in
    let ts = threads_of a.threads.now in
    let g = c.requires.drawn in
    record { b_value = c.requires.b_value; kinds_len_bound = (g.long, (g.few, g.steps)); n_value = g.bytes; threads_in_bounds = room-part a.name.now cs ts a.out.now c.requires.threads_in_bounds _ put-start.ensures write-pes-blocks.ensures }

pub returns : goal.returns
returns c =
    let a = c.args in
    let cs = commands a.xs.now a.ys.now a.kinds.now in
    let ts = threads_of a.threads.now in
    let e = ap (λ (n : ℕ). 22 + n) c.blocks_len-long.ensures.0 ∙ start-long cs ts a.z c.requires.measures in
    let part = c.write_pec.ensures in (
      put_as (put-put c.put_start-blocks.ensures (put-put c.write_pes_blocks-part.ensures part.0))
          (file-as a.name.now cs ts e),
      part.1,
    )
