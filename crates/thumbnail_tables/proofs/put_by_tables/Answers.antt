-- The tables hold the cells of all places, so what they draw is what the definition draws.
use Rattle.std.proofs.Common.{ℕ, [], ◌∙◌, to_z-of_z}
use lib.ListN.{length-replicate}
use Rattle.rules.specs.Lists.{commands}
use Rattle.laws.specs.Buffers.{put_as}
use Rattle.thumbnail_tables.proofs.Looked.{all-inside, blocks-told, pictures-told}
use Rattle.thumbnail_tables.proofs.put_by_tables.Goals as goal

pub fill-requires-4 : goal.fill-requires-4
fill-requires-4 c =
    (rw (to_z-of_z c.ranges.top) c.requires.left_bound.1.0, (c.requires.left_bound.1.1, rw (length-replicate {A = ℕ} 32768 0) c.requires.left_bound.1.1))

pub draw_looked-requires : goal.draw_looked-requires
draw_looked-requires c = let fill4 = c.fill-4 in
    let fill3 = c.fill-3 in
    let fill2 = c.fill-2 in let fill = c.fill in
    let a = c.args in
    let cs = commands a.xs.now a.ys.now a.kinds.now in
    let l = to_z-of_z c.ranges.left in
    let t = to_z-of_z c.ranges.top in
    let f1 = rw l at fill.ensures.1 in
    let f2 = rw t at fill2.ensures.1 in
    let f3 = rw l at fill3.ensures.1 in
    let f4 = rw t at fill4.ensures.1 in
    let inside = all-inside a.whole.scale a.whole.tx a.whole.scale a.whole.ty a.left a.top a.w a.h fill.new.table
    fill2.new.table (rw (fill.ensures.0 ∙ length-replicate {A = ℕ} 32768 0) c.requires.left_bound.0.1)
    (rw (fill2.ensures.0 ∙ length-replicate {A = ℕ} 32768 0) c.requires.left_bound.1.1) f1 f2 in
    let binside = all-inside a.part.scale a.part.tx a.part.scale a.part.ty a.left a.top a.w a.h fill3.new.table
    fill4.new.table (rw (fill3.ensures.0 ∙ length-replicate {A = ℕ} 32768 0) c.requires.left_bound.0.1)
    (rw (fill4.ensures.0 ∙ length-replicate {A = ℕ} 32768 0) c.requires.left_bound.1.1) f3 f4 in
    record {
      left_bound = rw (l, t) c.requires.left_bound;
      all_inside = (inside, binside);
      framed = rw (l, t) c.requires.framed;
      kinds_in_bounds = rw (l, t, blocks-told [] [] _ _ a.left a.top a.w a.h cs c.requires.framed a.part f3 f4) c.requires.kinds_in_bounds;
    }

pub returns : goal.returns
returns c = let fill4 = c.fill-4 in
    let fill3 = c.fill-3 in let fill2 = c.fill-2 in
    let fill = c.fill in
    let a = c.args in
    let cs = commands a.xs.now a.ys.now a.kinds.now in
    let l = to_z-of_z c.ranges.left in
    let t = to_z-of_z c.ranges.top in
    let f1 = rw l at fill.ensures.1 in
    let f2 = rw t at fill2.ensures.1 in
    let f3 = rw l at fill3.ensures.1 in
    let f4 = rw t at fill4.ensures.1 in
    put_as (rw (l, t) at c.draw_looked.ensures) (pictures-told _ _ _ _ a.left a.top a.w a.h cs c.requires.framed a.part f3 f4 a.whole f1 f2)
