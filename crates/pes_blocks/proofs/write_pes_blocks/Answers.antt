-- What stands before the sections, the sections, and what stands behind them.
use native.Mathlib.Omega.{arith}
use Rattle.rules.specs.Lists.{commands, threads_of}
use Rattle.laws.specs.Places.{small_width, small-height}
use Rattle.geom.proofs.Sizes.{width_is, height-is}
use Rattle.pes_blocks.proofs.Whole.{left_is, bottom-is, near-start, near-all, blocks-put, room-frame, room-sections, room-end}
use borrow.Author.Rules.{rules}
use Rattle.pes_blocks.proofs.write_pes_blocks.Goals as goal

pub put_frame-first-requires : goal.put_frame-first-requires
put_frame-first-requires c = let a = c.args in
    let cs = commands a.xs.now a.ys.now a.kinds.now in
    let ts = threads_of a.threads.now in
    let w = width_is cs c.requires.b_value (search (
      rules,
      c.struct_told-1.given,
    )) (search (
      rules,
      c.struct_told-2-1.given,
    )) c.spread-w.ensures in
    let h = height-is cs c.requires.b_value (search (
      rules,
      c.struct_told-3-1.given,
    )) (search (rules, c.struct_told-4-1.given)) c.spread-h.ensures in
    let p = small_width cs c.requires.kinds_len_bound.1 in
    let q = small-height cs c.requires.kinds_len_bound.1 in
    record { w_bound = (omega arith, omega arith); at_in_bounds = room-frame cs ts a.out.now a.at c.requires.threads_in_bounds }

pub put_sections-end-requires : goal.put_sections-end-requires
put_sections-end-requires c = let a = c.args in
    let cs = commands a.xs.now a.ys.now a.kinds.now in
    let ts = threads_of a.threads.now in
    let l = left_is cs c.requires.b_value (search (rules, c.struct_told-1.given)) in
    let b = bottom-is cs c.requires.b_value (search (rules, c.struct_told-4-1.given)) in record {
      coded = c.requires.coded;
      kinds_len_bound = (
        c.requires.kinds_len_bound.0,
        (
          near-start cs c.requires.kinds_len_bound.1 l b,
          near-all cs c.requires.kinds_len_bound.1 l b,
        ),
      );
      kinds_in_bounds = room-sections cs ts a.out.now a.at c.requires.threads_in_bounds c.spread-w.result c.spread-h.result a.z.sections
          c.put_frame-first.ensures l b;
    }

pub put_end-requires : goal.put_end-requires
put_end-requires c = let a = c.args in
    let cs = commands a.xs.now a.ys.now a.kinds.now in
    let ts = threads_of a.threads.now in
    let l = left_is cs c.requires.b_value (search (
      rules,
      c.struct_told-1.given,
    )) in
    let b = bottom-is cs c.requires.b_value (search (
      rules,
      c.struct_told-4-1.given,
    )) in record { coded = c.requires.coded; kinds_len_bound = c.requires.kinds_len_bound.0; kinds_in_bounds = room-end cs ts a.out.now a.at c.requires.threads_in_bounds c.spread-w.result c.spread-h.result a.z.sections c.put_frame-first.ensures l b c.put_sections-end.ensures a.z.logged }

pub returns : goal.returns
returns c = let a = c.args in
    let cs = commands a.xs.now a.ys.now a.kinds.now in
    let ts = threads_of a.threads.now in
    let w = width_is cs c.requires.b_value (search (
      rules,
      c.struct_told-1.given,
    )) (search (
      rules,
      c.struct_told-2-1.given,
    )) c.spread-w.ensures in
    let h = height-is cs c.requires.b_value (search (
      rules,
      c.struct_told-3-1.given,
    )) (search (
      rules,
      c.struct_told-4-1.given,
    )) c.spread-h.ensures in
    let l = left_is cs c.requires.b_value (search (
      rules,
      c.struct_told-1.given,
    )) in
    let b = bottom-is cs c.requires.b_value (search (
      rules,
      c.struct_told-4-1.given,
    )) in
    let m = c.requires.measures in
    blocks-put cs ts a.z.logged w h m.count m.log l b c.put_frame-first.ensures c.put_sections-end.ensures c.put_end.ensures
