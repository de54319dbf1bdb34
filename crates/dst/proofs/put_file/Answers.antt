-- Three parts.
use native.Mathlib.Omega.{arith}
use Prim.Native.Nat.{ℕ}
use lib.ListN.{length-replicate}
use Rattle.rules.specs.Lists.{commands}
use Rattle.laws.specs.Buffers.{put-put, put_as}
use Rattle.dst.proofs.Whole.{length-text, file-is, length-file}
use Rattle.dst.proofs.put_file.Goals as goal

pub put_text_of-blanks-requires : goal.put_text_of-blanks-requires
put_text_of-blanks-requires c = let a = c.args in
    let cs = commands a.xs.now a.ys.now a.kinds.now in
    (c.requires.kinds_len_bound.0, omega (arith, length-file a.name.now cs, c.requires.kinds_in_bounds))

pub put_blanks-records-requires : goal.put_blanks-records-requires
put_blanks-records-requires c = let put-text-of = c.put_text_of-blanks in
    let a = c.args in
    let cs = commands a.xs.now a.ys.now a.kinds.now in
    omega (arith, length-file a.name.now cs, length-text a.name.now cs, put-text-of.ensures.ends, put-text-of.ensures.same, c.requires.kinds_in_bounds)

pub put_stream-requires : goal.put_stream-requires
put_stream-requires c = let put-blanks = c.put_blanks-records in
    let put-text-of = c.put_text_of-blanks in
    let a = c.args in
    let cs = commands a.xs.now a.ys.now a.kinds.now in record {
      kinds_value = c.requires.kinds_len_bound.1;
      kinds_in_bounds = omega (
        arith,
        length-file a.name.now cs,
        length-text a.name.now cs,
        put-text-of.ensures.ends,
        put-text-of.ensures.same,
        put-blanks.ensures.ends,
        put-blanks.ensures.same,
        length-replicate {A = ℕ} 387 0x20,
        c.requires.kinds_in_bounds,
      );
    }

pub returns : goal.returns
returns c = let put-blanks = c.put_blanks-records in
    let put-text-of = c.put_text_of-blanks in
    let a = c.args in
    put_as (put-put put-text-of.ensures (put-put put-blanks.ensures c.put_stream.ensures))
    (file-is a.name.now (commands a.xs.now a.ys.now a.kinds.now))
