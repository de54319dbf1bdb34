-- The label, the colours and the blanks.
use mathlib.Core.Path.{sym}
use native.Mathlib.Omega.{arith}
use Rattle.rules.specs.Lists.{threads_of}
use Rattle.laws.specs.Buffers.{put_as, put-put}
use Rattle.laws.specs.Threads.{length-threads}
use Rattle.pec_part.proofs.Whole.{length_label, length-entries, header-as}
use Rattle.pec_part.proofs.put_header.Goals as goal

pub put_colors-fill-requires : goal.put_colors-fill-requires
put_colors-fill-requires c = let put-label = c.put_label-colors in
    let a = c.args in
    record { threads_len_bound = c.requires.threads_len_bound; threads_in_bounds = omega (arith, c.requires, put-label.ensures.same, length_label a.name.now, length-threads a.threads.now) }

pub put_fill-requires : goal.put_fill-requires
put_fill-requires c = let a = c.args in record {
  n_bound = omega (arith, c.requires);
  n_in_bounds = omega (
    arith,
    c.requires,
    c.put_label-colors.ensures.same,
    c.put_colors-fill.ensures.0.same,
    length_label a.name.now,
    length-entries (threads_of a.threads.now),
    length-threads a.threads.now,
  );
}

pub returns : goal.returns
returns c =
    let a = c.args in
    let colors = c.put_colors-fill.ensures in (
      put_as (put-put c.put_label-colors.ensures (put-put colors.0 c.put_fill.ensures))
          (header-as a.name.now (threads_of a.threads.now) (sym (length-threads a.threads.now))),
      colors.1,
    )
