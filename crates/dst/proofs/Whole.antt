-- The whole file: 125 bytes of text, 387 blanks, the records. Assumes nothing.
use Prim.Native.Nat.{ℕ, ◌+◌}
use mathlib.Core.Path.{◌≡◌}
use mathlib.Core.List.{List, ◌++◌, append_assoc}
use native.Mathlib.Omega.{arith}
use lib.IntN.{pos, nat_abs, neg_ℤ}
use lib.ListN.{length, replicate, length-append, length-replicate}
use Rattle.rules.specs.Dst.{dst_text, dst_file, record_count}
use Rattle.rules.specs.Lists.{written, op_of, is_change, min_x, min_y, max_x, max_y, last_x, last_y}
use Rattle.rules.specs.Vocabulary.{joined, padded, count}
use Rattle.rules.specs.declared.Cmd.{Cmd}
use Rattle.stream_cmd.specs.declared.Stream.TheVariants.{Dst}
use Rattle.stream_cmd.specs.Cmds.{cmd_of}
use Rattle.dst.proofs.Lines.{length-line, number-line, signed-line}
use Rattle.dst.proofs.Text.{length_label}

pub length-text : (name : List ℕ) (cs : List Cmd) → length (dst_text name cs) ≡ 125
unfolding dst_text joined
length-text name cs =
    simp (
      length-append,
      length_label name,
      number-line 0x53 0x54 7 (record_count cs),
      number-line 0x43 0x4F 3 (count (λ (c : Cmd). is_change (op_of c.kind)) cs),
      number-line 0x2B 0x58 5 (nat_abs (max_x cs)),
      number-line 0x2D 0x58 5 (nat_abs (min_x cs)),
      number-line 0x2B 0x59 5 (nat_abs (max_y cs)),
      number-line 0x2D 0x59 5 (nat_abs (min_y cs)),
      signed-line 0x41 0x58 (last_x cs),
      signed-line 0x41 0x59 (neg_ℤ (last_y cs)),
      signed-line 0x4D 0x58 (pos 0),
      signed-line 0x4D 0x59 (pos 0),
      length-line 0x50 0x44 (replicate 6 0x2A),
    )

module _ (name : List ℕ) (cs : List Cmd) where
  abbrev stitches : List ℕ
  stitches = written (cmd_of Dst) (pos 0) (pos 0) cs

  pub file-is : dst_text name cs ++ (replicate 387 0x20 ++ stitches) ≡ dst_file name cs
  unfolding dst_file padded
  file-is = rw (length-text name cs, append_assoc)

  pub length-file : length (dst_file name cs) ≡ 512 + length stitches
  length-file = rw (← file-is) (simp (length-append, length-replicate) (omega (arith, length-text name cs)))
