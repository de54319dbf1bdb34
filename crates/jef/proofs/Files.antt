-- How long a JEF file is. Assumes nothing.
use Prim.Native.Nat.{◌+◌, ◌*◌}
use mathlib.Core.Path.{◌≡◌}
use mathlib.Core.List.{List}
use native.Mathlib.Omega.{arith}
use lib.IntN.{pos}
use lib.ListN.{length, length-append}
use Rattle.rules.specs.Jef.{jef_table, jef_header, jef_file}
use Rattle.rules.specs.Lists.{written}
use Rattle.rules.specs.declared.Cmd.{Cmd}
use Rattle.rules.specs.declared.Color.{Color}
use Rattle.stream_cmd.specs.declared.Stream.TheVariants.{Jef}
use Rattle.stream_cmd.specs.Cmds.{cmd_of}
use Rattle.jef.proofs.Parts.{length-header}

pub length-file : (cs : List Cmd) (ts : List Color) → length (jef_file cs ts) ≡ length (jef_header cs ts) + length (written (cmd_of Jef) (pos 0) (pos 0) cs)
unfolding jef_file
length-file cs ts = length-append (jef_header cs ts) (written (cmd_of Jef) (pos 0) (pos 0) cs)

pub file-long : (cs : List Cmd) (ts : List Color) → length (jef_file cs ts) ≡ 116 + 8 * length (jef_table ts) + length (written (cmd_of Jef) (pos 0) (pos 0) cs)
file-long cs ts = omega (arith, length-file cs ts, length-header cs ts)
