-- A stitch of the two formats whose steps are pairs: its bytes, and its range. Assumes nothing.
use mathlib.Core.Path.{◌≡◌, refl}
use mathlib.Core.Bool.{Bool, true, false}
use lib.IntN.{ℤ}
use Rattle.rules.specs.Exp.{pair_of, exp_cmd}
use Rattle.rules.specs.Jef.{jef_cmd}
use Rattle.stream_cmd.specs.declared.Stream.TheVariants.{Exp}
use Rattle.rules.specs.declared.Op.TheVariants.{Stitch}
use Rattle.stream_cmd.specs.Cmds.{cmd_of, pair_stream, most, Step}

pub stitch-pair : (jef : Bool) (dx dy : ℤ) → cmd_of (pair_stream jef) Stitch dx dy ≡ pair_of dx dy
unfolding exp_cmd jef_cmd
stitch-pair true dx dy = refl
stitch-pair false dx dy = refl

pub pair_step : (jef : Bool) {dx dy : ℤ} → Step (pair_stream jef) dx dy → Step Exp dx dy
unfolding most
pair_step true p = record { x = p.x; y = p.y }
pair_step false p = p
