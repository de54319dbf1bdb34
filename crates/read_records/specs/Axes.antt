-- The code's `Axis` as that of the definitions.
use Rattle.rules.specs.Pec.{Axis as Defined, axis, none}
use Rattle.read_records.specs.declared.steps.Axis.{Axis}
use Rattle.read_records.specs.declared.steps.Axis.TheVariants.{Step, Missing}

abbrev pub axis_from : Axis → Defined
axis_from (Step marked step len) = axis marked step len
axis_from Missing = none
