-- Which record stands first in a row of records, by the format that the row is of.
use Rattle.std.specs.Prelude.{Bool, true, false, List, ℕ}
use Rattle.rules.specs.Vocabulary.{pick}
use Rattle.rules.specs.Dst.{dst_first}
use Rattle.rules.specs.Pec.{pec_first}
use Rattle.rules.specs.Exp.{pair_first}
use Rattle.read_records.specs.declared.Row.{Row}
use Rattle.read_records.specs.declared.Row.TheVariants.{Pec, Dst, Exp, Jef}
use Rattle.rules.specs.declared.Record.{Record}

unfoldable pub first_record_of : Row → List ℕ → Record
first_record_of Pec s = pec_first s
first_record_of Dst s = dst_first s
first_record_of Exp s = pair_first false s
first_record_of Jef s = pair_first true s

-- the row of EXP or of JEF
abbrev pub pair_row : Bool → Row
pair_row jef = pick jef Jef Exp
