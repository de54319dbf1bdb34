-- The colour blocks by where they end.
use Rattle.std.specs.Prelude.{ℕ, suc, List, [], ◌∷◌}
use Rattle.rules.specs.Lists.{op_of, is_change}
use Rattle.rules.specs.Vocabulary.{pick}
use Rattle.rules.specs.declared.Cmd.{Cmd}

-- how many commands stand before the first colour change; all of them where there is none
unfoldable pub change_from : List Cmd → ℕ
change_from [] = 0
change_from (c ∷ cs) = pick (is_change (op_of c.kind)) 0 (suc (change_from cs))
