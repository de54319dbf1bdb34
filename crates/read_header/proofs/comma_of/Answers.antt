-- The text before the first comma. Assumes nothing.
use mathlib.Core.Path.{◌≡◌}
use lib.Dec.{eqb}
use borrow.Author.Rules.{rules}
use Rattle.std.proofs.lemmas.Iterator.{YieldsList-from_slice}
use Rattle.std.proofs.lemmas.Iterator.Search.{position_from_yields_List}
use Rattle.std.specs.List.{position}
use Rattle.read_header.proofs.Scans.{until-inside, first, comma-before}
use Rattle.read_header.proofs.comma_of.Goals as goal

pub returns : goal.returns
returns c = let s = c.args.s.now in
    let e : c.position.result ≡ position (λ b. eqb b 0x2C) s =
    position_from_yields_List (λ b. eqb b 0x2C) _ _ _ c.position.ensures.ran (YieldsList-from_slice s cc) (λ x b q k. search rules) in
    rw (first (λ b. eqb b 0x2C) s e c.unwrap_or.ensures) (until-inside _ _, comma-before _)
