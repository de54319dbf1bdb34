-- The text from the first byte that is no `#`. Assumes nothing.
use mathlib.Core.Path.{◌≡◌}
use mathlib.Core.Bool.{not}
use lib.Dec.{eqb}
use borrow.Author.Rules.{rules}
use Rattle.std.proofs.lemmas.Iterator.{YieldsList-from_slice}
use Rattle.std.proofs.lemmas.Iterator.Search.{position_from_yields_List}
use Rattle.std.specs.List.{position}
use Rattle.read_header.proofs.Scans.{until-inside, first, hashes-left}
use Rattle.read_header.proofs.hashes_of.Goals as goal

pub returns : goal.returns
returns c = let s = c.args.s.now in
    let e : c.position.result ≡ position (λ b. not (eqb b 0x23)) s =
    position_from_yields_List (λ b. not (eqb b 0x23)) _ _ _ c.position.ensures.ran (YieldsList-from_slice s cc) (λ x b q k. search rules) in
    rw (first (λ b. not (eqb b 0x23)) s e c.unwrap_or.ensures) (until-inside _ _, hashes-left _)
