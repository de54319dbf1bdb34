-- The text from the first byte that is no blank. Assumes nothing.
use mathlib.Core.Path.{◌≡◌}
use mathlib.Core.Bool.{not}
use borrow.Author.Rules.{rules}
use Rattle.std.proofs.lemmas.Iterator.{YieldsList-from_slice}
use Rattle.std.proofs.lemmas.Iterator.Search.{position_from_yields_List}
use Rattle.std.specs.List.{position}
use Rattle.rules.specs.Text.{blank}
use Rattle.read_header.proofs.Scans.{until-inside, first, start_left}
use Rattle.read_header.proofs.start_of.Goals as goal

pub returns : goal.returns
returns c = let s = c.args.s.now in
    let e : c.position.result ≡ position (λ b. not (blank b)) s =
    position_from_yields_List (λ b. not (blank b)) _ _ _ c.position.ensures.ran (YieldsList-from_slice s cc) (λ x b q k. search rules) in
    rw (first (λ b. not (blank b)) s e c.unwrap_or.ensures) (until-inside _ _, start_left _)
