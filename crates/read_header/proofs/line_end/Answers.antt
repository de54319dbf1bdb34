-- The line ends where the first byte stands that ends one. Assumes nothing.
use Prim.Native.Nat.{◌+◌, ◌-◌}
use mathlib.Core.Path.{◌≡◌, ap, ◌∙◌}
use native.Mathlib.Omega.{arith}
use lib.ListN.{take, drop, length}
use borrow.Author.Rules.{rules}
use Rattle.std.proofs.lemmas.Iterator.{YieldsList-from_slice}
use Rattle.std.proofs.lemmas.Iterator.Search.{position_from_yields_List}
use Rattle.std.specs.List.{position, position_or_len}
use Rattle.read_header.proofs.Texts.{take_rest}
use Rattle.read_header.proofs.Scans.{first}
use Rattle.read_header.proofs.Lines.{ends_line, line_at}
use Rattle.read_header.proofs.line_end.Goals as goal

pub returns : goal.returns
returns c = let a = c.args in
    let t = take (length a.s.now - a.at) (drop a.at a.s.now) in
    let e : c.position.result ≡ position ends_line t =
    position_from_yields_List ends_line _ _ _ c.position.ensures.ran (YieldsList-from_slice t cc) (λ x b q k. search rules) in
    line_at _ _ c.requires (ap (λ x. a.at + x) (first ends_line t e c.unwrap_or.ensures ∙ ap (position_or_len ends_line) (take_rest _ a.at a.s.now (omega arith))))
