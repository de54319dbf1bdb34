-- The opening decides, and then the records.
use Rattle.std.specs.Prelude.{◌≡◌, Err}
use borrow.Author.Rules.{rules}
use mathlib.Core.Path.{sym, ◌∙◌}
use Rattle.read.proofs.Openings.{opened, not-read, has-read}
use Rattle.read.proofs.read_stitch_file.Goals as goal

pub read_part-requires : goal.read_part-requires
read_part-requires c = opened _ _ (sym c.front.ensures ∙ c.in_ok-head.was)

pub returns : goal.returns
returns c = has-read _ _ (sym c.front.ensures ∙ c.in_ok-head.was) c.read_part.ensures

pub returns-in_err-head : goal.returns-in_err-head
returns-in_err-head c =
    let e : c.from_residual.result ≡ Err c.in_err-head.field-0.0 = search rules in
    rw e (not-read _ _ (sym c.front.ensures ∙ c.in_err-head.was))
