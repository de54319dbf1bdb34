-- The place where the opening accepts, and else its refusal. Assumes nothing.
use Rattle.std.specs.Prelude.{◌≡◌, Err}
use borrow.Author.Rules.{rules}
use mathlib.Core.Path.{sym, ◌∙◌}
use Rattle.read_refusals.proofs.Labels.{no_label, its-label}
use Rattle.read_refusals.proofs.label_answer_in.Goals as goal

pub returns : goal.returns
returns c = its-label _ _ (sym c.front.ensures ∙ c.in_ok-head.was) c.label_of_at.ensures

pub returns-in_err-head : goal.returns-in_err-head
returns-in_err-head c =
    let e : c.from_residual.result ≡ Err c.in_err-head.field-0.0 = search rules in
    rw e (no_label _ _ (sym c.front.ensures ∙ c.in_err-head.was))
