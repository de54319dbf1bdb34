-- `edge` meets its contract. Assumes nothing.
use mathlib.Core.Path.{refl}
use mathlib.Core.Logic.{⊎_elim, inl, inr}
use native.Mathlib.Omega.{arith}
use borrow.Author.Tests.{ne_eqb}
use Rattle.pec_data.specs.Border.{edge_of}
use Rattle.pec_data.proofs.edge.Goals as goal

pub returns-in-2 : goal.returns-in-2
unfolding edge_of
returns-in-2 c = ⊎_elim (λ e. rw e (refl, omega arith)) (λ e. rw e (refl, omega arith)) c.in-2.is

pub returns-in-3 : goal.returns-in-3
unfolding edge_of
returns-in-3 c = ⊎_elim (λ e. rw e (refl, omega arith)) (λ e. rw e (refl, omega arith)) c.in-3.is

pub returns-in_default : goal.returns-in_default
unfolding edge_of
returns-in_default c = let row = c.args.row in (
  rw (
    ne_eqb row 2 (λ e. c.in_default.in_default-own.rest.0.1 (inl e)),
    ne_eqb row 35 (λ e. c.in_default.in_default-own.rest.0.1 (inr e)),
    ne_eqb row 3 (λ e. c.in_default.in_default-own.rest.1 (inl e)),
    ne_eqb row 34 (λ e. c.in_default.in_default-own.rest.1 (inr e)),
  ),
  omega arith,
)
