-- A VP3 file begins as one, and the first pass finds no fault in it. Assumes nothing.
use mathlib.Core.Path.{◌≡◌, sym, ◌∙◌}
use mathlib.Core.Bool.{true}
use Rattle.rules.specs.Text.{begins}
use Rattle.rules.specs.Vp3.{vp3_opening}
use Rattle.laws.specs.Prefixes.{begins-starts}
use Rattle.read_refusals.proofs.Checked.{vp3-unlike, vp3-opened, vp3-sound, vp3-faulty}
use Rattle.read_refusals.proofs.vp3_front.Goals as goal

pub check-requires : goal.check-requires
unfolding vp3_opening
check-requires c =
    let like : begins vp3_opening c.args.file.now ≡ true = sym (c.starts_with.ensures.value ∙ begins-starts _ _) ∙ c.if-starts_with.true in
    (vp3-opened _ like, c.requires)

pub returns-in-Ok : goal.returns-in-Ok
unfolding vp3_opening
returns-in-Ok c =
    let like : begins vp3_opening c.args.file.now ≡ true = sym (c.starts_with.ensures.value ∙ begins-starts _ _) ∙ c.if-starts_with.true in
    let w = rw c.in-Ok.is at c.check.ensures in
    vp3-sound _ like w.0 w.1

pub returns-in-Err : goal.returns-in-Err
unfolding vp3_opening
returns-in-Err c =
    let like : begins vp3_opening c.args.file.now ≡ true = sym (c.starts_with.ensures.value ∙ begins-starts _ _) ∙ c.if-starts_with.true in
    vp3-faulty _ like (rw c.in-Err.is at c.check.ensures)

pub returns : goal.returns
unfolding vp3_opening
returns c = vp3-unlike _ (sym (c.starts_with.ensures.value ∙ begins-starts _ _) ∙ c.if-starts_with.false)
