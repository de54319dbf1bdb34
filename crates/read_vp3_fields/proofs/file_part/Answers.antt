-- Each field leads to the next.
use Rattle.std.proofs.Common.{◌∙◌}
use Rattle.rules.specs.Vp3.{skip, in_file_part}
use Rattle.laws.specs.Exits.{exit}
use Rattle.read_vp3_fields.proofs.Within.{fixed-err, fixed-ok, told, refused}
use Rattle.read_vp3_fields.proofs.file_part.Goals as goal

pub returns-in_err-sizes : goal.returns-in_err-sizes
unfolding in_file_part
returns-in_err-sizes c = rw (exit c.from_residual.ensures.1) (refused (c.in_err-sizes.ensures.tells _))

pub returns-in_err-design : goal.returns-in_err-design
unfolding in_file_part skip
returns-in_err-design c = let h = c.requires.1 in
    rw (exit c.from_residual-in_err-design.ensures.1)
    (refused (c.in_ok-sizes.ensures.tells _ ∙ fixed-err _ _ _ h 28 c.in_ok-sizes.ensures.lies.1 _ c.in_err-design.ensures))

pub returns-in_err-part : goal.returns-in_err-part
unfolding in_file_part skip
returns-in_err-part c = let h = c.requires.1 in
    rw (exit c.from_residual-in_err-part.ensures.1)
    (refused (c.in_ok-sizes.ensures.tells _ ∙ fixed-ok _ _ _ h 28 _ c.in_ok-design.ensures ∙ c.in_err-part.ensures.tells _))

pub returns : goal.returns
unfolding in_file_part skip
returns c = let h = c.requires.1 in
    told (c.in_ok-sizes.ensures.tells _ ∙ fixed-ok _ _ _ h 28 _ c.in_ok-design.ensures ∙ c.in_ok-part.ensures.tells _) c.design_part.ensures
