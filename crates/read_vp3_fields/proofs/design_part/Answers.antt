-- Each field leads to the next.
use Rattle.std.proofs.Common.{◌∙◌}
use Rattle.rules.specs.Vp3.{skip, in_design_part}
use Rattle.laws.specs.Exits.{exit}
use Rattle.read_vp3_fields.proofs.Within.{fixed-err, fixed-ok, refused}
use Rattle.read_vp3_fields.proofs.design_part.Goals as goal

pub returns-in_err-first : goal.returns-in_err-first
unfolding in_design_part skip
returns-in_err-first c = let h = c.requires.1 in
    rw (exit c.from_residual.ensures.1) (refused (fixed-err _ _ _ h 35 c.requires.0 _ c.in_err-first.ensures))

pub returns-in_err-numbers : goal.returns-in_err-numbers
unfolding in_design_part skip
returns-in_err-numbers c = let h = c.requires.1 in
    rw (exit c.from_residual-in_err-numbers.ensures.1)
    (refused (fixed-ok _ _ _ h 35 _ c.in_ok-first.ensures ∙ c.in_err-numbers.ensures.tells _))

pub returns-in_err-second : goal.returns-in_err-second
unfolding in_design_part skip
returns-in_err-second c = let h = c.requires.1 in
    rw (exit c.from_residual-in_err-second.ensures.1)
    (refused (fixed-ok _ _ _ h 35 _ c.in_ok-first.ensures ∙ c.in_ok-numbers.ensures.tells _
    ∙ fixed-err _ _ _ h 24 c.in_ok-numbers.ensures.lies.1 _ c.in_err-second.ensures))

pub returns-in_err-count : goal.returns-in_err-count
unfolding in_design_part skip
returns-in_err-count c = let h = c.requires.1 in
    rw (exit c.from_residual-in_err-count.ensures.1)
    (refused (fixed-ok _ _ _ h 35 _ c.in_ok-first.ensures ∙ c.in_ok-numbers.ensures.tells _
    ∙ fixed-ok _ _ _ h 24 _ c.in_ok-second.ensures ∙ c.in_err-count.ensures.tells _))

pub returns-in_err-skip : goal.returns-in_err-skip
unfolding in_design_part skip
returns-in_err-skip c = let h = c.requires.1 in
    rw (exit c.from_residual-in_err-skip.ensures.1)
    (refused (fixed-ok _ _ _ h 35 _ c.in_ok-first.ensures ∙ c.in_ok-numbers.ensures.tells _
    ∙ fixed-ok _ _ _ h 24 _ c.in_ok-second.ensures ∙ c.in_ok-count.ensures.tells _
    ∙ fixed-err _ _ _ h 2 c.in_ok-count.ensures.lies.1 _ c.in_err-skip.ensures))

pub returns : goal.returns
unfolding in_design_part skip
returns c = let h = c.requires.1 in
    record {
      lies = (c.in_ok-skip.ensures.1, h);
      tells = fixed-ok _ _ _ h 35 _ c.in_ok-first.ensures ∙ c.in_ok-numbers.ensures.tells _
          ∙ fixed-ok _ _ _ h 24 _ c.in_ok-second.ensures ∙ c.in_ok-count.ensures.tells _
          ∙ fixed-ok _ _ _ h 2 _ c.in_ok-skip.ensures ∙ rw (← c.be16.ensures.0);
    }
