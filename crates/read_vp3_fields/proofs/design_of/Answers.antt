-- Each field leads to the next, from behind the opening.
use Rattle.std.proofs.Common.{◌≤◌, ◌∙◌, length, arith}
use Rattle.rules.specs.Vp3.{skip}
use Rattle.laws.specs.Exits.{exit}
use Rattle.read_vp3_fields.proofs.Within.{opened, fixed-err, fixed-ok, told, refused}
use Rattle.read_vp3_fields.proofs.design_of.Goals as goal

pub returns-in_err-producer : goal.returns-in_err-producer
returns-in_err-producer c = rw (exit c.from_residual.ensures.1) (refused (opened c.in_err-producer.ensures))

pub returns-in_err-rest : goal.returns-in_err-rest
unfolding skip
returns-in_err-rest c = let s = c.args.file.now in let h : length s ≤ length s = omega arith in
    rw (exit c.from_residual-in_err-rest.ensures.1)
    (refused (opened c.in_ok-producer.ensures ∙ fixed-err _ _ _ h 3 c.in_ok-producer.ensures.lies.1 _ c.in_err-rest.ensures))

pub returns-in_err-part : goal.returns-in_err-part
unfolding skip
returns-in_err-part c = let s = c.args.file.now in let h : length s ≤ length s = omega arith in
    rw (exit c.from_residual-in_err-part.ensures.1)
    (refused (opened c.in_ok-producer.ensures ∙ fixed-ok _ _ _ h 3 _ c.in_ok-rest.ensures ∙ c.in_err-part.ensures.tells _))

pub returns : goal.returns
unfolding skip
returns c = let s = c.args.file.now in let h : length s ≤ length s = omega arith in
    told (opened c.in_ok-producer.ensures ∙ fixed-ok _ _ _ h 3 _ c.in_ok-rest.ensures ∙ c.in_ok-part.ensures.tells _) c.file_part.ensures
