-- What a `?` returns. Assumes nothing.
use Rattle.std.specs.Prelude.{◌≡◌, Err, Result}
use Rattle.std.specs.Result.{IsErrAnd}
use Rattle.std.proofs.Common.{◌∙◌, ap}
use Rattle.std.proofs.lemmas.Result.{err_from_is_err_and}

-- the refusal of the call goes up as it is
pub exit : {T E : Type 0} {r : Result T E} {e : E} → IsErrAnd r (λ y. y ≡ e) → r ≡ Err e
exit {r = r} h = let p = err_from_is_err_and r h in p.1 ∙ ap Err p.2
