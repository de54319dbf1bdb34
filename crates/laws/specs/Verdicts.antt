-- Tables of refusals: what an accepted one says, and two in a row. Assumes nothing.
use Rattle.std.specs.Prelude.{◌≡◌, refl, Bool, true, false, List, [], ◌∷◌, ◌++◌, ℕ, Ok, Err, Result, ⊤}
use Rattle.std.proofs.Common.{sym, arith}
use Rattle.rules.specs.Refusals.{verdict}
use Rattle.rules.specs.Vocabulary.{pick}
use Rattle.rules.specs.declared.Refusal.{Refusal}

pub never_both : {r : Refusal} → ◌≡◌ {A = Result ⊤ Refusal} (Err r) (Ok tt) → ⊥
never_both e = let z : ◌≡◌ {A = ℕ} 0 1 = cc in omega arith

-- an accepted table: its first condition does not hold, and the rest is accepted
pub first-false : (b : Bool) (r : Refusal) (v : Result ⊤ Refusal) → pick b (Err r) v ≡ Ok tt → (b ≡ false) × (v ≡ Ok tt)
first-false true r v e = absurd (never_both e)
first-false false r v e = (refl, e)

-- the second table decides where the first accepts, and only there
pub verdict-on : (rs bs : List (Refusal × Bool)) → verdict rs ≡ Ok tt → verdict (rs ++ bs) ≡ verdict bs
unfolding verdict
verdict-on [] bs e = refl
verdict-on (r ∷ rs) bs e = let p = first-false r.1 r.0 (verdict rs) e in rw p.0 (verdict-on rs bs p.1)

stop-first : (t : Bool) (r s : Refusal) (v w : Result ⊤ Refusal) → (v ≡ Err s → w ≡ Err s) → pick t (Err r) v ≡ Err s → pick t (Err r) w ≡ Err s
stop-first true r s v w h e = e
stop-first false r s v w h e = h e

pub verdict-stop : (rs bs : List (Refusal × Bool)) (s : Refusal) → verdict rs ≡ Err s → verdict (rs ++ bs) ≡ Err s
unfolding verdict
verdict-stop [] bs s e = absurd (never_both (sym e))
verdict-stop (r ∷ rs) bs s e = stop-first r.1 r.0 s (verdict rs) (verdict (rs ++ bs)) (verdict-stop rs bs s) e
