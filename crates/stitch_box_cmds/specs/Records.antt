-- A write of a list of n commands, the first m of which stand at the front of three slices.
use Rattle.std.specs.Prelude.{ℕ, ◌≡◌, Bool, true, false, List, ltb, ℤ, take, Some, Err, Result}
use Rattle.std.proofs.lemmas.List.Edits.{sets}
use Rattle.rules.specs.Promises.{xs_of, ys_of, kinds_of, Wrote}
use Rattle.rules.specs.declared.Cmd.{Cmd}
use Rattle.rules.specs.declared.Format.{Format}
use Rattle.rules.specs.declared.Refusal.TheVariants.{BadList}
use Rattle.rules.specs.declared.Written.{Written}
use Rattle.rules.specs.declared.Refusal.{Refusal}

-- three slices before, and with the numbers of cs stored at their fronts
abbrev pub Unpacked : List Cmd → List ℤ → List ℤ → List ℕ → List ℤ → List ℤ → List ℕ → Type 0
Unpacked cs xs ys kinds xs' ys' kinds' = (xs' ≡ sets xs 0 (xs_of cs)) × (ys' ≡ sets ys 0 (ys_of cs)) × (kinds' ≡ sets kinds 0 (kinds_of cs))

-- some are missing: 6, and the buffer is as it was
abbrev pub FrontBy : Bool → Format → List ℕ → ℕ → List ℤ → List ℤ → List ℕ → List ℕ → List ℕ → List ℕ → Result Written Refusal → Type 0
FrontBy true f name m xs ys kinds threads out out' w = (w ≡ Err BadList) × (out' ≡ out)
FrontBy false f name m xs ys kinds threads out out' w = Wrote (Some f) name (take m xs) (take m ys) (take m kinds) threads out out' w

abbrev pub WroteFront : Format → List ℕ → ℕ → ℕ → List ℤ → List ℤ → List ℕ → List ℕ → List ℕ → List ℕ → Result Written Refusal → Type 0
WroteFront f name n m xs ys kinds threads out out' w = FrontBy (ltb m n) f name m xs ys kinds threads out out' w
