-- Within 32 bits, or beyond.
use Rattle.std.specs.Prelude.{Some, None, Ok, Err, Result}
use Rattle.std.specs.Result.{OkIff, result_ok}
use Rattle.std.proofs.Common.{◌≡◌, ℤ, pos, ◌+ℤ◌, Bool, true, false, not, ◌&&◌, refl, ap, ◌∙◌}
use lib.IntN.{negsuc}
use lib.Signed.{le_z}
use mir.Syntax.{w32, w64}
use mir.Val.{SFits, to_z, of_z}
use mir.Facts.{to_z-of_z}
use Rattle.rules.specs.Vocabulary.{pick, between}
use Rattle.rules.specs.Vp3.{beyond}
use Rattle.laws.specs.Ints.{ints, seen, abs_is, read-wider}
use Rattle.laws.specs.Tests.{by-test, and-true}
use Rattle.read_vp3_fields.specs.Fields.{start_by}
use Rattle.read_vp3_fields.proofs.start_by.Goals as goal

fits_in : (z : ℤ) → SFits w32 z → beyond z ≡ false
unfolding beyond between
fits_in z f = ap not (and-true _ _
    (by-test (le_z (negsuc 2147483647) z) (λ t. t) (λ t. absurd (omega (ints, seen f, t))))
    (by-test (le_z z (pos 2147483647)) (λ t. t) (λ t. absurd (omega (ints, seen f, t)))))

both : (a b : Bool) → not (a && b) ≡ false → (a ≡ true) × (b ≡ true)
both true true e = (refl, refl)
both true false e = cc
both false b e = cc

in_fits : (z : ℤ) → beyond z ≡ false → SFits w32 z
unfolding beyond between
in_fits z e = let k = both (le_z (negsuc 2147483647) z) (le_z z (pos 2147483647)) e in omega ints

by-fit : {E : Type 0} (z : ℤ) (r : Result ℤ E) → OkIff r (SFits w32 z) z → result_ok r ≡ pick (beyond z) None (Some z)
by-fit z (Ok v) h = rw (fits_in z h.0, h.1)
by-fit z (Err e) h = rw (by-test (beyond z) (λ t. t) (λ t. absurd (h (in_fits z t))))

by-follows : (follows : Bool) (z by : ℤ) → follows ≡ true → pick (beyond (z +ℤ by)) None (Some (z +ℤ by)) ≡ start_by follows z by
by-follows true z by e = refl
by-follows false z by e = cc

pub returns : goal.returns
returns c =
    let wide : to_z w64 (of_z w64 (to_z w32 (of_z w32 c.args.z))) ≡ c.args.z = read-wider w32 w64 tt c.ranges.z in
    let fits : SFits w64 (c.args.z +ℤ c.args.by) = omega (ints, seen c.ranges.z, abs_is c.args.by, c.requires) in
    c.ok.ensures.value ∙ by-fit (c.args.z +ℤ c.args.by) _ (rw (wide, to_z-of_z c.ranges.by, to_z-of_z fits) at c.try_from.ensures) ∙ by-follows c.args.follows c.args.z c.args.by c.if-not-follows.false
