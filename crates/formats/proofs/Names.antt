-- std's comparison of an extension's letters, as the definitions name it. Assumes nothing.
use Rattle.std.specs.Prelude.{ℕ, ◌≡◌, refl, Bool, true, List, [], ◌∷◌, map, ltb, eqb, ◌↔◌}
use Rattle.std.specs.Bool.{IsTrue}
use Rattle.std.specs.Char.{to_ascii_lowercase}
use Rattle.std.proofs.Common.{sym, ◌∙◌, arith, ltb-true, ltb-false, eq-eqb, le-leb}
use Rattle.std.proofs.lemmas.Bool.{lt-leb}
use borrow.Author.Tests.{eqb-true}
use Rattle.rules.specs.Vocabulary.{same_bytes}
use Rattle.rules.specs.Refusals.{lower, named}
use Rattle.laws.specs.Tests.{by-test, clash, false-true, and_left, and_right}

lower-is : (b : ℕ) → to_ascii_lowercase b ≡ lower b
unfolding lower
lower-is b = by-test (ltb b 65)
    (λ t. rw (t, lt-leb 65 b (ltb-true b 65 t)))
    (λ t. by-test (ltb b 91)
    (λ u. rw (t, u, le-leb 65 b (ltb-false b 65 t), le-leb b 90 (omega (arith, ltb-true b 91 u))))
    (λ u. rw (t, u, le-leb 65 b (ltb-false b 65 t), lt-leb b 90 (omega (arith, ltb-false b 91 u)))))

lowers : (xs : List ℕ) → map to_ascii_lowercase xs ≡ map lower xs
lowers [] = refl
lowers (x ∷ xs) = rw (lower-is x, lowers xs)

same : (xs : List ℕ) → same_bytes xs xs ≡ true
unfolding same_bytes
same [] = refl
same (x ∷ xs) = rw (eq-eqb x x refl, same xs)

equal : (xs ys : List ℕ) → same_bytes xs ys ≡ true → xs ≡ ys
unfolding same_bytes
equal [] [] e = refl
equal [] (y ∷ ys) e = false-true e
equal (x ∷ xs) [] e = false-true e
equal (x ∷ xs) (y ∷ ys) e = rw (eqb-true x y (and_left (eqb x y) (same_bytes xs ys) e), equal xs ys (and_right (eqb x y) (same_bytes xs ys) e))

pub named-is : (ext name : List ℕ) {r : Bool} → map to_ascii_lowercase name ≡ name
    → IsTrue r ↔ (map to_ascii_lowercase ext ≡ map to_ascii_lowercase name) → r ≡ named ext name
unfolding named
named-is ext name {r} e h =
    let low : map lower ext ≡ map to_ascii_lowercase ext = sym (lowers ext) in
    by-test r
    (λ t. t ∙ sym (rw (low, h.0 t, e) (same name)))
    (λ t. by-test (same_bytes (map lower ext) name)
    (λ u. clash r (h.1 (lowers ext ∙ equal (map lower ext) name u ∙ sym e)) t)
    (λ u. t ∙ sym u))
