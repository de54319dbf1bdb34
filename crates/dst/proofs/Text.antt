-- The text of the header in the parts that the code puts, how long they are, and the last place. Assumes nothing.
use Prim.Native.Nat.{ℕ, suc, ◌+◌, ◌-◌, ◌*◌}
use mathlib.Core.Path.{◌≡◌, refl, sym, ap, ◌∙◌}
use mathlib.Core.Bool.{false}
use mathlib.Core.List.{List, [], ◌∷◌, ◌++◌, append_assoc, append-nil}
use native.Mathlib.Omega.{arith}
use borrow.Author.Tests.{ne_eqb}
use lib.Dec.{eqb}
use lib.IntN.{ℤ, pos, neg_ℤ, nat_abs}
use lib.ListN.{length, get_or, length-append}
use Rattle.rules.specs.Vocabulary.{pick, count, joined, padded}
use Rattle.rules.specs.Lists.{commands, last_x, last_y, dst_name}
use Rattle.rules.specs.Dst.{line, record_count, dst_text}
use Rattle.rules.specs.Refusals.{changes}
use Rattle.rules.specs.declared.Cmd.{Cmd}
use Rattle.geom.specs.Frames.{bounds_of}
use Rattle.geom.specs.declared.Bounds.{Bounds}
use Rattle.laws.specs.Buffers.{Put}
use Rattle.laws.specs.Listing.{no_cmd, commands-at}
use Rattle.dst.specs.Lines.{trimming, counts_text, bounds_text, last_text, end_text}
use Rattle.dst.proofs.Lines.{length-line, length-name, number-line, signed-line}

-- ---- lengths

pub length_label : (name : List ℕ) → length (line 0x4C 0x41 (padded 16 (dst_name name))) ≡ 20
length_label name = omega (arith, length-line 0x4C 0x41 (padded 16 (dst_name name)), length-name name)

pub length-counts : (n k : ℕ) → length (counts_text n k) ≡ 18
unfolding joined
length-counts n k = simp (length-append, number-line 0x53 0x54 7 n, number-line 0x43 0x4F 3 k)

pub length-bounds : (x x' y y' : ℤ) → length (bounds_text x x' y y') ≡ 36
unfolding joined
length-bounds x x' y y' =
    simp (length-append, number-line 0x2B 0x58 5 (nat_abs x), number-line 0x2D 0x58 5 (nat_abs x'), number-line 0x2B 0x59 5 (nat_abs y), number-line 0x2D 0x59 5 (nat_abs y'))

pub length_last : (x y : ℤ) → length (last_text x y) ≡ 40
unfolding joined
length_last x y =
    simp (length-append, signed-line 0x41 0x58 x, signed-line 0x41 0x59 (neg_ℤ y), signed-line 0x4D 0x58 (pos 0), signed-line 0x4D 0x59 (pos 0))

-- the place after each part, as omega reads it of a put
module _ (d d' : List ℕ) (at r : ℕ) where
  pub label-ends : (name : List ℕ) → Put d d' at r (line 0x4C 0x41 (padded 16 (dst_name name))) → r ≡ at + 20
  label-ends name p = omega (arith, length_label name)

  pub counts-ends : (n k : ℕ) → Put d d' at r (counts_text n k) → r ≡ at + 18
  counts-ends n k p = omega (arith, length-counts n k)

  pub bounds-ends : (x x' y y' : ℤ) → Put d d' at r (bounds_text x x' y y') → r ≡ at + 36
  bounds-ends x x' y y' p = omega (arith, length-bounds x x' y y')

  pub last-ends : (x y : ℤ) → Put d d' at r (last_text x y) → r ≡ at + 40
  last-ends x y p = omega (arith, length_last x y)

-- ---- the last place

end-x : (c : Cmd) (cs : List Cmd) → last_x (c ∷ cs) ≡ (get_or (c ∷ cs) (length cs) no_cmd).x
unfolding last_x
end-x c [] = refl
end-x c (d ∷ cs) = end-x d cs

end-y : (c : Cmd) (cs : List Cmd) → last_y (c ∷ cs) ≡ (get_or (c ∷ cs) (length cs) no_cmd).y
unfolding last_y
end-y c [] = refl
end-y c (d ∷ cs) = end-y d cs

one_less : (n : ℕ) → suc n - 1 ≡ n
one_less n = omega arith

not_none : (n : ℕ) → eqb (suc n) 0 ≡ false
not_none n = ne_eqb (suc n) 0 (λ h. omega arith)

-- as `last` answers
pub last-x : (xs ys : List ℤ) (ks : List ℕ) (n : ℕ) → n ≡ length (commands xs ys ks)
    → pick (eqb n 0) (pos 0) (get_or xs (n - 1) (pos 0)) ≡ last_x (commands xs ys ks)
unfolding commands last_x
last-x [] ys ks n e = rw e
last-x (x ∷ xs) [] ks n e = rw e
last-x (x ∷ xs) (y ∷ ys) [] n e = rw e
last-x (x ∷ xs) (y ∷ ys) (k ∷ ks) n e =
    let cs = commands xs ys ks in
    rw (e, not_none (length cs), one_less (length cs))
    (sym (end-x (record { x = x; y = y; kind = k }) cs ∙ ap (λ (c : Cmd). c.x) (commands-at (x ∷ xs) (y ∷ ys) (k ∷ ks) (length cs) (omega arith))))

pub last-y : (xs ys : List ℤ) (ks : List ℕ) (n : ℕ) → n ≡ length (commands xs ys ks)
    → pick (eqb n 0) (pos 0) (get_or ys (n - 1) (pos 0)) ≡ last_y (commands xs ys ks)
unfolding commands last_y
last-y [] ys ks n e = rw e
last-y (x ∷ xs) [] ks n e = rw e
last-y (x ∷ xs) (y ∷ ys) [] n e = rw e
last-y (x ∷ xs) (y ∷ ys) (k ∷ ks) n e =
    let cs = commands xs ys ks in
    rw (e, not_none (length cs), one_less (length cs))
    (sym (end-y (record { x = x; y = y; kind = k }) cs ∙ ap (λ (c : Cmd). c.y) (commands-at (x ∷ xs) (y ∷ ys) (k ∷ ks) (length cs) (omega arith))))

-- ---- the text

pub text-is : (name : List ℕ) (cs : List Cmd) {n t k : ℕ} {b : Bounds} {x y : ℤ}
    → n ≡ length cs → t ≡ count trimming cs → k ≡ count changes cs → b ≡ bounds_of cs → x ≡ last_x cs → y ≡ last_y cs
    → line 0x4C 0x41 (padded 16 (dst_name name)) ++ (counts_text (n + 2 * t) k ++ (bounds_text b.max.x b.min.x b.max.y b.min.y ++ (last_text x y ++ end_text)))
    ≡ dst_text name cs
unfolding joined dst_text record_count changes trimming bounds_of
text-is name cs n t k b x y = rw (n, t, k, b, x, y) (simp (append_assoc, append-nil))
