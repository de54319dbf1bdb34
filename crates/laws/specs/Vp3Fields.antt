-- VP3: what holds of both faults of a field, and of what follows it, holds of the field. Assumes nothing.
use Prim.Native.Nat.{ℕ, zero, suc, ◌+◌, ◌≤◌}
use Rattle.std.specs.Prelude.{List, ltb, ℤ, pos, length, Ok}
use Rattle.std.proofs.Common.{arith}
use borrow.Author.Tests.{ltb-false}
use Rattle.std.proofs.Math.ListN.{length-take, length-drop}
use Rattle.rules.specs.Vp3.{Blocks, ended, block, cut, passed, vp3_opening, from_big, fixed, skip, inside, part, text, beyond, starts, stitch_part, shifts, in_color_part, blocks_from}
use Rattle.rules.specs.Vp3.{in_design_part, in_file_part, vp3_blocks}
use Rattle.rules.specs.declared.Color.{Color}
use Rattle.laws.specs.Tests.{by-test, pick-both}

module _ (P : Blocks → Type 0) (if-cut : P cut) (if-passed : P passed) where
  fixed-all : (n : ℕ) (go : List ℕ → List ℕ → Blocks) (s : List ℕ) → ((f r : List ℕ) → n + length r ≤ length s → P (go f r)) → P (fixed n go s)
  unfolding fixed
  fixed-all n go s h = by-test (ltb (length s) n) (λ t. rw t if-cut) (λ t. rw t (h _ _ (omega (arith, ltb-false (length s) n t, length-drop n s))))

  skip_all : (n : ℕ) (go : List ℕ → Blocks) (s : List ℕ) → ((r : List ℕ) → n + length r ≤ length s → P (go r)) → P (skip n go s)
  unfolding skip
  skip_all n go s h = fixed-all n _ s (λ f r l. h r l)

  inside-all : (n : ℕ) (go : List ℕ → List ℕ → Blocks) (s : List ℕ) → ((p r : List ℕ) → length p + length r ≤ length s → P (go p r)) → P (inside n go s)
  unfolding inside
  inside-all n go s h = by-test (ltb (length s) n) (λ t. rw t if-passed)
      (λ t. rw t (h _ _ (omega (arith, ltb-false (length s) n t, length-take n s, length-drop n s))))

  part-all : (n : ℕ) (go : List ℕ → List ℕ → Blocks) (s : List ℕ) → ((p r : List ℕ) → n + (length p + length r) ≤ length s → P (go p r)) → P (part n go s)
  unfolding part
  part-all n go s h = fixed-all n _ s (λ f r l. inside-all (from_big f) go r (λ p q m. h p q (omega arith)))

  text-all : (go : List ℕ → Blocks) (s : List ℕ) → ((r : List ℕ) → length r ≤ length s → P (go r)) → P (text go s)
  unfolding text
  text-all go s h = part-all 2 _ s (λ p r l. h r (omega arith))

  starts-all : (n : ℕ) (z : ℤ) (bs : Blocks) → P bs → P (starts n z bs)
  unfolding starts
  starts-all zero z bs h = h
  starts-all (suc n) z bs h = pick-both P (beyond z) if-passed h

  -- a colour block, which n follow; its stitches and theirs are parts of the rest, besides 7 bytes at least
  pub block-all : (n : ℕ) (x y : ℤ) (s : List ℕ)
      → ((x' y' : ℤ) (rest : List ℕ) (c : Color) (bytes : List ℕ) → 7 + (length bytes + length rest) ≤ length s → P (block x y c bytes (blocks_from n x' y' rest)))
      → P (blocks_from (suc n) x y s)
  unfolding blocks_from in_color_part shifts stitch_part
  block-all n x y s h =
      skip_all 3 _ s (λ a l₁. part-all 4 _ a (λ p rest l₂. fixed-all 18 _ p (λ f b l₃. text-all _ b (λ c l₄. text-all _ c (λ d l₅. text-all _ d (λ e l₆.
      fixed-all 4 _ e (λ u g l₇. starts-all n _ _ (fixed-all 4 _ g (λ v i l₈. starts-all n _ _
      (skip_all 3 _ i (λ j l₉. part-all 4 _ j (λ q k m₁. skip_all 3 _ q (λ bytes m₂. h _ _ rest _ bytes (omega arith))))))))))))))

  module _ (if-ended : P (ended (Ok tt))) (if-block : (x y : ℤ) (c : Color) (bytes : List ℕ) (bs : Blocks) → P bs → P (block x y c bytes bs)) where
    pub blocks-all : (n : ℕ) (x y : ℤ) (s : List ℕ) → P (blocks_from n x y s)
    unfolding blocks_from
    blocks-all zero x y s = if-ended
    blocks-all (suc n) x y s = block-all n x y s (λ x' y' rest c bytes l. if-block x y c bytes (blocks_from n x' y' rest) (blocks-all n x' y' rest))

  -- a whole file: its blocks are a part of it
  pub file-all : (s : List ℕ) → ((n : ℕ) (t : List ℕ) → length t ≤ length s → P (blocks_from n (pos 0) (pos 0) t)) → P (vp3_blocks s)
  unfolding vp3_blocks in_file_part in_design_part
  file-all s h =
      text-all _ _ (λ a l₁. skip_all 3 _ a (λ b l₂. part-all 4 _ b (λ p r l₃. text-all _ p (λ c l₄. skip_all 28 _ c (λ d l₅. part-all 4 _ d (λ q t l₆.
      skip_all 35 _ q (λ e l₇. text-all _ e (λ f l₈. skip_all 24 _ f (λ g l₉. text-all _ g (λ i m₁. fixed-all 2 _ i (λ n u m₂.
      h _ u (omega (arith, length-drop (length vp3_opening) s)))))))))))))
