-- The blocks of a list, written one behind the other. Assumes nothing.
use Prim.Native.Nat.{ℕ, ◌+◌, ◌*◌, ◌≤◌, ◌<◌}
use mathlib.Core.Path.{◌≡◌, refl, sym, ap, ◌∙◌}
use mathlib.Core.List.{List, [], ◌∷◌, ◌++◌}
use native.Mathlib.Nat.{add-zero}
use native.Mathlib.Omega.{arith}
use borrow.Author.Tests.{ltb-true, ltb-false}
use lib.Dec.{ltb}
use lib.IntN.{ℤ, pos}
use lib.ListN.{length, take, drop, get_or, length-take}
use lib.Seq.{get_or-take, get_or-drop, drop-drop}
use Rattle.rules.specs.Lists.{commands}
use Rattle.rules.specs.Thumbnails.{color_blocks}
use Rattle.rules.specs.Vp3.{stitches_from, or_black, color_parts}
use Rattle.rules.specs.declared.Cmd.{Cmd}
use Rattle.rules.specs.declared.Color.{Color}
use Rattle.laws.specs.Tests.{by-test}
use Rattle.laws.specs.Places.{Small}
use Rattle.laws.specs.Buffers.{Put, Writing, writing_start, writing-room, writing_more, writing-done}
use Rattle.vp3.specs.declared.heads.Middle.{Middle}
use Rattle.vp3.specs.declared.heads.Way.{Way}
use Rattle.vp3.specs.Heads.{block_text}
use Rattle.vp3.specs.Blocks.{between, lens_of, ends_of, Listed}
use Rattle.vp3.proofs.Splits.{blocks_at, first_at, blocks_start, blocks-none, blocks_more, first_short, first-between}
use Rattle.laws.specs.Vp3Lengths.{stitches-length}
use Rattle.vp3.proofs.Listings.{Block, length-ends, length_lens, ends_more, lens-more}
use Rattle.vp3.proofs.Texts.{parts_more, parts_none, length-text}

-- the bytes of a block by what the code has of it
abbrev pub block_bytes : Middle → ℤ → ℤ → ℤ → ℤ → ℕ → Color → List Cmd → List ℕ
block_bytes m x y x' y' len c b = block_text m record { x = x; y = y; to_x = x'; to_y = y'; len = len } c ++ stitches_from x y b ++ 0x00 ∷ []

-- what is to come: the blocks from command `from` on, the first from (x, y), with the threads from k on
abbrev parts_at : Middle → ℤ → ℤ → List Color → ℕ → List Cmd → ℕ → List ℕ
parts_at m x y ts k cs from = color_parts m.x m.y x y (drop k ts) (blocks_at cs from)

block-bytes : {xs ys : List ℤ} {ks : List ℕ} {from : ℕ} {x y : ℤ} {end : ℕ} {x' y' : ℤ} {len : ℕ} {c : Color} (m : Middle) (ts : List Color) (k : ℕ)
    → Block xs ys ks from x y end x' y' → len ≡ length (stitches_from x y (between (commands xs ys ks) from end)) → c ≡ or_black (drop k ts)
    → parts_at m x y ts k (commands xs ys ks) from ≡ block_bytes m x y x' y' len c (between (commands xs ys ks) from end) ++ parts_at m x' y' ts (k + 1) (commands xs ys ks) (end + 1)
block-bytes {xs} {ys} {ks} {from} {x} {y} {end} {c = c} m ts k b e f =
    ap (color_parts m.x m.y x y (drop k ts)) b.blocks
    ∙ parts_more m.x m.y x y c (between (commands xs ys ks) from end) (drop k ts) (blocks_at (commands xs ys ks) (end + 1)) f
    ∙ rw (b.to_x, b.to_y, ← e, drop-drop 1 k ts)

-- ---- k blocks are written, the next starts with command `from` at (x, y)

module _ (xs ys : List ℤ) (ks : List ℕ) (ts : List Color) (m : Middle) (n : ℕ) (ends lens d₀ : List ℕ) (base : ℕ) where
  pub record Laying (d : List ℕ) (to from k : ℕ) (x y : ℤ) : Type 0 where
    pub writing : Writing d₀ base (color_parts m.x m.y (pos 0) (pos 0) ts (color_blocks (commands xs ys ks))) d to (parts_at m x y ts k (commands xs ys ks) from)
    pub ends_left : drop k (take n ends) ≡ ends_of from (blocks_at (commands xs ys ks) from)
    pub lens_left : drop k (take n lens) ≡ lens_of x y (blocks_at (commands xs ys ks) from)
    pub blocks : k + length (blocks_at (commands xs ys ks) from) ≡ n
    pub across : Small x
    pub down : Small y

  pub laying-start : Listed (commands xs ys ks) n ends lens
      → base + length (color_parts m.x m.y (pos 0) (pos 0) ts (color_blocks (commands xs ys ks))) ≤ length d₀ → Laying d₀ base 0 0 (pos 0) (pos 0)
  laying-start l room =
      let cs : List Cmd = commands xs ys ks in
      record {
        writing = rw (blocks_start cs) (writing_start d₀ base _ room);
        ends_left = rw (blocks_start cs) l.ends_are;
        lens_left = rw (blocks_start cs) l.lens_are;
        blocks = rw (blocks_start cs) (omega (arith, l.blocks));
        across = omega arith;
        down = omega arith;
      }

-- the first n of an array are n
took : (l whole : List ℕ) (n : ℕ) → take n l ≡ whole → length whole ≡ n → n ≤ length l
took l whole n e h = omega (arith, length-take n l, ap length e)

-- the one at k, and those behind it
head-is : (l : List ℕ) (n k a : ℕ) (vs : List ℕ) → k < n → drop k (take n l) ≡ a ∷ vs → get_or l k 0 ≡ a
head-is l n k a vs h e =
    sym (get_or-take n l k 0 h) ∙ sym (get_or-drop k (take n l) 0 0 ∙ rw add-zero) ∙ ap (λ (w : List ℕ). get_or w 0 0) e

tail-is : (l : List ℕ) (n k a : ℕ) (vs : List ℕ) → drop k (take n l) ≡ a ∷ vs → drop (k + 1) (take n l) ≡ vs
tail-is l n k a vs e = sym (drop-drop 1 k (take n l)) ∙ ap (λ (w : List ℕ). drop 1 w) e

pub listed-room : {cs : List Cmd} {n : ℕ} {ends lens : List ℕ} → Listed cs n ends lens → (n ≤ length ends) × (n ≤ length lens)
listed-room {cs} {n} {ends} {lens} l =
    let bs : List (List Cmd) = color_blocks cs in
    (took ends (ends_of 0 bs) n l.ends_are (length-ends 0 bs ∙ sym l.blocks), took lens (lens_of (pos 0) (pos 0) bs) n l.lens_are (length_lens (pos 0) (pos 0) bs ∙ sym l.blocks))

module _ {xs ys : List ℤ} {ks : List ℕ} {ts : List Color} {m : Middle} {n : ℕ} {ends lens d₀ : List ℕ} {base : ℕ} {d : List ℕ} {to from k : ℕ} {x y : ℤ}
    (g : Laying xs ys ks ts m n ends lens d₀ base d to from k x y) where
  abbrev cs : List Cmd
  cs = commands xs ys ks

  pub laying-done : n ≤ k → Put d₀ d base to (color_parts m.x m.y (pos 0) (pos 0) ts (color_blocks (commands xs ys ks)))
  laying-done h = writing-done g.writing (ap (color_parts m.x m.y x y (drop k ts)) (none (blocks_at cs from) (omega (arith, g.blocks))) ∙ parts_none m.x m.y x y (drop k ts))
    where
      none : (bs : List (List Cmd)) → length bs ≡ 0 → bs ≡ []
      none [] e = refl
      none (b ∷ bs) e = absurd (omega arith)

  module _ (h : k < n) where
    -- a block is left
    pub laying-some : from ≤ length (commands xs ys ks)
    laying-some = by-test (ltb (length cs) from)
        (λ t. let none = blocks-none cs from (ltb-true (length cs) from t) in absurd (omega (arith, g.blocks, ap (λ (bs : List (List Cmd)). length bs) none)))
        (λ t. ltb-false (length cs) from t)

    pub laying-end : get_or ends k 0 ≡ from + length (first_at (commands xs ys ks) from)
    unfolding ends_of
    laying-end = head-is ends n k _ _ h (g.ends_left ∙ ap (ends_of from) (blocks_more cs from laying-some))

    pub laying-within : get_or ends k 0 ≤ length (commands xs ys ks)
    laying-within = omega (arith, laying-end, first_short cs from laying-some)

    pub laying-len : get_or lens k 0 ≡ length (stitches_from x y (between (commands xs ys ks) from (get_or ends k 0)))
    unfolding lens_of
    laying-len = rw (first-between cs from laying-some (get_or ends k 0) laying-end)
        (head-is lens n k _ _ h (g.lens_left ∙ ap (lens_of x y) (blocks_more cs from laying-some)))

    pub laying-little : get_or lens k 0 ≤ 8 * length (commands xs ys ks)
    laying-little =
        let b = first-between cs from laying-some (get_or ends k 0) laying-end in
        omega (arith, laying-len, stitches-length x y (between cs from (get_or ends k 0)), ap length b, first_short cs from laying-some)

    module _ {x' y' : ℤ} {c : Color} (b : Block xs ys ks from x y (get_or ends k 0) x' y') (f : c ≡ or_black (drop k ts)) where
      abbrev pub here-bytes : List ℕ
      here-bytes = block_bytes m x y x' y' (get_or lens k 0) c (between (commands xs ys ks) from (get_or ends k 0))

      bytes : parts_at m x y ts k cs from ≡ here-bytes ++ parts_at m x' y' ts (k + 1) cs (get_or ends k 0 + 1)
      bytes = block-bytes m ts k b laying-len f

      pub laying-room : to + (57 + length (stitches_from x y (between (commands xs ys ks) from (get_or ends k 0)))) ≤ length d
      laying-room =
          let w : Way = record { x = x; y = y; to_x = x'; to_y = y'; len = get_or lens k 0 } in
          omega (
            arith,
            writing-room here-bytes (parts_at m x' y' ts (k + 1) cs (get_or ends k 0 + 1)) g.writing bytes,
            length-text m w c (stitches_from x y (between cs from (get_or ends k 0))),
          )

      pub laying-on : {d' : List ℕ} {r : ℕ} → Put d d' to r here-bytes → Laying xs ys ks ts m n ends lens d₀ base d' r (get_or ends k 0 + 1) (k + 1) x' y'
      laying-on p = record {
        writing = writing_more g.writing bytes p;
        ends_left = tail-is ends n k _ _ (g.ends_left ∙ ends_more b);
        lens_left = tail-is lens n k _ _ (g.lens_left ∙ lens-more b);
        blocks = omega (arith, g.blocks, ap (λ (bs : List (List Cmd)). length bs) b.blocks);
        across = b.across;
        down = b.down;
      }
