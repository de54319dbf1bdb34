-- The blocks of a list in turn: where each starts and ends, and the bytes of its stitches. Assumes nothing.
use Prim.Native.Nat.{ℕ, suc, ◌+◌, ◌-◌, ◌*◌, ◌≤◌, ◌<◌}
use mathlib.Core.Path.{◌≡◌, refl, sym, ap, ◌∙◌}
use mathlib.Core.Bool.{false}
use mathlib.Core.List.{List, [], ◌∷◌}
use native.Mathlib.Numerals.{add-one}
use native.Mathlib.Omega.{arith}
use borrow.Author.Tests.{ltb-true, ltb-false}
use lib.Dec.{ltb}
use lib.IntN.{ℤ, pos}
use lib.ListN.{length, take, drop, set}
use lib.Seq.{take_at}
use Rattle.rules.specs.Lists.{commands}
use Rattle.rules.specs.Refusals.{place_outside}
use Rattle.rules.specs.Thumbnails.{color_blocks}
use Rattle.rules.specs.Vp3.{end_x, end_y, stitches_from}
use Rattle.rules.specs.declared.Cmd.{Cmd}
use Rattle.laws.specs.Tests.{by-test}
use Rattle.laws.specs.Places.{Small}
use Rattle.laws.specs.Lengths.{length-blocks}
use Rattle.laws.specs.Listing.{length-commands}
use Rattle.laws.specs.Vp3Lengths.{stitches-length, commands_in, blocks-commands}
use Rattle.laws.specs.Buffers.{Put, Writing, put_front, writing_start, writing-one, writing-done}
use Rattle.vp3.specs.declared.blocks.Scan.{Scan}
use Rattle.vp3.specs.Blocks.{between, end_of, Known, lens_of, ends_of, sum, Scanned, ScannedAll}
use Rattle.vp3.proofs.Numbers.{read, back-small}
use Rattle.vp3.proofs.Slices.{end-at, end_none, between-x, between-y}
use Rattle.vp3.proofs.Splits.{blocks_at, first_at, blocks_start, blocks-none, blocks_more, first_short, first-between}
use Rattle.vp3.proofs.Stitches.{here}

-- ---- one block

-- the block from command `from` on, which starts at (x, y), to before `end`; it leads to (x', y')
pub record Block (xs ys : List ℤ) (ks : List ℕ) (from : ℕ) (x y : ℤ) (end : ℕ) (x' y' : ℤ) : Type 0 where
  pub blocks : blocks_at (commands xs ys ks) from ≡ between (commands xs ys ks) from end ∷ blocks_at (commands xs ys ks) (end + 1)
  pub ends : end ≡ from + length (between (commands xs ys ks) from end)
  pub within : end ≤ length (commands xs ys ks)
  pub to_x : end_x x (between (commands xs ys ks) from end) ≡ x'
  pub to_y : end_y y (between (commands xs ys ks) from end) ≡ y'
  pub across : Small x'
  pub down : Small y'

module _ (xs ys : List ℤ) (ks : List ℕ) (e : place_outside (commands xs ys ks) ≡ false) (from end : ℕ) (k : end ≤ length (commands xs ys ks)) where
  small-x : (z : ℤ) → Small z → Small (end_of z (between xs from end))
  small-x z h = by-test (ltb from end)
      (λ t. let l = ltb-true from end t in
      rw (end-at z xs from end l (omega (arith, length-commands xs ys ks))) (here xs ys ks (end - 1) e (omega arith)).across)
      (λ t. rw (end_none z xs from end (ltb-false from end t)) h)

  small-y : (z : ℤ) → Small z → Small (end_of z (between ys from end))
  small-y z h = by-test (ltb from end)
      (λ t. let l = ltb-true from end t in
      rw (end-at z ys from end l (omega (arith, length-commands xs ys ks))) (here xs ys ks (end - 1) e (omega arith)).down)
      (λ t. rw (end_none z ys from end (ltb-false from end t)) h)

-- as `end_of` gives the places
pub block-found : (xs ys : List ℤ) (ks : List ℕ) (from : ℕ) (x y : ℤ) (end : ℕ) (ex ey : ℤ) → place_outside (commands xs ys ks) ≡ false → from ≤ length (commands xs ys ks)
    → Small x → Small y → end ≡ from + length (first_at (commands xs ys ks) from) → ex ≡ end_of x (between xs from end) → ey ≡ end_of y (between ys from end)
    → Block xs ys ks from x y end (read ex) (read ey)
block-found xs ys ks from x y end ex ey e h p q is ax ay =
    let cs : List Cmd = commands xs ys ks in
    let b : between cs from end ≡ first_at cs from = first-between cs from h end is in
    let k : end ≤ length cs = omega (arith, first_short cs from h) in
    let l : from ≤ end = omega arith in
    let sx : Small ex = rw ax (small-x xs ys ks e from end k x p) in
    let sy : Small ey = rw ay (small-y xs ys ks e from end k y q) in
    let rx : read ex ≡ ex = back-small ex (omega (arith, sx)) in
    let ry : read ey ≡ ey = back-small ey (omega (arith, sy)) in
    record {
      blocks = rw (b, is) (blocks_more cs from h);
      ends = rw b is;
      within = k;
      to_x = between-x x xs ys ks from end l k ∙ sym (rx ∙ ax);
      to_y = between-y y xs ys ks from end l k ∙ sym (ry ∙ ay);
      across = rw rx sx;
      down = rw ry sy;
    }

-- as `scan_block` tells its bytes
module _ {cs : List Cmd} {from : ℕ} {x y : ℤ} {r : Scan} (s : Scanned cs from x y r) where
  pub scanned-little : r.len ≤ 8 * length cs
  scanned-little = omega (arith, s.len, s.end, s.within, stitches-length x y (first_at cs from))

  pub scanned-len : r.len ≡ length (stitches_from x y (between cs from r.end))
  scanned-len = rw (first-between cs from (omega (arith, s.end, s.within)) r.end s.end) s.len

-- ---- the ends and the lengths of blocks

pub length-ends : (i : ℕ) (bs : List (List Cmd)) → length (ends_of i bs) ≡ length bs
unfolding ends_of
length-ends i [] = refl
length-ends i (b ∷ bs) = ap suc (length-ends (suc (i + length b)) bs)

pub length_lens : (x y : ℤ) (bs : List (List Cmd)) → length (lens_of x y bs) ≡ length bs
unfolding lens_of
length_lens x y [] = refl
length_lens x y (b ∷ bs) = ap suc (length_lens (end_x x b) (end_y y b) bs)

-- no more bytes are than eight for each command
sum-lens : (x y : ℤ) (bs : List (List Cmd)) → sum (lens_of x y bs) ≤ 8 * commands_in bs
unfolding sum lens_of commands_in
sum-lens x y [] = omega arith
sum-lens x y (b ∷ bs) = omega (arith, stitches-length x y b, sum-lens (end_x x b) (end_y y b) bs)

pub most_bytes : (cs : List Cmd) → sum (lens_of (pos 0) (pos 0) (color_blocks cs)) ≤ 8 * length cs
most_bytes cs = omega (arith, sum-lens (pos 0) (pos 0) (color_blocks cs), blocks-commands cs)

-- what a block adds
module _ {xs ys : List ℤ} {ks : List ℕ} {from : ℕ} {x y : ℤ} {end : ℕ} {x' y' : ℤ} (b : Block xs ys ks from x y end x' y') where
  abbrev cs : List Cmd
  cs = commands xs ys ks

  pub ends_more : ends_of from (blocks_at cs from) ≡ end ∷ ends_of (end + 1) (blocks_at cs (end + 1))
  unfolding ends_of
  ends_more = ap (ends_of from) b.blocks ∙ rw (← b.ends, add-one)

  pub lens-more : lens_of x y (blocks_at cs from) ≡ length (stitches_from x y (between cs from end)) ∷ lens_of x' y' (blocks_at cs (end + 1))
  unfolding lens_of
  lens-more = ap (lens_of x y) b.blocks ∙ rw (b.to_x, b.to_y)

-- ---- a scan of all blocks: k of them are told, the next starts with command `from` at (x, y)

pub record Going (xs ys : List ℤ) (ks ends₀ lens₀ ends lens : List ℕ) (n k from : ℕ) (x y : ℤ) (total : ℕ) : Type 0 where
  pub count : n ≡ length (commands xs ys ks)
  pub below : from ≤ n + 1
  pub ends_are : Writing ends₀ 0 (ends_of 0 (color_blocks (commands xs ys ks))) ends k (ends_of from (blocks_at (commands xs ys ks) from))
  pub lens_are : Writing lens₀ 0 (lens_of (pos 0) (pos 0) (color_blocks (commands xs ys ks))) lens k (lens_of x y (blocks_at (commands xs ys ks) from))
  pub left : total + sum (lens_of x y (blocks_at (commands xs ys ks) from)) ≡ sum (lens_of (pos 0) (pos 0) (color_blocks (commands xs ys ks)))
  pub blocks : k + length (blocks_at (commands xs ys ks) from) ≡ length (color_blocks (commands xs ys ks))
  pub across : Small x
  pub down : Small y

pub going_start : (xs ys : List ℤ) (ks ends lens : List ℕ) {n : ℕ} → n ≡ length (commands xs ys ks) → Known xs ys ks → 256 ≤ length ends → 256 ≤ length lens
    → Going xs ys ks ends lens ends lens n 0 0 (pos 0) (pos 0) 0
going_start xs ys ks ends lens e k h l =
    let cs : List Cmd = commands xs ys ks in
    let bs : List (List Cmd) = color_blocks cs in
    record {
      count = e;
      below = omega arith;
      ends_are = rw (blocks_start cs) (writing_start ends 0 (ends_of 0 bs) (omega (arith, length-ends 0 bs, length-blocks cs, k.few)));
      lens_are = rw (blocks_start cs) (writing_start lens 0 (lens_of (pos 0) (pos 0) bs) (omega (arith, length_lens (pos 0) (pos 0) bs, length-blocks cs, k.few)));
      left = rw (blocks_start cs) (omega arith);
      blocks = rw (blocks_start cs) (omega arith);
      across = omega arith;
      down = omega arith;
    }

-- the first n of an array that was written at its front
taken : (d d' vs : List ℕ) (k : ℕ) → length vs ≤ length d → Put d d' 0 k vs → take k d' ≡ vs
taken d d' vs k h p =
    let f = put_front h p in
    rw f.1 (take_at vs (drop (length vs) d) k (sym f.0))

module _ {xs ys : List ℤ} {ks ends₀ lens₀ ends lens : List ℕ} {n k from : ℕ} {x y : ℤ} {total : ℕ} (g : Going xs ys ks ends₀ lens₀ ends lens n k from x y total) where
  -- what was counted is little, and so is the count
  pub going-little : total ≤ 8 * n
  going-little = omega (arith, g.left, g.count, most_bytes (commands xs ys ks))

  pub going-few : Known xs ys ks → k ≤ 255
  going-few e = omega (arith, g.blocks, length-blocks (commands xs ys ks), e.few)

  -- there is room for one more
  pub going-room : from ≤ n → Known xs ys ks → k ≤ 254
  going-room h e =
      let cs : List Cmd = commands xs ys ks in
      let more = blocks_more cs from (omega (arith, g.count)) in
      omega (arith, g.blocks, ap (λ (bs : List (List Cmd)). length bs) more, length-blocks cs, e.few)

  module _ {end : ℕ} {x' y' : ℤ} (b : Block xs ys ks from x y end x' y') where
    abbrev behind : List (List Cmd)
    behind = blocks_at (commands xs ys ks) (end + 1)

    pub going_on : {len : ℕ} → len ≡ length (stitches_from x y (between (commands xs ys ks) from end))
        → Going xs ys ks ends₀ lens₀ (set ends k end) (set lens k len) n (k + 1) (end + 1) x' y' (total + len)
    unfolding sum
    going_on {len} e =
        let more : lens_of x y (blocks_at (commands xs ys ks) from) ≡ len ∷ lens_of x' y' behind = rw e (lens-more b) in
        record {
          count = g.count;
          below = omega (arith, b.within, g.count);
          ends_are = writing-one g.ends_are (ends_more b);
          lens_are = writing-one g.lens_are more;
          left = omega (arith, g.left, ap sum more);
          blocks = omega (arith, g.blocks, ap (λ (bs : List (List Cmd)). length bs) b.blocks);
          across = b.across;
          down = b.down;
        }

  pub going_done : n < from → Known xs ys ks → ScannedAll (commands xs ys ks) ends lens record { len = total; blocks = k }
  unfolding sum lens_of ends_of
  going_done h e =
      let cs : List Cmd = commands xs ys ks in
      let none : blocks_at cs from ≡ [] = blocks-none cs from (omega (arith, g.count)) in
      let a = writing-done g.ends_are (ap (ends_of from) none) in
      let l = writing-done g.lens_are (ap (lens_of x y) none) in
      record {
        listed = record {
          blocks = omega (arith, g.blocks, ap (λ (bs : List (List Cmd)). length bs) none);
          ends_are = taken ends₀ ends (ends_of 0 (color_blocks cs)) k (omega (arith, g.ends_are.room)) a;
          lens_are = taken lens₀ lens (lens_of (pos 0) (pos 0) (color_blocks cs)) k (omega (arith, g.lens_are.room)) l;
        };
        len = omega (arith, g.left, ap (λ (bs : List (List Cmd)). sum (lens_of x y bs)) none);
        few = going-few e;
        short = omega (arith, going-little, g.count);
      }
