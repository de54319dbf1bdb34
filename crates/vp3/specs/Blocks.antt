-- The blocks of a list as the code goes through them: by where each ends, and the bytes of its stitches.
use Rattle.std.specs.Prelude.{ℕ, suc, ◌+◌, ◌-◌, ◌*◌, ◌≤◌, ◌≡◌, false, List, [], ◌∷◌, ℤ, pos, nat_abs, length, take, drop}
use Rattle.rules.specs.Vocabulary.{count}
use Rattle.rules.specs.Lists.{commands}
use Rattle.rules.specs.Refusals.{place_outside, changes}
use Rattle.rules.specs.Thumbnails.{color_blocks}
use Rattle.rules.specs.Vp3.{end_x, end_y, stitches_from}
use Rattle.rules.specs.declared.Cmd.{Cmd}
use Rattle.vp3.specs.declared.blocks.Scan.{Scan}
use Rattle.vp3.specs.declared.blocks.Scans.{Scans}

-- the elements from `from` to before `end`
abbrev pub between : {A : Type 0} → List A → ℕ → ℕ → List A
between l from end = take (end - from) (drop from l)

-- the last of a list, z if it is empty
unfoldable pub end_of : ℤ → List ℤ → ℤ
end_of z [] = z
end_of z (a ∷ l) = end_of a l

-- a list that is accepted, as far as the writer relies on it
pub record Known (xs ys : List ℤ) (kinds : List ℕ) : Type 0 where
  pub same_xs : length xs ≡ length kinds
  pub same_ys : length ys ≡ length kinds
  pub short : length kinds ≤ 65535
  pub placed : place_outside (commands xs ys kinds) ≡ false
  pub few : count changes (commands xs ys kinds) ≤ 254

-- the first of some blocks
unfoldable pub first_block_of : List (List Cmd) → List Cmd
first_block_of [] = []
first_block_of (b ∷ bs) = b

-- the bytes of each block's stitches, the first block from (x, y)
unfoldable pub lens_of : ℤ → ℤ → List (List Cmd) → List ℕ
lens_of x y [] = []
lens_of x y (b ∷ bs) = length (stitches_from x y b) ∷ lens_of (end_x x b) (end_y y b) bs

-- where each ends, the first from command i on
unfoldable pub ends_of : ℕ → List (List Cmd) → List ℕ
ends_of i [] = []
ends_of i (b ∷ bs) = (i + length b) ∷ ends_of (suc (i + length b)) bs

unfoldable pub sum : List ℕ → ℕ
sum [] = 0
sum (n ∷ ns) = n + sum ns

-- the block from command `from` on, which starts at (x, y)
pub record Scanned (cs : List Cmd) (from : ℕ) (x y : ℤ) (r : Scan) : Type 0 where
  pub end : r.end ≡ from + length (first_block_of (color_blocks (drop from cs)))
  pub len : r.len ≡ length (stitches_from x y (first_block_of (color_blocks (drop from cs))))
  pub within : r.end ≤ length cs

-- a place in the range
abbrev pub Close : ℤ → ℤ → Type 0
Close x y = (nat_abs x ≤ 16000) × (nat_abs y ≤ 16000)

-- at most the last command of the list is left, and `len` bytes of its block are counted, the last stitch being at (px, py)
pub record Left (xs ys : List ℤ) (kinds : List ℕ) (i : ℕ) (px py : ℤ) (len : ℕ) : Type 0 where
  pub short : length kinds ≤ 65535
  pub placed : place_outside (commands xs ys kinds) ≡ false
  pub inside : i ≤ length (commands xs ys kinds)
  pub last : length (commands xs ys kinds) ≤ i + 1
  pub close : Close px py
  pub little : len ≤ 524280

-- where the block ends, and the bytes of all its stitches
pub record Rest (xs ys : List ℤ) (kinds : List ℕ) (i : ℕ) (px py : ℤ) (len : ℕ) (r : Scan) : Type 0 where
  pub end : r.end ≡ i + length (first_block_of (color_blocks (drop i (commands xs ys kinds))))
  pub len_is : r.len ≡ len + length (stitches_from px py (first_block_of (color_blocks (drop i (commands xs ys kinds)))))
  pub within : r.end ≤ length (commands xs ys kinds)

-- n blocks, with their ends and the bytes of their stitches in two arrays
pub record Listed (cs : List Cmd) (n : ℕ) (ends lens : List ℕ) : Type 0 where
  pub blocks : n ≡ length (color_blocks cs)
  pub ends_are : take n ends ≡ ends_of 0 (color_blocks cs)
  pub lens_are : take n lens ≡ lens_of (pos 0) (pos 0) (color_blocks cs)

pub record ScannedAll (cs : List Cmd) (ends lens : List ℕ) (r : Scans) : Type 0 where
  pub listed : Listed cs r.blocks ends lens
  pub len : r.len ≡ sum (lens_of (pos 0) (pos 0) (color_blocks cs))
  pub few : r.blocks ≤ 255
  pub short : r.len ≤ 8 * length cs
