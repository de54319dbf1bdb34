-- Where the colour blocks of a list end, for the loops over them.
use Prim.Native.Nat.{ℕ, zero, suc, ◌+◌, ◌≤◌, ◌<◌}
use mathlib.Core.Path.{◌≡◌, refl}
use mathlib.Core.Bool.{true, false}
use mathlib.Core.List.{List, [], ◌∷◌, ◌++◌, map}
use native.Mathlib.Nat.{le_of_suc-le-suc, suc-add, zero-add}
use native.Mathlib.Numerals.{add-one}
use native.Mathlib.Omega.{arith}
use lib.IntN.{ℤ}
use lib.ListN.{length, get_or, take, drop, length-drop}
use lib.Seq.{slice}
use Rattle.rules.specs.Vocabulary.{joined}
use Rattle.rules.specs.Charts.{blank_icon}
use Rattle.rules.specs.Lists.{op_of, is_change, commands}
use Rattle.rules.specs.Thumbnails.{drawn, at_front, color_blocks}
use Rattle.rules.specs.declared.Cmd.{Cmd}
use Rattle.rules.specs.declared.Scale.{Scale}
use Rattle.laws.specs.Tests.{by-test}
use Rattle.laws.specs.Buffers.{Put, Writing, put_as, writing-room, writing_more}
use Rattle.laws.specs.Listing.{list-end, commands-more}
use Rattle.thumbnail_tables.specs.Blocks.{block_icons}
use Rattle.thumbnails.specs.Blocks.{change_from}
use Rattle.thumbnails.proofs.Sizes.{icon_long}

-- ---- the commands before a colour change

pub change-le : (cs : List Cmd) → change_from cs ≤ length cs
unfolding change_from
change-le [] = omega arith
change-le (c ∷ cs) = by-test (is_change (op_of c.kind)) (λ t. rw t (omega arith)) (λ t. rw t (omega (arith, change-le cs)))

pub end-le : (cs : List Cmd) (i : ℕ) → i ≤ length cs → i + change_from (drop i cs) ≤ length cs
end-le cs i h = omega (arith, change-le (drop i cs), length-drop i cs)

module _ (xs ys : List ℤ) (ks : List ℕ) (i : ℕ) where
  module _ (h : i < length (commands xs ys ks)) where
    pub change-here : is_change (op_of (get_or ks i 0)) ≡ true → i + change_from (drop i (commands xs ys ks)) ≡ i
    unfolding change_from
    change-here t = rw (commands-more xs ys ks i h, t) (omega arith)

    pub change-later : is_change (op_of (get_or ks i 0)) ≡ false
        → i + change_from (drop i (commands xs ys ks)) ≡ i + 1 + change_from (drop (i + 1) (commands xs ys ks))
    unfolding change_from
    change-later t = rw (commands-more xs ys ks i h, t) (omega arith)

  pub change-none : length (commands xs ys ks) ≤ i → i + change_from (drop i (commands xs ys ks)) ≡ i
  unfolding change_from
  change-none h = rw (list-end (commands xs ys ks) i h) (omega arith)

-- ---- the blocks from i on: none from one past the end on

pub blocks_from : List Cmd → ℕ → List (List Cmd)
blocks_from cs zero = color_blocks cs
blocks_from [] (suc i) = []
blocks_from (c ∷ cs) (suc i) = blocks_from cs i

first_block : (cs : List Cmd) → color_blocks cs ≡ take (change_from cs) cs ∷ blocks_from cs (suc (change_from cs))
unfolding color_blocks change_from at_front blocks_from
first_block [] = refl
first_block (c ∷ cs) = by-test (is_change (op_of c.kind)) (λ t. rw t) (λ t. rw (t, first_block cs))

block_at : (cs : List Cmd) (i : ℕ) → i ≤ length cs → blocks_from cs i ≡ slice i (i + change_from (drop i cs)) cs ∷ blocks_from cs (suc (i + change_from (drop i cs)))
unfolding blocks_from
block_at cs zero h = rw zero-add (first_block cs)
block_at [] (suc i) h = absurd (omega arith)
block_at (c ∷ cs) (suc i) h = rw suc-add (block_at cs i (le_of_suc-le-suc h))

no_block : (cs : List Cmd) (i : ℕ) → length cs < i → blocks_from cs i ≡ []
unfolding blocks_from
no_block cs zero h = absurd (omega arith)
no_block [] (suc i) h = refl
no_block (c ∷ cs) (suc i) h = no_block cs i (le_of_suc-le-suc h)

-- ---- and their thumbnails

pub icons_from : Scale → List Cmd → ℕ → List ℕ
icons_from s cs i = joined (map (drawn s blank_icon) (blocks_from cs i))

module _ (s : Scale) (cs : List Cmd) where
  pub icons-all : block_icons s cs ≡ icons_from s cs 0
  unfolding block_icons icons_from blocks_from
  icons-all = refl

  icons-more : (i e : ℕ) → i ≤ length cs → e ≡ i + change_from (drop i cs) → icons_from s cs i ≡ drawn s blank_icon (slice i e cs) ++ icons_from s cs (e + 1)
  unfolding icons_from joined
  icons-more i e h k = rw (k, add-one, block_at cs i h)

  pub icons-none : (i : ℕ) → length cs < i → icons_from s cs i ≡ []
  unfolding icons_from joined
  icons-none i h = rw (no_block cs i h)

  -- a turn: the block's picture has room, and is put
  module _ {d₀ whole d : List ℕ} {base n : ℕ} (i e : ℕ) (h : i ≤ length cs) (k : e ≡ i + change_from (drop i cs)) (w : Writing d₀ base whole d n (icons_from s cs i)) where
    pub block_room : n + 228 ≤ length d
    block_room = omega (arith, icon_long s (slice i e cs), writing-room (drawn s blank_icon (slice i e cs)) (icons_from s cs (e + 1)) w (icons-more i e h k))

    pub block_more : {d' icon : List ℕ} {m : ℕ} → icon ≡ drawn s blank_icon (slice i e cs) → Put d d' n m icon → Writing d₀ base whole d' m (icons_from s cs (e + 1))
    block_more t p = writing_more w (icons-more i e h k) (put_as p t)
