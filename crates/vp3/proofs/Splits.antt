-- The colour blocks of a list as a scan meets them: each from some command to before the next colour change or the end. Assumes nothing.
use Prim.Native.Nat.{ℕ, zero, suc, ◌+◌, ◌-◌, ◌*◌, ◌≤◌, ◌<◌}
use mathlib.Core.Path.{◌≡◌, refl, ap, ◌∙◌}
use mathlib.Core.Bool.{true, false}
use mathlib.Core.List.{List, [], ◌∷◌}
use native.Mathlib.Nat.{not-suc-le-zero, le_of_suc-le-suc, suc-add, zero-add}
use native.Mathlib.Omega.{arith}
use lib.ListN.{length, take, drop, get_or, length-drop}
use Rattle.rules.specs.Charts.{color}
use Rattle.rules.specs.Lists.{op_of, is_change, threads_of}
use Rattle.rules.specs.Thumbnails.{at_front, color_blocks}
use Rattle.rules.specs.Vp3.{or_black}
use Rattle.rules.specs.declared.Cmd.{Cmd}
use Rattle.rules.specs.declared.Color.{Color}
use Rattle.laws.specs.Tests.{by-test}
use Rattle.laws.specs.Listing.{list-more, list-end}
use Rattle.laws.specs.Threads.{thread_at, length-threads, thread-is}
use Rattle.vp3.specs.Blocks.{between, first_block_of}

-- the blocks from command i on, none if i is past the end
unfoldable pub blocks_at : List Cmd → ℕ → List (List Cmd)
blocks_at cs zero = color_blocks cs
blocks_at [] (suc i) = []
blocks_at (c ∷ cs) (suc i) = blocks_at cs i

-- f is the first block of s
record Cut (s f : List Cmd) : Type 0 where
  blocks : color_blocks s ≡ f ∷ blocks_at s (suc (length f))
  front : take (length f) s ≡ f
  short : length f ≤ length s

cut-onto : (c : Cmd) (cs f : List Cmd) (bs : List (List Cmd)) → is_change (op_of c.kind) ≡ false → color_blocks cs ≡ f ∷ bs → color_blocks (c ∷ cs) ≡ (c ∷ f) ∷ bs
unfolding color_blocks at_front
cut-onto c cs f bs t e = rw (t, e)

cut : (s : List Cmd) → (f : List Cmd) × Cut s f
unfolding color_blocks blocks_at
cut [] = ([], record { blocks = refl; front = refl; short = omega arith })
cut (c ∷ cs) =
    let r = cut cs in
    by-test (is_change (op_of c.kind))
    (λ t. ([], record { blocks = rw t; front = refl; short = omega arith }))
    (λ t. (
      c ∷ r.0,
      record {
        blocks = cut-onto c cs r.0 (blocks_at cs (suc (length r.0))) t r.1.blocks;
        front = ap (λ (l : List Cmd). c ∷ l) r.1.front;
        short = omega (arith, r.1.short);
      },
    ))

cut-first : (s : List Cmd) → Cut s (first_block_of (color_blocks s))
unfolding first_block_of
cut-first s =
    let r = cut s in
    let e : first_block_of (color_blocks s) ≡ r.0 = ap first_block_of r.1.blocks in
    rw e r.1

-- ---- by index

drop-blocks : (cs : List Cmd) (i j : ℕ) → i ≤ length cs → blocks_at (drop i cs) j ≡ blocks_at cs (i + j)
unfolding blocks_at
drop-blocks cs zero j h = rw zero-add
drop-blocks [] (suc i) j h = absurd (not-suc-le-zero h)
drop-blocks (c ∷ cs) (suc i) j h = drop-blocks cs i j (le_of_suc-le-suc h) ∙ rw suc-add

-- the block from command i on
abbrev pub first_at : List Cmd → ℕ → List Cmd
first_at cs i = first_block_of (color_blocks (drop i cs))

pub blocks_start : (cs : List Cmd) → blocks_at cs 0 ≡ color_blocks cs
unfolding blocks_at
blocks_start cs = refl

pub blocks-none : (cs : List Cmd) (i : ℕ) → length cs < i → blocks_at cs i ≡ []
unfolding blocks_at
blocks-none cs zero h = absurd (not-suc-le-zero h)
blocks-none [] (suc i) h = refl
blocks-none (c ∷ cs) (suc i) h = blocks-none cs i (le_of_suc-le-suc h)

blocks-some : (cs : List Cmd) (i : ℕ) → i ≤ length cs → blocks_at cs i ≡ color_blocks (drop i cs)
unfolding blocks_at
blocks-some cs zero h = refl
blocks-some [] (suc i) h = absurd (not-suc-le-zero h)
blocks-some (c ∷ cs) (suc i) h = blocks-some cs i (le_of_suc-le-suc h)

module _ (cs : List Cmd) (i : ℕ) (h : i ≤ length cs) where
  pub first_short : i + length (first_at cs i) ≤ length cs
  first_short = omega (arith, (cut-first (drop i cs)).short, length-drop i cs)

  pub blocks_more : blocks_at cs i ≡ first_at cs i ∷ blocks_at cs (i + length (first_at cs i) + 1)
  blocks_more =
      let n : ℕ = length (first_at cs i) in
      let e : i + suc n ≡ i + n + 1 = omega arith in
      blocks-some cs i h ∙ (cut-first (drop i cs)).blocks ∙ ap (λ (bs : List (List Cmd)). first_at cs i ∷ bs) (drop-blocks cs i (suc n) h ∙ ap (blocks_at cs) e)

  pub first-between : (end : ℕ) → end ≡ i + length (first_at cs i) → between cs i end ≡ first_at cs i
  first-between end e =
      let d : end - i ≡ length (first_at cs i) = omega arith in
      rw d (cut-first (drop i cs)).front

-- ---- a scan

pub first-end : (cs : List Cmd) (i : ℕ) → length cs ≤ i → first_at cs i ≡ []
unfolding color_blocks first_block_of
first-end cs i h = rw (list-end cs i h)

first-onto : (c : Cmd) (bs : List (List Cmd)) → first_block_of (at_front c bs) ≡ c ∷ first_block_of bs
unfolding at_front first_block_of
first-onto c [] = refl
first-onto c (b ∷ bs) = refl

module _ (cs : List Cmd) (c : Cmd) (i : ℕ) (e : drop i cs ≡ c ∷ drop (i + 1) cs) where
  pub first-change : is_change (op_of c.kind) ≡ true → first_at cs i ≡ []
  unfolding color_blocks first_block_of
  first-change t = rw (e, t)

  pub first_more : is_change (op_of c.kind) ≡ false → first_at cs i ≡ c ∷ first_at cs (i + 1)
  unfolding color_blocks
  first_more t = rw (e, t) (first-onto c (color_blocks (drop (i + 1) cs)))

-- ---- thread k

black-behind : (ts : List Color) (k : ℕ) → length ts ≤ k → or_black (drop k ts) ≡ color 0 0 0
unfolding or_black
black-behind ts k h = rw (list-end ts k h)

color-at : (ts : List Color) (k : ℕ) → k < length ts → or_black (drop k ts) ≡ get_or ts k (color 0 0 0)
unfolding or_black
color-at ts k h = rw (list-more ts (color 0 0 0) k h)

module _ (s : List ℕ) (k : ℕ) where
  pub thread-black : length s < 3 * k + 3 → or_black (drop k (threads_of s)) ≡ color 0 0 0
  thread-black h = black-behind (threads_of s) k (omega (arith, length-threads s))

  pub thread-here : 3 * k + 3 ≤ length s → or_black (drop k (threads_of s)) ≡ thread_at s (3 * k)
  thread-here h =
      let l : k < length (threads_of s) = omega (arith, length-threads s) in
      color-at (threads_of s) k l ∙ thread-is s k l
