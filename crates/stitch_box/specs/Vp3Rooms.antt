-- VP3: how much is read of a file of n bytes. A step takes two bytes and is one event at most, and a block's fields make up for its change.
-- Assumes nothing.
use Rattle.std.specs.Prelude.{ℕ, zero, suc, ◌+◌, ◌*◌, ◌≤◌, List, [], ◌∷◌, ℤ, pos, ◌+ℤ◌, length}
use Rattle.std.proofs.Common.{arith, length-append}
use Rattle.rules.specs.Answers.{places, runs, blocks, start_of, run_of, block_of, points_after, begun_after}
use Rattle.rules.specs.Limits.{block_cells_of}
use Rattle.rules.specs.Records.{Event, stitch, jump, change}
use Rattle.rules.specs.Vp3.{Blocks, ended, block, cut, passed, blocks_from, vp3_blocks, stitch_events, reach_x, reach_y, change_to, events_in}
use Rattle.laws.specs.Vp3Fields.{block-all, file-all}
use Rattle.read_vp3.proofs.Tallied.{few-events}

-- ---- the answers of events

-- 1 where no run is open
shut_at : ℕ → ℕ
shut_at zero = 1
shut_at (suc n) = 0

places-most : (x y : ℤ) (n : ℕ) (es : List Event) → length (places x y n es) ≤ 2 * (length es + shut_at n)
unfolding places start_of points_after shut_at
places-most x y n [] = omega arith
places-most x y zero (stitch dx dy ∷ es) = omega (arith, places-most (x +ℤ dx) (y +ℤ dy) 2 es)
places-most x y (suc n) (stitch dx dy ∷ es) = omega (arith, places-most (x +ℤ dx) (y +ℤ dy) (suc (suc n)) es)
places-most x y n (jump dx dy ∷ es) = omega (arith, places-most (x +ℤ dx) (y +ℤ dy) 0 es)
places-most x y n (change dx dy ∷ es) = omega (arith, places-most (x +ℤ dx) (y +ℤ dy) 0 es)

runs-most : (n : ℕ) (es : List Event) → length (runs n es) + shut_at n ≤ length es + 1
unfolding runs run_of points_after shut_at
runs-most zero [] = omega arith
runs-most (suc n) [] = omega arith
runs-most zero (stitch dx dy ∷ es) = omega (arith, runs-most 2 es)
runs-most (suc n) (stitch dx dy ∷ es) = omega (arith, runs-most (suc (suc n)) es)
runs-most zero (jump dx dy ∷ es) = omega (arith, runs-most 0 es)
runs-most (suc n) (jump dx dy ∷ es) = omega (arith, runs-most 0 es)
runs-most zero (change dx dy ∷ es) = omega (arith, runs-most 0 es)
runs-most (suc n) (change dx dy ∷ es) = omega (arith, runs-most 0 es)

-- 1 where the block has runs
begun_at : ℕ → ℕ
begun_at zero = 0
begun_at (suc n) = 1

block-most : (c : ℕ → ℕ) (k m : ℕ) → length (block_of c k m) ≤ block_cells_of * begun_at m
unfolding block_of begun_at
block-most c k zero = omega arith
block-most c k (suc m) = omega arith

begun-most : (m : ℕ) → begun_at m ≤ 1
unfolding begun_at
begun-most zero = omega arith
begun-most (suc m) = omega arith

blocks-most : (c : ℕ → ℕ) (k m n : ℕ) (es : List Event) → length (blocks c k m n es) ≤ block_cells_of * (begun_at m + length es)
unfolding blocks begun_at
blocks-most c k m n [] = omega (arith, block-most c k m)
blocks-most c k m n (stitch dx dy ∷ es) = omega (arith, blocks-most c k (begun_after n m) (points_after n) es, begun-most (begun_after n m))
blocks-most c k m n (jump dx dy ∷ es) = omega (arith, blocks-most c k m 0 es)
blocks-most c k m n (change dx dy ∷ es) = simp length-append (omega (arith, block-most c k m, blocks-most c (suc k) 0 0 es))

-- ---- the events of a file

change-most : (x y : ℤ) (bs : Blocks) (es : List Event) → length (change_to x y bs es) ≤ 1 + length es
unfolding change_to
change-most x y (ended v) es = omega arith
change-most x y (block x' y' c bytes bs) es = omega arith

events-most : (n : ℕ) (x y : ℤ) (s : List ℕ) → 2 * length (events_in (blocks_from n x y s)) ≤ length s
unfolding events_in blocks_from cut passed
events-most zero x y s = omega arith
events-most (suc n) x y s = block-all (λ (bs : Blocks). 2 * length (events_in bs) ≤ length s) (omega arith) (omega arith) n x y s
    (λ x' y' rest c bytes l. let es = stitch_events bytes in let more = blocks_from n x' y' rest in
    simp length-append (omega (arith, l, few-events bytes, events-most n x' y' rest, change-most (reach_x x es) (reach_y y es) more (events_in more))))

pub file-events : (s : List ℕ) → 2 * length (events_in (vp3_blocks s)) ≤ length s
unfolding events_in cut passed
file-events s = file-all (λ (bs : Blocks). 2 * length (events_in bs) ≤ length s) (omega arith) (omega arith) s
    (λ n t l. omega (arith, events-most n (pos 0) (pos 0) t))

-- ---- what is read

module _ (x y : ℤ) (c : ℕ → ℕ) (es : List Event) where
  pub place_cells : length (places x y 0 es) ≤ 2 * length es + 2
  unfolding shut_at
  place_cells = omega (arith, places-most x y 0 es)

  pub run_cells : length (runs 0 es) ≤ length es
  unfolding shut_at
  run_cells = omega (arith, runs-most 0 es)

  pub block_cells : length (blocks c 0 0 0 es) ≤ block_cells_of * length es
  unfolding begun_at
  block_cells = omega (arith, blocks-most c 0 0 0 es)
