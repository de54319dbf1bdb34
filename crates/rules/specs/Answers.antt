-- What a read answers, worked out from the remaining events: a stitch with no run open opens one at the place it leaves, every stitch
-- adds the place it reaches; a jump or colour change ends the run. A colour change opens the next block; blocks are numbered from 0.
use Rattle.std.specs.Prelude.{ℕ, zero, suc, ◌-◌, ◌/◌, List, [], ◌∷◌, ◌++◌, ℤ, ◌+ℤ◌, length}
use Rattle.rules.specs.Limits.{block_cells_of}
use Rattle.rules.specs.Records.{Event, stitch, jump, change}

-- Throughout, n counts the points of the open run; 0 means that no run is open.

-- a stitch adds a point, and a run opens with two
unfoldable pub points_after : ℕ → ℕ
points_after zero = 2
points_after (suc n) = suc (suc n)

-- the first point of a run, where a stitch opens one
unfoldable pub start_of : ℕ → ℤ → ℤ → List ℤ
start_of zero x y = x ∷ y ∷ []
start_of (suc n) x y = []

-- the points of all runs in order, two cells each; the place before is (x, y)
unfoldable pub places : ℤ → ℤ → ℕ → List Event → List ℤ
places x y n [] = []
places x y n (stitch dx dy ∷ es) = start_of n x y ++ (x +ℤ dx) ∷ (y +ℤ dy) ∷ places (x +ℤ dx) (y +ℤ dy) (points_after n) es
places x y n (jump dx dy ∷ es) = places (x +ℤ dx) (y +ℤ dy) 0 es
places x y n (change dx dy ∷ es) = places (x +ℤ dx) (y +ℤ dy) 0 es

-- an ended run; none if no run was open
unfoldable pub run_of : ℕ → List ℕ
run_of zero = []
run_of (suc n) = suc n ∷ []

-- the points in each run
unfoldable pub runs : ℕ → List Event → List ℕ
runs n [] = run_of n
runs n (stitch dx dy ∷ es) = runs (points_after n) es
runs n (jump dx dy ∷ es) = run_of n ++ runs 0 es
runs n (change dx dy ∷ es) = run_of n ++ runs 0 es

-- block k of m runs, if it has any: number, colour, runs
unfoldable pub block_of : (ℕ → ℕ) → ℕ → ℕ → List ℕ
block_of colour k zero = []
block_of colour k (suc m) = k ∷ colour k ∷ suc m ∷ []

-- a stitch begins a run where none is open
unfoldable pub begun_after : ℕ → ℕ → ℕ
begun_after zero m = suc m
begun_after (suc n) m = m

-- the blocks from block k on, of which m runs have begun; blocks without runs are left out, each colour is that of its number
unfoldable pub blocks : (ℕ → ℕ) → ℕ → ℕ → ℕ → List Event → List ℕ
blocks colour k m n [] = block_of colour k m
blocks colour k m n (stitch dx dy ∷ es) = blocks colour k (begun_after n m) (points_after n) es
blocks colour k m n (jump dx dy ∷ es) = blocks colour k m 0 es
blocks colour k m n (change dx dy ∷ es) = block_of colour k m ++ blocks colour (suc k) 0 0 es

-- the counts: points, runs, blocks listed, and the cuts of every format but DST: runs less blocks listed
unfoldable pub point_total : List ℤ → ℕ
point_total ps = length ps / 2

unfoldable pub block_total : List ℕ → ℕ
block_total bs = length bs / block_cells_of

unfoldable pub cuts : List ℕ → List ℕ → ℕ
cuts rs bs = length rs - block_total bs
