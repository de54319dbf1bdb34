-- Sewing and needle places, of a list and of the three answers of a read.
use Rattle.std.specs.Prelude.{ℕ, zero, suc, ◌+◌, ◌*◌, List, [], ◌∷◌, ◌++◌, ℤ, pos, take, drop}
use Rattle.rules.specs.Vocabulary.{pick}
use Rattle.rules.specs.Lists.{op_of, same_place}
use Rattle.rules.specs.Limits.{block_cells_of}
use Rattle.rules.specs.declared.Cmd.{Cmd}
use Rattle.rules.specs.declared.Counts.{Counts}
use Rattle.rules.specs.declared.Op.{Op}
use Rattle.rules.specs.declared.Op.TheVariants.{Stitch, Jump, Trim, ColorChange, End}

-- an entry: block number, place before, own place
pub record Entry : Type 0 where
  pub block : ℕ
  pub x₀ : ℤ
  pub y₀ : ℤ
  pub x₁ : ℤ
  pub y₁ : ℤ

-- one entry where the places differ, none on the spot; and what follows
unfoldable pub entry : ℕ → ℤ → ℤ → ℤ → ℤ → List Entry → List Entry
entry k x y x' y' rest = pick (same_place x y x' y') rest (record { block = k; x₀ = x; y₀ = y; x₁ = x'; y₁ = y' } ∷ rest)

-- A colour change adds 1 to the block number.
unfoldable pub block_after : Op → ℕ → ℕ
block_after Stitch k = k
block_after Jump k = k
block_after Trim k = k
block_after ColorChange k = suc k
block_after End k = k

-- A stitch whose place differs from the place before adds one entry. Jumps, trims, the end and a stitch on the spot add none.
unfoldable pub sews_cmd : Op → ℕ → ℤ → ℤ → ℤ → ℤ → List Entry → List Entry
sews_cmd Stitch k x y x' y' rest = entry k x y x' y' rest
sews_cmd Jump k x y x' y' rest = rest
sews_cmd Trim k x y x' y' rest = rest
sews_cmd ColorChange k x y x' y' rest = rest
sews_cmd End k x y x' y' rest = rest

-- from block k and the place before, (x, y); after every command its place is the place before
unfoldable pub sews : ℕ → ℤ → ℤ → List Cmd → List Entry
sews k x y [] = []
sews k x y (c ∷ cs) = sews_cmd (op_of c.kind) k x y c.x c.y (sews (block_after (op_of c.kind) k) c.x c.y cs)

-- a list's sewing: from (0, 0) and block 0
unfoldable pub list_sewing : List Cmd → List Entry
list_sewing cs = sews 0 (pos 0) (pos 0) cs

-- ---- the answers of a read, told by each two neighbouring points of a run

-- What two such points add to what follows: told by the block's number, the first point and the second.
abbrev pub Adding : Type 0 → Type 0
Adding A = ℕ → ℤ → ℤ → ℤ → ℤ → List A → List A

-- the n points of a run that follow (x, y)
unfoldable pub along_run : {A : Type 0} → Adding A → ℕ → ℤ → ℤ → ℕ → List ℤ → List A
along_run add k x y zero ps = []
along_run add k x y (suc n) [] = []
along_run add k x y (suc n) (x' ∷ []) = []
along_run add k x y (suc n) (x' ∷ y' ∷ ps) = add k x y x' y' (along_run add k x' y' n ps)

-- a run of n points in block k
unfoldable pub of_run : {A : Type 0} → Adding A → ℕ → ℕ → List ℤ → List A
of_run add k zero ps = []
of_run add k (suc n) [] = []
of_run add k (suc n) (x ∷ []) = []
of_run add k (suc n) (x ∷ y ∷ ps) = along_run add k x y n ps

-- m runs of block k, the first of them at the front
unfoldable pub of_runs : {A : Type 0} → Adding A → ℕ → ℕ → List ℤ → List ℕ → List A
of_runs add k zero ps rs = []
of_runs add k (suc m) ps [] = []
of_runs add k (suc m) ps (n ∷ rs) = of_run add k n ps ++ of_runs add k m (drop (2 * n) ps) rs

-- the cells of places that the first m runs take
unfoldable pub cells : ℕ → List ℕ → ℕ
cells zero rs = 0
cells (suc m) [] = 0
cells (suc m) (n ∷ rs) = 2 * n + cells m rs

-- all blocks, from what the caller gets: places; points in each run; number, colour and runs of each block
unfoldable pub of_blocks : {A : Type 0} → Adding A → List ℤ → List ℕ → List ℕ → List A
of_blocks add ps rs [] = []
of_blocks add ps rs (k ∷ []) = []
of_blocks add ps rs (k ∷ c ∷ []) = []
of_blocks add ps rs (k ∷ c ∷ m ∷ bs) = of_runs add k m ps rs ++ of_blocks add (drop (cells m rs) ps) (drop m rs) bs

-- the same from the caller-provided buffers: as many cells at their front as the counts say
unfoldable pub of_buffers : {A : Type 0} → Adding A → Counts → List ℤ → List ℕ → List ℕ → List A
of_buffers add c ps rs bs = of_blocks add (take (2 * c.points) ps) (take c.runs rs) (take (block_cells_of * c.blocks) bs)

-- a file's sewing: each two neighbouring points of a run that differ add one entry
unfoldable pub file_sewing : List ℤ → List ℕ → List ℕ → List Entry
file_sewing ps rs bs = of_blocks entry ps rs bs

unfoldable pub told_sewing : Counts → List ℤ → List ℕ → List ℕ → List Entry
told_sewing c ps rs bs = of_buffers entry c ps rs bs

-- ---- needle places

-- where a stitch leads, and in which block
pub record Needle : Type 0 where
  pub block : ℕ
  pub x : ℤ
  pub y : ℤ

-- Needle places of a read are each run's points but its first.
unfoldable pub needle : ℕ → ℤ → ℤ → ℤ → ℤ → List Needle → List Needle
needle k x y x' y' rest = record { block = k; x = x'; y = y' } ∷ rest

unfoldable pub file_needles : List ℤ → List ℕ → List ℕ → List Needle
file_needles ps rs bs = of_blocks needle ps rs bs

unfoldable pub told_needles : Counts → List ℤ → List ℕ → List ℕ → List Needle
told_needles c ps rs bs = of_buffers needle c ps rs bs

-- a list's stitches, with their places and block numbers; a stitch on the spot is one too
unfoldable pub needles_cmd : Op → ℕ → ℤ → ℤ → List Needle → List Needle
needles_cmd Stitch k x y rest = record { block = k; x = x; y = y } ∷ rest
needles_cmd Jump k x y rest = rest
needles_cmd Trim k x y rest = rest
needles_cmd ColorChange k x y rest = rest
needles_cmd End k x y rest = rest

unfoldable pub needles_from : ℕ → List Cmd → List Needle
needles_from k [] = []
needles_from k (c ∷ cs) = needles_cmd (op_of c.kind) k c.x c.y (needles_from (block_after (op_of c.kind) k) cs)

unfoldable pub list_needles : List Cmd → List Needle
list_needles cs = needles_from 0 cs
