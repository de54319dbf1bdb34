-- The same number, one cell after the other.
use Rattle.std.proofs.Common.{◌≡◌, ℕ, suc, ◌+◌, ◌-◌, ◌<◌, ◌≤◌, [], ◌∷◌, replicate, arith}
use lib.ListN.{length-replicate}
use Rattle.laws.specs.Buffers.{writing_start, writing-one, writing-done}
use Rattle.thumbnail_tables.proofs.fill_same.Goals as goal

one_more : (v j k : ℕ) → k < j → replicate (j - k) v ≡ v ∷ replicate (j - (k + 1)) v
one_more v j k h = rw (less j k h)
  where
    less : (j k : ℕ) → k < j → j - k ≡ suc (j - (k + 1))
    less j k h = omega arith

no_more : (v j k : ℕ) → j ≤ k → replicate (j - k) v ≡ []
no_more v j k h = rw (none j k h)
  where
    none : (j k : ℕ) → j ≤ k → j - k ≡ 0
    none j k h = omega arith

pub loop-k-init : goal.loop-k-init
loop-k-init c = (c.requires.0, writing_start c.args.table.now c.args.i _ (omega (arith, length-replicate (c.args.j - c.args.i) c.args.v)))

pub offset_bounds-table-k : goal.offset_bounds-table-k
offset_bounds-table-k c = omega (arith, c.loop-k.invariant.1.same)

pub bounds-table-k : goal.bounds-table-k
bounds-table-k c = omega (arith, c.loop-k.invariant.1.same)

pub loop-k-preserved : goal.loop-k-preserved
loop-k-preserved c =
    (omega arith, writing-one c.loop-k.invariant.1 (one_more c.args.v c.args.j c.loop-k.k (omega arith)))

pub shape_of-table : goal.shape_of-table
shape_of-table c = c.loop-k.invariant.1.same

pub returns : goal.returns
returns c =
    (writing-done c.loop-k.invariant.1 (no_more c.args.v c.args.j c.loop-k.k (omega arith))).stored
