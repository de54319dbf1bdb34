-- Sums of two places.
use Rattle.vp3.proofs.Numbers.{sum-small, sum_fits, sum_back}
use Rattle.vp3.proofs.middle.Goals as goal

pub overflow_add-result : goal.overflow_add-result
overflow_add-result c = let b = c.args.b in sum_fits b.max.x b.min.x c.requires.right c.requires.left

pub overflow_add-result-2 : goal.overflow_add-result-2
overflow_add-result-2 c = let b = c.args.b in sum_fits b.max.y b.min.y c.requires.bottom c.requires.top

pub returns : goal.returns
returns c =
    let b = c.args.b in
    let x = sum_back b.max.x b.min.x c.requires.right c.requires.left in
    let y = sum_back b.max.y b.min.y c.requires.bottom c.requires.top in (
      x,
      (
        y,
        record {
          x = rw x (sum-small b.max.x b.min.x c.requires.right c.requires.left);
          y = rw y (sum-small b.max.y b.min.y c.requires.bottom c.requires.top);
        },
      ),
    )
