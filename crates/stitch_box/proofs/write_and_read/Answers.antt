-- The write, and then the read of its file.
use Rattle.stitch_box.proofs.Backs.{short, front_long, both, none}
use Rattle.stitch_box.proofs.write_and_read.Goals as goal

pub slice_bounds-read_back-end : goal.slice_bounds-read_back-end
slice_bounds-read_back-end c = short c.write-written.ensures c.in-Ok.is

pub slice_bounds-read_back-end-in-Ok : goal.slice_bounds-read_back-end-in-Ok
slice_bounds-read_back-end-in-Ok c = front_long c.write-written.ensures c.in-Ok.is

pub returns-in-Err : goal.returns-in-Err
returns-in-Err c = none c.write-written.ensures c.in-Err.is _ _ _

pub returns-in-Ok : goal.returns-in-Ok
returns-in-Ok c = both c.write-written.ensures c.in-Ok.is c.read_back.ensures
