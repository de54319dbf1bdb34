-- Row 0, then the rest.
use Rattle.std.proofs.Common.{◌-◌, length, drop, arith, length-drop, take_all}
use Rattle.laws.specs.Buffers.{put-put, put_as}
use Rattle.thumbnail_tables.proofs.put_rows.Goals as goal

pub returns : goal.returns
returns c = let put-times = c.put_times-rows in
    put_as (put-put put-times.ensures c.put_text.ensures)
    (rw (take_all (length c.args.icon.now - 6) (drop 6 c.args.icon.now) (omega (arith, length-drop 6 c.args.icon.now))))
