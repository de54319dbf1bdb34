-- Three tests.
use borrow.Author.Tests.{lt-leb, le-leb}
use Prim.Native.Nat.{◌*◌}
use Rattle.read.specs.Answered.{room_for}
use Rattle.read.proofs.has_room.Goals as goal

pub returns-then-places-c : goal.returns-then-places-c
unfolding room_for
returns-then-places-c c = let a = c.args in
    rw (lt-leb (2 * a.c.points) a.places c.if-places-c.true)

pub returns-then-runs-c : goal.returns-then-runs-c
unfolding room_for
returns-then-runs-c c = let a = c.args in
    rw (le-leb (2 * a.c.points) a.places c.if-places-c.false, lt-leb a.c.runs a.runs c.if-runs-c.true)

pub returns : goal.returns
unfolding room_for
returns c = let a = c.args in
    rw (le-leb (2 * a.c.points) a.places c.if-places-c.false, le-leb a.c.runs a.runs c.if-runs-c.false)
