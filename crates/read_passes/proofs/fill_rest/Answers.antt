-- One record after the other, by `Went`.
use mathlib.Core.Path.{refl}
use native.Mathlib.Omega.{arith}
use Rattle.read_passes.specs.Walks.{none}
use Rattle.read_passes.proofs.Loops.{going_start, going_on, stays, later, ready-small, ready-reach, ready-holds, one_on}
use Rattle.read_passes.proofs.fill_rest.Goals as goal

pub loop-at-init : goal.loop-at-init
loop-at-init c = going_start refl c.requires

pub write-b-requires : goal.write-b-requires
write-b-requires c = let g = c.loop-at.invariant.ready in
    let e = c.record_at-r.ensures in
    record { small = ready-small _ _ _ g; reach = ready-reach _ _ _ g e; holds = ready-holds _ _ _ g e }

pub place_after-at-requires : goal.place_after-at-requires
place_after-at-requires c =
    let l = c.loop-at in
    let a = c.args in
    omega (arith, stays a.f a.bytes.now l.at c.record_at-r.ensures l.invariant.ready.within, l.invariant.ready.short)

pub loop-at-smaller : goal.loop-at-smaller
loop-at-smaller c =
    let a = c.args in
    let h = later a.f a.bytes.now c.loop-at.at c.record_at-r.ensures c.loop-at-test.true in
    rw c.place_after-at.ensures (omega (arith, h, c.loop-at-test.true))

pub loop-at-preserved : goal.loop-at-preserved
loop-at-preserved c =
    let v = c.write-b.ensures in
    let o = one_on _ _ _ none c.record_at-r.ensures v.value c.place_after-at.ensures v.places_value v.runs_value v.blocks_value in
    going_on c.loop-at.invariant o
