-- One place alone, or as many as lie between two of one pixel.
use Rattle.std.proofs.Common.{◌-◌, ℤ, pos, ◌+ℤ◌, sym, ap, ◌∙◌, arith, to_z-of_z, w32}
use Rattle.laws.specs.Ints.{ret}
use Rattle.thumbnail_tables.proofs.Places.{pixel-read, alone, together}
use Rattle.thumbnail_tables.proofs.stretch.Goals as goal

pub returns-then-p-ge48 : goal.returns-then-p-ge48
returns-then-p-ge48 c = (omega arith, (omega arith, alone c.args.scale c.args.t c.args.z c.requires.p_value))

pub returns-then-far-le1 : goal.returns-then-far-le1
returns-then-far-le1 c =
    (omega arith, (omega arith, alone c.args.scale c.args.t c.args.z c.requires.p_value))

pub returns-then-not-is_above_zero : goal.returns-then-not-is_above_zero
returns-then-not-is_above_zero c =
    (omega arith, (omega arith, alone c.args.scale c.args.t c.args.z c.requires.p_value))

pub returns-then-floor-p : goal.returns-then-floor-p
returns-then-floor-p c = let place' = c.place in let if3 = c.if-not-is_above_zero in
    let is-above-zero = c.is_above_zero in
    let least = c.min-far in
    let a = c.args in
    let e = c.if-floor-p.true in
    let there = ret w32 place'.result place'.type_inv ∙ place'.ensures ∙ ap (λ (u : ℤ). u +ℤ pos (least.result - 1)) (to_z-of_z c.ranges.z) in
    let last = sym (pixel-read a.scale a.t c.floor.ensures c.scaled-2.ensures there) ∙ e in (
      omega arith,
      (
        omega (arith, least.ensures),
        together a.scale a.t a.z c.requires.p_value least.result
            (sym is-above-zero.ensures ∙ if3.false) (omega arith) last,
      ),
    )

pub returns : goal.returns
returns c =
    (omega arith, (omega arith, alone c.args.scale c.args.t c.args.z c.requires.p_value))
