-- Each entry passed is the part of its step.
use mathlib.Core.Path.{◌≡◌, ◌∙◌}
use Prim.Native.Nat.{ℕ, ◌<◌}
use native.Mathlib.Omega.{arith}
use borrow.Author.Count.{below_more}
use lib.ListN.{get_or, set, length-set}
use lib.Seq.{get_or-set_same, get_or-set_other}
use Rattle.stream_cmd.specs.Cmds.{part_of}
use Rattle.stream_cmd.proofs.triples.table.Goals as goal

pub loop-t-init : goal.loop-t-init
loop-t-init c = (omega arith, (omega arith, λ k l. absurd (omega arith)))

pub part-requires : goal.part-requires
part-requires c = omega arith

pub offset_bounds-parts-t : goal.offset_bounds-parts-t
offset_bounds-parts-t c = omega arith

pub bounds-parts-t : goal.bounds-parts-t
bounds-parts-t c = omega arith

pub loop-t-preserved : goal.loop-t-preserved
loop-t-preserved c = let loop = c.loop-t in
    let s = loop.parts in
    let v = c.part.result in
    let Right : ℕ → Type 0 = λ k. get_or (set s loop.t v) k 0 ≡ part_of c.args.wide k in
    let old : (k : ℕ) → k < loop.t → Right k = λ k l. get_or-set_other s loop.t k v 0 (λ e. omega arith) ∙ loop.invariant.1.1 k l in
    let new : Right loop.t = get_or-set_same s loop.t v 0 (omega arith) ∙ c.part.ensures in
    (simp length-set loop.invariant.0, (omega arith, below_more Right loop.t old new))

pub returns : goal.returns
returns c = record { size = c.loop-t.invariant.0; each = λ t l. c.loop-t.invariant.1.1 t (omega arith) }
