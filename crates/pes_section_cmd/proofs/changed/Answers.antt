-- A new run takes the next thread's entry; any other colour change keeps all but the kind before.
use mir.Syntax.{w32}
use Rattle.rules.specs.Pes.{pes_next}
use Rattle.laws.specs.Ints.{ret}
use borrow.Author.Rules.{rules}
use Rattle.pes_section_cmd.proofs.changed.Goals as goal

pub returns-then-new : goal.returns-then-new
unfolding pes_next
returns-then-new c = let s = c.args.s in
    let x = ret w32 s.x (search (rules, c.struct_told-1.given)) in
    let y = ret w32 s.y (search (rules, c.struct_told-1.given)) in
    rw (x, y, c.if-new.true, c.code_at.ensures)

pub returns : goal.returns
unfolding pes_next
returns c = let s = c.args.s in
    let x = ret w32 s.x (search (rules, c.struct_told-2-1.given)) in
    let y = ret w32 s.y (search (rules, c.struct_told-2-1.given)) in
    rw (x, y, c.if-new.false)
