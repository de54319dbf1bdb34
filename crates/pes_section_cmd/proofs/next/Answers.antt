-- Each operation has its own next state; a trim and the end keep all but the kind before.
use mathlib.Core.Path.{◌≡◌, sym, ◌∙◌}
use mathlib.Core.Bool.{Bool}
use mathlib.Core.List.{List}
use Rattle.std.proofs.Common.{◌⊎◌, inl, inr}
use mir.Syntax.{w32}
use mir.Facts.{to_z-of_z}
use Rattle.rules.specs.Pes.{PesState, pes_next}
use Rattle.rules.specs.declared.Cmd.{Cmd}
use Rattle.rules.specs.declared.Color.{Color}
use Rattle.rules.specs.declared.Op.{Op}
use Rattle.rules.specs.declared.Op.TheVariants.{Trim, End}
use Rattle.laws.specs.Ints.{ret}
use borrow.Author.Rules.{rules}
use Rattle.pes_section_cmd.proofs.next.Goals as goal

-- a trim or the end
kept : (threads : List Color) (s : PesState) (new : Bool) (op : Op) (c : Cmd) → (op ≡ Trim) ⊎ (op ≡ End)
    → record { before = c.kind; code = s.code; thread = s.thread; x = s.x; y = s.y; sections = s.sections } ≡ pes_next threads s new op c
unfolding pes_next
kept threads s new op c k = elim k [ inl e ↦ rw e | inr e ↦ rw e ]

pub returns-in-Stitch : goal.returns-in-Stitch
unfolding pes_next
returns-in-Stitch c =
    let op = sym c.op_of.ensures ∙ c.in-Stitch.is in
    rw (op, to_z-of_z c.ranges.x, to_z-of_z c.ranges.y, c.one_if.ensures.0)

pub returns-in-Jump : goal.returns-in-Jump
unfolding pes_next
returns-in-Jump c = let s = c.args.s in
    let op = sym c.op_of.ensures ∙ c.in-Jump.is in
    let x = ret w32 s.x (search (rules, c.struct_told-1.given)) in
    let y = ret w32 s.y (search (rules, c.struct_told-1.given)) in
    rw (op, x, y, c.one_if-in-Jump.ensures.0)

pub returns-in-ColorChange : goal.returns-in-ColorChange
returns-in-ColorChange c =
    let op = sym c.op_of.ensures ∙ c.in-ColorChange.is in
    rw op (rw (to_z-of_z c.ranges.x, to_z-of_z c.ranges.y) at c.changed.ensures)

pub returns-in-Trim : goal.returns-in-Trim
returns-in-Trim c = let a = c.args in
    let x = ret w32 a.s.x (search (rules, c.struct_told-in-Trim-1.given)) in
    let y = ret w32 a.s.y (search (rules, c.struct_told-in-Trim-1.given)) in
    rw (x, y, ← c.op_of.ensures) (kept _ _ a.new _ _ c.in-Trim.is)
