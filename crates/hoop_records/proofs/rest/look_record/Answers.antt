-- Each kind of record by its law.
use mathlib.Core.Path.{sym, ◌∙◌}
use mir.Facts.{to_z-of_z}
use mir.Syntax.{w32}
use mir.Val.{SFits}
use Rattle.hoop_records.proofs.Turns.{can-step, looks-sewn, looks-jump, looks-change, looks-end}
use borrow.Author.Rules.{rules}
use Rattle.hoop_records.proofs.rest.look_record.Goals as goal

pub sew-requires : goal.sew-requires
sew-requires c =
    let f : SFits w32 c.in-StitchBy.dx = search (rules, c.in-StitchBy.known_told-1-own.given) in
    let g : SFits w32 c.in-StitchBy.dy = search (rules, c.in-StitchBy.known_told-1-own.given) in
    rw (to_z-of_z f, to_z-of_z g) (can-step c.args.f c.requires.looking (sym c.record_at.ensures ∙ c.in-StitchBy.is))

pub hop-requires : goal.hop-requires
hop-requires c =
    let f : SFits w32 c.in-JumpBy.dx = search (rules, c.in-JumpBy.known_told-in-JumpBy-1-own.given) in
    let g : SFits w32 c.in-JumpBy.dy = search (rules, c.in-JumpBy.known_told-in-JumpBy-1-own.given) in
    rw (to_z-of_z f, to_z-of_z g) (can-step c.args.f c.requires.looking (sym c.record_at.ensures ∙ c.in-JumpBy.is))

pub hop-requires-in-ChangeBy : goal.hop-requires-in-ChangeBy
hop-requires-in-ChangeBy c =
    let f : SFits w32 c.in-ChangeBy.dx = search (rules, c.in-ChangeBy.known_told-in-ChangeBy-1-own.given) in
    let g : SFits w32 c.in-ChangeBy.dy = search (rules, c.in-ChangeBy.known_told-in-ChangeBy-1-own.given) in
    rw (to_z-of_z f, to_z-of_z g) (can-step c.args.f c.requires.looking (sym c.record_at.ensures ∙ c.in-ChangeBy.is))

pub returns-in-StitchBy : goal.returns-in-StitchBy
returns-in-StitchBy c =
    let f : SFits w32 c.in-StitchBy.dx = search (rules, c.in-StitchBy.known_told-1-own.given) in
    let g : SFits w32 c.in-StitchBy.dy = search (rules, c.in-StitchBy.known_told-1-own.given) in
    rw (c.sew.ensures, to_z-of_z f, to_z-of_z g) (looks-sewn c.args.f c.requires.looking (sym c.record_at.ensures ∙ c.in-StitchBy.is))

pub returns-in-JumpBy : goal.returns-in-JumpBy
returns-in-JumpBy c =
    let f : SFits w32 c.in-JumpBy.dx = search (rules, c.in-JumpBy.known_told-in-JumpBy-1-own.given) in
    let g : SFits w32 c.in-JumpBy.dy = search (rules, c.in-JumpBy.known_told-in-JumpBy-1-own.given) in
    rw (c.hop.ensures, to_z-of_z f, to_z-of_z g) (looks-jump c.args.f c.requires.looking (sym c.record_at.ensures ∙ c.in-JumpBy.is))

pub returns-in-ChangeBy : goal.returns-in-ChangeBy
returns-in-ChangeBy c =
    let f : SFits w32 c.in-ChangeBy.dx = search (rules, c.in-ChangeBy.known_told-in-ChangeBy-1-own.given) in
    let g : SFits w32 c.in-ChangeBy.dy = search (rules, c.in-ChangeBy.known_told-in-ChangeBy-1-own.given) in
    rw (c.hop-in-ChangeBy.ensures, to_z-of_z f, to_z-of_z g) (looks-change c.args.f c.requires.looking (sym c.record_at.ensures ∙ c.in-ChangeBy.is))

pub returns-in-Finish : goal.returns-in-Finish
returns-in-Finish c =
    rw c.pass_to.ensures (looks-end c.args.f c.requires.looking c.requires.at_in_bounds (sym c.record_at.ensures ∙ c.in-Finish.is))
