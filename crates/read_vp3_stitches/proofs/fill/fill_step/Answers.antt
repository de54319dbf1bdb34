-- Each kind of step by its law.
use Prim.Native.Nat.{◌^◌, ◌<◌}
use mathlib.Core.Path.{refl}
use native.Mathlib.Omega.{arith}
use lib.Signed.{mag}
use mir.Facts.{to_z-of_z}
use mir.Syntax.{w32}
use mir.Val.{SFits}
use Rattle.read_vp3_stitches.proofs.Filling.{ready-small, ready-sew, ready-hop, turned-step}
use borrow.Author.Rules.{rules}
use Rattle.read_vp3_stitches.proofs.fill.fill_step.Goals as goal

pub sew-requires : goal.sew-requires
sew-requires c =
    let place : (mag c.args.b.x < 2 ^ 31) × (mag c.args.b.y < 2 ^ 31) = let f : SFits w32 c.args.b.x = search (rules, c.well_formed.0) in
    let g : SFits w32 c.args.b.y = search (rules, c.well_formed.0) in
    (f.sfits, g.sfits) in
    let reads-x : SFits w32 c.in-Stitch.dx = search (rules, c.in-Stitch.known_told-1-own.given) in
    let reads_y : SFits w32 c.in-Stitch.dy = search (rules, c.in-Stitch.known_told-1-own.given) in
    let f = reads-x in
    let g = reads_y in
    let p = place in rw (to_z-of_z f, to_z-of_z g) (record { small = ready-small c.requires p.0 p.1; reach = (ready-sew c.requires (rw c.in-Stitch.is at c.step_at.ensures) f.sfits g.sfits).0; y_in_bounds = (ready-sew c.requires (rw c.in-Stitch.is at c.step_at.ensures) f.sfits g.sfits).1 })

pub overflow_add-result : goal.overflow_add-result
overflow_add-result c = let h = (rw c.in-Stitch.is at c.step_at.ensures).inside in omega arith

pub hop-requires : goal.hop-requires
hop-requires c =
    let place : (mag c.args.b.x < 2 ^ 31) × (mag c.args.b.y < 2 ^ 31) = let f : SFits w32 c.args.b.x = search (rules, c.well_formed.0) in
    let g : SFits w32 c.args.b.y = search (rules, c.well_formed.0) in
    (f.sfits, g.sfits) in
    let p = place in record { small = ready-small c.requires p.0 p.1; reach = (ready-hop c.requires (rw c.in-EndRun.is at c.step_at.ensures) p.0 p.1).0; run_in_bounds = (ready-hop c.requires (rw c.in-EndRun.is at c.step_at.ensures) p.0 p.1).1 }

pub returns-in-Stitch : goal.returns-in-Stitch
returns-in-Stitch c =
    let reads-x : SFits w32 c.in-Stitch.dx = search (rules, c.in-Stitch.known_told-1-own.given) in
    let reads_y : SFits w32 c.in-Stitch.dy = search (rules, c.in-Stitch.known_told-1-own.given) in
    let w = rw (to_z-of_z reads-x, to_z-of_z reads_y) at c.sew.ensures in
    turned-step c.requires _ (rw c.in-Stitch.is at c.step_at.ensures) w.value refl w.places_value refl

pub returns-in-EndRun : goal.returns-in-EndRun
returns-in-EndRun c =
    turned-step c.requires _ (rw c.in-EndRun.is at c.step_at.ensures) c.hop.ensures.value refl refl c.hop.ensures.runs_value

pub returns-in-Nothing : goal.returns-in-Nothing
returns-in-Nothing c = turned-step c.requires _ (rw c.in-Nothing.is at c.step_at.ensures) refl refl refl refl

pub returns-in-Finish : goal.returns-in-Finish
returns-in-Finish c = turned-step c.requires _ (rw c.in-Finish.is at c.step_at.ensures) refl refl refl refl
