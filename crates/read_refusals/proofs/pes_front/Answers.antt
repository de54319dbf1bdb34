-- A PES file begins as one, says where its PEC part begins, and that is not below zero. Assumes nothing.
use Prim.Native.Nat.{◌≤◌}
use mathlib.Core.Path.{◌≡◌, sym, ◌∙◌}
use mathlib.Core.Bool.{true}
use mathlib.Core.List.{[], ◌∷◌}
use lib.ListN.{length}
use mir.Syntax.{w32}
use mir.Val.{to_z, of_z}
use Rattle.rules.specs.Text.{begins, word_at}
use Rattle.laws.specs.Ints.{ints, fit, seen}
use Rattle.read_header.proofs.Colors.{word-there, word-missing}
use Rattle.laws.specs.Prefixes.{begins-starts}
use Rattle.read_refusals.proofs.Checked.{pes-unlike, pes-short, pes-below, pes_start_lem}
use Rattle.read_refusals.proofs.pes_front.Goals as goal

pub returns-then-not-starts_with : goal.returns-then-not-starts_with
returns-then-not-starts_with c = pes-unlike _ (sym (c.starts_with.ensures.value ∙ begins-starts _ _) ∙ c.if-not-starts_with.true)

pub returns-in_default : goal.returns-in_default
returns-in_default c =
    let like : begins (0x23 ∷ 0x50 ∷ 0x45 ∷ 0x53 ∷ []) c.args.file.now ≡ true = sym (c.starts_with.ensures.value ∙ begins-starts _ _) ∙ c.if-not-starts_with.false in
    let s = c.args.file.now in
    pes-short s like (word-missing 8 s c.i32le.ensures c.in_default.is)

pub returns-then-start-lt0 : goal.returns-then-start-lt0
returns-then-start-lt0 c =
    let like : begins (0x23 ∷ 0x50 ∷ 0x45 ∷ 0x53 ∷ []) c.args.file.now ≡ true = sym (c.starts_with.ensures.value ∙ begins-starts _ _) ∙ c.if-not-starts_with.false in
    let told : (let s = c.args.file.now in
    (12 ≤ length s) × (word_at 8 s ≡ to_z w32 (of_z w32 c.in-Some.start))) = word-there 8 _ c.i32le.ensures c.in-Some.is c.in-Some.known_told-1-own.given.0.1 in
    pes-below _ like told c.if-start-lt0.true

pub overflow_cast-start : goal.overflow_cast-start
overflow_cast-start c = omega (ints, seen (fit w32 c.in-Some.start c.in-Some.known_told-1-own.given.0.1))

pub returns : goal.returns
returns c =
    let like : begins (0x23 ∷ 0x50 ∷ 0x45 ∷ 0x53 ∷ []) c.args.file.now ≡ true = sym (c.starts_with.ensures.value ∙ begins-starts _ _) ∙ c.if-not-starts_with.false in
    let told : (let s = c.args.file.now in
    (12 ≤ length s) × (word_at 8 s ≡ to_z w32 (of_z w32 c.in-Some.start))) = word-there 8 _ c.i32le.ensures c.in-Some.is c.in-Some.known_told-1-own.given.0.1 in
    c.pec_front.ensures ∙ pes_start_lem _ like told
    c.if-start-lt0.false
