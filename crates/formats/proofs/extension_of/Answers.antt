-- `extension_of` meets its contract: one test after the other. Assumes nothing.
use Prim.Native.Nat.{ℕ}
use mathlib.Core.Path.{refl}
use mathlib.Core.List.{List, [], ◌∷◌}
use Rattle.rules.specs.Refusals.{named_in, extension_of}
use Rattle.formats.proofs.Names.{named-is}
use Rattle.formats.proofs.extension_of.Goals as goal

-- the formats' letters
abbrev pes : List ℕ
pes = 112 ∷ 101 ∷ 115 ∷ []

abbrev pec : List ℕ
pec = 112 ∷ 101 ∷ 99 ∷ []

abbrev dst : List ℕ
dst = 100 ∷ 115 ∷ 116 ∷ []

abbrev exp : List ℕ
exp = 101 ∷ 120 ∷ 112 ∷ []

abbrev jef : List ℕ
jef = 106 ∷ 101 ∷ 102 ∷ []

abbrev vp3 : List ℕ
vp3 = 118 ∷ 112 ∷ 51 ∷ []

pub returns-then-eq_ignore_ascii_case : goal.returns-then-eq_ignore_ascii_case
unfolding extension_of named_in
returns-then-eq_ignore_ascii_case c = rw (← named-is c.args.ext.now pes refl c.eq_ignore_ascii_case.ensures.test, c.if-eq_ignore_ascii_case.true)

pub returns-then-eq_ignore_ascii_case-2 : goal.returns-then-eq_ignore_ascii_case-2
unfolding extension_of named_in
returns-then-eq_ignore_ascii_case-2 c = rw (← named-is c.args.ext.now pes refl c.eq_ignore_ascii_case.ensures.test, c.if-eq_ignore_ascii_case.false, ← named-is c.args.ext.now pec refl c.eq_ignore_ascii_case-2.ensures.test, c.if-eq_ignore_ascii_case-2.true)

pub returns-then-eq_ignore_ascii_case-3 : goal.returns-then-eq_ignore_ascii_case-3
unfolding extension_of named_in
returns-then-eq_ignore_ascii_case-3 c = rw (← named-is c.args.ext.now pes refl c.eq_ignore_ascii_case.ensures.test, c.if-eq_ignore_ascii_case.false, ← named-is c.args.ext.now pec refl c.eq_ignore_ascii_case-2.ensures.test, c.if-eq_ignore_ascii_case-2.false, ← named-is c.args.ext.now dst refl c.eq_ignore_ascii_case-3.ensures.test, c.if-eq_ignore_ascii_case-3.true)

pub returns-then-eq_ignore_ascii_case-4 : goal.returns-then-eq_ignore_ascii_case-4
unfolding extension_of named_in
returns-then-eq_ignore_ascii_case-4 c = rw (← named-is c.args.ext.now pes refl c.eq_ignore_ascii_case.ensures.test, c.if-eq_ignore_ascii_case.false, ← named-is c.args.ext.now pec refl c.eq_ignore_ascii_case-2.ensures.test, c.if-eq_ignore_ascii_case-2.false, ← named-is c.args.ext.now dst refl c.eq_ignore_ascii_case-3.ensures.test, c.if-eq_ignore_ascii_case-3.false, ← named-is c.args.ext.now exp refl c.eq_ignore_ascii_case-4.ensures.test, c.if-eq_ignore_ascii_case-4.true)

pub returns-then-eq_ignore_ascii_case-5 : goal.returns-then-eq_ignore_ascii_case-5
unfolding extension_of named_in
returns-then-eq_ignore_ascii_case-5 c = rw (← named-is c.args.ext.now pes refl c.eq_ignore_ascii_case.ensures.test, c.if-eq_ignore_ascii_case.false, ← named-is c.args.ext.now pec refl c.eq_ignore_ascii_case-2.ensures.test, c.if-eq_ignore_ascii_case-2.false, ← named-is c.args.ext.now dst refl c.eq_ignore_ascii_case-3.ensures.test, c.if-eq_ignore_ascii_case-3.false, ← named-is c.args.ext.now exp refl c.eq_ignore_ascii_case-4.ensures.test, c.if-eq_ignore_ascii_case-4.false, ← named-is c.args.ext.now jef refl c.eq_ignore_ascii_case-5.ensures.test, c.if-eq_ignore_ascii_case-5.true)

pub returns-then-eq_ignore_ascii_case-6 : goal.returns-then-eq_ignore_ascii_case-6
unfolding extension_of named_in
returns-then-eq_ignore_ascii_case-6 c = rw (← named-is c.args.ext.now pes refl c.eq_ignore_ascii_case.ensures.test, c.if-eq_ignore_ascii_case.false, ← named-is c.args.ext.now pec refl c.eq_ignore_ascii_case-2.ensures.test, c.if-eq_ignore_ascii_case-2.false, ← named-is c.args.ext.now dst refl c.eq_ignore_ascii_case-3.ensures.test, c.if-eq_ignore_ascii_case-3.false, ← named-is c.args.ext.now exp refl c.eq_ignore_ascii_case-4.ensures.test, c.if-eq_ignore_ascii_case-4.false, ← named-is c.args.ext.now jef refl c.eq_ignore_ascii_case-5.ensures.test, c.if-eq_ignore_ascii_case-5.false, ← named-is c.args.ext.now vp3 refl c.eq_ignore_ascii_case-6.ensures.test, c.if-eq_ignore_ascii_case-6.true)

pub returns : goal.returns
unfolding extension_of named_in
returns c = rw (← named-is c.args.ext.now pes refl c.eq_ignore_ascii_case.ensures.test, c.if-eq_ignore_ascii_case.false, ← named-is c.args.ext.now pec refl c.eq_ignore_ascii_case-2.ensures.test, c.if-eq_ignore_ascii_case-2.false, ← named-is c.args.ext.now dst refl c.eq_ignore_ascii_case-3.ensures.test, c.if-eq_ignore_ascii_case-3.false, ← named-is c.args.ext.now exp refl c.eq_ignore_ascii_case-4.ensures.test, c.if-eq_ignore_ascii_case-4.false, ← named-is c.args.ext.now jef refl c.eq_ignore_ascii_case-5.ensures.test, c.if-eq_ignore_ascii_case-5.false, ← named-is c.args.ext.now vp3 refl c.eq_ignore_ascii_case-6.ensures.test, c.if-eq_ignore_ascii_case-6.false)
