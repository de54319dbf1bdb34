-- The hoops in the order of the definition.
use mathlib.Core.Path.{◌≡◌, sym, ◌∙◌}
use mathlib.Core.Bool.{◌&&◌}
use lib.Dec.{ltb}
use Rattle.rules.specs.Vocabulary.{pick}
use Rattle.rules.specs.Jef.{jef_hoop}
use borrow.Author.Rules.{rules}
use Rattle.jef.proofs.jef_hoop.Goals as goal

pub is_under-requires : goal.is_under-requires
unfolding jef_hoop
is_under-requires c = search rules

pub returns-then-is_under : goal.returns-then-is_under
unfolding jef_hoop
returns-then-is_under c = rw (sym c.is_under.ensures ∙ c.if-is_under.true)

pub is_under-requires-2 : goal.is_under-requires-2
unfolding jef_hoop
is_under-requires-2 c = search rules

pub returns-then-is_under-2 : goal.returns-then-is_under-2
unfolding jef_hoop
returns-then-is_under-2 c = rw (← c.is_under.ensures, c.if-is_under.false, ← c.is_under-2.ensures, c.if-is_under-2.true)

pub is_under-requires-3 : goal.is_under-requires-3
unfolding jef_hoop
is_under-requires-3 c = search rules

pub returns-then-is_under-3 : goal.returns-then-is_under-3
unfolding jef_hoop
returns-then-is_under-3 c =
    rw (← c.is_under.ensures, c.if-is_under.false, ← c.is_under-2.ensures, c.if-is_under-2.false, ← c.is_under-3.ensures, c.if-is_under-3.true)

pub is_under-requires-4 : goal.is_under-requires-4
unfolding jef_hoop
is_under-requires-4 c = search rules

pub returns-then-is_under-4 : goal.returns-then-is_under-4
returns-then-is_under-4 c =
    let by_last : (let a = c.args in
    pick (ltb a.w 2000 && ltb a.h 2000) 4 0 ≡ jef_hoop a.w a.h) = unfold jef_hoop in rw (← c.is_under.ensures, c.if-is_under.false, ← c.is_under-2.ensures, c.if-is_under-2.false, ← c.is_under-3.ensures, c.if-is_under-3.false) in
    rw (← c.is_under-4.ensures, c.if-is_under-4.true) at by_last

pub returns : goal.returns
returns c =
    let by_last : (let a = c.args in
    pick (ltb a.w 2000 && ltb a.h 2000) 4 0 ≡ jef_hoop a.w a.h) = unfold jef_hoop in rw (← c.is_under.ensures, c.if-is_under.false, ← c.is_under-2.ensures, c.if-is_under-2.false, ← c.is_under-3.ensures, c.if-is_under-3.false) in
    rw (← c.is_under-4.ensures, c.if-is_under-4.false) at by_last
