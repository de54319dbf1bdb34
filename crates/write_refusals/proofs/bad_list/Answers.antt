-- The answer is that of the six conditions of refusal 6, asked in their order.
use mathlib.Core.Path.{◌≡◌, ap, ◌∙◌}
use mathlib.Core.Bool.{◌||◌, not}
use borrow.Author.Tests.{lt-ltb, le-ltb, eq-eqb, ne_eqb}
use lib.Dec.{ltb}
use Rattle.rules.specs.Lists.{ends_once}
use Rattle.rules.specs.Refusals.{bad_list}
use Rattle.rules.specs.Vocabulary.{any}
use Rattle.write_refusals.proofs.bad_list.Goals as goal

pub returns-then-n-eq0 : goal.returns-then-n-eq0
unfolding bad_list
returns-then-n-eq0 c = rw (eq-eqb _ _ c.if-n-eq0.true)

pub returns-then-n-gt-MOST_COMMANDS : goal.returns-then-n-gt-MOST_COMMANDS
unfolding bad_list
returns-then-n-gt-MOST_COMMANDS c = rw (ne_eqb _ _ c.if-n-eq0.false, lt-ltb _ _ c.if-n-gt-MOST_COMMANDS.true)

pub returns-then-xs-n : goal.returns-then-xs-n
unfolding bad_list
returns-then-xs-n c = rw (ne_eqb _ _ c.if-n-eq0.false, le-ltb _ _ c.if-n-gt-MOST_COMMANDS.false, ne_eqb _ _ c.if-xs-n.true)

pub returns-then-ys-n : goal.returns-then-ys-n
unfolding bad_list
returns-then-ys-n c =
    rw (ne_eqb _ _ c.if-n-eq0.false, le-ltb _ _ c.if-n-gt-MOST_COMMANDS.false, eq-eqb _ _ c.if-xs-n.false, ne_eqb _ _ c.if-ys-n.true)

pub returns-then-kind_over : goal.returns-then-kind_over
returns-then-kind_over c =
    let by-kinds : (let a = c.args in
    (any (ltb 4) a.kinds.now || not (ends_once a.kinds.now)) ≡ bad_list a.xs.now a.ys.now a.kinds.now) = unfold bad_list in rw (ne_eqb _ _ c.if-n-eq0.false, le-ltb _ _ c.if-n-gt-MOST_COMMANDS.false, eq-eqb _ _ c.if-xs-n.false, eq-eqb _ _ c.if-ys-n.false) in
    rw (← c.kind_over.ensures, c.if-kind_over.true) at by-kinds

pub returns : goal.returns
returns c =
    let by-kinds : (let a = c.args in
    (any (ltb 4) a.kinds.now || not (ends_once a.kinds.now)) ≡ bad_list a.xs.now a.ys.now a.kinds.now) = unfold bad_list in rw (ne_eqb _ _ c.if-n-eq0.false, le-ltb _ _ c.if-n-gt-MOST_COMMANDS.false, eq-eqb _ _ c.if-xs-n.false, eq-eqb _ _ c.if-ys-n.false) in
    ap not c.ends_once.ensures ∙ (rw (← c.kind_over.ensures, c.if-kind_over.false) at by-kinds)
