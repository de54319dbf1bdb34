-- The cells from one on are what `skip` leaves; the mark is asked of each.
use Rattle.std.proofs.Common.{rules, ◌≡◌, ◌∙◌, IsTrue, drop, false, sym}
use Rattle.std.proofs.lemmas.Bool.{MatchBool-at_true, true≢false}
use Rattle.std.proofs.lemmas.Iterator.{YieldsList-from_slice, cases_from_all}
use Rattle.std.proofs.lemmas.Iterator.Adapters.{YieldsList-from_skip}
use Rattle.std.proofs.lemmas.Iterator.Search.{true_from_All}
use Rattle.std.proofs.lemmas.List.Elements.{All-from_all_within}
use Rattle.replay.proofs.stays.Goals as goal

pub returns : goal.returns
returns g c =
    let marked : g.row.T.Denot → Type 0 = λ x. IsTrue (g.T.PartialEq.eq x c.args.mark) in
    let other : g.row.T.Denot → Type 0 = λ x. g.T.PartialEq.eq x c.args.mark ≡ false in
    let rest = drop c.args.from c.args.s.now in
    let r = cases_from_all _ _ _ marked other c.all.ensures.ran
    (YieldsList-from_skip c.args.from (YieldsList-from_slice c.args.s.now (search rules)) (search rules))
    (λ x q k. search rules) (λ x q k. search rules) in (
      λ t. All-from_all_within marked rest (MatchBool-at_true _ _ t r),
      λ h. true_from_All marked other _ rest (λ x p q. true≢false (sym p ∙ q)) r h,
    )
