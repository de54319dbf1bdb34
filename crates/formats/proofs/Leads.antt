-- What leads among the entries seen so far, as an answer. Assumes nothing.
use Rattle.std.specs.Prelude.{Some, None, Option}
use Prim.Native.Nat.{ℕ, ◌+◌}
use mathlib.Core.Path.{◌≡◌, sym}
use mathlib.Core.Bool.{Bool, true, false}
use mathlib.Core.List.{List}
use lib.Dec.{leb, ltb}
use lib.ListN.{length, get_or}
use Rattle.rules.specs.Choices.{distance, with_distance}
use Rattle.rules.specs.declared.Color.{Color}
use Rattle.laws.specs.Tests.{by-test}
use Rattle.laws.specs.Choosing.{Leading, leading-more, answer-is, found_in, choice}
use Rattle.formats.specs.Closer.{closer_of}

abbrev distance_in : Option (ℕ × ℕ) → ℕ
distance_in (Some (k, d)) = d
distance_in None = 0

abbrev pub Leads : Bool → Color → List (Option Color) → ℕ → Option (ℕ × ℕ) → Type 0
Leads later c ps n best = Leading later c ps n (found_in best) (distance_in best)

-- one more entry
pub leads-more : (later : Bool) (c : Color) (ps : List (Option Color)) (n : ℕ) (best : Option (ℕ × ℕ)) (s : Option Color) → get_or ps n None ≡ s
    → Leads later c ps n best → Leads later c ps (n + 1) (closer_of later c best s n)
leads-more later c ps n None None e l = leading-more c ps n later None e l
leads-more later c ps n (Some (k, d)) None e l = leading-more c ps n later None e l
leads-more later c ps n None (Some t) e l = leading-more c ps n later (Some t) e l
leads-more true c ps n (Some (k, d)) (Some t) e l = by-test (leb (distance c t) d)
    (λ y. rw y (rw y at (leading-more c ps n true (Some t) e l)))
    (λ y. rw y (rw y at (leading-more c ps n true (Some t) e l)))
leads-more false c ps n (Some (k, d)) (Some t) e l = by-test (ltb (distance c t) d)
    (λ y. rw y (rw y at (leading-more c ps n false (Some t) e l)))
    (λ y. rw y (rw y at (leading-more c ps n false (Some t) e l)))

-- all entries are seen
pub leads-all : (later : Bool) (c : Color) (ps : List (Option Color)) (best : Option (ℕ × ℕ)) → Leads later c ps (length ps) best
    → best ≡ with_distance c ps (choice later c ps)
leads-all later c ps (Some (k, d)) l = sym (answer-is later c ps l)
leads-all later c ps None l = sym (answer-is later c ps l)
