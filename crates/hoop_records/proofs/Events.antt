-- One event: what is seen of it, and then what is to come, are what was to come; and so from turn to turn. Assumes nothing.
use Rattle.std.specs.Prelude.{Some, None, Option}
use Prim.Native.Nat.{ℕ, suc, ◌+◌}
use mathlib.Core.Path.{◌≡◌, refl, sym, ap, ◌∙◌}
use mathlib.Core.Bool.{Bool, true, false, ◌&&◌, and_assoc}
use mathlib.Core.List.{List, [], ◌∷◌}
use lib.IntN.{ℤ, ◌+ℤ◌}
use Rattle.rules.specs.Vocabulary.{pick}
use Rattle.rules.specs.Answers.{places, start_of, points_after}
use Rattle.rules.specs.Hoop.{in_hoop, all_in_hoop}
use Rattle.rules.specs.Records.{Event, stitch, jump, change}
use Rattle.rules.specs.declared.Hoop.{Hoop}
use Rattle.laws.specs.Tests.{by-test}
use Rattle.hoop_records.specs.Looks.{stepped, sewn, sewn_more, fits_from, fits_on, Looked}
use Rattle.hoop_records.specs.declared.looks.Look.{Look}

-- the places to come do not ask how many points the open run has
open-alike : (x y : ℤ) (n m : ℕ) (es : List Event) → places x y (suc n) es ≡ places x y (suc m) es
unfolding places start_of points_after
open-alike x y n m [] = refl
open-alike x y n m (stitch dx dy ∷ es) = rw (open-alike (x +ℤ dx) (y +ℤ dy) (suc n) (suc m) es)
open-alike x y n m (jump dx dy ∷ es) = refl
open-alike x y n m (change dx dy ∷ es) = refl

module _ (h : Hoop) where
  -- a test, and then the rest
  seen-on : (b : Bool) (w : Look) (es : ℕ → List Event) → b && fits_from h w (es w.at) ≡ fits_on h (pick b (Some w) None) es
  seen-on true w es = refl
  seen-on false w es = refl

  module _ (w : Look) (dx dy : ℤ) (n : ℕ) (es : ℕ → List Event) where
    pub fits-stitch : fits_from h w (stitch dx dy ∷ es (w.at + n)) ≡ fits_on h (sewn h w dx dy n) es
    unfolding places start_of points_after all_in_hoop
    fits-stitch = by-test w.running
        (λ o. rw (o, open-alike (w.x +ℤ dx) (w.y +ℤ dy) 1 0 (es (w.at + n)))
        (seen-on (in_hoop h (w.x +ℤ dx) (w.y +ℤ dy)) (stepped true w dx dy n) es))
        (λ o. rw (o, open-alike (w.x +ℤ dx) (w.y +ℤ dy) 1 0 (es (w.at + n)))
        (sym (and_assoc (in_hoop h w.x w.y) (in_hoop h (w.x +ℤ dx) (w.y +ℤ dy)) (fits_from h (stepped true w dx dy n) (es (w.at + n))))
        ∙ seen-on (in_hoop h w.x w.y && in_hoop h (w.x +ℤ dx) (w.y +ℤ dy)) (stepped true w dx dy n) es))

    pub fits-jump : fits_from h w (jump dx dy ∷ es (w.at + n)) ≡ fits_from h (stepped false w dx dy n) (es (w.at + n))
    unfolding places
    fits-jump = refl

    pub fits-change : fits_from h w (change dx dy ∷ es (w.at + n)) ≡ fits_from h (stepped false w dx dy n) (es (w.at + n))
    unfolding places
    fits-change = refl

  -- nothing to come is in the hoop
  pub fits-none : (w : Look) → fits_from h w [] ≡ true
  unfolding places all_in_hoop
  fits-none w = refl

-- ---- one stitch more, if the one before is in the hoop

pub looks-more : {h : Hoop} {es : ℕ → List Event} {O : Look → Option Look → Type 0} {w v : Look} (dx dy : ℤ) (n : ℕ) (b : Bool)
    → ((r : Option Look) → O v r → O w r) → Looked h es O w (pick b (Some v) None) → Looked h es O v (sewn h v dx dy n)
    → Looked h es O w (sewn_more h (pick b (Some v) None) dx dy n)
looks-more dx dy n true t p q = record { same = p.same ∙ q.same; onward = t _ q.onward }
looks-more dx dy n false t p q = p

-- ---- one turn after the other: what was to come at first is what is to come at w, of which L holds

pub record Going (h : Hoop) (es : ℕ → List Event) (L : Look → Type 0) (first w : Look) : Type 0 where
  pub looking : L w
  pub same : fits_from h first (es first.at) ≡ fits_from h w (es w.at)

module _ {h : Hoop} {es : ℕ → List Event} {L : Look → Type 0} where
  pub going_start : {w : Look} → L w → Going h es L w w
  going_start g = record { looking = g; same = refl }

  module _ {first w : Look} (g : Going h es L first w) where
    module _ {O : Look → Option Look → Type 0} where
      pub going_on : {v : Look} → Looked h es O w (Some v) → L v → Going h es L first v
      going_on k l = record { looking = l; same = g.same ∙ k.same }

      pub going-out : Looked h es O w None → false ≡ fits_from h first (es first.at)
      going-out k = sym (g.same ∙ k.same)

    -- nothing is to come
    pub going_done : es w.at ≡ [] → true ≡ fits_from h first (es first.at)
    going_done e = sym (g.same ∙ ap (fits_from h w) e ∙ fits-none h w)

    pub going-rest : {b : Bool} → b ≡ fits_from h w (es w.at) → b ≡ fits_from h first (es first.at)
    going-rest e = e ∙ sym g.same
