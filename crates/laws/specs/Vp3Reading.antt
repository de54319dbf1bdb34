-- VP3: numbers with the high byte first, there and back; the events of stitches unfold by one step, whatever the fuel. Assumes nothing.
use Rattle.std.specs.Prelude.{ℕ, zero, suc, ◌%◌, ◌^◌, ◌<◌, ◌≡◌, refl, List, [], ◌∷◌, length, drop}
use Rattle.std.proofs.Common.{sym, ap, ◌∙◌, arith, pow-suc, mul_comm, mod-eq_of_lt, length-drop}
use Rattle.std.proofs.Math.Nat.{one-le-pow}
use Rattle.std.proofs.Math.Arith.{mod-mul}
use Rattle.rules.specs.Records.{Event}
use Rattle.rules.specs.Vp3.{big, from_big, long_then, control_then, pair_then, stitch_events}
use Rattle.laws.specs.Fuel.{fuelled-step}

-- ---- numbers

pub length-big : (n v : ℕ) → length (big n v) ≡ n
unfolding big
length-big zero v = refl
length-big (suc n) v = ap suc (length-big n v)

pub from-big : (n v : ℕ) → from_big (big n v) ≡ v % 256 ^ n
unfolding big from_big
from-big zero v = omega arith
from-big (suc n) v =
    rw (length-big n v, from-big n v)
    (sym (mod-mul v {m = 256} {c = 256 ^ n} (omega arith) (one-le-pow n 256 (omega arith))) ∙ ap (λ (m : ℕ). v % m) (mul_comm 256 (256 ^ n) ∙ sym (pow-suc 256 n)))

-- a number that n bytes hold comes back
pub from-big-small : (n v : ℕ) → v < 256 ^ n → from_big (big n v) ≡ v
from-big-small n v h = from-big n v ∙ mod-eq_of_lt h

-- ---- stitches

looks : (f g : List ℕ → List Event) (s : List ℕ) → ((t : List ℕ) → length t < length s → f t ≡ g t) → pair_then f s ≡ pair_then g s
unfolding pair_then control_then long_then
looks f g [] h = refl
looks f g (a ∷ []) h = refl
looks f g (a ∷ b ∷ s) h = rw (h s (omega arith), h (drop 4 s) (simp length-drop (omega arith)))

pub stitches-step : (s : List ℕ) → stitch_events s ≡ pair_then stitch_events s
unfolding stitch_events
stitches-step s = fuelled-step length pair_then [] looks (suc (length s)) s (omega arith)
