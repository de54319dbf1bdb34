-- Parts of a text by their places. Assumes nothing.
use Prim.Native.Nat.{ℕ, ◌+◌, ◌-◌, ◌≤◌, min}
use mathlib.Core.Path.{◌≡◌, sym, ap, ◌∙◌}
use mathlib.Core.List.{List}
use native.Mathlib.Omega.{arith}
use native.Mathlib.Decide.{dec_lt}
use lib.ListN.{length, take, drop, length-take, length-drop}
use lib.Seq.{take-nil, take-take, drop-drop}
use Rattle.rules.specs.Text.{trim_start, trim_end, trimmed}
use Rattle.laws.specs.Listing.{list-end}
use Rattle.read_header.specs.declared.Span.{Span}
use Rattle.read_header.specs.Spans.{spanned, Holds}
use Rattle.read_header.proofs.Texts.{drop-take, take_rest}

-- a part that is cut where the text ends
pub cut : (s : List ℕ) (from len a e : ℕ) → a ≡ min from (length s) → e ≡ min (from + len) (length s) → take (e - a) (drop a s) ≡ take len (drop from s)
cut s from len a e p q = elim (dec_lt (length s) from) [
  | yes h ↦ rw (list-end s a (omega arith), list-end s from (omega arith), take-nil {A = ℕ} (e - a), take-nil {A = ℕ} len)
  | no h ↦
      let b : a ≡ from = omega arith in
      elim (dec_lt len (length s - from)) [
        | yes l ↦ let k : e - a ≡ len = omega arith in rw (k, b)
        | no l ↦ rw b (take_rest (e - from) from s (omega arith) ∙ sym (take_rest len from s (omega arith)))
      ]
]

-- a part of the first bytes
within : (s : List ℕ) (len a n : ℕ) → a + n ≤ len → take n (drop a (take len s)) ≡ take n (drop a s)
within s len a n h =
    let p : len ≡ a + (len - a) = omega arith in
    ap (λ (k : ℕ). take n (drop a (take k s))) p ∙ ap (take n) (drop-take a (len - a) s) ∙ take-take n (len - a) (drop a s) (omega arith)

-- a part without its blanks: `a` of them in front, and the text from there up to e
module _ (s t : List ℕ) (start len a e : ℕ) (h : start + len ≤ length s) (p : t ≡ take len (drop start s)) (f : a ≤ length t) (b : drop a t ≡ trim_start t)
    (l : e ≤ length (take (length t - a) (drop a t))) (g : take e (take (length t - a) (drop a t)) ≡ trim_end (take (length t - a) (drop a t))) where
  pub trimmed-part : Holds (record { start = start + a; len = e }) s (trimmed (take len (drop start s)))
  unfolding trimmed
  trimmed-part =
      let k : length t ≡ len = ap length p ∙ length-take len (drop start s) ∙ omega (arith, length-drop start s) in
      let r = take_rest (length t - a) a t (omega arith) in
      let i : a + e ≤ len = omega (arith, length-take (length t - a) (drop a t)) in
      record {
        inside = omega arith;
        text =
            sym (ap (λ (x : List ℕ). take e (drop a x)) p ∙ within (drop start s) len a e i ∙ ap (take e) (drop-drop a start s))
            ∙ ap (take e) (sym r) ∙ g ∙ ap trim_end (r ∙ b) ∙ ap trimmed p;
      }

-- what stands in the first n bytes stands there in the whole text
pub held-in-front : (s : List ℕ) (n : ℕ) {p : Span} {t u : List ℕ} → t ≡ take n s → Holds p t u → Holds p s u
held-in-front s n {p} e h =
    let l = ap length e ∙ length-take n s in
    record {
      inside = omega arith;
      text = sym (ap (spanned p) e ∙ within s n p.start p.len (omega arith)) ∙ h.text;
    }
