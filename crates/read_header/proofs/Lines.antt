-- Laws on the lines of a text that is read from a place on. Assumes nothing.
use Prim.Native.Nat.{ℕ, ◌+◌, ◌-◌, ◌≤◌, ◌<◌}
use mathlib.Core.Path.{◌≡◌, refl, sym, ap, ◌∙◌}
use mathlib.Core.Bool.{Bool, true, false, ◌||◌}
use mathlib.Core.List.{List, [], ◌∷◌}
use native.Mathlib.Omega.{arith}
use lib.Dec.{eqb}
use native.Mathlib.Numerals.{one-add}
use native.Mathlib.Decide.{dec_lt}
use lib.ListN.{length, take, drop, length-take, length-drop}
use lib.Seq.{drop-drop}
use Rattle.rules.specs.Vocabulary.{pick, same_bytes}
use Rattle.rules.specs.Text.{lines_of, cut_before, begins}
use Rattle.rules.specs.Dst.{last_label}
use Rattle.laws.specs.Tests.{clash, and_right, by-test, pick-le, pick-gt}
use Rattle.read_header.proofs.Texts.{drop-take}
use Rattle.std.specs.List.{position_or_len}
use Rattle.read_header.specs.Lines.{lines_from, Line}
use Rattle.read_header.proofs.Scans.{until-inside}

pub lines-all : (s : List ℕ) → lines_from 0 s ≡ lines_of s
unfolding lines_from
lines-all s = pick-le 0 (length s) _ _ (omega arith)

pub lines_none : (s : List ℕ) (at : ℕ) → length s < at → lines_from at s ≡ []
unfolding lines_from
lines_none s at h = pick-gt at (length s) _ _ h

-- the lines from a place on, of a text and of what is left of it
lines_left : (s : List ℕ) (at k : ℕ) {m : ℕ} → at ≤ length s → m ≡ at + k → lines_from k (drop at s) ≡ lines_from m s
unfolding lines_from
lines_left s at k h e = rw e (let l = length-drop at s in elim (dec_lt (length s) (at + k)) [
  | yes g ↦ pick-gt k (length (drop at s)) _ _ (omega arith) ∙ sym (pick-gt (at + k) (length s) _ _ g)
  | no g ↦ pick-le k (length (drop at s)) _ _ (omega arith) ∙ ap lines_of (drop-drop k at s)
      ∙ sym (pick-le (at + k) (length s) _ _ (omega arith))
])

-- a byte ends a line
abbrev pub ends_line : ℕ → Bool
ends_line b = eqb b 0x0D || eqb b 0x0A

-- the first line ends where a scan for a line's end stops
line_first : (s : List ℕ) → lines_of s ≡ take (position_or_len ends_line s) s ∷ lines_from (position_or_len ends_line s + 1) s
unfolding lines_of cut_before
line_first [] = rw (lines_none [] 1 (omega arith))
line_first (b ∷ s) = by-test (ends_line b)
    (λ e. rw (e, ← lines_left (b ∷ s) 1 0 {m = 1} (omega arith) refl, lines-all s))
    (λ e. rw (e, line_first s) (rw (one-add (position_or_len ends_line s)) (ap (◌∷◌ (b ∷ take (position_or_len ends_line s) s))
    (lines_left (b ∷ s) 1 (position_or_len ends_line s + 1) (omega arith) (omega arith)))))

pub line_at : (s : List ℕ) (at : ℕ) {e : ℕ} → at ≤ length s → e ≡ at + position_or_len ends_line (drop at s) → Line s at e
unfolding lines_from
line_at s at {e} h p =
    let n = until-inside ends_line (drop at s) in
    let l = length-drop at s in
    let q : e - at ≡ position_or_len ends_line (drop at s) = omega arith in
    record {
      starts = omega arith;
      inside = omega arith;
      lines = pick-le at (length s) _ _ h ∙ line_first (drop at s)
          ∙ rw (q, lines_left s at (position_or_len ends_line (drop at s) + 1) {m = e + 1} h (omega arith));
    }

-- ---- a line that begins with given bytes

pub begun-long : (s front : List ℕ) → begins front s ≡ true → length front ≤ length s
unfolding begins same_bytes
begun-long s [] e = omega arith
begun-long [] (b ∷ front) e = clash false e refl
begun-long (a ∷ s) (b ∷ front) e = omega (arith, begun-long s front (and_right (eqb a b) (begins front s) e))

-- ---- the last label: a line that gives one, and one that gives none

module _ (s found : List ℕ) (at e : ℕ) (w : Line s at e) {whole : List ℕ} (o : whole ≡ last_label found (lines_from at s)) where
  next : {t : Bool} → begins (0x4C ∷ 0x41 ∷ 0x3A ∷ []) (take (e - at) (drop at s)) ≡ t
      → whole ≡ last_label (pick t (drop 3 (take (e - at) (drop at s))) found) (lines_from (e + 1) s)
  unfolding last_label
  next b =
      o ∙ ap (last_label found) w.lines
      ∙ ap (λ (t : Bool). last_label (pick t (drop 3 (take (e - at) (drop at s))) found) (lines_from (e + 1) s)) b

  pub label-here : begins (0x4C ∷ 0x41 ∷ 0x3A ∷ []) (take (e - at) (drop at s)) ≡ true
      → (at + 3 ≤ e) × (whole ≡ last_label (take (e - (at + 3)) (drop (at + 3) s)) (lines_from (e + 1) s))
  label-here b =
      let l = begun-long (take (e - at) (drop at s)) (0x4C ∷ 0x41 ∷ 0x3A ∷ []) b in
      let k : 3 ≤ e - at = omega (arith, length-take (e - at) (drop at s)) in
      let p : e - at ≡ 3 + (e - (at + 3)) = omega arith in
      let q : drop 3 (take (e - at) (drop at s)) ≡ take (e - (at + 3)) (drop (at + 3) s) =
      ap (λ (n : ℕ). drop 3 (take n (drop at s))) p ∙ drop-take 3 (e - (at + 3)) (drop at s) ∙ ap (take (e - (at + 3))) (drop-drop 3 at s) in
      (omega arith, next b ∙ ap (λ (t : List ℕ). last_label t (lines_from (e + 1) s)) q)

  pub label-before : begins (0x4C ∷ 0x41 ∷ 0x3A ∷ []) (take (e - at) (drop at s)) ≡ false → whole ≡ last_label found (lines_from (e + 1) s)
  label-before b = next b
