-- The label that a file's opening leaves it. Assumes nothing.
use Rattle.std.specs.Prelude.{Some, None, Ok, Err, Option, Result, ⊤}
use Prim.Native.Nat.{ℕ}
use mathlib.Core.Path.{◌≡◌, refl, sym, ap, subst, ◌∙◌}
use mathlib.Core.List.{List}
use native.Mathlib.Omega.{arith}
use Rattle.read_header.specs.Spans.{Holds}
use Rattle.read_header.specs.declared.Span.{Span}
use Rattle.rules.specs.Refusals.{verdict}
use Rattle.rules.specs.Pec.{pec_label}
use Rattle.rules.specs.Files.{file_refusals, file_verdict, label_of, label_under, label_told}
use Rattle.rules.specs.declared.Format.{Format}
use Rattle.rules.specs.declared.Format.TheVariants.{Pes, Pec, Dst, Exp, Jef, Vp3}
use Rattle.rules.specs.declared.Refusal.{Refusal}
use Rattle.rules.specs.declared.Refusal.TheVariants.{UnknownExtension}
use Rattle.read_refusals.specs.Labels.{label_answered}
use Rattle.read_refusals.specs.Openings.{head_of, label_by, started, front_of}
use Rattle.read_refusals.specs.declared.Head.{Head}

never : {h : Head} {r : Refusal} → Ok h ≡ Err r → ⊥
never e = let z : ◌≡◌ {A = ℕ} 0 1 = cc in omega arith

never-found : {p : Span} {r : Refusal} → Ok p ≡ Err r → ⊥
never-found e = let z : ◌≡◌ {A = ℕ} 0 1 = cc in omega arith

-- no bytes, at the start
abbrev pub nowhere : Span
nowhere = record { start = 0; len = 0 }

-- ---- from the opening to the answer, by the verdict
module _ (h : Head) (s label : List ℕ) where
  none-under : (v : Result ⊤ Refusal) {r : Refusal} → started v h ≡ Err r → label_answered v s (label_under v label) (Err r)
  none-under (Ok u) e = never e
  none-under (Err q) e = cc

  whole-under : (v : Result ⊤ Refusal) {g : Head} {p : Span} → started v h ≡ Ok g → (g ≡ h) × (Holds p s label → label_answered v s (label_under v label) (Ok p))
  unfolding label_under
  whole-under (Ok u) e = (cc, λ w. w)
  whole-under (Err q) e = absurd (never (sym e))

label-by : (f : Format) (s : List ℕ) → label_by (head_of f s) s ≡ label_of f s
unfolding label_of pec_label
label-by Pes s = refl
label-by Pec s = refl
label-by Dst s = refl
label-by Exp s = refl
label-by Jef s = refl
label-by Vp3 s = refl

module _ (f : Format) (s : List ℕ) where
  pub no_label : {r : Refusal} → front_of f s ≡ Err r → label_answered (file_verdict (Some f) s) s (label_told (Some f) s) (Err r)
  unfolding front_of label_told file_verdict
  no_label e = none-under (head_of f s) s (label_of f s) (verdict (file_refusals f s)) e

  pub its-label : {g : Head} {p : Span} → front_of f s ≡ Ok g → Holds p s (label_by g s) → label_answered (file_verdict (Some f) s) s (label_told (Some f) s) (Ok p)
  unfolding front_of label_told file_verdict
  its-label {g} {p} e h =
      let w = whole-under (head_of f s) s (label_of f s) (verdict (file_refusals f s)) {p = p} e in
      w.1 (subst (Holds p s) (ap (λ (k : Head). label_by k s) w.0 ∙ label-by f s) h)

pub unknown-label : (e : Option Format) (s : List ℕ) → e ≡ None → label_answered (file_verdict e s) s (label_told e s) (Err UnknownExtension)
unfolding file_verdict verdict
unknown-label e s p = rw p refl

-- ---- from the answer to the place
pub found-there : (v : Result ⊤ Refusal) (s label : List ℕ) {a : Result Span Refusal} {p : Span} → a ≡ Ok p → label_answered v s label a → Holds p s label
found-there (Ok u) s label e h = rw e at h
found-there (Err r) s label e h = absurd (never-found (sym e ∙ h))

module _ (s : List ℕ) {a : Result Span Refusal} {r : Refusal} (e : a ≡ Err r) where
  empty-under : (v : Result ⊤ Refusal) (label : List ℕ) → label_answered v s (label_under v label) a → Holds nowhere s (label_under v label)
  unfolding label_under
  empty-under (Ok u) label h = absurd (rw e at h)
  empty-under (Err q) label h = record { inside = omega arith; text = refl }

  pub found_nowhere : (x : Option Format) → label_answered (file_verdict x s) s (label_told x s) a → Holds nowhere s (label_told x s)
  unfolding label_told
  found_nowhere None h = record { inside = omega arith; text = refl }
  found_nowhere (Some f) h = empty-under (file_verdict (Some f) s) (label_of f s) h
