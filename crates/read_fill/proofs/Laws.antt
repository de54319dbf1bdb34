-- One record in a turn: what the calls of `sew`, `hop` and `change` ask, and what they make. Assumes nothing.
use Prim.Native.Nat.{ℕ, ◌+◌, ◌*◌, ◌≤◌, ◌<◌}
use mathlib.Core.Path.{◌≡◌, refl, sym, ap, ◌∙◌}
use mathlib.Core.List.{List, [], ◌∷◌, ◌++◌}
use native.Mathlib.Omega.{arith}
use lib.IntN.{ℤ, ◌+ℤ◌}
use lib.ListN.{length, drop, length-append}
use lib.Seq.{sets, length-sets}
use Rattle.rules.specs.Answers.{start_of, run_of, block_of}
use Rattle.rules.specs.Limits.{block_cells_of}
use Rattle.read_records.specs.declared.Row.{Row}
use Rattle.rules.specs.declared.Record.TheVariants.{StitchBy, JumpBy, ChangeBy, Finish}
use Rattle.read_records.specs.Firsts.{first_record_of}
use Rattle.read_builder.specs.Builders.{Small, Reach, stitched, jumped, changed}
use Rattle.read_builder.specs.declared.Builder.{Builder}
use Rattle.read_passes.specs.Walks.{Ready, none}
use Rattle.read_passes.proofs.Loops.{later, ready-small, ready-reach, ready-holds, ready-next, one_on}
use Rattle.read_fill.specs.Turns.{Turned}

-- what `sew` asks, and what it makes
abbrev pub CanSew : Builder → ℤ → ℤ → ℕ → Type 0
CanSew b dx dy np = Small b × (Reach b dx dy × (2 * b.points + (length (start_of b.run b.x b.y) + 2) ≤ np))

abbrev pub Sewed : Builder → ℤ → ℤ → Builder → List ℤ → List ℤ → Type 0
Sewed b dx dy q P P' = (q ≡ stitched b (b.x +ℤ dx) (b.y +ℤ dy))
    × (P' ≡ sets P (2 * b.points) (start_of b.run b.x b.y ++ (b.x +ℤ dx) ∷ (b.y +ℤ dy) ∷ []))

module _ {f : Row} {bytes : List ℕ} {c : ℕ → ℕ} {b : Builder} {at np nr nb : ℕ} (g : Ready f bytes c b at np nr nb) {dx dy : ℤ}
    {n : ℕ} where
  pub can-sew : first_record_of f (drop at bytes) ≡ StitchBy dx dy n → CanSew b dx dy np
  can-sew e = (ready-small f bytes c g, (ready-reach f bytes c g (sym e), simp length-append at (ready-holds f bytes c g (sym e)).places))

  pub can-hop : first_record_of f (drop at bytes) ≡ JumpBy dx dy n → Small b × (Reach b dx dy × (b.runs + length (run_of b.run) ≤ nr))
  can-hop e = (ready-small f bytes c g, (ready-reach f bytes c g (sym e), (ready-holds f bytes c g (sym e)).runs))

  pub can-change : first_record_of f (drop at bytes) ≡ ChangeBy dx dy n
      → Small b × (Reach b dx dy × ((b.runs + length (run_of b.run) ≤ nr) × (block_cells_of * b.blocks + length (block_of c b.block b.begun) ≤ nb)))
  can-change e =
      let h = ready-holds f bytes c g (sym e) in
      (ready-small f bytes c g, (ready-reach f bytes c g (sym e), (h.runs, h.blocks)))

module _ {f : Row} {bytes : List ℕ} {c : ℕ → ℕ} {b : Builder} {at : ℕ} (l : at < length bytes) {P : List ℤ} {R B : List ℕ} where
  pub turn_end : first_record_of f (drop at bytes) ≡ Finish → Turned f bytes c b at P P R R B B (record { b = b; at = length bytes })
  turn_end e = record { went = one_on f bytes c none (sym e) refl refl refl refl refl; later = l }

  module _ {dx dy : ℤ} {n : ℕ} {q : Builder} where
    pub turn-sewn : first_record_of f (drop at bytes) ≡ StitchBy dx dy n → {P' : List ℤ} → Sewed b dx dy q P P'
        → Turned f bytes c b at P P' R R B B (record { b = q; at = at + n })
    turn-sewn e w = record { went = one_on f bytes c none (sym e) w.0 refl w.1 refl refl; later = later f bytes at (sym e) l }

    pub turn-hopped : first_record_of f (drop at bytes) ≡ JumpBy dx dy n → {R' : List ℕ}
        → (q ≡ jumped b (b.x +ℤ dx) (b.y +ℤ dy)) × (R' ≡ sets R b.runs (run_of b.run))
        → Turned f bytes c b at P P R R' B B (record { b = q; at = at + n })
    turn-hopped e w = record { went = one_on f bytes c none (sym e) w.0 refl refl w.1 refl; later = later f bytes at (sym e) l }

    pub turn-changed : first_record_of f (drop at bytes) ≡ ChangeBy dx dy n → {R' B' : List ℕ}
        → (q ≡ changed b (b.x +ℤ dx) (b.y +ℤ dy))
        × ((R' ≡ sets R b.runs (run_of b.run)) × (B' ≡ sets B (block_cells_of * b.blocks) (block_of c b.block b.begun)))
        → Turned f bytes c b at P P R R' B B' (record { b = q; at = at + n })
    turn-changed e w =
        record { went = one_on f bytes c none (sym e) w.0 refl refl w.1.0 w.1.1; later = later f bytes at (sym e) l }

-- two stitches in a turn
module _ {f : Row} {bytes : List ℕ} {b : Builder} {at : ℕ} {dx dy : ℤ} {n : ℕ} (e : first_record_of f (drop at bytes) ≡ StitchBy dx dy n)
    {q : Builder} (P : List ℤ) {P₁ : List ℤ} (w : Sewed b dx dy q P P₁) {ex ey : ℤ} {m : ℕ}
    (e₂ : first_record_of f (drop (at + n) bytes) ≡ StitchBy ex ey m) where
  pub can-again : {c : ℕ → ℕ} {nr nb : ℕ} → Ready f bytes c b at (length P) nr nb → CanSew q ex ey (length P₁)
  can-again {c} g =
      let k : length P₁ ≡ length P = ap length w.1 ∙ simp length-sets in
      rw (k, w.0) (can-sew (ready-next f bytes c g (sym e)) e₂)

  pub turn_twice : {c : ℕ → ℕ} → at < length bytes → {P₂ : List ℤ} {R B : List ℕ} {q₂ : Builder} → Sewed q ex ey q₂ P₁ P₂ → {i : ℕ}
      → i ≡ at + n + m
      → Turned f bytes c b at P P₂ R R B B (record { b = q₂; at = i })
  turn_twice {c} l w₂ ei = rw ei (record {
    went = one_on f bytes c (one_on f bytes c none (sym e) w.0 refl w.1 refl refl) (sym e₂) w₂.0 refl w₂.1 refl refl;
    later = omega (arith, later f bytes at (sym e) l);
  })

-- a turn's end by another sum
pub turned-at : {f : Row} {bytes : List ℕ} {c : ℕ → ℕ} {b q : Builder} {at i j : ℕ} {P P' : List ℤ} {R R' B B' : List ℕ}
    → Turned f bytes c b at P P' R R' B B' (record { b = q; at = j }) → i ≡ j
    → Turned f bytes c b at P P' R R' B B' (record { b = q; at = i })
turned-at t e = rw e t
