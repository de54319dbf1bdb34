-- A buffer that is written one piece after the other. `sets d i vs` (lib.Seq) stores vs in d from index i on.
-- Assumes nothing.
use Rattle.std.specs.Prelude.{ℕ, suc, ◌+◌, ◌≤◌, ◌≡◌, refl, List, [], ◌∷◌, ◌++◌, length, drop, set}
use Rattle.std.proofs.Common.{sym, ap, ◌∙◌, add-zero, zero-add, add-suc, suc-add, arith, length-append}
use Rattle.std.specs.Borrow.{MutBor}
use denote.Triple.Both.{Both}
use Rattle.std.proofs.lemmas.List.Edits.{sets, sets-eq}
use Rattle.std.proofs.Math.Seq.{length-sets}

-- d' is d with vs stored from `at` on, and r is the place after them: what every function that appends ensures. `same` follows from
-- `stored`; as a field it is read by `omega` unasked.
pub record Put {A : Type 0} (d d' : List A) (at r : ℕ) (vs : List A) : Type 0 where
  pub ends : r ≡ at + length vs
  pub same : length d' ≡ length d
  pub stored : d' ≡ sets d at vs

-- the same of a buffer that a call is passed, at entry and at exit
abbrev pub Puts : {A : Type 0} → Both (MutBor (List A)) (MutBor (List A)) → ℕ → ℕ → List A → Type 0
Puts out at r vs = Put out.entry.now out.exit.now at r vs

-- d₀ is the buffer at first, `whole` is what it gets from `base` on, d is the buffer now, written as far as n, and `coming` is still to
-- come
pub record Writing {A : Type 0} (d₀ : List A) (base : ℕ) (whole d : List A) (n : ℕ) (coming : List A) : Type 0 where
  pub same : length d ≡ length d₀
  pub rest : sets d n coming ≡ sets d₀ base whole
  pub place : n + length coming ≡ base + length whole
  pub room : base + length whole ≤ length d₀

module _ {A : Type 0} where
  -- two in a row are one
  pub sets-append : (d : List A) (i : ℕ) (vs ws : List A) → sets d i (vs ++ ws) ≡ sets (sets d i vs) (i + length vs) ws
  sets-append d i [] ws = rw add-zero
  sets-append d i (v ∷ vs) ws = rw (sets-append (set d i v) (suc i) vs ws, add-suc, suc-add)

  -- ---- Put

  pub put-by : {d d' vs : List A} {at r : ℕ} → r ≡ at + length vs → d' ≡ sets d at vs → Put d d' at r vs
  put-by {d} {vs = vs} {at = at} e s = record { ends = e; same = ap length s ∙ length-sets d at vs; stored = s }

  pub put-nothing : (d : List A) (at : ℕ) → Put d d at at []
  put-nothing d at = put-by (omega arith) refl

  -- a store at an index
  pub put_one : (d : List A) (at : ℕ) (v : A) → Put d (set d at v) at (at + 1) (v ∷ [])
  put_one d at v = put-by refl refl

  pub put-put : {d d₁ d₂ vs ws : List A} {at m r : ℕ} → Put d d₁ at m vs → Put d₁ d₂ m r ws → Put d d₂ at r (vs ++ ws)
  put-put {d} {vs = vs} {ws = ws} {at = at} p q = record {
    ends = omega (arith, length-append vs ws);
    same = q.same ∙ p.same;
    stored = q.stored ∙ rw (p.stored, p.ends) (sym (sets-append d at vs ws));
  }

  -- the same values by another name
  pub put_as : {d d' vs ws : List A} {at r : ℕ} → Put d d' at r vs → vs ≡ ws → Put d d' at r ws
  put_as p e = rw (← e) p

  -- at the front of a buffer: the values, and then the rest of the buffer as it was
  pub put_front : {d d' vs : List A} {r : ℕ} → length vs ≤ length d → Put d d' 0 r vs → (r ≡ length vs) × (d' ≡ vs ++ drop (length vs) d)
  put_front {d} {vs = vs} h p = (omega arith, p.stored ∙ sets-eq vs d 0 (omega arith) ∙ rw zero-add)

  -- ---- Writing, the invariant of a loop that appends and the state between two calls of straight-line code:
  -- it begins by `writing_start`; a call's room is `writing-room`, and after the call it is `writing_more` by what the call ensures;
  -- `writing-done` ends it. The buffer's length is `w.same`.

  pub writing_start : (d : List A) (base : ℕ) (whole : List A) → base + length whole ≤ length d → Writing d base whole d base whole
  writing_start d base whole h = record { same = refl; rest = refl; place = refl; room = h }

  module _ {d₀ whole d coming : List A} {base n : ℕ} where
    -- what comes next has room
    pub writing-room : (vs ws : List A) → Writing d₀ base whole d n coming → coming ≡ vs ++ ws → n + length vs ≤ length d
    writing-room vs ws w e = omega (arith, ap length e, length-append vs ws)

    -- what comes next is put
    pub writing_more : {vs ws d' : List A} {m : ℕ} → Writing d₀ base whole d n coming → coming ≡ vs ++ ws → Put d d' n m vs → Writing d₀ base whole d' m ws
    writing_more {vs} {ws} w e p = record {
      same = p.same ∙ w.same;
      rest = rw (p.stored, p.ends, ← sets-append d n vs ws, ← e) w.rest;
      place = omega (arith, ap length e, length-append vs ws);
      room = w.room;
    }

    -- what comes next is one value, stored at its index
    pub writing-one : {v : A} {ws : List A} → Writing d₀ base whole d n coming → coming ≡ v ∷ ws → Writing d₀ base whole (set d n v) (n + 1) ws
    writing-one {v} w e = writing_more w e (put_one d n v)

    pub writing-done : Writing d₀ base whole d n coming → coming ≡ [] → Put d₀ d base n whole
    writing-done w e = put-by (omega (arith, ap length e)) (rw e at w.rest)
