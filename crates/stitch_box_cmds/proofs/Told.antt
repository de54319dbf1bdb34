-- What the three calls of `write_cmds_as` say, together: what the write of the records is owed. Assumes nothing.
use Rattle.std.specs.Prelude.{Some, Err, Result, ⊤}
use Prim.Native.Nat.{ℕ, ◌+◌, ◌≤◌, ◌<◌}
use mathlib.Core.Path.{◌≡◌, refl, sym, ◌∙◌, ap, subst}
use mathlib.Core.Bool.{Bool, true, false, ◌||◌}
use mathlib.Core.List.{List, map}
use native.Mathlib.Nat.{zero-add, le_refl}
use native.Mathlib.Omega.{arith}
use borrow.Author.Tests.{ltb-true, lt-ltb, le-ltb}
use lib.Dec.{ltb, eqb}
use lib.IntN.{ℤ}
use lib.ListN.{length, take, drop, length-map}
use lib.Seq.{sets, sets-eq, take-length, take_at}
use Rattle.laws.specs.Tests.{false-true}
use Rattle.rules.specs.Files.{filled, file_told, distance_told, write_verdict, write_answer}
use Rattle.rules.specs.Lists.{commands}
use Rattle.rules.specs.Promises.{xs_of, ys_of, kinds_of, Wrote}
use Rattle.rules.specs.Refusals.{bad_list, list_refusals, verdict}
use Rattle.rules.specs.Vocabulary.{pick}
use Rattle.rules.specs.declared.Cmd.{Cmd}
use Rattle.rules.specs.declared.Format.{Format}
use Rattle.rules.specs.declared.Refusal.TheVariants.{BadList}
use Rattle.stitch_box_cmds.specs.Records.{FrontBy, WroteFront}
use Rattle.rules.specs.declared.Refusal.{Refusal}
use Rattle.rules.specs.declared.Written.{Written}

-- all of the list is unpacked: its numbers stand at the front
front : {B : Type 0} (f : Cmd → B) (l z : List B) (cs : List Cmd) (m : ℕ)
    → m ≡ length cs → m ≤ length l → z ≡ sets l 0 (map f (take m cs)) → take m z ≡ map f cs
front {B} f l z cs m e h u =
    ap (λ (s : List B). take m s)
    (u ∙ ap (λ (j : ℕ). sets l 0 (map f (take j cs))) e
    ∙ ap (λ (s : List Cmd). sets l 0 (map f s)) (take-length cs)
    ∙ sets-eq (map f cs) l 0 (subst (λ (j : ℕ). j ≤ length l) (e ∙ sym (length-map cs f) ∙ sym (zero-add (length (map f cs)))) h))
    ∙ take_at (map f cs) (drop (0 + length (map f cs)) l) m (length-map cs f ∙ sym e)

-- a list of over 65,535 commands is refused
second : (a t b : Bool) → t ≡ true → a || (t || b) ≡ true
second true t b h = refl
second false true b h = refl
second false false b h = false-true h

too_many_lem : (xs ys : List ℤ) (ks : List ℕ) → ltb 65535 (length ks) ≡ true → bad_list xs ys ks ≡ true
unfolding bad_list
too_many_lem xs ys ks h = second (eqb (length ks) 0) (ltb 65535 (length ks)) _ h

picked : {X : Type 0} (t : Bool) (x y : X) → t ≡ true → pick t x y ≡ x
picked true x y h = refl
picked false x y h = false-true h

refused : (f : Format) (name : List ℕ) (xs ys : List ℤ) (ks threads : List ℕ) (n : ℕ)
    → bad_list xs ys ks ≡ true → write_verdict (Some f) name xs ys ks threads n ≡ Err BadList
unfolding write_verdict list_refusals verdict
refused f name xs ys ks threads n h = picked (bad_list xs ys ks) (Err BadList) _ h

-- ---- the three calls
-- what `fitting` says of m, and `unpack` of what the arrays held and of what it left in them
abbrev pub Fits : List Cmd → ℕ → Type 0
Fits cs m = (m ≡ pick (ltb 65535 (length cs)) 0 (length cs)) × (m ≤ length cs) × (m ≤ 65535)

abbrev pub Unpacked : List Cmd → ℕ → List ℤ → List ℤ → List ℕ → List ℤ → List ℤ → List ℕ → Type 0
Unpacked cs m xs ys ks x y k = (x ≡ sets xs 0 (xs_of (take m cs))) × (y ≡ sets ys 0 (ys_of (take m cs))) × (k ≡ sets ks 0 (kinds_of (take m cs)))

module _ (f : Format) (name : List ℕ) (cs : List Cmd) (threads os o : List ℕ) (w : Result Written Refusal) where
  abbrev file : List ℕ
  file = file_told (Some f) name (commands (xs_of cs) (ys_of cs) (kinds_of cs)) threads

  -- what the write owes
  abbrev pub Owed : Type 0
  Owed = Wrote (Some f) name (xs_of cs) (ys_of cs) (kinds_of cs) threads os o w

  module _ (m : ℕ) (xs ys : List ℤ) (ks : List ℕ) (x y : List ℤ) (k : List ℕ)
      (room : (m ≤ length xs) × (m ≤ length ys) × (m ≤ length ks)) (u : Unpacked cs m xs ys ks x y k) where
    -- what `write_front` says, by its test
    abbrev Front : Bool → Type 0
    Front t = FrontBy t f name m x y k threads os o w

    -- more than fit: none is unpacked, and 6
    none : 65535 < length cs → Front true → Owed
    unfolding write_answer filled
    none h q =
        let v = refused f name (xs_of cs) (ys_of cs) (kinds_of cs) threads (length os) (too_many_lem (xs_of cs) (ys_of cs) (kinds_of cs)
        (ap (ltb 65535) (length-map cs (λ (c : Cmd). c.kind)) ∙ lt-ltb 65535 (length cs) h)) in
        record {
          answered = subst (λ (r : Result ⊤ Refusal). w ≡ write_answer (distance_told (Some f) threads) r (length file)) (sym v) q.0;
          stored = subst (λ (r : Result ⊤ Refusal). o ≡ filled r file os) (sym v) q.1;
        }

    -- all are unpacked: the arrays begin with the list's columns
    all : m ≡ length cs → Front false → Owed
    all p q =
        rw (
          front (λ (c : Cmd). c.x) xs x cs m p room.0 u.0,
          front (λ (c : Cmd). c.y) ys y cs m p room.1 u.1,
          front (λ (c : Cmd). c.kind) ks k cs m p room.2 u.2,
        ) at q

    by-test : (t : Bool) → ltb 65535 (length cs) ≡ t → m ≡ pick t 0 (length cs) → Front (ltb m (length cs)) → Owed
    by-test true e p q =
        let h = ltb-true 65535 (length cs) e in
        none h (subst Front (lt-ltb m (length cs) (subst (λ (j : ℕ). j < length cs) (sym p) (omega arith))) q)
    by-test false e p q = all p (subst Front (le-ltb m (length cs) (subst (λ (j : ℕ). length cs ≤ j) (sym p) (le_refl (length cs)))) q)

    pub told : Fits cs m → WroteFront f name (length cs) m x y k threads os o w → Owed
    told fit q = by-test (ltb 65535 (length cs)) refl fit.0 q
