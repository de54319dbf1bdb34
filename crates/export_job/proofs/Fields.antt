-- The loops over threads, over the commands of a field and over the fields. What is left at a turn is what it writes, and then what is left
-- behind it: `-room` is the turn's room, `-on` goes on behind it, `-done` is the end.
-- Assumes nothing.
use Prim.Native.Nat.{ℕ, suc, ◌+◌, ◌-◌, ◌*◌, ◌≤◌, ◌<◌, min}
use mathlib.Core.Path.{◌≡◌, refl, sym, ap, ◌∙◌}
use mathlib.Core.Bool.{false}
use mathlib.Core.List.{List, [], ◌∷◌, ◌++◌, map}
use native.Mathlib.Decide.{dec_le}
use native.Mathlib.Omega.{arith}
use lib.IntN.{ℤ, pos}
use lib.ListN.{length, take, drop, get_or, length-take, length-drop}
use lib.Seq.{take_all, take-length, drop-length, drop-drop}
use mir.Facts.{to_z-of_z}
use mir.Syntax.{w32}
use mir.Val.{SFits, to_z, of_z}
use Rattle.rules.specs.Vocabulary.{little, joined}
use Rattle.rules.specs.Lists.{commands}
use Rattle.rules.specs.Refusals.{place_outside}
use Rattle.rules.specs.Jobs.{field_of, row_of_cmd, thread_fields, commands_then, command_fields}
use Rattle.rules.specs.declared.Cmd.{Cmd}
use Rattle.laws.specs.Buffers.{Put, Writing, writing_start, writing-room, writing_more, writing-done, put_as}
use Rattle.laws.specs.Ints.{ints, abs_is}
use Rattle.laws.specs.Listing.{list-end, cmd_at, commands-at, commands-more, Listed, listed}
use Rattle.laws.specs.Places.{Small, Within, every}
use Rattle.export_job.specs.Lists.{field_between}
use Rattle.export_job.specs.Lengths.{length-field, length-row, length-rows, fields-of-commands}

-- ---- threads

thread-more : (s t u : List ℕ) → s ≡ t ++ u → length t ≡ 3 → thread_fields s ≡ field_of 2 t ++ thread_fields u
unfolding thread_fields
thread-more s [] u e h = absurd (omega arith)
thread-more s (r ∷ []) u e h = absurd (omega arith)
thread-more s (r ∷ g ∷ []) u e h = absurd (omega arith)
thread-more s (r ∷ g ∷ b ∷ []) u e h = rw e
thread-more s (r ∷ g ∷ b ∷ x ∷ t) u e h = absurd (omega arith)

no-thread : (s : List ℕ) → length s < 3 → thread_fields s ≡ []
unfolding thread_fields
no-thread [] h = refl
no-thread (r ∷ []) h = refl
no-thread (r ∷ g ∷ []) h = refl
no-thread (r ∷ g ∷ b ∷ s) h = absurd (omega arith)

-- the threads of `rest`, taken `size` bytes at a time, are still to come
pub record ThreadLoop (s d₀ : List ℕ) (base : ℕ) (d : List ℕ) (to size : ℕ) (rest : List ℕ) : Type 0 where
  pub three : size ≡ 3
  pub writing : Writing d₀ base (thread_fields s) d to (thread_fields rest)

pub thread-start : (s d : List ℕ) (base : ℕ) {size : ℕ} {rest : List ℕ} → base + length (thread_fields s) ≤ length d → size ≡ 3 → rest ≡ s
    → ThreadLoop s d base d base size rest
thread-start s d base h three e = record { three = three; writing = rw e (writing_start d base (thread_fields s) h) }

module _ {s d₀ d : List ℕ} {base to size : ℕ} {rest : List ℕ} (t : ThreadLoop s d₀ base d to size rest) where
  module _ (thread more : List ℕ) (e : rest ≡ thread ++ more) (l : length thread ≡ size) where
    pub thread-room : to + (3 + length thread) ≤ length d
    thread-room =
        rw (length-field 2 thread) at
        (writing-room (field_of 2 thread) (thread_fields more) t.writing (thread-more rest thread more e (l ∙ t.three)))

    pub thread-on : {d' : List ℕ} {m size' : ℕ} → Put d d' to m (field_of 2 thread) → size' ≡ size → ThreadLoop s d₀ base d' m size' more
    thread-on p k = record { three = k ∙ t.three; writing = writing_more t.writing (thread-more rest thread more e (l ∙ t.three)) p }

  pub thread-done : length rest < size → Put d₀ d base to (thread_fields s)
  thread-done h = writing-done t.writing (no-thread rest (omega (arith, t.three)))

-- ---- the commands of a field

-- the command at i, as the code reads it
abbrev read : ℤ → ℤ
read z = to_z w32 (of_z w32 z)

abbrev read_at : List ℤ → ℕ → ℤ
read_at zs i = read (get_or zs i (pos 0))

back : (z : ℤ) → Small z → read z ≡ z
back z h = let f : SFits w32 z = omega (ints, abs_is z) in to_z-of_z f

-- the bytes of commands i to before e
abbrev pub rows_between : List ℤ → List ℤ → List ℕ → ℕ → ℕ → List ℕ
rows_between xs ys ks i e = joined (map row_of_cmd (take (e - i) (drop i (commands xs ys ks))))

one_less : (i e : ℕ) → i < e → e - i ≡ suc (e - (i + 1))
one_less i e h = omega arith

none_left : (i e : ℕ) → e ≤ i → e - i ≡ 0
none_left i e h = omega arith

module _ (xs ys : List ℤ) (ks : List ℕ) (i e : ℕ) where
  row_more : i < e → e ≤ length (commands xs ys ks) → rows_between xs ys ks i e ≡ row_of_cmd (cmd_at xs ys ks i) ++ rows_between xs ys ks (i + 1) e
  unfolding joined
  row_more h l = rw (commands-more xs ys ks i (omega arith), one_less i e h)

  row-none : e ≤ i → rows_between xs ys ks i e ≡ []
  unfolding joined
  row-none h = rw (none_left i e h)

  module _ (h : i ≤ e) (l : e ≤ length (commands xs ys ks)) where
    rows_long : length (rows_between xs ys ks i e) ≡ 5 * (e - i)
    rows_long =
        let cs : List Cmd = commands xs ys ks in
        length-rows (take (e - i) (drop i cs)) ∙ omega (arith, length-take (e - i) (drop i cs), length-drop i cs)

    field-long : length (field_between xs ys ks i e) ≡ 3 + 5 * (e - i)
    field-long = length-field 3 (rows_between xs ys ks i e) ∙ omega (arith, rows_long)

    -- the head says how long the rows are
    pub field_is : (3 ∷ little 2 (5 * (e - i))) ++ rows_between xs ys ks i e ≡ field_between xs ys ks i e
    unfolding field_of
    field_is = rw rows_long

-- of commands i to before e those from k on are still to come
pub record RowLoop (xs ys : List ℤ) (ks d₀ : List ℕ) (base : ℕ) (d : List ℕ) (to i e k : ℕ) : Type 0 where
  pub places : place_outside (commands xs ys ks) ≡ false
  pub listed_all : e ≤ length (commands xs ys ks)
  pub writing : Writing d₀ base (rows_between xs ys ks i e) d to (rows_between xs ys ks k e)

pub row-start : (xs ys : List ℤ) (ks d : List ℕ) (base i e : ℕ) → place_outside (commands xs ys ks) ≡ false → i ≤ e → e ≤ length (commands xs ys ks)
    → base + 5 * (e - i) ≤ length d → RowLoop xs ys ks d base d base i e i
row-start xs ys ks d base i e p h l r = record {
  places = p;
  listed_all = l;
  writing = writing_start d base (rows_between xs ys ks i e) (omega (arith, rows_long xs ys ks i e h l));
}

module _ {xs ys : List ℤ} {ks d₀ d : List ℕ} {base to i e k : ℕ} (r : RowLoop xs ys ks d₀ base d to i e k) where
  pub row_done : e ≤ k → Put d₀ d base to (rows_between xs ys ks i e)
  row_done h = writing-done r.writing (row-none xs ys ks k e h)

  module _ (h : k < e) where
    pub row_in : Listed xs ys ks k
    row_in = listed refl (omega (arith, r.listed_all))

    within : Within (cmd_at xs ys ks k)
    within =
        let l : k < length (commands xs ys ks) = omega (arith, r.listed_all) in
        rw (commands-at xs ys ks k l) at (every (commands xs ys ks) r.places k l)

    pub row_near : Small (read_at xs k) × Small (read_at ys k)
    row_near = (rw (back (get_or xs k (pos 0)) within.across) within.across, rw (back (get_or ys k (pos 0)) within.down) within.down)

    pub row_room : to + 5 ≤ length d
    row_room =
        rw (length-row (cmd_at xs ys ks k)) at
        (writing-room (row_of_cmd (cmd_at xs ys ks k)) (rows_between xs ys ks (k + 1) e) r.writing (row_more xs ys ks k e h r.listed_all))

    pub row_on : {d' : List ℕ} {m : ℕ} → Put d d' to m (row_of_cmd (record { x = read_at xs k; y = read_at ys k; kind = get_or ks k 0 }))
        → RowLoop xs ys ks d₀ base d' m i e (k + 1)
    row_on p = record {
      places = r.places;
      listed_all = r.listed_all;
      writing = writing_more {vs = row_of_cmd (cmd_at xs ys ks k)} r.writing (row_more xs ys ks k e h r.listed_all)
          (put_as p (rw (back (get_or xs k (pos 0)) within.across, back (get_or ys k (pos 0)) within.down)));
    }

-- ---- fields

take_min : {A : Type 0} (n : ℕ) (l : List A) → take (min n (length l)) l ≡ take n l
take_min n l = elim (dec_le n (length l)) [
  | yes h ↦ let e : min n (length l) ≡ n = omega arith in rw e
  | no h ↦ let e : min n (length l) ≡ length l = omega arith in rw e (take-length l ∙ sym (take_all n l (omega arith)))
]

drop_min : {A : Type 0} (n : ℕ) (l : List A) → drop (min n (length l)) l ≡ drop n l
drop_min n l = elim (dec_le n (length l)) [
  | yes h ↦ let e : min n (length l) ≡ n = omega arith in rw e
  | no h ↦ let e : min n (length l) ≡ length l = omega arith in rw e (drop-length l ∙ sym (list-end l n (omega arith)))
]

first_field : (cs : List Cmd) → 0 < length cs → command_fields cs ≡ field_of 3 (joined (map row_of_cmd (take 1000 cs))) ++ command_fields (drop 1000 cs)
unfolding commands_then
first_field [] h = absurd (omega arith)
first_field (c ∷ cs) h = fields-of-commands (c ∷ cs)

no_field : (cs : List Cmd) (i : ℕ) → length cs ≤ i → command_fields (drop i cs) ≡ []
unfolding commands_then
no_field cs i h = rw (list-end cs i h) (fields-of-commands [])

field-more : (xs ys : List ℤ) (ks : List ℕ) (i e : ℕ)
    → (let cs = commands xs ys ks in i < length cs → e ≡ i + min 1000 (length cs - i)
    → command_fields (drop i cs) ≡ field_between xs ys ks i e ++ command_fields (drop e cs))
field-more xs ys ks i e h q =
    let cs : List Cmd = commands xs ys ks in
    let long : length (drop i cs) ≡ length cs - i = length-drop i cs in
    let p : e - i ≡ min 1000 (length (drop i cs)) = omega arith in
    let r : e ≡ i + min 1000 (length (drop i cs)) = omega arith in
    let front : take (e - i) (drop i cs) ≡ take 1000 (drop i cs) = rw p (take_min 1000 (drop i cs)) in
    let rest : drop e cs ≡ drop 1000 (drop i cs)
    = ap (λ (n : ℕ). drop n cs) r ∙ sym (drop-drop (min 1000 (length (drop i cs))) i cs) ∙ drop_min 1000 (drop i cs) in
    rw (front, rest) (first_field (drop i cs) (omega arith))

-- of n commands those from i on are still to come
pub record FieldLoop (xs ys : List ℤ) (ks d₀ : List ℕ) (base : ℕ) (d : List ℕ) (n to i : ℕ) : Type 0 where
  pub count : n ≡ length (commands xs ys ks)
  pub inside : i ≤ n
  pub writing : Writing d₀ base (command_fields (commands xs ys ks)) d to (command_fields (drop i (commands xs ys ks)))

pub field-start : (xs ys : List ℤ) (ks d : List ℕ) (base : ℕ) {n : ℕ} → n ≡ length (commands xs ys ks)
    → base + length (command_fields (commands xs ys ks)) ≤ length d → FieldLoop xs ys ks d base d n base 0
field-start xs ys ks d base e h = record { count = e; inside = omega arith; writing = writing_start d base (command_fields (commands xs ys ks)) h }

module _ {xs ys : List ℤ} {ks d₀ d : List ℕ} {base n to i : ℕ} (f : FieldLoop xs ys ks d₀ base d n to i) where
  pub field-done : n ≤ i → Put d₀ d base to (command_fields (commands xs ys ks))
  field-done h = writing-done f.writing (no_field (commands xs ys ks) i (omega (arith, f.count)))

  module _ {e : ℕ} (h : i < n) (q : e ≡ i + min 1000 (n - i)) where
    next : command_fields (drop i (commands xs ys ks)) ≡ field_between xs ys ks i e ++ command_fields (drop e (commands xs ys ks))
    next = field-more xs ys ks i e (omega (arith, f.count)) (omega (arith, f.count))

    pub field-ends : (i ≤ e) × ((e ≤ i + 1000) × (e ≤ length (commands xs ys ks)))
    field-ends = (omega arith, (omega arith, omega (arith, f.count)))

    pub field_room : to + (3 + 5 * (e - i)) ≤ length d
    field_room =
        rw (field-long xs ys ks i e field-ends.0 field-ends.1.1) at
        (writing-room (field_between xs ys ks i e) (command_fields (drop e (commands xs ys ks))) f.writing next)

    pub field-on : {d' : List ℕ} {m : ℕ} → Put d d' to m (field_between xs ys ks i e) → FieldLoop xs ys ks d₀ base d' n m e
    field-on p = record { count = f.count; inside = omega (arith, f.inside); writing = writing_more f.writing next p }
