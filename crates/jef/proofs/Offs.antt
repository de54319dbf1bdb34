-- How far off the threads before place i are, with the threads to come. Assumes nothing.
use Rattle.std.specs.Prelude.{Some, None, Option}
use Prim.Native.Nat.{ℕ, ◌+◌, ◌≤◌, ◌<◌, max}
use mathlib.Core.Path.{◌≡◌, refl, sym, ap, ◌∙◌}
use mathlib.Core.List.{List, [], ◌∷◌}
use native.Mathlib.Omega.{arith}
use lib.ListN.{length, get_or, drop, length-drop}
use Rattle.rules.specs.Choices.{away, jef_palette, jef_choice, jef_choice_answer, jef_entries, farthest}
use Rattle.rules.specs.Jef.{or_one, jef_table, jef_distance}
use Rattle.rules.specs.Lists.{threads_of}
use Rattle.rules.specs.declared.Color.{Color}
use Rattle.laws.specs.Farthest.{far-more, far-end}
use Rattle.laws.specs.Threads.{thread_at, threads_more, threads-none}
use Rattle.jef_threads.specs.Distances.{entry_in, distance_in}

-- the entry of the table without threads is no thread's
in_table : (ts : List Color) → farthest jef_palette ts (jef_entries None ts) ≡ farthest jef_palette ts (jef_table ts)
unfolding farthest jef_entries jef_table or_one
in_table [] = refl
in_table (t ∷ ts) = refl

abbrev pub Off : Option (ℕ × Color) → List ℕ → List ℕ → ℕ → Type 0
Off last s rest far = max far (farthest jef_palette (threads_of rest) (jef_entries last (threads_of rest))) ≡ jef_distance (threads_of s)

pub off-start : (s : List ℕ) → Off None s s 0
unfolding jef_distance
off-start s = omega (arith, in_table (threads_of s))

-- what the choice answers
module _ (last : Option (ℕ × Color)) (t : Color) {c : Option (ℕ × ℕ)} (told : c ≡ jef_choice_answer last t) where
  pub entry-told : {e : ℕ} → e ≡ entry_in c → e ≡ jef_choice last t
  unfolding jef_choice_answer
  entry-told h = h ∙ ap entry_in told

  distance-told : {d : ℕ} → d ≡ distance_in c → d ≡ away t (get_or jef_palette (jef_choice last t) None)
  unfolding jef_choice_answer
  distance-told h = h ∙ ap distance_in told

pub off-more : (last : Option (ℕ × Color)) (s rest more : List ℕ) (t : Color) {c : Option (ℕ × ℕ)} {e d far' : ℕ} (far : ℕ) → threads_of rest ≡ t ∷ threads_of more
    → c ≡ jef_choice_answer last t → e ≡ entry_in c → d ≡ distance_in c → far' ≡ max far d → Off last s rest far → Off (Some (e, t)) s more far'
unfolding jef_entries
off-more last s rest more t far h told entry distance larger w =
    let k = jef_choice last t in
    let ts = threads_of more in
    rw (larger, distance-told last t told distance, entry-told last t told entry)
    (sym (far-more jef_palette far t ts k (jef_entries (Some (k, t)) ts)) ∙ rw h at w)

pub off-end : (last : Option (ℕ × Color)) (s rest : List ℕ) (far : ℕ) → length rest < 3 → Off last s rest far → far ≡ jef_distance (threads_of s)
off-end last s rest far h w = sym (far-end jef_palette far (jef_entries last [])) ∙ rw (threads-none rest h) at w

-- there are no threads
pub off-none : (s : List ℕ) → length s < 3 → 0 ≡ jef_distance (threads_of s)
off-none s h = off-end None s s 0 h (off-start s)
