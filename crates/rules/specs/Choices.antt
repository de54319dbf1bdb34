-- The choice of a chart's entry for a thread.
-- A port of src/formats/mod.rs and src/formats/more.rs of zigzag, changed.
use Rattle.std.specs.Prelude.{ℕ, ◌+◌, ◌-◌, ◌*◌, ◌/◌, ◌%◌, max, Bool, true, false, ◌&&◌, not, List, [], ◌∷◌, map, leb, eqb, get_or, set, Some, None, Option}
use Rattle.rules.specs.Vocabulary.{pick, all, first_where, last_where}
use Rattle.rules.specs.Charts.{pec_chart, jef_chart}
use Rattle.rules.specs.declared.Color.{Color}

-- half of n, a half going to the even number
unfoldable pub half_to_even : ℕ → ℕ
half_to_even n = n / 2 + n % 2 * (n / 2 % 2)

-- how far apart two numbers are
unfoldable pub gap : ℕ → ℕ → ℕ
gap m n = (m - n) + (n - m)

-- The distance of two colours by the red mean m.
unfoldable pub weighed : ℕ → ℕ → ℕ → ℕ → ℕ
weighed m r g b = (512 + m) * (r * r) / 256 + 4 * (g * g) + (767 - m) * (b * b) / 256

unfoldable pub distance : Color → Color → ℕ
distance a b = weighed (half_to_even (a.0 + b.0)) (gap a.0 b.0) (gap a.1 b.1) (gap a.2 b.2)

-- an entry at distance d or more from c, or none
unfoldable pub no_nearer : Color → ℕ → Option Color → Bool
no_nearer c d None = true
no_nearer c d (Some t) = leb d (distance c t)

-- an entry of the palette at the least distance from c
unfoldable pub nearest : Color → List (Option Color) → Option Color → Bool
nearest c palette None = false
nearest c palette (Some t) = all (no_nearer c (distance c t)) palette

-- Of equal distances `nearest_index` takes the later; `jef_palette` takes the first.
unfoldable pub nearest_index : Color → List (Option Color) → Option ℕ
nearest_index c palette = last_where (nearest c palette) palette

unfoldable pub nearest_first : Color → List (Option Color) → Option ℕ
nearest_first c palette = first_where (nearest c palette) palette

-- how far c is from the thread of an entry; 0 where it has none
unfoldable pub away : Color → Option Color → ℕ
away c None = 0
away c (Some t) = distance c t

-- The choice of the nearest thread answers the index and its distance, if there is a thread to choose.
unfoldable pub with_distance : Color → List (Option Color) → Option ℕ → Option (ℕ × ℕ)
with_distance c palette (Some i) = Some (i, away c (get_or palette i None))
with_distance c palette None = None

unfoldable pub nearest_answer : Color → List (Option Color) → Option (ℕ × ℕ)
nearest_answer c palette = with_distance c palette (nearest_index c palette)

unfoldable pub nearest_first_answer : Color → List (Option Color) → Option (ℕ × ℕ)
nearest_first_answer c palette = with_distance c palette (nearest_first c palette)

-- the entries of a chart that may be chosen: all but entry 0
unfoldable pub choices : List Color → List (Option Color)
choices [] = []
choices (c ∷ chart) = None ∷ map Some chart

unfoldable pub pec_palette : List (Option Color)
pec_palette = choices pec_chart

unfoldable pub jef_palette : List (Option Color)
jef_palette = choices jef_chart

unfoldable pub same_color : Color → Color → Bool
same_color a b = eqb a.0 b.0 && (eqb a.1 b.1 && eqb a.2 b.2)

-- the entry found; 1 if there is none
unfoldable pub entry_of : Option ℕ → ℕ
entry_of (Some i) = i
entry_of None = 1

-- JEF's entry for t with one entry left out: 0, which is never chosen, leaves out none
unfoldable pub jef_nearest : Color → ℕ → ℕ
jef_nearest t skip = entry_of (nearest_first t (set jef_palette skip None))

-- JEF's entry for t after another thread: never the same entry for two neighbours of different colour
unfoldable pub jef_choice : Option (ℕ × Color) → Color → ℕ
jef_choice None t = jef_nearest t 0
jef_choice (Some (i, u)) t = pick (eqb (jef_nearest t 0) i && not (same_color u t)) (jef_nearest t i) (jef_nearest t 0)

-- JEF's choice answers the entry and its distance.
unfoldable pub jef_choice_answer : Option (ℕ × Color) → Color → Option (ℕ × ℕ)
jef_choice_answer last t = Some (jef_choice last t, away t (get_or jef_palette (jef_choice last t) None))

-- JEF's thread table for the threads that follow
unfoldable pub jef_entries : Option (ℕ × Color) → List Color → List ℕ
jef_entries last [] = []
jef_entries last (t ∷ ts) = jef_choice last t ∷ jef_entries (Some (jef_choice last t, t)) ts

-- The largest distance between a thread and the chart's own colour of the entry written for it. `palette` has the chart's own colours, and
-- none for entry 0, which is never chosen. A thread without an entry does not count; the answer is 0 if none counts.
unfoldable pub farthest : List (Option Color) → List Color → List ℕ → ℕ
farthest palette [] entries = 0
farthest palette (t ∷ ts) [] = 0
farthest palette (t ∷ ts) (e ∷ es) = max (away t (get_or palette e None)) (farthest palette ts es)
