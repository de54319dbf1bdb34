-- What commands make of a tally, and what a tally tells of refusals 6 to 9.
use Rattle.std.specs.Prelude.{ℕ, ◌+◌, ◌/◌, ◌%◌, ◌≤◌, Bool, false, ◌||◌, not, List, [], ◌∷◌, ltb, eqb, pos, Result, ⊤}
use Rattle.rules.specs.Vocabulary.{pick}
use Rattle.rules.specs.Limits.{most_commands, most_changes, most_threads}
use Rattle.rules.specs.Refusals.{outside, changes, moves, verdict}
use Rattle.rules.specs.declared.Cmd.{Cmd}
use Rattle.rules.specs.declared.Refusal.TheVariants.{BadList, PlaceOutside, TooMany, Moved}
use Rattle.read_job_tally.specs.declared.Tally.{Tally}
use Rattle.rules.specs.declared.Refusal.{Refusal}

-- no command yet; the place before the first is (0, 0)
abbrev pub no_tally : Tally
no_tally = record {
  commands = 0;
  changes = 0;
  x = pos 0;
  y = pos 0;
  ended = false;
  early = false;
  unknown = false;
  outside = false;
  moved = false;
}

-- one command more
unfoldable pub counted : Tally → Cmd → Tally
counted t c = record {
  commands = t.commands + 1;
  changes = t.changes + pick (changes c) 1 0;
  x = c.x;
  y = c.y;
  ended = eqb c.kind 4;
  early = t.early || t.ended;
  unknown = t.unknown || ltb 4 c.kind;
  outside = t.outside || outside c;
  moved = t.moved || moves t.x t.y c;
}

unfoldable pub tallied : Tally → List Cmd → Tally
tallied t [] = t
tallied t (c ∷ cs) = tallied (counted t c) cs

-- so many bytes more can be counted
pub record Spare (t : Tally) (n : ℕ) : Type 0 where
  pub few : t.commands + n ≤ 4294967295
  pub fewer : t.changes ≤ t.commands

-- 6, 8 and all four
unfoldable pub bad_tally : Tally → Bool
bad_tally t = eqb t.commands 0 || (ltb most_commands t.commands || (t.unknown || (t.early || not t.ended)))

unfoldable pub many_tally : Tally → ℕ → Bool
many_tally t n = ltb most_changes t.changes || (ltb most_threads (n / 3) || not (eqb (n % 3) 0))

unfoldable pub tally_verdict : Tally → ℕ → Result ⊤ Refusal
tally_verdict t n = verdict
    ((BadList, bad_tally t)
    ∷ (PlaceOutside, t.outside)
    ∷ (TooMany, many_tally t n)
    ∷ (Moved, t.moved)
    ∷ [])
