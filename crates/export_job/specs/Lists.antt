-- What is known of a list that is exported, and the parts of its job.
use Rattle.std.specs.Prelude.{ℕ, ◌+◌, ◌-◌, ◌*◌, ◌/◌, ◌≤◌, ◌≡◌, false, List, map, ℤ, length, take, drop}
use Rattle.rules.specs.Vocabulary.{joined}
use Rattle.rules.specs.Lists.{commands}
use Rattle.rules.specs.Refusals.{place_outside}
use Rattle.rules.specs.Jobs.{field_of, row_of_cmd}

-- few commands, and none of them outside the range
pub record Known (xs ys : List ℤ) (kinds : List ℕ) : Type 0 where
  pub long : length kinds ≤ 65535
  pub places : place_outside (commands xs ys kinds) ≡ false

-- commands i to before e in one field
abbrev pub field_between : List ℤ → List ℤ → List ℕ → ℕ → ℕ → List ℕ
field_between xs ys kinds i e = field_of 3 (joined (map row_of_cmd (take (e - i) (drop i (commands xs ys kinds)))))

-- the bytes of a job with a name of so many bytes, n commands and t bytes of threads: 3 bytes more for each field
abbrev pub job_length : ℕ → ℕ → ℕ → ℕ
job_length name n t = 3 + name + 6 * (t / 3) + 5 * n + 3 * ((n + 999) / 1000)
