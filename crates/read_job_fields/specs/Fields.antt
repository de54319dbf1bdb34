-- What is read of the field at a place of a job.
use Rattle.std.specs.Prelude.{ℕ, ◌+◌, ◌-◌, ◌≤◌, ◌≡◌, ◌||◌, not, List, ltb, length, take, drop, Some, None, Ok, Err, Option, Result}
use Rattle.rules.specs.Vocabulary.{pick, any, from_little}
use Rattle.rules.specs.Jobs.{Fields, ended, field, bad_tag, follows, length_allowed, unknown_kind, rows_in, fields_from}
use Rattle.read_job_fields.specs.declared.Field.{Field}
use Rattle.rules.specs.declared.Refusal.{Refusal}

abbrev pub tag_by : ℕ → ℕ → Option ℕ
tag_by before tag = pick (follows before tag) (Some tag) None

-- s is what is left of the job from the length on
abbrev pub length_by : ℕ → List ℕ → Option ℕ
length_by tag s =
    pick (ltb (length s) 2) None
    (pick (ltb (length (drop 2 s)) (from_little (take 2 s)) || not (length_allowed tag (from_little (take 2 s)))) None
    (Some (from_little (take 2 s))))

-- the bytes from `start` to before `end`
abbrev pub content_of : List ℕ → ℕ → ℕ → List ℕ
content_of s start end = take (end - start) (drop start s)

-- a field and those behind it, or a kind of it that no rule names
abbrev pub field_and : ℕ → List ℕ → Fields → Fields
field_and tag content fs = pick (any unknown_kind (rows_in tag content)) bad_tag (field tag content fs)

-- the field at `at` lies in the job, and the fields from `at` on are it and those behind it
pub record Lies (s : List ℕ) (before at tag start end : ℕ) : Type 0 where
  pub begins : start ≡ at + 3
  pub ends : start ≤ end
  pub inside : end ≤ length s
  pub tells : fields_from before (drop at s) ≡ field_and tag (content_of s start end) (fields_from tag (drop end s))

abbrev pub FieldRead : List ℕ → ℕ → ℕ → Result Field Refusal → Type 0
FieldRead s before at (Ok f) = Lies s before at f.tag f.start f.end
FieldRead s before at (Err r) = fields_from before (drop at s) ≡ ended (Err r)
