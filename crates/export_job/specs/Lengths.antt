-- Laws of a job that is exported: how its command fields unfold (`fields-of-commands`), and how long its parts and the whole are, of a name
-- of any length, any commands and thread bytes of any count (`length-field`, `length-row`, `length-rows`, `length-thread_fields`,
-- `length-command_fields`, `job-length`).
-- Assumes nothing.
use Rattle.std.specs.Prelude.{ℕ, zero, suc, ◌+◌, ◌-◌, ◌*◌, ◌/◌, ◌≤◌, ◌<◌, ◌≡◌, refl, List, [], ◌∷◌, ◌++◌, map, length, take, drop}
use Rattle.std.proofs.Common.{ap, ◌∙◌, arith, length-append, length-take, length-drop}
use Rattle.std.proofs.Math.Decide.{dec_le}
use Rattle.std.proofs.Math.Nat.{add-div_right}
use Rattle.rules.specs.Vocabulary.{joined}
use Rattle.rules.specs.Limits.{field_commands}
use Rattle.rules.specs.Jobs.{field_of, row_of_cmd, thread_fields, commands_then, command_fields, job_of}
use Rattle.rules.specs.declared.Cmd.{Cmd}
use Rattle.laws.specs.Fuel.{fuelled-step}
use Rattle.laws.specs.Little.{length-little}
use Rattle.export_job.specs.Lists.{job_length}

-- ---- the step: the first field of commands, and those behind it

then_same : (f g : List Cmd → List ℕ) (cs : List Cmd) → ((ds : List Cmd) → length ds < length cs → f ds ≡ g ds)
    → commands_then f cs ≡ commands_then g cs
unfolding commands_then
then_same f g [] e = refl
then_same f g (c ∷ cs) e =
    let first : List ℕ = field_of 3 (joined (map row_of_cmd (take field_commands (c ∷ cs)))) in
    ap (λ (l : List ℕ). first ++ l) (e (drop field_commands (c ∷ cs)) (omega (arith, length-drop field_commands (c ∷ cs))))

pub fields-of-commands : (cs : List Cmd) → command_fields cs ≡ commands_then command_fields cs
unfolding command_fields
fields-of-commands cs =
    fuelled-step {X = List Cmd} {R = List ℕ} (λ ds. length ds) commands_then [] then_same (suc (length cs)) cs (omega arith)

-- ---- lengths

pub length-field : (tag : ℕ) (content : List ℕ) → length (field_of tag content) ≡ 3 + length content
unfolding field_of
length-field tag content = simp (length-append, length-little) (omega arith)

pub length-row : (c : Cmd) → length (row_of_cmd c) ≡ 5
unfolding row_of_cmd
length-row c = simp (length-append, length-little)

pub length-rows : (cs : List Cmd) → length (joined (map row_of_cmd cs)) ≡ 5 * length cs
unfolding joined
length-rows [] = refl
length-rows (c ∷ cs) = length-append (row_of_cmd c) (joined (map row_of_cmd cs)) ∙ omega (arith, length-row c, length-rows cs)

pub length-thread_fields : (s : List ℕ) → length (thread_fields s) ≡ 6 * (length s / 3)
unfolding thread_fields
length-thread_fields [] = omega arith
length-thread_fields (r ∷ []) = omega arith
length-thread_fields (r ∷ g ∷ []) = omega arith
length-thread_fields (r ∷ g ∷ b ∷ s) =
    length-append (field_of 2 (r ∷ g ∷ b ∷ [])) (thread_fields s)
    ∙ omega (arith, length-field 2 (r ∷ g ∷ b ∷ []), length-thread_fields s)

-- a field more for each thousand, and one for what is left
field-count : (n : ℕ) → 0 < n → (n + 999) / 1000 ≡ (n - 1000 + 999) / 1000 + 1
field-count n h = elim (dec_le 1000 n) [
  | yes l ↦
      let e : n + 999 ≡ n - 1000 + 999 + 1000 = omega arith in ap (λ (k : ℕ). k / 1000) e ∙ add-div_right (n - 1000 + 999) (omega arith)
  | no l ↦ omega arith
]

-- at most n commands
fields-long : (n : ℕ) (cs : List Cmd) → length cs ≤ n → length (command_fields cs) ≡ 5 * length cs + 3 * ((length cs + 999) / 1000)
unfolding commands_then
fields-long zero [] h = ap length (fields-of-commands [])
fields-long zero (c ∷ cs) h = absurd (omega arith)
fields-long (suc n) [] h = ap length (fields-of-commands [])
fields-long (suc n) (c ∷ cs) h =
    let front : List Cmd = take field_commands (c ∷ cs) in
    let rest : List Cmd = drop field_commands (c ∷ cs) in
    let long : length rest ≡ suc (length cs) - 1000 = length-drop field_commands (c ∷ cs) in
    let behind = rw long at (fields-long n rest (omega arith)) in
    let first = length-field 3 (joined (map row_of_cmd front)) in
    let rows = length-rows front in
    let more = field-count (suc (length cs)) (omega arith) in
    ap length (fields-of-commands (c ∷ cs))
    ∙ length-append (field_of 3 (joined (map row_of_cmd front))) (command_fields rest)
    ∙ omega (arith, length-take field_commands (c ∷ cs))

pub length-command_fields : (cs : List Cmd) → length (command_fields cs) ≡ 5 * length cs + 3 * ((length cs + 999) / 1000)
length-command_fields cs = fields-long (length cs) cs (omega arith)

pub job-length : (name : List ℕ) (cs : List Cmd) (threads : List ℕ)
    → length (job_of name cs threads) ≡ job_length (length name) (length cs) (length threads)
unfolding job_of
job-length name cs threads =
    let first = length-field 1 name in
    let second = length-thread_fields threads in
    length-append (field_of 1 name ++ thread_fields threads) (command_fields cs)
    ∙ omega (arith, length-append (field_of 1 name) (thread_fields threads), length-command_fields cs)
