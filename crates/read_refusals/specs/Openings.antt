-- What a file's first bytes tell, as the code has it: what the reading goes on from, or the refusal.
use Rattle.std.specs.Prelude.{ℕ, ◌+◌, List, [], ltb, length, get_or, take, Some, None, Ok, Err, Option, Result, ⊤}
use Rattle.rules.specs.Vocabulary.{pick}
use Rattle.rules.specs.Text.{trimmed, lines_of, word_at}
use Rattle.rules.specs.Dst.{last_label}
use Rattle.rules.specs.Pec.{pec_label}
use Rattle.rules.specs.Pes.{part_at}
use Rattle.rules.specs.Formats.{layout_of}
use Rattle.rules.specs.Files.{places_of, runs_of, blocks_of, cuts_of, counts_of, file_refusals}
use Rattle.rules.specs.Refusals.{verdict}
use Rattle.rules.specs.declared.Format.{Format}
use Rattle.rules.specs.declared.Format.TheVariants.{Pes, Pec, Dst, Exp, Jef, Vp3}
use Rattle.rules.specs.declared.Refusal.TheVariants.{FileTooShort}
use Rattle.read_refusals.specs.declared.Head.{Head}
use Rattle.read_refusals.specs.declared.Head.TheVariants as head
use Rattle.rules.specs.declared.Refusal.{Refusal}

abbrev pub byte_of : ℕ → ℕ → List ℕ → Option ℕ
byte_of start k s = pick (ltb (start + k) (length s)) (Some (get_or s (start + k) 0)) None

-- a PEC part begins at 8 in a PEC file, where a PES says in that; a JEF file begins with its offset; a VP3 file is counted
abbrev pub head_of : Format → List ℕ → Head
head_of Pes s = head.Pec (part_at s) (get_or s (part_at s + 48) 0)
head_of Pec s = head.Pec 8 (get_or s 56 0)
head_of Dst s = head.Dst
head_of Exp s = head.Exp
head_of Jef s = head.Jef (word_at 0 s)
head_of Vp3 s = head.Vp3 (counts_of (places_of Vp3 s) (runs_of Vp3 s) (blocks_of Vp3 s) (cuts_of Vp3 s))

-- the label by the head
abbrev pub label_by : Head → List ℕ → List ℕ
label_by (head.Pec start count) s = pec_label start s
label_by head.Dst s = trimmed (last_label [] (lines_of (take 512 s)))
label_by head.Exp s = []
label_by (head.Jef offset) s = []
label_by (head.Vp3 counts) s = []

-- the head, where the checks accept
abbrev pub started : Result ⊤ Refusal → Head → Result Head Refusal
started (Ok u) h = Ok h
started (Err r) h = Err r

unfoldable pub front_of : Format → List ℕ → Result Head Refusal
front_of f s = started (verdict (file_refusals f s)) (head_of f s)

-- after refusal 2, the checks that a format has
unfoldable pub pec_front : ℕ → List ℕ → Result Head Refusal
pec_front start s = pick (ltb (start + 48) (length s)) (Ok (head.Pec start (get_or s (start + 48) 0))) (Err FileTooShort)

unfoldable pub pes_front : List ℕ → Result Head Refusal
pes_front s = started (verdict ((layout_of Pes).refusals s)) (head_of Pes s)

unfoldable pub dst_front : List ℕ → Result Head Refusal
dst_front s = started (verdict ((layout_of Dst).refusals s)) (head_of Dst s)

unfoldable pub vp3_front : List ℕ → Result Head Refusal
vp3_front s = started (verdict ((layout_of Vp3).refusals s)) (head_of Vp3 s)

unfoldable pub jef_front : List ℕ → Result Head Refusal
jef_front s = started (verdict ((layout_of Jef).refusals s)) (head_of Jef s)
