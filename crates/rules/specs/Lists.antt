-- Domain: a list of commands and its places.
use Rattle.std.specs.Prelude.{ℕ, zero, suc, Bool, true, false, ◌&&◌, ◌||◌, not, List, [], ◌∷◌, ◌++◌, map, eqb, ltb, leb, ℤ, pos, neg_ℤ, nat_abs, ◌-ℤ◌, take}
use Rattle.std.specs.Int.Signed.{le_z}
use Rattle.rules.specs.Vocabulary.{pick, eq_z, between, keep}
use Rattle.rules.specs.Limits.{furthest}
use Rattle.rules.specs.declared.Cmd.{Cmd}
use Rattle.rules.specs.declared.Color.{Color}
use Rattle.rules.specs.declared.Op.{Op}
use Rattle.rules.specs.declared.Op.TheVariants.{Stitch, Jump, Trim, ColorChange, End}

-- kinds 0 to 4: stitch, jump, trim, colour change, end (a kind over 4 is refused)
unfoldable pub op_of : ℕ → Op
op_of zero = Stitch
op_of (suc zero) = Jump
op_of (suc (suc zero)) = Trim
op_of (suc (suc (suc zero))) = ColorChange
op_of (suc (suc (suc (suc n)))) = End

-- the list that three slices hold, as far as all three go
unfoldable pub commands : List ℤ → List ℤ → List ℕ → List Cmd
commands [] ys kinds = []
commands (x ∷ xs) [] kinds = []
commands (x ∷ xs) (y ∷ ys) [] = []
commands (x ∷ xs) (y ∷ ys) (k ∷ kinds) = record { x = x; y = y; kind = k } ∷ commands xs ys kinds

-- the last kind, and only that, is an end
unfoldable pub ends_once : List ℕ → Bool
ends_once [] = false
ends_once (k ∷ []) = eqb k 4
ends_once (k ∷ l ∷ kinds) = not (eqb k 4) && ends_once (l ∷ kinds)

-- a place from -16,000 to 16,000 on both axes
unfoldable pub placed : ℤ → ℤ → Bool
placed x y = between (neg_ℤ (pos furthest)) (pos furthest) x && between (neg_ℤ (pos furthest)) (pos furthest) y

-- two places are one
unfoldable pub same_place : ℤ → ℤ → ℤ → ℤ → Bool
same_place x y x' y' = eq_z x x' && eq_z y y'

-- a colour change
unfoldable pub is_change : Op → Bool
is_change Stitch = false
is_change Jump = false
is_change Trim = false
is_change ColorChange = true
is_change End = false

-- a trim
unfoldable pub is_trim : Op → Bool
is_trim Stitch = false
is_trim Jump = false
is_trim Trim = true
is_trim ColorChange = false
is_trim End = false

-- trim, colour change and end stand where the command before stood
unfoldable pub stands : Op → Bool
stands Stitch = false
stands Jump = false
stands Trim = true
stands ColorChange = true
stands End = true

-- some command passes the test p, which is given the place before it: (x, y) before the first
unfoldable pub any_from : (ℤ → ℤ → Cmd → Bool) → ℤ → ℤ → List Cmd → Bool
any_from p x y [] = false
any_from p x y (c ∷ cs) = p x y c || any_from p c.x c.y cs

-- the bytes of the commands, one after the other: `cmd` gives those of one command by what it does and its step
unfoldable pub written : (Op → ℤ → ℤ → List ℕ) → ℤ → ℤ → List Cmd → List ℕ
written cmd x y [] = []
written cmd x y (c ∷ cs) = cmd (op_of c.kind) (c.x -ℤ x) (c.y -ℤ y) ++ written cmd c.x c.y cs

-- the place of the last command
unfoldable pub last_x : List Cmd → ℤ
last_x [] = pos 0
last_x (c ∷ []) = c.x
last_x (c ∷ d ∷ cs) = last_x (d ∷ cs)

unfoldable pub last_y : List Cmd → ℤ
last_y [] = pos 0
last_y (c ∷ []) = c.y
last_y (c ∷ d ∷ cs) = last_y (d ∷ cs)

-- the smaller and the larger of two
unfoldable pub min_z : ℤ → ℤ → ℤ
min_z a b = pick (le_z a b) a b

unfoldable pub max_z : ℤ → ℤ → ℤ
max_z a b = pick (le_z a b) b a

-- the least and the greatest of z and a list
unfoldable pub least_from : ℤ → List ℤ → ℤ
least_from z [] = z
least_from z (x ∷ xs) = least_from (min_z z x) xs

unfoldable pub greatest_from : ℤ → List ℤ → ℤ
greatest_from z [] = z
greatest_from z (x ∷ xs) = greatest_from (max_z z x) xs

-- the least and the greatest of a list, 0 if it is empty
unfoldable pub least : List ℤ → ℤ
least [] = pos 0
least (x ∷ xs) = least_from x xs

unfoldable pub greatest : List ℤ → ℤ
greatest [] = pos 0
greatest (x ∷ xs) = greatest_from x xs

-- the bounds of a list of commands
unfoldable pub min_x : List Cmd → ℤ
min_x cs = least (map (λ (c : Cmd). c.x) cs)

unfoldable pub min_y : List Cmd → ℤ
min_y cs = least (map (λ (c : Cmd). c.y) cs)

unfoldable pub max_x : List Cmd → ℤ
max_x cs = greatest (map (λ (c : Cmd). c.x) cs)

unfoldable pub max_y : List Cmd → ℤ
max_y cs = greatest (map (λ (c : Cmd). c.y) cs)

unfoldable pub width : List Cmd → ℕ
width cs = nat_abs (max_x cs -ℤ min_x cs)

unfoldable pub height : List Cmd → ℕ
height cs = nat_abs (max_y cs -ℤ min_y cs)

-- threads, three bytes each
unfoldable pub threads_of : List ℕ → List Color
threads_of [] = []
threads_of (r ∷ []) = []
threads_of (r ∷ g ∷ []) = []
threads_of (r ∷ g ∷ b ∷ bytes) = record { 0 = r; 1 = g; 2 = b } ∷ threads_of bytes

-- a name: bytes from 128 up are dropped, for DST also 0x00..0x1F and 0x7F; then PEC keeps 8 and DST 16
unfoldable pub pec_name : List ℕ → List ℕ
pec_name name = take 8 (keep (λ (b : ℕ). ltb b 0x80) name)

unfoldable pub dst_name : List ℕ → List ℕ
dst_name name = take 16 (keep (λ (b : ℕ). leb 0x20 b && ltb b 0x7F) name)
