-- Limits of the domain, by name; src/lib.rt has the same for the code.
use Rattle.std.specs.Prelude.{ℕ}

-- commands of a list, colour changes and threads
abbrev pub most_commands : ℕ
most_commands = 65535

abbrev pub most_changes : ℕ
most_changes = 254

abbrev pub most_threads : ℕ
most_threads = 255

-- a place is from -furthest to furthest on both axes
abbrev pub furthest : ℕ
furthest = 16000

-- bytes of a file that is read
abbrev pub longest_file : ℕ
longest_file = 2097152

-- bytes of a DST header
abbrev pub dst_header : ℕ
dst_header = 512

-- bytes of a job's name
abbrev pub longest_name : ℕ
longest_name = 64

-- commands that are exported to a field of a job
abbrev pub field_commands : ℕ
field_commands = 1000

-- cells of a block's record: number, colour, runs
abbrev pub block_cells_of : ℕ
block_cells_of = 3
