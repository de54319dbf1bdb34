-- The checks decide, and then the room.
use Rattle.std.specs.Prelude.{◌≡◌, Err}
use borrow.Author.Rules.{rules}
use Rattle.rules.specs.Files.{file_of}
use Rattle.emit.proofs.Writes.{fine, wrote, not-wrote}
use Rattle.pes.proofs.pes_from_stream.Goals as goal

pub pes_accepted-requires : goal.pes_accepted-requires
pes_accepted-requires c = let g = fine c.check_list.ensures c.in_ok-check_list.was in record { kinds_len_bound = (g.long, (g.few, g.steps)); kinds_value = g.places }

pub returns : goal.returns
unfolding file_of
returns c = wrote c.check_list.ensures c.in_ok-check_list.was c.pes_accepted.ensures

pub returns-in_err-check_list : goal.returns-in_err-check_list
unfolding file_of
returns-in_err-check_list c =
    let e : c.from_residual.result ≡ Err c.in_err-check_list.field-0.0 = search rules in
    rw e (not-wrote c.check_list.ensures c.in_err-check_list.was)
