-- Each format by its own loop.
use Rattle.read_fill.proofs.fill_records.Goals as goal

pub fill_steps-requires : goal.fill_steps-requires
fill_steps-requires c = rw c.in-Pec.is at c.requires

pub fill_triples-requires : goal.fill_triples-requires
fill_triples-requires c = rw c.in-Dst.is at c.requires

pub fill_pairs-requires : goal.fill_pairs-requires
fill_pairs-requires c = rw c.in-Exp.is at c.requires

pub fill_pairs-requires-in-Jef : goal.fill_pairs-requires-in-Jef
fill_pairs-requires-in-Jef c = rw c.in-Jef.is at c.requires

pub returns-in-Pec : goal.returns-in-Pec
returns-in-Pec c = let fill-steps = c.fill_steps in
    let enum_told = c.in-Pec in rw (enum_told.is, c.no_rows.ensures) (record { ends = fill-steps.ensures; rows_of = tt })

pub returns-in-Dst : goal.returns-in-Dst
returns-in-Dst c = let fill-triples = c.fill_triples in
    let enum-told2 = c.in-Dst in
    rw enum-told2.is fill-triples.ensures

pub returns-in-Exp : goal.returns-in-Exp
returns-in-Exp c = let fill-pairs = c.fill_pairs in
    let enum-told3 = c.in-Exp in rw (enum-told3.is, c.no_rows-in-Exp.ensures) (record { ends = fill-pairs.ensures; rows_of = tt })

pub returns-in-Jef : goal.returns-in-Jef
returns-in-Jef c = let fill-pairs2 = c.fill_pairs-in-Jef in
    let enum-told4 = c.in-Jef in rw (enum-told4.is, c.no_rows-in-Jef.ensures) (record { ends = fill-pairs2.ensures; rows_of = tt })
