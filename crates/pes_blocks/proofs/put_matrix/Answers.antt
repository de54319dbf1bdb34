-- The fields in a row.
use mathlib.Core.Path.{ap}
use native.Mathlib.Omega.{arith}
use Rattle.rules.specs.Vocabulary.{little, joined}
use Rattle.rules.specs.Pes.{matrix_field}
use Rattle.laws.specs.Buffers.{put_as, put-put, put-nothing}
use Rattle.pes_blocks.proofs.Values.{minus-fits, minus_is, minus-small, plus-is, plus-small}
use borrow.Author.Rules.{rules}
use Rattle.pes_blocks.proofs.put_matrix.Goals as goal

pub put_field-second-requires : goal.put_field-second-requires
unfolding joined little matrix_field
put_field-second-requires c = search rules

pub put_field-third-requires : goal.put_field-third-requires
unfolding joined little matrix_field
put_field-third-requires c = search rules

pub put_field-fourth-requires : goal.put_field-fourth-requires
unfolding joined little matrix_field
put_field-fourth-requires c = search rules

pub put_field-fifth-requires : goal.put_field-fifth-requires
unfolding joined little matrix_field
put_field-fifth-requires c = search rules

pub overflow_sub-w : goal.overflow_sub-w
overflow_sub-w c =
    minus-fits c.requires.w_bound.0

pub put_field-sixth-requires : goal.put_field-sixth-requires
unfolding matrix_field little
put_field-sixth-requires c = let put-field4 = c.put_field-fifth in
    let put-field3 = c.put_field-fourth in
    let put-field2 = c.put_field-third in let put-field = c.put_field-second in
    record { z_bound = minus-small c.requires.w_bound.0; at_in_bounds = omega (arith, put-field.ensures.same, put-field2.ensures.same, put-field3.ensures.same, put-field4.ensures.same) }

pub put_field-requires : goal.put_field-requires
unfolding matrix_field little
put_field-requires c = let put-field5 = c.put_field-sixth in
    let put-field4 = c.put_field-fifth in
    let put-field3 = c.put_field-fourth in let put-field2 = c.put_field-third in
    let put-field = c.put_field-second in
    record {
      z_bound = plus-small c.requires.w_bound.1;
      at_in_bounds = omega (
        arith,
        put-field.ensures.same,
        put-field2.ensures.same,
        put-field3.ensures.same,
        put-field4.ensures.same,
        put-field5.ensures.same,
      );
    }

pub returns : goal.returns
unfolding joined
returns c = let put-field5 = c.put_field-sixth in
    let put-field4 = c.put_field-fifth in
    let put-field3 = c.put_field-fourth in let put-field2 = c.put_field-third in
    let put-field = c.put_field-second in
    let x = put_as put-field5.ensures (ap matrix_field (minus_is c.requires.w_bound.0)) in
    let y = put_as c.put_field.ensures (ap matrix_field (plus-is c.requires.w_bound.1)) in
    put-put put-field.ensures (put-put put-field2.ensures (put-put put-field3.ensures (put-put put-field4.ensures (put-put x (put-put y (put-nothing _ _))))))
