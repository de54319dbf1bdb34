-- By the counts, or by ample buffers.
use mathlib.Core.Path.{sym, ◌∙◌}
use Rattle.read_builder.specs.Colour.{colour_in}
use Rattle.read_passes.proofs.Bounds.{ample-fits}
use Rattle.read.proofs.Rooms.{fits_told_lem, given-read, given-unread, of_row, row_counts, row_fits, fits-row}
use Rattle.read.proofs.read_records.Goals as goal

pub fill-requires : goal.fill-requires
fill-requires c = let a = c.args in
    record { bytes_len_bound = c.requires; fits = ample-fits a.f (colour_in a.colors.now) a.bytes.now _ _ _ (c.ample.ensures c.if-ample.true) }

pub returns-then-ample : goal.returns-then-ample
returns-then-ample c = let a = c.args in let c' = colour_in a.colors.now in
    given-read c' (fits-row (ample-fits a.f c' a.bytes.now _ _ _ (c.ample.ensures c.if-ample.true)))
    (row_counts c' _ _ a.f c.fill.ensures.told) c.fill.ensures.places_value c.fill.ensures.runs_value c.fill.ensures.blocks_value

pub fill-requires-then-has_room : goal.fill-requires-then-has_room
fill-requires-then-has_room c = record {
  bytes_len_bound = c.requires;
  fits = row_fits (fits_told_lem (colour_in c.args.colors.now) (of_row c.count-c.ensures) _ _ _
      (sym c.has_room.ensures ∙ c.if-has_room.true));
}

pub returns-then-has_room : goal.returns-then-has_room
returns-then-has_room c = let a = c.args in let c' = colour_in a.colors.now in
    given-read c' (fits_told_lem c' (of_row c.count-c.ensures) _ _ _ (sym c.has_room.ensures ∙ c.if-has_room.true))
    (row_counts c' _ _ a.f c.fill-then-has_room.ensures.told) c.fill-then-has_room.ensures.places_value c.fill-then-has_room.ensures.runs_value c.fill-then-has_room.ensures.blocks_value

pub returns : goal.returns
returns c = given-unread (colour_in c.args.colors.now)
    (of_row c.count-c.ensures) (sym c.has_room.ensures ∙ c.if-has_room.false)
