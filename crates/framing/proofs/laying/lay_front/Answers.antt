-- The front of a message: four parts placed one after another (law front-placed).
use native.Mathlib.Omega.{arith}
use Rattle.rules.specs.Bitmap.{mark_of}
use Rattle.framing.specs.Layout.{front_room}
use mathlib.Core.Path.{◌∙◌}
use Rattle.framing.proofs.Lengths.{gds-room}
use Rattle.framing.proofs.Sections.{grid-put, front-placed}
use borrow.Author.Rules.{rules}
use Rattle.framing.proofs.laying.lay_front.Goals as goal

pub put_indicator-requires : goal.put_indicator-requires
unfolding front_room
put_indicator-requires c = record { in_bounds = search rules; len_bound = search rules }

pub copy-requires : goal.copy-requires
unfolding front_room
copy-requires c = search rules

pub put_bitmap-requires : goal.put_bitmap-requires
unfolding front_room
put_bitmap-requires c =
    let e = gds-room c.args.form.grid in record {
      n_le_points_most = omega arith;
      n_in_bounds = omega arith;
    }

pub overflow_add-g-2 : goal.overflow_add-g-2
unfolding front_room
overflow_add-g-2 c =
    let e = gds-room c.args.form.grid in
    omega arith

pub returns : goal.returns
unfolding front_room
returns c =
    let a = c.args in
    let e = gds-room a.form.grid in
    let g = c.gds_room.ensures ∙ e in
    let p = grid-put a.form.grid _ _ _ c.requires.grid_value (omega arith) c.put_gds.ensures.out_after in record {
      value = omega (arith, c.put_bitmap.ensures.value, g);
      out_after = front-placed a.out.now a.pds.now a.form (mark_of a.marks.now) a.n a.len _ c.requires.n_in_bounds
          (omega (arith, g))
          _ _ _ _ c.put_indicator.ensures c.copy.ensures p c.put_bitmap.ensures.out_after;
    }
