-- What fits is what `pack_all` needs.
use mathlib.Core.Path.{sym, ◌∙◌}
use mathlib.Core.Bool.{true, false}
use Rattle.packs.proofs.Lists.{pack-width, pack-fits, pack-room, pack-wide, pack-left}
use Rattle.packs.proofs.packing.pack.Goals as goal

pub pack_all-requires : goal.pack_all-requires
pack_all-requires c =
    let a = c.args in
    let h = sym c.packable.ensures ∙ c.if-packable.true in record {
      n_bound = pack-width a.n a.vs.now _ h;
      wide = pack-wide a.n a.vs.now _ h;
      n_len_bound = pack-fits a.n a.vs.now _ h;
      n_in_bounds = pack-room a.n a.vs.now _ h;
    }

pub returns-then-packable : goal.returns-then-packable
returns-then-packable c =
    let a = c.args in
    let h = sym c.if-packable.true ∙ c.packable.ensures in record {
      value = h;
      out_after = c.pack_all.ensures ∙ pack-left a.n a.vs.now a.out.now true h;
    }

pub returns : goal.returns
returns c =
    let a = c.args in
    let h = sym c.if-packable.false ∙ c.packable.ensures in record {
      value = h;
      out_after = pack-left a.n a.vs.now a.out.now false h;
    }
