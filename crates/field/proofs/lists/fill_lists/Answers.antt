-- The lists by the kind of bitmap: each arm's promise, with presence by that kind.
use Prim.Native.Nat.{◌-◌}
use Rattle.field.proofs.Presence as P
use Rattle.field.proofs.lists.fill_lists.Goals as goal

pub slice_bounds-some_present-count : goal.slice_bounds-some_present-count
slice_bounds-some_present-count c =
    P.starts _ _ _ _ _ _ c.requires.m_value c.requires.n_in_bounds c.in-Carried.is

pub slice_bounds-some_present-start : goal.slice_bounds-some_present-start
slice_bounds-some_present-start c =
    P.starts _ _ _ _ _ _ c.requires.m_value c.requires.n_in_bounds c.in-Carried.is

pub some_present-requires : goal.some_present-requires
some_present-requires c =
    let h = P.carried_asks _ _ _ _ _ _ c.requires.m_value c.requires.n_in_bounds c.in-Carried.is in record {
      bits_bound = c.requires.bits_bound;
      m_value = h.0;
      n_in_bounds = h.1;
      n_in_bounds_2 = c.requires.n_in_bounds_2;
    }

pub some_present-requires-in-Stored : goal.some_present-requires-in-Stored
some_present-requires-in-Stored c =
    let h = P.stored_asks _ _ _ _ _ _ c.requires.m_value c.requires.n_in_bounds _ c.in-Stored.is in record {
      bits_bound = c.requires.bits_bound;
      m_value = h.0;
      n_in_bounds = h.1;
      n_in_bounds_2 = c.requires.n_in_bounds_2;
    }

pub returns-in-Without : goal.returns-in-Without
returns-in-Without c = let t =
    P.without _ _ _ _ _ _ c.requires.m_value c.requires.n_in_bounds c.in-Without.is _ _ _ _ _ _
    c.all_present.ensures.values_after c.all_present.ensures.marks_after in record { values_after = t.0; marks_after = t.1 }

pub returns-in-Carried : goal.returns-in-Carried
returns-in-Carried c = let t =
    P.carried _ _ _ _ _ _ c.requires.m_value c.requires.n_in_bounds c.in-Carried.is _ _ _ _ _
    c.some_present.ensures.values_after c.some_present.ensures.marks_after in record { values_after = t.0; marks_after = t.1 }

pub returns-in-Stored : goal.returns-in-Stored
returns-in-Stored c = let t =
    P.stored _ _ _ _ _ _ c.requires.m_value c.requires.n_in_bounds _ c.in-Stored.is _ _ _ _ _
    c.some_present-in-Stored.ensures.values_after c.some_present-in-Stored.ensures.marks_after in record { values_after = t.0; marks_after = t.1 }
