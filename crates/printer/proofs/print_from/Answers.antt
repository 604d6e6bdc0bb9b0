-- The listing is a part of the text that was lent for it.
use Rattle.std.proofs.Common.{sym, length-take-le}
use Rattle.listing.proofs.Listed.{within}
use Rattle.printer.proofs.print_from.Goals as goal

pub slice_bounds-text-end : goal.slice_bounds-text-end
slice_bounds-text-end g c = within _ _ _ _ c.list-len.ensures.value c.list-len.ensures.text_after

pub slice_bounds-write_all-end : goal.slice_bounds-write_all-end
slice_bounds-write_all-end g c =
    let h = within _ _ _ _ c.list-len.ensures.value c.list-len.ensures.text_after in
    sym (length-take-le _ _ h)
