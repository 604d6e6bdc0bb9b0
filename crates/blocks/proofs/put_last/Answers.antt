-- The values held, where they are in their list and have a place.
use lib.ListN.{length}
use Rattle.blocks.proofs.Fitting.{last_so, last-not}
use Rattle.blocks.proofs.put_last.Goals as goal

pub returns-then-c-held : goal.returns-then-c-held
returns-then-c-held c =
    let a = c.args in let t =
    last_so (length a.held.now) a.progress (length a.out.now) c.if-c-held.true _ _ _ _ _
    c.put_held.ensures.value c.put_held.ensures.out_after in record { value = t.0; out_after = t.1 }

pub returns : goal.returns
returns c =
    let a = c.args in let t =
    last-not (length a.held.now) a.progress (length a.out.now) c.if-c-held.false _ _ _ in record { value = t.0; out_after = t.1 }
