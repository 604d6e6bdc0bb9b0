-- Demand 2: what a caller finds written reads back to the same parts; the message stands in the lent output, it is
-- taken with those parts, and reading hands them out.
use Prim.Native.Nat.{ℕ, ◌≤◌}
use mathlib.Core.Path.{◌≡◌, sym, subst}
use mathlib.Core.List.{List}
use lib.ListN.{length}
use Rattle.rules.specs.Reading.{points_in}
use Rattle.rules.specs.Writing.{Parts, points_for, message, write_refusal, write_of, output_after}
use Rattle.rules.specs.RoundTrip.{parts_in}
use Rattle.laws.specs.Taken.{Taken}
use Rattle.theorems.specs.Reads.{Tells}
use Rattle.theorems.specs.Returns.{Returned, ReadAfterWrite}
use Rattle.theorems.proofs.Replies.{handed-is}
use Rattle.theorems.proofs.Reoffered.{points-for}
use Rattle.theorems.proofs.Told.{read-tells}
use Rattle.theorems.proofs.ReadBack.{message-reads}

returned : (w : Parts) (s : List ℕ) → Taken s w.lent → parts_in s w.lent ≡ w → Returned w s
returned w s t e =
    let n = subst (λ (x : Parts). points_for x ≡ points_in s) e (points-for s w.lent t) in
    record {
      taken = t;
      parts = e;
      tells = λ values marks rv rm.
          subst (Tells s w.lent values marks) e
          (read-tells s w.lent values marks t (subst (λ (k : ℕ). k ≤ length values) n rv)
          (subst (λ (k : ℕ). k ≤ length marks) n rm));
    }

pub read-after-write : ReadAfterWrite
unfolding write_of output_after
read-after-write w out gf nf rf acc =
    let h = message-reads w out gf nf rf acc in
    subst (Returned w) (sym (handed-is (write_refusal w out) (message w) out acc)) (returned w (message w) h.0 h.1)
