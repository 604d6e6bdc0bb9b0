-- A mark more in the octet, and zeros after the marks (laws octet-more and octet-end).
use mathlib.Core.Path.{◌≡◌}
use Prim.Native.Nat.{ℕ, ◌+◌, ◌≤◌, ◌<◌}
use Rattle.bits.specs.Bits.{run}
use Rattle.marks.proofs.Bitmaps.{F}
use Rattle.marks.proofs.laying.octet_of.Given as goal

abbrev pub invariant-loop-j : goal.invariant-loop-j
invariant-loop-j l =
    (m : ℕ) → l.p + l.c ≤ m → (l.c < 8 → m ≡ l.p + l.c) → l.x ≡ run (F l.marks m) l.p l.j
