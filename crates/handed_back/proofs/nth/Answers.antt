-- Section k of six places, one return each.
use Rattle.handed_back.proofs.Laws.{past}
use Rattle.handed_back.specs.Sections.{all_sections}
use native.Mathlib.Omega.{arith}
use Rattle.handed_back.proofs.nth.Goals as goal

pub returns-then-k-eq0 : goal.returns-then-k-eq0
unfolding all_sections
returns-then-k-eq0 c = rw c.if-k-eq0.true

pub returns-then-k-eq1 : goal.returns-then-k-eq1
unfolding all_sections
returns-then-k-eq1 c = rw c.if-k-eq1.true

pub returns-then-k-eq2 : goal.returns-then-k-eq2
unfolding all_sections
returns-then-k-eq2 c = rw c.if-k-eq2.true

pub returns-then-k-eq3 : goal.returns-then-k-eq3
unfolding all_sections
returns-then-k-eq3 c = rw c.if-k-eq3.true

pub returns-then-k-eq4 : goal.returns-then-k-eq4
unfolding all_sections
returns-then-k-eq4 c = rw c.if-k-eq4.true

pub returns-then-k-eq5 : goal.returns-then-k-eq5
unfolding all_sections
returns-then-k-eq5 c = rw c.if-k-eq5.true

pub returns : goal.returns
returns c =
    past c.args.p
    c.args.k (omega arith)
