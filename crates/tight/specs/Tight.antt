-- Document 01, "How tight the contracts are": "Each public function's contract determines its reply and the later
-- content of all memory lent to it, refusals included; any two results it allows are proved identical", said of a
-- contract itself, as the prover generates it from a function's `requires` and `ensures`.
use Rattle.std.specs.Prelude.{◌≡◌, List, ℕ}
use seplogic.Ra.Ura.{Ura}
use base.Logic.{SProp, ent}
use prog.Memory.{Memory}
use prog.Routine.{Routine}
use types.Logic.{Logic}
use contract.Monad.{conj, fact, Fun}
use contract.Lifetimes.{Lfts}
use Rattle.std.specs.Borrow.{Bor}
use denote.Triple.Entry.{Args, Res}
use denote.Triple.Clauses.{Ended, Clauses, ClausesAt, Lasts, at_exit}

-- what a function asks and ensures, at every model of the logic: the type of the generated `clauses` of a function of
-- T's signature. Closed by `denote.Triple.Clauses`' `closing` they are the `spec` that its theorem says it meets
abbrev pub Contract : Ended → Type 2
Contract T = (M : Type 1) (𝓤 : Ura M) (𝓛 : Logic 𝓤) → (Memory → SProp 𝓤) → (Routine → Fun 𝓤) → Clauses 𝓤 T

-- one call: a model, and what is passed there
pub record Call (T : Ended) : Type 2 where
  pub M : Type 1
  pub 𝓤 : Ura M
  pub 𝓛 : Logic 𝓤
  pub memory : Memory → SProp 𝓤
  pub run : Routine → Fun 𝓤
  pub κs : Lfts T.signature.lifetimes
  pub passed : Args T.signature κs

-- the reply of a call, and the last content of each list lent to it by `&mut`
abbrev pub Reply : {T : Ended} → Call T → Type 0
Reply {T} k = Res T.signature k.κs

abbrev pub Left : {T : Ended} → Call T → Type 0
Left {T} k = Lasts T k.κs k.passed

module _ {T : Ended} (c : Contract T) (k : Call T) where
  abbrev pub said : ClausesAt k.𝓤 T k.κs
  said = c k.M k.𝓤 k.𝓛 k.memory k.run k.κs k.passed

  -- what the contract ensures of a reply and of what is left in the lent lists (and of ghost values, which no contract
  -- here has)
  abbrev pub Allows : said.ghost → Reply k → Left k → SProp k.𝓤
  Allows g x ws = said.ensures g x (at_exit T k.κs k.passed ws)

-- of one call the contract allows one reply, as far as `seen` sees it, and one last content of each lent list: what it
-- ensures of two results says that they are the same
abbrev pub TightBy : (T : Ended) {S : Lfts T.signature.lifetimes → Type 0} (seen : (κs : Lfts T.signature.lifetimes) → Res T.signature κs → S κs)
    → Contract T → Type 2
TightBy T seen c = (k : Call T) (g h : (said c k).ghost) (x y : Reply k) (ws vs : Left k)
    → ent k.𝓤 (conj k.𝓤 (Allows c k g x ws) (Allows c k h y vs))
    (fact k.𝓤 ((seen k.κs x ≡ seen k.κs y) × (ws ≡ vs)))

-- and of the reply all is seen
abbrev pub Tight : (T : Ended) → Contract T → Type 2
Tight T = TightBy T {S = Res T.signature} (λ κs x. x)

-- what a program can see of a reference: the block and the place that it points at, and what lies there; a reference of
-- today's prover has nothing else
abbrev pub apparent : Bor (List ℕ) → (ℕ × ℕ) × List ℕ
apparent r = (r.ref_ptr, r.now)
