-- The contracts of `handed_back` are tight; of a part handed back what a program can see of the reference.
use mathlib.Core.Path.{◌≡◌, refl, sym, ◌∙◌}
use mathlib.Core.Bool.{Bool, true, false, cond}
use mathlib.Core.List.{List}
use Prim.Native.Nat.{ℕ}
use denote.Ref.{Bor}
use Rattle.rules.specs.declared.{Part.Part}
use Rattle.rules.specs.Places.{IsPart}
use Rattle.rules.specs.Bitmap.{Lent, InForce, IsInForce}
use Rattle.rules.specs.Reading.{bitmap_of}
use Rattle.handed_back.specs.contracts as contracts
use Rattle.tight.specs.Tight.{Tight, TightBy, apparent}
use Rattle.tight.proofs.Laws.{by_clause, by-reply}

-- what a program can see of the part p of a lent slice
part-one : (whole : Bor (List ℕ)) (p : Part) (x y : Bor (List ℕ)) → IsPart x whole p → IsPart y whole p
    → apparent x ≡ apparent y
part-one whole p x y e f = λ i. (((e.block ∙ sym f.block) i, (e.place ∙ sym f.place) i), (e.held ∙ sym f.held) i)

of_two : (stored : Bool) (message store : Bor (List ℕ)) (p : Part) (x y : Bor (List ℕ))
    → cond stored (IsPart x store p) (IsPart x message p) → cond stored (IsPart y store p) (IsPart y message p)
    → apparent x ≡ apparent y
of_two true message store = part-one store
of_two false message store = part-one message

force-one : (message store : Bor (List ℕ)) (f : InForce) (x y : Bor (List ℕ)) → IsInForce x message store f
    → IsInForce y message store f → apparent x ≡ apparent y
force-one message store f = of_two f.stored message store f.part

pub section_part : Tight contracts.section_part.ended λ M 𝓤 𝓛. contracts.section_part.clauses 𝓛
section_part k g h x y ws vs = by-reply k refl

pub section : TightBy contracts.section.ended (λ κs. apparent) λ M 𝓤 𝓛. contracts.section.clauses 𝓛
section k g h x y ws vs = by_clause k λ p q. (part-one _ _ x y p q, refl)

pub force_part : Tight contracts.force_part.ended λ M 𝓤 𝓛. contracts.force_part.clauses 𝓛
force_part k g h x y ws vs = by-reply k refl

pub in_force : TightBy contracts.in_force.ended (λ κs. apparent) λ M 𝓤 𝓛. contracts.in_force.clauses 𝓛
in_force k g h x y ws vs =
    let message : Bor (List ℕ) = k.passed.0 in
    let store : Bor (List ℕ) = k.passed.1.1.0 in
    let lent : Lent = record { number = k.passed.1.0; octets = store.now } in
    by_clause k λ p q. (force-one message store (bitmap_of message.now lent) x y p q, refl)
