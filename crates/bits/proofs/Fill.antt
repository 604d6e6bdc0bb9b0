-- The laws of `tab`, and of a loop that fills a list from the front.
use mathlib.Core.Path.{◌≡◌, refl, sym, ap, ap₂, ◌∙◌, subst}
use mathlib.Core.List.{List, [], ◌∷◌, ◌++◌, append_assoc}
use mathlib.Core.Logic.{⊎_elim}
use Prim.Native.Nat.{ℕ, zero, suc, ◌+◌, ◌<◌}
use native.Mathlib.Nat.{not-suc-le-zero, eq-or-lt_of_le, le_of_suc-le-suc}
use native.Mathlib.Numerals.{add-one}
use native.Mathlib.Omega.{arith}
use lib.ListN.{length, get_or, set, drop, length-append, get_or-append}
use lib.Seq.{drop-cons, set_at, get_or_at, ext_get_or}
use Rattle.bits.specs.Tables.{tab}

pub length-tab : (g : ℕ → ℕ) (m : ℕ) → length (tab g m) ≡ m
unfolding tab
length-tab g zero = refl
length-tab g (suc m) = length-append (tab g m) (g m ∷ []) ∙ add-one (length (tab g m)) ∙ ap suc (length-tab g m)

pub get_or-tab : (g : ℕ → ℕ) (m k d : ℕ) → k < m → get_or (tab g m) k d ≡ g k
unfolding tab
get_or-tab g zero k d h = absurd (not-suc-le-zero h)
get_or-tab g (suc m) k d h = ⊎_elim
    (λ e. get_or_at (tab g m) (g m) [] d k (length-tab g m ∙ sym e) ∙ ap g (sym e))
    (λ l. get_or-append (tab g m) (g m ∷ []) d k (subst (λ (x : ℕ). k < x) (sym (length-tab g m)) l)
    ∙ get_or-tab g m k d l)
    (eq-or-lt_of_le (le_of_suc-le-suc h))

pub tab_ext : (g h : ℕ → ℕ) (m : ℕ) → ((k : ℕ) → k < m → g k ≡ h k) → tab g m ≡ tab h m
unfolding tab
tab_ext g h zero e = refl
tab_ext g h (suc m) e =
    ap₂ (λ (x : List ℕ) (y : ℕ). x ++ (y ∷ [])) (tab_ext g h m (λ k l. e k (omega arith))) (e m (omega arith))

-- a list is the table of its elements
pub tab-of : (xs : List ℕ) (d : ℕ) → tab (λ k. get_or xs k d) (length xs) ≡ xs
tab-of xs d =
    ext_get_or d (tab (λ k. get_or xs k d) (length xs)) xs (length-tab (λ k. get_or xs k d) (length xs))
    (λ i h. get_or-tab (λ k. get_or xs k d) (length xs) i d
    (subst (λ (x : ℕ). i < x) (length-tab (λ k. get_or xs k d) (length xs)) h))

-- a turn of a loop that fills a list from the front
pub fill : (g : ℕ → ℕ) (i : ℕ) (d : List ℕ) → i < length d
    → set (tab g i ++ drop i d) i (g i) ≡ tab g (i + 1) ++ drop (i + 1) d
unfolding tab
fill g i d h =
    rw (add-one, drop-cons d i 0, set_at (tab g i) (get_or d i 0) (drop (suc i) d) (g i) i (length-tab g i), append_assoc)

-- a store just after a part that stands before the rest of d
pub snoc_at : (p d : List ℕ) (i a : ℕ) → length p ≡ i → i < length d
    → set (p ++ drop i d) i a ≡ (p ++ (a ∷ [])) ++ drop (i + 1) d
snoc_at p d i a e h = rw (add-one, drop-cons d i 0, set_at p (get_or d i 0) (drop (suc i) d) a i e, append_assoc)
