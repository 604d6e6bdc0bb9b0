-- Values at present points gathered into a list: each is stored at the place reached, and the place moves on where its
-- point is present.
use Rattle.std.specs.Prelude.{ℕ, zero, suc, ◌+◌, Bool, cond, ◌&&◌, List, [], ◌∷◌, ◌++◌, eqb, leb, set, slice_get, Option, Some, None}
use Rattle.bits.specs.Bits.{count}
use Rattle.laws.specs.Marks.{here}

-- whether a point is present, of those from `at` on
abbrev pub here_from : List ℕ → ℕ → ℕ → ℕ
here_from marks at j = here marks (at + j)

-- the list held after n points have been stored into it
unfoldable pub gather_into : {A : Type 0} → (ℕ → ℕ) → (ℕ → A) → ℕ → List A → List A
gather_into present value zero held = held
gather_into present value (suc n) held = set (gather_into present value n held) (count present 0 n) (value n)

-- the list with x at place k where there is an x
unfoldable pub set_some : {A : Type 0} → List A → ℕ → Option A → List A
set_some held k (Some x) = set held k x
set_some held k None = held

-- the list held after the first n of a list of values have been stored into it
unfoldable pub gather_list : {A : Type 0} → (ℕ → ℕ) → List A → ℕ → List A → List A
gather_list present values zero held = held
gather_list present values (suc n) held =
    set_some (gather_list present values n held) (count present 0 n) (slice_get values n)

-- the values at the present ones of the first n points: `gathered` of `rules`, of values of any kind
unfoldable pub gathered_of : {A : Type 0} → (ℕ → ℕ) → (ℕ → A) → ℕ → List A
gathered_of present value zero = []
gathered_of present value (suc n) =
    let before = gathered_of present value n in
    cond (eqb (present n) 1) (before ++ (value n ∷ [])) before

-- whether a block of c points has room in a list, and marks from point `at` on
unfoldable pub gather_fits : ℕ → ℕ → ℕ → ℕ → Bool
gather_fits c room at marked = leb c room && leb (at + c) marked
