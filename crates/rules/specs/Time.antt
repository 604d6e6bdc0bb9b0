-- Document 01, "Year = 100 × (century − 1) + year of century; ..", and refusal 6; document 02, R-3: the year of century
-- from 1 to 100.
use Rattle.std.specs.Prelude.{ℕ, ◌+◌, ◌-◌, ◌*◌, ◌%◌, Bool, not, ◌&&◌, ◌||◌, cond, List, [], ◌∷◌, ltb, eqb}
use Rattle.rules.specs.declared.{Moment.Moment}
use Rattle.rules.specs.Numbers.{octet, not_within}

-- "Year = 100 × (century − 1) + year of century", so that century 20 and year of century 100 are 2000
unfoldable pub the_year_of : ℕ → ℕ → ℕ
the_year_of century year = 100 * (century - 1) + year

-- "day by the Gregorian calendar"
unfoldable pub leap : ℕ → Bool
leap y = eqb (y % 4) 0 && (not (eqb (y % 100) 0) || eqb (y % 400) 0)

unfoldable pub the_days_in : ℕ → ℕ → ℕ
the_days_in y m = cond (eqb m 2) (cond (leap y) 29 28) (cond (eqb m 4 || eqb m 6 || eqb m 9 || eqb m 11) 30 31)

-- "century 18 to 99, .., month 1 to 12, day .., hour 0 to 23, minute 0 to 59"; R-3: "Document 003 keeps century 20
-- until 1 January 2001, so the year of century runs from 1 to 100. .. 100 is to be taken and 0 refused"
unfoldable pub moment_faults : ℕ → ℕ → ℕ → ℕ → ℕ → ℕ → List Bool
moment_faults century year month day hour minute =
    not_within 18 99 century
    ∷ not_within 1 100 year
    ∷ not_within 1 12 month
    ∷ not_within 1 (the_days_in (the_year_of century year) month) day
    ∷ ltb 23 hour
    ∷ ltb 59 minute
    ∷ []

-- "time 13-17 and century 25", of a PDS at place p
unfoldable pub the_moment_at : List ℕ → ℕ → Moment
the_moment_at s p = record {
  year = the_year_of (octet s p 25) (octet s p 13);
  month = octet s p 14;
  day = octet s p 15;
  hour = octet s p 16;
  minute = octet s p 17;
}

unfoldable pub no_moment : Moment
no_moment = record { year = 0; month = 0; day = 0; hour = 0; minute = 0 }

-- 6: "time out of its ranges"
unfoldable pub time_faults : List ℕ → ℕ → List Bool
time_faults s p =
    moment_faults (octet s p 25) (octet s p 13) (octet s p 14) (octet s p 15) (octet s p 16) (octet s p 17)
