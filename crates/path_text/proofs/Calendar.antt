-- The days that are counted from 1970 on, and the dates of the calendar.
use Rattle.std.proofs.Common.{◌≡◌, ℕ, zero, suc, ◌+◌, ◌-◌, ◌≤◌, true, false, cond, refl, ◌∙◌, arith, ℤ, pos, neg_ℤ, ◌+ℤ◌, ◌≤ℤ◌}
use Rattle.jiff.specs.Types.{Date}
use Rattle.jiff.specs.Words.{epoch_day, is_leap_year, days_in_month, days_in_year}
use Rattle.jiff.proofs.Family.{days_from_civil-day, days_from_civil-next_month, days_from_civil-next_year, days_from_civil-max}
use Rattle.jiff.proofs.SpanFacts.{signed_arith}
use Rattle.path_text.specs.Moment.{days_of_years, days_of_months, day_number}

-- a count of days by which a day follows the day before it, a month its last month, and a year its last year
record IsCount (count : ℤ → ℕ → ℕ → ℤ) : Type 0 where
  pub day : (y : ℤ) (m d other : ℕ) → 1 ≤ d → 1 ≤ other → count y m d +ℤ pos other ≡ count y m other +ℤ pos d
  pub next_month : (y : ℤ) (m d : ℕ) → 1 ≤ m → d ≡ days_in_month y m → count y (m + 1) 1 ≡ count y m d +ℤ pos 1
  pub next_year : (y next : ℤ) → neg_ℤ (pos 10000) ≤ℤ y → next ≡ y +ℤ pos 1 → count next 1 1 ≡ count y 12 31 +ℤ pos 1

-- a month has 28 to 31 days
pub days_in_month_bounds : (y : ℤ) (m : ℕ) → (28 ≤ days_in_month y m) × (days_in_month y m ≤ 31)
days_in_month_bounds y m = grind arith

-- the twelve months are the year
months_in_year : (y : ℕ) → days_of_months y 12 ≡ days_in_year (pos y)
unfolding days_of_months
months_in_year y =
    elim (is_leap_year (pos y)) as (λ leap. 31 + cond leap 29 28 + 31 + 30 + 31 + 30 + 31 + 31 + 30 + 31 + 30 + 31 ≡ cond leap 366 365) [
      | true ↦ refl
      | false ↦ refl
    ]

months_counted : (count : ℤ → ℕ → ℕ → ℤ) → IsCount count → (y n : ℕ) → count (pos y) (n + 1) 1 ≡ count (pos y) 1 1 +ℤ pos (days_of_months y n)
unfolding days_of_months
months_counted count laws y zero = omega (arith, signed_arith)
months_counted count laws y (suc n) =
    let next : suc n ≡ n + 1 = omega arith in
    let more : days_of_months y (suc n) ≡ days_of_months y n + days_in_month (pos y) (suc n) = refl in
    let long = days_in_month_bounds (pos y) (n + 1) in
    rw more (rw next (omega (arith, signed_arith, months_counted count laws y n, laws.next_month (pos y) (n + 1) (days_in_month (pos y) (n + 1)) (omega arith) refl, laws.day (pos y) (n + 1) (days_in_month (pos y) (n + 1)) 1 (omega arith) (omega arith))))

next_year : (count : ℤ → ℕ → ℕ → ℤ) → IsCount count → (y : ℕ) → count (pos (y + 1)) 1 1 ≡ count (pos y) 1 1 +ℤ pos (days_in_year (pos y))
unfolding days_of_months
next_year count laws y =
    let december : count (pos y) 12 1 ≡ count (pos y) 1 1 +ℤ pos (days_of_months y 11) = months_counted count laws y 11 in
    let year : days_of_months y 11 + 31 ≡ days_in_year (pos y) = months_in_year y in
    omega (arith, signed_arith, december, year, laws.day (pos y) 12 31 1 (omega arith) (omega arith), laws.next_year (pos y) (pos (y + 1)) (omega (arith, signed_arith)) (omega (arith, signed_arith)))

years_counted : (count : ℤ → ℕ → ℕ → ℤ) → IsCount count → (n : ℕ) → count (pos (1970 + n)) 1 1 ≡ count (pos 1970) 1 1 +ℤ pos (days_of_years n)
unfolding days_of_years
years_counted count laws zero = omega (arith, signed_arith)
years_counted count laws (suc n) =
    let next : 1970 + suc n ≡ 1970 + n + 1 = omega arith in
    let more : days_of_years (suc n) ≡ days_of_years n + days_in_year (pos (1970 + n)) = refl in
    rw (next, more) (omega (arith, signed_arith, years_counted count laws n, next_year count laws (1970 + n)))

-- each count is the day number from 1970-01-01 on
counted : (count : ℤ → ℕ → ℕ → ℤ) → IsCount count → (y m d : ℕ) → 1970 ≤ y → 1 ≤ m → 1 ≤ d → count (pos y) m d ≡ count (pos 1970) 1 1 +ℤ pos (day_number y m d)
unfolding day_number
counted count laws y m d year month day =
    let whole : 1970 + (y - 1970) ≡ y = omega arith in
    let months : m - 1 + 1 ≡ m = omega arith in
    omega (arith, signed_arith, rw whole at (years_counted count laws (y - 1970)), rw months at (months_counted count laws y (m - 1)), laws.day (pos y) m d 1 day (omega arith))

last_day : day_number 9999 12 31 ≡ 2_932_896
unfolding day_number days_of_years days_of_months
last_day = refl

-- 1970-01-01 is day 0, since the last day of the calendar has the number that it has
from_first : (count : ℤ → ℕ → ℕ → ℤ) → IsCount count → count (pos 9999) 12 31 ≡ pos 2_932_896 → (y m d : ℕ) → 1970 ≤ y → 1 ≤ m → 1 ≤ d → count (pos y) m d ≡ pos (day_number y m d)
from_first count laws last y m d year month day =
    omega (arith, signed_arith, counted count laws y m d year month day, counted count laws 9999 12 31 (omega arith) (omega arith) (omega arith), last, last_day)

-- the day number of a date of the calendar, from 1970 on
pub epoch_day-day_number : (d : Date) (year : ℕ) → d.year ≡ pos year → 1970 ≤ year → epoch_day d ≡ pos (day_number year d.month d.day)
epoch_day-day_number d year e h =
    rw e (from_first _ (record { day = days_from_civil-day; next_month = days_from_civil-next_month; next_year = days_from_civil-next_year }) days_from_civil-max year d.month d.day h d.month_in.0 d.day_in.0)

pub epoch_day-first : (d : Date) → d.year ≡ pos 1970 → d.month ≡ 1 → d.day ≡ 1 → epoch_day d ≡ pos 0
unfolding day_number days_of_years days_of_months
epoch_day-first d year month day = epoch_day-day_number d 1970 year (omega arith) ∙ rw (month, day) refl

pub day_number-first : day_number 1970 1 1 ≡ 0
unfolding day_number days_of_years days_of_months
day_number-first = refl

pub day_number-end : day_number 10000 1 1 ≡ 2_932_897
unfolding day_number days_of_years days_of_months
day_number-end = refl

-- what follows December is the next January
pub day_number-next_year : (year : ℕ) → 1970 ≤ year → day_number year 13 1 ≡ day_number (year + 1) 1 1
unfolding day_number days_of_years days_of_months
day_number-next_year year h =
    let whole : 1970 + (year - 1970) ≡ year = omega arith in
    let next : year + 1 - 1970 ≡ suc (year - 1970) = omega arith in
    let year_days : days_of_months year 12 ≡ days_in_year (pos year) = months_in_year year in
    let more : days_of_years (suc (year - 1970)) ≡ days_of_years (year - 1970) + days_in_year (pos (1970 + (year - 1970))) = refl in
    rw (next, more, whole) (omega (arith, year_days))

-- the first of the next month comes after the days of this one
pub day_number-next_month : (year month : ℕ) → 1 ≤ month → day_number year (month + 1) 1 ≡ day_number year month 1 + days_in_month (pos year) month
unfolding day_number days_of_months
day_number-next_month year month h =
    let next : month + 1 - 1 ≡ suc (month - 1) = omega arith in
    let same : suc (month - 1) ≡ month = omega arith in
    let more : days_of_months year (suc (month - 1)) ≡ days_of_months year (month - 1) + days_in_month (pos year) (suc (month - 1)) = refl in
    rw (next, more, same) (omega arith)

-- a day of the month is counted from the first
pub day_number-date : (year month date : ℕ) → 1 ≤ date → day_number year month date ≡ day_number year month 1 + (date - 1)
unfolding day_number
day_number-date year month date h = omega arith
