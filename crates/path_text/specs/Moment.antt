-- A moment as its seconds since 1970-01-01T00:00:00Z, and its text in the form of ISO 8601.
use Rattle.std.specs.Prelude.{ℕ, zero, suc, ◌+◌, ◌-◌, ◌*◌, ◌/◌, ◌%◌, pos, Bool, ◌&&◌, ◌||◌, ◌==◌, nat_le, if◌then◌else◌, List, [], ◌∷◌, ◌++◌, codes, slice_index, Option, Some, None}
use Rattle.std.specs.Str.{bytes_eq}
use Rattle.jiff.specs.Words.{days_in_year, days_in_month}

-- the last moment, 9999-12-31T23:59:59Z
abbrev pub last_moment : ℕ
last_moment = 253_402_300_799

-- the greatest number up to n that passes the test, or 0
unfoldable pub last_up_to : (ℕ → Bool) → ℕ → ℕ
last_up_to test zero = 0
last_up_to test (suc n) = if test (suc n) then suc n else last_up_to test n

-- the days of the first n years from 1970 on
unfoldable pub days_of_years : ℕ → ℕ
days_of_years zero = 0
days_of_years (suc n) = days_of_years n + days_in_year (pos (1970 + n))

-- the days of the first n months of a year
unfoldable pub days_of_months : ℕ → ℕ → ℕ
days_of_months year zero = 0
days_of_months year (suc n) = days_of_months year n + days_in_month (pos year) (suc n)

-- the days from 1970-01-01 to a date from then on
unfoldable pub day_number : ℕ → ℕ → ℕ → ℕ
day_number year month date = days_of_years (year - 1970) + days_of_months year (month - 1) + (date - 1)

-- by that day, counted from 1970-01-01, the month of the year has begun
abbrev pub has_begun : ℕ → ℕ → ℕ → Bool
has_begun day year month = nat_le (day_number year month 1) day

-- the year that a day lies in: the last one whose January has begun
unfoldable pub year_on : ℕ → ℕ
year_on day = last_up_to (λ year. has_begun day year 1) 9999

-- the month that a day lies in: the last one of its year that has begun
unfoldable pub month_on : ℕ → ℕ
month_on day = last_up_to (has_begun day (year_on day)) 12

-- the day of the month: one more than the days since the first of the month
unfoldable pub day_on : ℕ → ℕ
day_on day = day - day_number (year_on day) (month_on day) 1 + 1

-- the last two decimal digits of a number, in ASCII
abbrev pub two_digits : ℕ → List ℕ
two_digits n = (48 + n / 10 % 10) ∷ (48 + n % 10) ∷ []

-- its last four
abbrev pub four_digits : ℕ → List ℕ
four_digits n = (48 + n / 1000 % 10) ∷ (48 + n / 100 % 10) ∷ two_digits n

-- a date and a time of day, as in 2014-10-24T12:00:00Z
abbrev pub date_time_text : ℕ → ℕ → ℕ → ℕ → ℕ → ℕ → List ℕ
date_time_text year month day hour minute second =
    four_digits year ++ codes "-" ++ two_digits month ++ codes "-" ++ two_digits day ++ codes "T"
    ++ two_digits hour ++ codes ":" ++ two_digits minute ++ codes ":" ++ two_digits second ++ codes "Z"

-- the text of a moment: the date of its day, and the hour, minute and second within that day
unfoldable pub moment_text : ℕ → List ℕ
moment_text t =
    let day = t / 86_400 in
    let second = t % 86_400 in
    date_time_text (year_on day) (month_on day) (day_on day) (second / 3_600) (second / 60 % 60) (second % 60)

-- the number that the two digits at a place tell
abbrev pub told_two : List ℕ → ℕ → ℕ
told_two text at = 10 * (slice_index text at - 48) + (slice_index text (at + 1) - 48)

-- the number that the four digits at a place tell
abbrev pub told_four : List ℕ → ℕ → ℕ
told_four text at = 100 * told_two text at + told_two text (at + 2)

-- the moment that the digits tell, if text is of the form 2014-10-24T12:00:00Z
unfoldable pub told_moment : List ℕ → ℕ
told_moment text =
    86_400 * day_number (told_four text 0) (told_two text 5) (told_two text 8)
    + 3_600 * told_two text 11 + 60 * told_two text 14 + told_two text 17

-- the moment whose text this is, if there is one
unfoldable pub moment_of : List ℕ → Option ℕ
moment_of text =
    let t = told_moment text in
    if nat_le t last_moment && bytes_eq text (moment_text t) then Some t else None

-- a byte of such a text: a digit, or one of - : T Z
abbrev pub is_date_byte : ℕ → Bool
is_date_byte b = (nat_le 48 b && nat_le b 57) || (b == 45) || (b == 58) || (b == 84) || (b == 90)
