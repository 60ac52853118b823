use Rattle.std.proofs.Common.{◌≡◌, ℕ, ◌≤◌, ap, arith, pos, to_z, of_z, unsigned_abs, w8, w16}
use Rattle.std.proofs.lemmas.Int.{to_z-of_z}
use Rattle.jiff.specs.Types.{Date}
use Rattle.jiff.proofs.SpanFacts.{signed_arith}
use Rattle.path_text.proofs.Calendar.{days_in_month_bounds}
use Rattle.path_text.proofs.Moments.{date_parts, day_parts}
use Rattle.path_text.proofs.moment.date_on.Goals as goal

year_cast : (d : Date) → to_z w16 (of_z w16 d.year) ≡ d.year
year_cast d = to_z-of_z w16 d.year (omega (arith, signed_arith, d.year_in))

small_cast : (n : ℕ) → n ≤ 31 → to_z w8 (of_z w8 (pos n)) ≡ pos n
small_cast n h = to_z-of_z w8 (pos n) (omega (arith, signed_arith))

pub overflow_cast-result : goal.overflow_cast-result
overflow_cast-result c =
    let parts = date_parts c.calendar_day-date.result c.args.day c.calendar_day-date.ensures in
    let year = day_parts c.args.day c.requires in
    rw (c.year.ensures, year_cast c.calendar_day-date.result, parts.0) (tt, omega arith)

pub returns-clause-year : goal.returns-clause-year
returns-clause-year c =
    let parts = date_parts c.calendar_day-date.result c.args.day c.calendar_day-date.ensures in
    rw (c.year.ensures, year_cast c.calendar_day-date.result) (ap unsigned_abs parts.0)

pub returns-clause-month : goal.returns-clause-month
returns-clause-month c =
    let parts = date_parts c.calendar_day-date.result c.args.day c.calendar_day-date.ensures in
    rw (c.month.ensures, small_cast c.calendar_day-date.result.month (omega (arith, c.calendar_day-date.result.month_in))) parts.1

pub returns-clause-day : goal.returns-clause-day
returns-clause-day c =
    let parts = date_parts c.calendar_day-date.result c.args.day c.calendar_day-date.ensures in
    let long = days_in_month_bounds c.calendar_day-date.result.year c.calendar_day-date.result.month in
    rw (c.day.ensures, small_cast c.calendar_day-date.result.day (omega (arith, c.calendar_day-date.result.day_in))) parts.2
