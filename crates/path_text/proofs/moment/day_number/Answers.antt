use Rattle.std.proofs.Common.{◌≡◌, ℕ, ◌≤◌, ◌*◌, ◌∙◌, ap, refl, arith, pos, ℤ, ◌-ℤ◌, ◌*ℤ◌, to_z, of_z, w64, w16, w8, unsigned_abs}
use Rattle.std.specs.Prelude.{int_div}
use Rattle.std.proofs.lemmas.Int.{to_z-of_z, to_z_pos}
use Rattle.jiff.specs.Words.{epoch_day}
use Rattle.jiff.proofs.Family.{epoch_day_range}
use Rattle.jiff.proofs.SpanFacts.{signed_arith}
use Rattle.path_text.specs.Moment.{day_number}
use Rattle.path_text.proofs.Calendar.{epoch_day-day_number}
use Rattle.path_text.proofs.moment.day_number.Goals as goal

-- the seconds up to a day, from the nanoseconds up to it
seconds_to : (nanos first last : ℤ) (day : ℕ) → first ≡ pos 0 → last ≡ pos day → nanos ≡ (last -ℤ first) *ℤ pos 86_400_000_000_000 → int_div nanos (pos 1_000_000_000) ≡ pos (day * 86_400)
seconds_to nanos first last day e number told =
    let whole : nanos ≡ pos (day * 86_400 * 1_000_000_000) = told ∙ rw (e, number) (omega (arith, signed_arith)) in
    rw whole (omega (arith, signed_arith))

-- that many seconds fit
seconds_cast : (day : ℕ) → day ≤ 2_932_896 → to_z w64 (of_z w64 (pos (day * 86_400))) ≡ pos (day * 86_400)
seconds_cast day h = to_z-of_z w64 _ (omega (arith, signed_arith))

-- the date that is made has the number of its day
the_day : (c : goal.After-as_secs-seconds) → epoch_day c.in-Ok.date ≡ pos (day_number c.args.year c.args.month c.args.date)
the_day c =
    let made = c.in-Ok.ensures.value in
    let year : c.in-Ok.date.year ≡ pos c.args.year = made.0 ∙ to_z_pos w16 c.args.year (omega arith) in
    let month : c.in-Ok.date.month ≡ c.args.month = ap unsigned_abs (made.1 ∙ to_z_pos w8 c.args.month (omega arith)) in
    let day : c.in-Ok.date.day ≡ c.args.date = ap unsigned_abs (made.2 ∙ to_z_pos w8 c.args.date (omega arith)) in
    epoch_day-day_number c.in-Ok.date c.args.year year (omega arith) ∙ rw (month, day) refl

-- so it is one of the calendar
in_range : (c : goal.After-as_secs-seconds) → day_number c.args.year c.args.month c.args.date ≤ 2_932_896
in_range c = omega (arith, signed_arith, the_day c, epoch_day_range c.in-Ok.date)

-- and its seconds are those of its days
the_seconds : (c : goal.After-as_secs-seconds) → to_z w64 (of_z w64 c.as_secs-seconds.result) ≡ pos (day_number c.args.year c.args.month c.args.date * 86_400)
the_seconds c =
    let told = c.as_secs-seconds.ensures ∙ seconds_to _ _ _ _ c.first_day.ensures (the_day c) c.duration_since.ensures in
    rw told (seconds_cast _ (in_range c))

pub overflow_cast-result : goal.overflow_cast-result
overflow_cast-result c = rw (the_seconds c) (tt, omega (arith, in_range c))

pub returns-clause-bound : goal.returns-clause-bound
returns-clause-bound c = rw (the_seconds c) (omega (arith, in_range c))

pub returns-clause-value : goal.returns-clause-value
returns-clause-value c = rw (the_seconds c) (omega arith)
