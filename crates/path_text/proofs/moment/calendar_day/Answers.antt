use Rattle.std.proofs.Common.{◌≡◌, ℕ, ◌≤◌, ◌∙◌, arith, pos, ℤ, ◌+ℤ◌, to_z, w64}
use Rattle.std.proofs.lemmas.Int.{to_z_pos}
use Rattle.jiff.specs.Words.{epoch_day, date_add}
use Rattle.jiff.proofs.SpanFacts.{signed_arith, date_add-days, can_add-days}
use Rattle.path_text.proofs.moment.calendar_day.Goals as goal

-- that many days after the first
after_first : (day : ℕ) (first : ℤ) → day ≤ 2_932_896 → first ≡ pos 0 → first +ℤ to_z w64 day ≡ pos day
after_first day first h e = rw (e, to_z_pos w64 day (omega arith)) (omega (arith, signed_arith))

pub unwrap-requires : goal.unwrap-requires
unwrap-requires c =
    c.checked_add.ensures.succeeds.1 ((can_add-days c.first_day.result (to_z w64 c.args.day) c.days.result c.days.ensures).1 (rw (after_first c.args.day _ c.requires c.first_day.ensures) (omega (arith, signed_arith))))

pub returns : goal.returns
returns c =
    let made : epoch_day c.unwrap.result ≡ date_add c.first_day.result c.days.result = rw c.unwrap.ensures at c.checked_add.ensures.value in
    made ∙ date_add-days c.first_day.result (to_z w64 c.args.day) c.days.result c.days.ensures ∙ after_first c.args.day _ c.requires c.first_day.ensures
