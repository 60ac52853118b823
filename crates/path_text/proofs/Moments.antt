-- Laws of moments and their texts.
use Rattle.std.proofs.Common.{◌≡◌, ◌≢◌, ℕ, zero, suc, ◌+◌, ◌-◌, ◌*◌, ◌/◌, ◌%◌, ◌<◌, ◌≤◌, Bool, true, false, cond, List, length, refl, sym, ap, ◌∙◌, subst, arith, pos, Option, Some, None, SomeIff, ◌&&◌, nat_le}
use Rattle.std.specs.Bool.{Decides}
use Rattle.std.specs.List.{list_all}
use Rattle.std.specs.Str.{bytes_eq}
use Rattle.std.proofs.lemmas.Bool.{leb-true, leb-false, le-leb, lt-leb}
use Rattle.std.proofs.lemmas.Bool.Decides.{Decides-and, nat_tests}
use Rattle.std.proofs.lemmas.Slice.Eq.{bytes_eq-Decides}
use Rattle.jiff.specs.Types.{Date}
use Rattle.jiff.specs.Words.{epoch_day, IsDate, days_in_month}
use Rattle.jiff.proofs.Family.{epoch_day_injective, epoch_day_range}
use Rattle.jiff.proofs.SpanFacts.{signed_arith}
use Rattle.path_text.proofs.Calendar.{days_in_month_bounds, day_number-first, day_number-end, day_number-next_month, day_number-next_year, day_number-date, epoch_day-day_number}
use Rattle.path_text.specs.Moment.{last_up_to, has_begun, year_on, month_on, day_on, day_number, last_moment, moment_text, date_time_text, told_two, told_four, told_moment, moment_of, is_date_byte}

-- the greatest number up to n that passes a test, where `low` is one that passes and n + 1 does not
pub record IsLast (test : ℕ → Bool) (low n last : ℕ) : Type 0 where
  pub least : low ≤ last
  pub most : last ≤ n
  pub passes : test last ≡ true
  pub next : test (last + 1) ≡ false

last_up_to-bound : (test : ℕ → Bool) (n : ℕ) → last_up_to test n ≤ n
unfolding last_up_to
last_up_to-bound test zero = omega arith
last_up_to-bound test (suc n) =
    elim (test (suc n)) as (λ b. cond b (suc n) (last_up_to test n) ≤ suc n) [
      | true ↦ omega arith
      | false ↦ omega (arith, last_up_to-bound test n)
    ]

last_up_to-found : (test : ℕ → Bool) (n k : ℕ) → k ≤ n → test k ≡ true → (test (last_up_to test n) ≡ true) × (k ≤ last_up_to test n)
unfolding last_up_to
last_up_to-found test zero k h passes = let e : k ≡ 0 = omega arith in (rw e at passes, omega arith)
last_up_to-found test (suc n) k h passes =
    elim (test (suc n)) as (λ b. test (suc n) ≡ b → (test (cond b (suc n) (last_up_to test n)) ≡ true) × (k ≤ cond b (suc n) (last_up_to test n))) [
      | true ↦ λ e. (e, h)
      | false ↦ λ e.
          let apart : k ≢ suc n = λ same. let one = rw same at passes in cc in
          last_up_to-found test n k (omega arith) passes
    ] refl

last_up_to-is_last : (test : ℕ → Bool) (low n : ℕ) → low ≤ n → test low ≡ true → test (n + 1) ≡ false → IsLast test low n (last_up_to test n)
last_up_to-is_last test low n h passes beyond =
    let found = last_up_to-found test n low h passes in
    let bound = last_up_to-bound test n in
    record {
      least = found.1;
      most = bound;
      passes = found.0;
      next = elim (test (last_up_to test n + 1)) as (λ b. test (last_up_to test n + 1) ≡ b → b ≡ false) [
        | true ↦ λ e.
            let apart : last_up_to test n ≢ n = λ same. let one = rw same at e in cc in
            absurd (omega (arith, (last_up_to-found test n (last_up_to test n + 1) (omega arith) e).1))
        | false ↦ λ e. refl
      ] refl;
    }

year_on-is_last : (day : ℕ) → day ≤ 2_932_896 → IsLast (λ year. has_begun day year 1) 1970 9999 (year_on day)
unfolding year_on
year_on-is_last day h =
    last_up_to-is_last (λ year. has_begun day year 1) 1970 9999 (omega arith)
    (le-leb _ day (omega (arith, day_number-first)))
    (lt-leb _ day (omega (arith, day_number-end)))

month_on-is_last : (day : ℕ) → day ≤ 2_932_896 → IsLast (has_begun day (year_on day)) 1 12 (month_on day)
unfolding month_on
month_on-is_last day h =
    let year = year_on-is_last day h in
    last_up_to-is_last (has_begun day (year_on day)) 1 12 (omega arith) year.passes
    (rw (day_number-next_year (year_on day) year.least) year.next)

-- the parts of a day up to 9999-12-31 are a date of the calendar, and that date has this day number
pub record IsDayOf (day year month date : ℕ) : Type 0 where
  pub year_low : 1970 ≤ year
  pub year_high : year ≤ 9999
  pub month_low : 1 ≤ month
  pub month_high : month ≤ 12
  pub date_low : 1 ≤ date
  pub date_high : date ≤ days_in_month (pos year) month
  pub number : day_number year month date ≡ day

pub day_parts : (day : ℕ) → day ≤ 2_932_896 → IsDayOf day (year_on day) (month_on day) (day_on day)
unfolding day_on
day_parts day h =
    let year = year_on-is_last day h in
    let month = month_on-is_last day h in
    let begun = leb-true _ day month.passes in
    let next = leb-false _ day month.next in
    let long = day_number-next_month (year_on day) (month_on day) month.least in
    record {
      year_low = year.least;
      year_high = year.most;
      month_low = month.least;
      month_high = month.most;
      date_low = omega arith;
      date_high = omega (arith, begun, next, long);
      number = omega (arith, begun, day_number-date (year_on day) (month_on day) (day_on day) (omega arith));
    }

-- and they are the parts of each date with that day number
pub date_parts : (d : Date) (day : ℕ) → epoch_day d ≡ pos day → (d.year ≡ pos (year_on day)) × (d.month ≡ month_on day) × (d.day ≡ day_on day)
date_parts d day e =
    let parts = day_parts day (omega (arith, signed_arith, e, epoch_day_range d)) in
    let other : Date = record {
      year = pos (year_on day);
      month = month_on day;
      day = day_on day;
      year_in = omega (arith, signed_arith);
      month_in = omega arith;
      day_in = (parts.date_low, parts.date_high);
    } in
    let number : epoch_day other ≡ pos day = epoch_day-day_number other (year_on day) refl parts.year_low ∙ ap pos parts.number in
    epoch_day_injective d other (e ∙ sym number)

-- the digits of a number tell it
two_back : (n : ℕ) → n ≤ 99 → 10 * (48 + n / 10 % 10 - 48) + (48 + n % 10 - 48) ≡ n
two_back n h = omega arith

four_back : (n : ℕ) → n ≤ 9999 → 100 * (10 * (48 + n / 1000 % 10 - 48) + (48 + n / 100 % 10 - 48)) + (10 * (48 + n / 10 % 10 - 48) + (48 + n % 10 - 48)) ≡ n
four_back n h = omega arith

-- the digits of a moment's text tell the parts of its day, and its time of day
pub record Tells (text : List ℕ) (day second : ℕ) : Type 0 where
  pub year : told_four text 0 ≡ year_on day
  pub month : told_two text 5 ≡ month_on day
  pub date : told_two text 8 ≡ day_on day
  pub hour : told_two text 11 ≡ second / 3_600
  pub minute : told_two text 14 ≡ second / 60 % 60
  pub second_of_minute : told_two text 17 ≡ second % 60

moment_text-tells : (t : ℕ) → t ≤ last_moment → Tells (moment_text t) (t / 86_400) (t % 86_400)
unfolding moment_text
moment_text-tells t h =
    let parts = day_parts (t / 86_400) (omega arith) in
    let long = days_in_month_bounds (pos (year_on (t / 86_400))) (month_on (t / 86_400)) in
    record {
      year = four_back (year_on (t / 86_400)) parts.year_high;
      month = two_back (month_on (t / 86_400)) (omega arith);
      date = two_back (day_on (t / 86_400)) (omega arith);
      hour = two_back (t % 86_400 / 3_600) (omega arith);
      minute = two_back (t % 86_400 / 60 % 60) (omega arith);
      second_of_minute = two_back (t % 86_400 % 60) (omega arith);
    }

pub told_text : (text : List ℕ) (t : ℕ) → t ≤ last_moment → text ≡ moment_text t → Tells text (t / 86_400) (t % 86_400)
told_text text t h e = rw e (moment_text-tells t h)

-- the digits of a moment's text tell a date of the calendar, the one of its day
pub told_date : (text : List ℕ) (t : ℕ) → t ≤ last_moment → text ≡ moment_text t → (1970 ≤ told_four text 0) × IsDate (pos (told_four text 0)) (pos (told_two text 5)) (pos (told_two text 8)) × (day_number (told_four text 0) (told_two text 5) (told_two text 8) ≡ t / 86_400)
told_date text t h e =
    let tells = told_text text t h e in
    let parts = day_parts (t / 86_400) (omega arith) in
    rw (tells.year, tells.month, tells.date) (parts.year_low, (omega (arith, signed_arith), (omega (arith, signed_arith), omega (arith, signed_arith)), (omega (arith, signed_arith), omega (arith, signed_arith))), parts.number)

time_back : (t : ℕ) → 86_400 * (t / 86_400) + 3_600 * (t % 86_400 / 3_600) + 60 * (t % 86_400 / 60 % 60) + t % 86_400 % 60 ≡ t
time_back t = omega arith

pub told_moment-text : (t : ℕ) → t ≤ last_moment → told_moment (moment_text t) ≡ t
unfolding told_moment
told_moment-text t h =
    let tells = moment_text-tells t h in
    let parts = day_parts (t / 86_400) (omega arith) in
    rw (tells.year, tells.month, tells.date, tells.hour, tells.minute, tells.second_of_minute, parts.number) (time_back t)

-- no two moments have one text
pub moment_text-injective : (t u : ℕ) → t ≤ last_moment → u ≤ last_moment → moment_text t ≡ moment_text u → t ≡ u
moment_text-injective t u h k e = sym (told_moment-text t h) ∙ ap told_moment e ∙ told_moment-text u k

moment_test : (text : List ℕ) (t : ℕ) → Decides (nat_le t last_moment && bytes_eq text (moment_text t)) ((t ≤ last_moment) × (text ≡ moment_text t))
moment_test text t = Decides-and (nat_le t last_moment) (bytes_eq text (moment_text t)) (leb-true t last_moment, le-leb t last_moment) (bytes_eq-Decides text (moment_text t))

-- the text of a moment is read as that moment
pub moment_of-is : (text : List ℕ) (t : ℕ) → t ≤ last_moment → text ≡ moment_text t → moment_of text ≡ Some t
unfolding moment_of
moment_of-is text t h e =
    let told : told_moment text ≡ t = ap told_moment e ∙ told_moment-text t h in
    rw told (rw ((moment_test text t).1 (h, e)) refl)

pub moment_of-text : (t : ℕ) → t ≤ last_moment → moment_of (moment_text t) ≡ Some t
moment_of-text t h = moment_of-is (moment_text t) t h refl

-- and only such texts are read
pub moment_of-sound : (text : List ℕ) (t : ℕ) → moment_of text ≡ Some t → (t ≤ last_moment) × (text ≡ moment_text t)
unfolding moment_of
moment_of-sound text t e =
    let P : ℕ → Type 0 = λ m. (m ≤ last_moment) × (text ≡ moment_text m) in
    elim (nat_le (told_moment text) last_moment && bytes_eq text (moment_text (told_moment text))) as (λ b. (nat_le (told_moment text) last_moment && bytes_eq text (moment_text (told_moment text))) ≡ b → cond b (Some (told_moment text)) None ≡ Some t → P t) [
      | true ↦ λ passed found. let same : told_moment text ≡ t = cc in subst P same ((moment_test text (told_moment text)).0 passed)
      | false ↦ λ failed found. cc
    ] refl e

pub moment_of-none : (text : List ℕ) → ((t : ℕ) → t ≤ last_moment → text ≢ moment_text t) → moment_of text ≡ None
moment_of-none text none =
    elim (moment_of text) as (λ o. moment_of text ≡ o → o ≡ None) [
      | None ↦ λ e. refl
      | Some t ↦ λ e. let sound = moment_of-sound text t e in absurd (none t sound.0 sound.1)
    ] refl

pub length-moment_text : (t : ℕ) → length (moment_text t) ≡ 20
unfolding moment_text
length-moment_text t = refl

digit-is_date_byte : (n : ℕ) → is_date_byte (48 + n % 10) ≡ true
digit-is_date_byte n = grind (arith, nat_tests)

-- each byte of a moment's text is a digit or one of - : T Z
pub list_all-moment_text : (t : ℕ) → list_all is_date_byte (moment_text t) ≡ true
unfolding moment_text
list_all-moment_text t = simp digit-is_date_byte

-- so none of them opens a tag, and all are ASCII
pub is_date_byte-plain : (b : ℕ) → is_date_byte b ≡ true → (b ≢ 60) × (b < 128)
is_date_byte-plain b h = grind (arith, nat_tests)

-- the text from the parts of its day
pub parts_text : (t year month date : ℕ) → year ≡ year_on (t / 86_400) → month ≡ month_on (t / 86_400) → date ≡ day_on (t / 86_400) → date_time_text year month date (t % 86_400 / 3_600) (t % 86_400 / 60 % 60) (t % 86_400 % 60) ≡ moment_text t
unfolding moment_text
parts_text t year month date y m d = rw (y, m, d)

-- the moment from the day that its text tells, and from the time of day that it tells
pub told_seconds : (text : List ℕ) (t day : ℕ) → t ≤ last_moment → text ≡ moment_text t → day ≡ day_number (told_four text 0) (told_two text 5) (told_two text 8) → 86_400 * day + (3_600 * told_two text 11 + 60 * told_two text 14 + told_two text 17) ≡ t
told_seconds text t day h e number =
    let tells = told_text text t h e in
    let same : day ≡ t / 86_400 = number ∙ (told_date text t h e).2 in
    rw (same, tells.hour, tells.minute, tells.second_of_minute) (omega (arith, time_back t))

-- what `new` answers for a moment
pub new_is : (made : Option ℕ) (n t : ℕ) → SomeIff made (n ≤ last_moment) n → n ≡ t → t ≤ last_moment → made ≡ Some t
new_is None n t h e bound = absurd (h (omega arith))
new_is (Some m) n t h e bound = ap Some (h.1 ∙ e)
