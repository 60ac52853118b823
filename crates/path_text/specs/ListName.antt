-- The name of a list: docs/FORMATS.md, "List names".
use Rattle.std.specs.Prelude.{ℕ, ◌/◌, ◌%◌, List, ◌++◌, codes}
use Rattle.path_text.specs.Moment.{year_on, month_on, day_on, two_digits, four_digits}

-- the label, the date and the time of day of the start, as in A001_2014-10-24_120000.mhl
unfoldable pub list_name_text : List ℕ → ℕ → List ℕ
list_name_text label t =
    let day = t / 86_400 in
    let second = t % 86_400 in
    label ++ codes "_" ++ four_digits (year_on day) ++ codes "-" ++ two_digits (month_on day) ++ codes "-" ++ two_digits (day_on day) ++ codes "_"
    ++ two_digits (second / 3_600) ++ two_digits (second / 60 % 60) ++ two_digits (second % 60) ++ codes ".mhl"
