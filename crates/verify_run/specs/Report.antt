-- What a verification reports of a folder: docs/FORMATS.md, "Verification".
use Rattle.std.specs.Prelude.{ℕ, ◌+◌, Bool, true, false, not, ◌&&◌, ◌||◌, cond, List, [], ◌∷◌, ◌++◌, map, length, Option, Some, None, bytes_eq, nat_eq, nat_lt, codes}
use Rattle.std.specs.List.{filter, flat_map, count_by, list_any}
use Rattle.std.specs.FinMap.{get, keys}
use Rattle.md5.specs.Md5.{md5}
use Rattle.sha1.specs.Sha1.{sha1}
use Rattle.digest_set.specs.Xxh.{xxh}
use Rattle.path_text.specs.Path.{is_path, is_control_path}
use Rattle.bay_core.specs.Map.{Map}
use Rattle.mhl_writer.specs.ListText.{has_digest}
use Rattle.mhl_writer.specs.declared.values.HashEntry.{HashEntry}
use Rattle.report_text.specs.Line.{missing_text, unchecked_text, unlisted_text, altered_size_text, altered_md5_text, altered_sha1_text, altered_xxhash64be_text, verdict_text}
use Rattle.report_text.specs.Shown.{shown}
use Rattle.verify_run.specs.declared.verdict.Standing.{Standing}
use Rattle.verify_run.specs.declared.verdict.Standing.TheVariants.{Absent, Altered, Uncheckable, Good}
use Rattle.verify_run.specs.declared.verdict.Verdict.{Verdict}
use Rattle.verify_run.specs.declared.verdict.Outcome.{Outcome}
use Rattle.verify_run.specs.declared.verdict.Outcome.TheVariants.{AllGood, SomeBad, SomeUnchecked}

-- an entry of the list, and the bytes that were found at its path
abbrev pub Found : Type 0
Found = HashEntry × Option (List ℕ)

-- the line of a recorded size that differs from that of the bytes
abbrev pub size_lines : List ℕ → Option ℕ → List ℕ → List (List ℕ)
size_lines path None bytes = []
size_lines path (Some n) bytes = cond (nat_eq n (length bytes)) [] (altered_size_text n (length bytes) path ∷ [])

-- the line of a recorded digest that differs from that of the bytes, of this kind and with this text
abbrev pub digest_lines : (List ℕ → List ℕ) → (List ℕ → List ℕ → List ℕ → List ℕ) → List ℕ → Option (List ℕ) → List ℕ → List (List ℕ)
digest_lines kind text path None bytes = []
digest_lines kind text path (Some listed) bytes = cond (bytes_eq listed (kind bytes)) [] (text listed (kind bytes) path ∷ [])

-- a line for each recorded value that differs, in the order size, md5, sha1, xxhash64be
abbrev pub altered_lines : HashEntry → List ℕ → List (List ℕ)
altered_lines e bytes =
    size_lines e.path e.size bytes
    ++ digest_lines md5 altered_md5_text e.path e.md5 bytes
    ++ digest_lines sha1 altered_sha1_text e.path e.sha1 bytes
    ++ digest_lines xxh altered_xxhash64be_text e.path e.xxh bytes

-- there is no line
abbrev pub is_empty : List (List ℕ) → Bool
is_empty [] = true
is_empty (line ∷ lines) = false

-- how an entry counts whose file is there, by its lines: altered where there is one, else unchecked where it records no digest, else good
abbrev pub standing_by : List (List ℕ) → Bool → Standing
standing_by (line ∷ lines) has = Altered
standing_by [] true = Good
standing_by [] false = Uncheckable

-- how an entry counts: once, as missing, altered, unchecked or good
abbrev pub standing : HashEntry → Option (List ℕ) → Standing
standing e None = Absent
standing e (Some bytes) = standing_by (altered_lines e bytes) (has_digest e)

-- a line for an entry that has nothing to check
abbrev pub unchecked_lines : List ℕ → Standing → List (List ℕ)
unchecked_lines path Uncheckable = unchecked_text path ∷ []
unchecked_lines path _ = []

-- the lines of one entry: missing, or one for each value that differs, or that there is nothing to check
abbrev pub entry_lines : HashEntry → Option (List ℕ) → List (List ℕ)
entry_lines e None = missing_text e.path ∷ []
entry_lines e (Some bytes) = altered_lines e bytes ++ unchecked_lines e.path (standing e (Some bytes))

-- a name that is no control path and not the list itself
abbrev pub is_other : List ℕ → List ℕ → Bool
is_other own q = not (is_path q && is_control_path q) && not (bytes_eq q own)

-- a name that is in no entry, no control path and not the list itself
abbrev pub is_unlisted : List HashEntry → List ℕ → List ℕ → Bool
is_unlisted entries own q = not (list_any (bytes_eq q) (map (λ e. e.path) entries)) && is_other own q

-- the unlisted ones of these names
abbrev pub unlisted : List HashEntry → List (List ℕ) → List ℕ → List (List ℕ)
unlisted entries names own = filter (is_unlisted entries own) names

-- how entries count, as tests
abbrev pub is_absent : Standing → Bool
is_absent Absent = true
is_absent _ = false

abbrev pub is_altered : Standing → Bool
is_altered Altered = true
is_altered _ = false

abbrev pub is_uncheckable : Standing → Bool
is_uncheckable Uncheckable = true
is_uncheckable _ = false

-- how each of the entries counts
abbrev pub standings : List Found → List Standing
standings founds = map (λ f. standing f.0 f.1) founds

-- the five numbers
abbrev pub verdict : List Found → ℕ → Verdict
verdict founds others = record {
  entries = length founds;
  missing = count_by is_absent (standings founds);
  altered = count_by is_altered (standings founds);
  unchecked = count_by is_uncheckable (standings founds);
  unlisted = others;
}

-- bad where an entry is missing or altered, else unchecked where one is unchecked, else good
abbrev pub outcome_of : Verdict → Outcome
outcome_of v = cond (nat_lt 0 v.missing || nat_lt 0 v.altered) SomeBad (cond (nat_lt 0 v.unchecked) SomeUnchecked AllGood)

-- the word of the verdict line
abbrev pub outcome_word : Outcome → List ℕ
outcome_word AllGood = codes "good"
outcome_word SomeBad = codes "bad"
outcome_word SomeUnchecked = codes "unchecked"

-- the last line
abbrev pub verdict_line : Verdict → List ℕ
verdict_line v = verdict_text (outcome_word (outcome_of v)) v.entries v.missing v.altered v.unchecked v.unlisted

-- the lines of what was found
abbrev pub found_lines : List Found → List (List ℕ)
found_lines founds = flat_map (λ f. entry_lines f.0 f.1) founds

-- the lines of the unlisted names, as they are shown
abbrev pub unlisted_lines : List (List ℕ) → List (List ℕ)
unlisted_lines others = map (λ q. unlisted_text (shown q)) others

-- the lines before the verdict, where these are the unlisted names in byte order
abbrev pub first_lines : List Found → List (List ℕ) → List (List ℕ)
first_lines founds others = found_lines founds ++ unlisted_lines others

-- the lines over what was found
abbrev pub lines : List Found → List (List ℕ) → List (List ℕ)
lines founds others = first_lines founds others ++ verdict_line (verdict founds (length others)) ∷ []

-- what a map has at the paths of the entries
abbrev pub found_in : Map → List HashEntry → List Found
found_in m entries = map (λ e. (e, get m e.path)) entries

-- the report on a map, whose keys are in byte order
abbrev pub report_lines : List HashEntry → Map → List ℕ → List (List ℕ)
report_lines entries m own = lines (found_in m entries) (unlisted entries (keys m) own)

-- the lines of the report on a map before the verdict
abbrev pub report_first_lines : List HashEntry → Map → List ℕ → List (List ℕ)
report_first_lines entries m own = first_lines (found_in m entries) (unlisted entries (keys m) own)

-- the numbers of the report on a map
abbrev pub report_verdict : List HashEntry → Map → List ℕ → Verdict
report_verdict entries m own = verdict (found_in m entries) (length (unlisted entries (keys m) own))

-- the numbers with one entry more that counts so
abbrev pub counted : Verdict → Standing → Verdict
counted v Absent = record v { entries = v.entries + 1; missing = v.missing + 1 }
counted v Altered = record v { entries = v.entries + 1; altered = v.altered + 1 }
counted v Uncheckable = record v { entries = v.entries + 1; unchecked = v.unchecked + 1 }
counted v Good = record v { entries = v.entries + 1 }
