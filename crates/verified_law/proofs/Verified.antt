-- A verification by the list of a sealed offload is good.
use Rattle.std.proofs.Common.{◌≡◌, ℕ, suc, true, false, Bool, List, [], ◌∷◌, ◌++◌, length, Option, Some, refl, sym, ap, ◌∙◌, subst, arith}
use Rattle.std.specs.Prelude.{cond, nat_eq}
use Rattle.std.specs.List.{AllByRecursion, count_by}
use Rattle.std.specs.FinMap.{get}
use Rattle.std.proofs.lemmas.Bool.Decides.{nat_tests}
use Rattle.std.proofs.lemmas.Slice.Eq.{bytes_eq-Decides}
use Rattle.markup.proofs.Pieces.{pieces_one, piece_not_empty}
use Rattle.bay_core.specs.Map.{Map}
use Rattle.path_text.specs.Kinds.{has_kind}
use Rattle.path_text.specs.declared.kinds.Kinds.{Kinds}
use Rattle.md5.specs.Md5.{md5}
use Rattle.sha1.specs.Sha1.{sha1}
use Rattle.digest_set.specs.Xxh.{xxh}
use Rattle.digest_set.specs.Triple.{triple}
use Rattle.digest_set.specs.declared.triple.Triple.{Triple}
use Rattle.report_text.specs.Line.{altered_size_text, altered_md5_text, altered_sha1_text, altered_xxhash64be_text}
use Rattle.mhl_writer.specs.ListText.{Values, has_digest}
use Rattle.mhl_writer.specs.declared.values.HashEntry.{HashEntry}
use Rattle.mhl_reader.specs.Reading.{Reading}
use Rattle.mhl_reader.proofs.Meaning.{one_reading}
use Rattle.mhl_reader.proofs.Canonical.{canonical_reads}
use Rattle.copy_plan.specs.declared.file.PlannedFile.{PlannedFile}
use Rattle.copy_plan.specs.Plan.{list_of}
use Rattle.drive_journal.specs.declared.record.Rec.{Rec}
use Rattle.drive_journal.specs.Journal.{AreRecords}
use Rattle.drive_journal.proofs.Entries.{records_few}
use Rattle.offload_law.specs.Sealing.{shown, sealed_entry, sealed_entries, sealed_values, plan_list_text}
use Rattle.offload_law.specs.Stages.{Offload, Stage, Fresh, Begun, Sealed, IsAt, IsAfter, progress, AreRecorded, card_bytes}
use Rattle.verify_run.specs.declared.verdict.Standing.{Standing}
use Rattle.verify_run.specs.declared.verdict.Standing.TheVariants.{Good}
use Rattle.verify_run.specs.declared.verdict.Verdict.{Verdict}
use Rattle.verify_run.specs.declared.verdict.Outcome.TheVariants.{AllGood}
use Rattle.verify_run.specs.Report.{size_lines, digest_lines, altered_lines, standing_by, standing, standings, found_in, report_verdict, outcome_of}
use Rattle.verified_law.specs.Good.{IsGood}
use Rattle.verified_law.proofs.Sealed.{some_shown, sealed_canonical}

-- ---- after all its steps a drive is sealed

-- a map at a stage with a list
abbrev IsSealed : Offload → Map → Type 0
IsSealed o m = (recs : List Rec) × (finish : ℕ) × IsAt o m (Sealed recs finish)

sealed_stage : (o : Offload) (m : Map) (s : Stage) → IsAt o m s → progress o.plan s ≡ suc (suc (length o.plan.files)) → IsSealed o m
sealed_stage o m Fresh stands done = absurd (omega (arith, done))
sealed_stage o m (Begun recs) stands done = absurd (omega (arith, done, records_few 0 o.plan.files recs stands.0.holds.records))
sealed_stage o m (Sealed recs finish) stands done = (recs, finish, stands)

pub sealed_after : (o : Offload) (m : Map) → IsAfter o m (suc (suc (length o.plan.files))) → IsSealed o m
sealed_after o m after = sealed_stage o m after.stage after.at after.done

-- ---- the text reads as the list

pub sealed_reads : (o : Offload) (m : Map) (recs : List Rec) (finish : ℕ) → IsAt o m (Sealed recs finish) → Reading (plan_list_text o.plan recs finish) (sealed_values o.plan recs finish)
unfolding plan_list_text
sealed_reads o m recs finish sealed = canonical_reads (sealed_values o.plan recs finish) (sealed_canonical o m recs finish sealed)

-- ---- an entry is good

same_size : (n k : ℕ) → n ≡ k → nat_eq n k ≡ true
same_size n k same = grind (arith, nat_tests)

no_size_line : (path : List ℕ) (n : ℕ) (bytes : List ℕ) → n ≡ length bytes → size_lines path (Some n) bytes ≡ []
no_size_line path n bytes same = ap (λ (c : Bool). cond c [] (altered_size_text n (length bytes) path ∷ [])) (same_size n (length bytes) same)

no_digest_line : (kind : List ℕ → List ℕ) (text : List ℕ → List ℕ → List ℕ → List ℕ) (path : List ℕ) (b : Bool) (digest bytes : List ℕ) → digest ≡ kind bytes → digest_lines kind text path (shown b digest) bytes ≡ []
no_digest_line kind text path true digest bytes same = ap (λ (c : Bool). cond c [] (text digest (kind bytes) path ∷ [])) ((bytes_eq-Decides digest (kind bytes)).1 same)
no_digest_line kind text path false digest bytes same = refl

none_of_four : {A : Type 0} (a b c d : List A) → a ≡ [] → b ≡ [] → c ≡ [] → d ≡ [] → a ++ b ++ c ++ d ≡ []
none_of_four a b c d e f g h = rw (e, f, g, h) refl

good_entry : (kinds : Kinds) (bytes : List ℕ) (f : PlannedFile) (r : Rec) → has_kind kinds ≡ true → f.size ≡ length bytes → r.triple ≡ triple bytes → standing (sealed_entry kinds f r) (Some bytes) ≡ Good
good_entry kinds bytes f r some size digests =
    let t = r.triple in
    let md5_line = no_digest_line md5 altered_md5_text f.path kinds.md5 t.md5 bytes (ap (λ (t : Triple). t.md5) digests) in
    let sha1_line = no_digest_line sha1 altered_sha1_text f.path kinds.sha1 t.sha1 bytes (ap (λ (t : Triple). t.sha1) digests) in
    let xxh_line = no_digest_line xxh altered_xxhash64be_text f.path kinds.xxh t.xxh bytes (ap (λ (t : Triple). t.xxh) digests) in
    let none : altered_lines (sealed_entry kinds f r) bytes ≡ [] = none_of_four _ _ _ _ (no_size_line f.path f.size bytes size) md5_line sha1_line xxh_line in
    let shows : has_digest (sealed_entry kinds f r) ≡ true = some_shown kinds.md5 kinds.sha1 kinds.xxh t.md5 t.sha1 t.xxh some in
    ap (λ (l : List (List ℕ)). standing_by l (has_digest (sealed_entry kinds f r))) none ∙ ap (λ (b : Bool). standing_by [] b) shows

abbrev AreGood : List Standing → Type 0
AreGood all = AllByRecursion (λ (s : Standing). s ≡ Good) all

pub good_entries : (kinds : Kinds) (card m : Map) (j : ℕ) (files : List PlannedFile) (recs : List Rec) → has_kind kinds ≡ true → AreRecords j files recs → AreRecorded card m j files recs → AreGood (standings (found_in m (sealed_entries kinds files recs)))
unfolding AreRecords AreRecorded sealed_entries
good_entries kinds card m j [] [] some are recorded = tt
good_entries kinds card m j [] (r ∷ recs) some are recorded = tt
good_entries kinds card m j (f ∷ files) [] some are recorded = tt
good_entries kinds card m j (f ∷ files) (r ∷ recs) some are recorded =
    let is = recorded.0.0 in
    let bytes = card_bytes card f in
    let there = ap (standing (sealed_entry kinds f r)) recorded.0.1 in
    (there ∙ good_entry kinds bytes f r some (sym are.0.size ∙ is.size) is.digests, good_entries kinds card m (suc j) files recs some are.1 recorded.1)

-- ---- the report

pub count_none : (test : Standing → Bool) (all : List Standing) → test Good ≡ false → AreGood all → count_by test all ≡ 0
count_none test [] good h = refl
count_none test (s ∷ all) good h =
    let first : test s ≡ false = ap test h.0 ∙ good in
    let rest = count_none test all good h.1 in
    rw (first, rest) refl

pub length-found_in : (m : Map) (entries : List HashEntry) → length (found_in m entries) ≡ length entries
length-found_in m [] = refl
length-found_in m (e ∷ entries) = ap suc (length-found_in m entries)

pub good_outcome : (v : Verdict) → v.missing ≡ 0 → v.altered ≡ 0 → v.unchecked ≡ 0 → outcome_of v ≡ AllGood
good_outcome v missing altered unchecked = rw (missing, altered, unchecked) refl

some_is : (x y : List ℕ) → ◌≡◌ {A = Option (List ℕ)} (Some x) (Some y) → x ≡ y
some_is x y e = cc

pub sealed_verifies : (o : Offload) (m : Map) (recs : List Rec) (finish : ℕ) (bytes : List ℕ) (list : Values) → IsGood (length o.plan.files) (report_verdict (sealed_entries o.plan.kinds o.plan.files recs) m (list_of o.plan)) → IsAt o m (Sealed recs finish) → get m (list_of o.plan) ≡ Some bytes → Reading bytes list → IsGood (length o.plan.files) (report_verdict list.entries m (list_of o.plan))
sealed_verifies o m recs finish bytes list good sealed stands reading =
    let text = plan_list_text o.plan recs finish in
    let values = sealed_values o.plan recs finish in
    let same : text ≡ bytes = some_is text bytes (sym sealed.2 ∙ stands) in
    let reads : Reading bytes values = subst (λ (b : List ℕ). Reading b values) same (sealed_reads o m recs finish sealed) in
    let one : values ≡ list = one_reading bytes values list pieces_one piece_not_empty reads reading in
    subst (λ (l : Values). IsGood (length o.plan.files) (report_verdict l.entries m (list_of o.plan))) one good
