-- What was said before a run stopped.
use Rattle.std.proofs.Common.{◌≡◌, inl, inr, ℕ, false, List, [], ◌∷◌, ◌++◌, refl, sym, ◌∙◌, ap, subst, append_assoc}
use Rattle.std.specs.Prelude.{Option, Some}
use Rattle.bay_core.specs.declared.event.Event.{Event}
use Rattle.bay_core.specs.declared.event.Event.TheVariants.{AttachSource, AttachDrive, AttachFailed, SourceList, SourceRead, DriveList, DriveRead, Write, Sync, Rename, Remove, Moment, Pick, Say}
use Rattle.bay_core.specs.Map.{Map}
use Rattle.bay_core.specs.Replay.{Device, Drive, Output, device_of, reads}
use Rattle.bay_core.specs.World.{World, Honest}
use Rattle.bay_core.specs.Went.{AllOn, Went, Only, Called, Ran, say_call}
use Rattle.bay_core.specs.Looks.{Here, Exactly, Looks, Stopped, line_of, said}
use Rattle.bay_core.proofs.Runs.{went_then, went_such, told_since}
use Rattle.bay_core.proofs.Honesty.{honest_before}
use Rattle.bay_core.proofs.Looking.{reads_kept, stops_keep, drive_here, output_here, stopped_after, say_failed, said_append}
use Rattle.verify_run.specs.declared.verdict.VerifyError.{VerifyError}
use Rattle.verify_run.specs.declared.verdict.VerifyError.TheVariants.{DriveFailed, OutFailed}
use Rattle.file_reading.specs.Reads.{Halted}
use Rattle.verify_run.specs.Calls.{stopped_at_device, Silent, Begun, Unsaid, LinesStopped}

-- before a run that stopped an honest drive was honest, with the same map
pub stopped_before : (d : ℕ) (at : Option Device) (m : Map) (L : List Event) {old new : World} → Stopped d at old new → Honest new d m L → (before : List Event) × Honest old d m before × (reads m L d ≡ reads m before d)
stopped_before d at m L s h =
    let b = honest_before d m L s.went h in
    let t = told_since s.went b.0 L b.1.events h.events in
    (b.0, b.1, ap (λ K. reads m K d) t.is ∙ reads_kept m b.0 t.since d (stops_keep at t.since t.such))

no_line : (d : ℕ) (e : Event) → device_of e ≡ Drive d → line_of e ≡ []
no_line d (AttachSource s place) is = refl
no_line d (AttachDrive e place) is = refl
no_line d (AttachFailed place) is = refl
no_line d (DriveList e got) is = refl
no_line d (DriveRead e path at want got) is = refl
no_line d (SourceList s got) is = refl
no_line d (SourceRead s path at want got) is = refl
no_line d (Write e path at bytes ok) is = refl
no_line d (Sync e ok) is = refl
no_line d (Rename e from to ok) is = refl
no_line d (Remove e path ok) is = refl
no_line d (Moment t) is = refl
no_line d (Pick n) is = refl
no_line d (Say line ok) is = absurd (cc is)

no_lines : (d : ℕ) (L : List Event) → AllOn (Only (Drive d)) L → said L ≡ []
unfolding AllOn
no_lines d [] on = refl
no_lines d (e ∷ L) on = λ i. no_line d e on.0 i ++ no_lines d L on.1 i

-- calls on the drive alone say nothing
pub drive_silent : (d : ℕ) {P : List Event → Type 0} {old new : World} → Went (Only (Drive d)) P old new → Went (Here d) Silent old new
drive_silent d w = drive_here d (record {
  told = λ all now. let m = w.told all now in record { before = m.before; since = m.since; was = m.was; is = m.is; on = m.on; such = no_lines d m.since m.on };
  later = w.later;
  others = w.others;
  attached = w.attached;
})

one_unsaid : (line : List ℕ) (L : List Event) → Ran (say_call line ∷ []) false L → said L ≡ []
unfolding Ran
one_unsaid line L (inl none) = ap said none
one_unsaid line L (inr (inl one)) = ap said one
one_unsaid line L (inr (inr (rest, is, more))) = absurd more

-- a line that could not be said
pub line_unsaid : (d : ℕ) (line : List ℕ) {old new : World} → Called Output (Ran (say_call line ∷ []) false) false old new → Unsaid d OutFailed old new
line_unsaid d line called = record { stopped = say_failed d line called; failed = λ is. absurd (cc is); silent = output_here d (went_such (λ L ran. one_unsaid line L ran) called.went) }

pub halted_stopped : (d : ℕ) (at : Option Device) {old new : World} → Halted d at old new → Stopped d at old new
halted_stopped d at h = record { went = drive_here d h.went; cause = h.cause }

pub halted_unsaid : (d : ℕ) {old new : World} → Halted d (Some (Drive d)) old new → Unsaid d DriveFailed old new
halted_unsaid d h = record { stopped = halted_stopped d (Some (Drive d)) h; failed = λ is. absurd (cc is); silent = drive_silent d h.went }

pub begun_none : (lines : List (List ℕ)) (L : List Event) → Silent L → Begun lines L
begun_none lines L none = (lines, ap (λ (l : List (List ℕ)). l ++ lines) (sym none))

begun_more : (lines more : List (List ℕ)) (L : List Event) → Begun lines L → Begun (lines ++ more) L
begun_more lines more L (rest, is) = (rest ++ more, ap (λ (l : List (List ℕ)). l ++ more) is ∙ append_assoc (said L) rest more)

pub begun_then : (first then_lines : List (List ℕ)) (A B : List Event) → said A ≡ first → Begun then_lines B → Begun (first ++ then_lines) (A ++ B)
begun_then first then_lines A B one (rest, is) =
    (rest, (λ i. sym one i ++ is i) ∙ sym (append_assoc (said A) (said B) rest) ∙ ap (λ (l : List (List ℕ)). l ++ rest) (sym (said_append A B)))

pub unsaid_lines : (d : ℕ) (K : Map → Type 0) (lines : Map → List (List ℕ)) (e : VerifyError) {old new : World} → Unsaid d e old new → LinesStopped d K lines e old new
unsaid_lines d K lines e u = record { stopped = u.stopped; failed = u.failed; honest = λ m L h known. went_such (λ X none. begun_none (lines (reads m L d)) X none) u.silent }

-- looks that said lines, and then a run that stopped
pub lines_after : (d : ℕ) (K : Map → Type 0) (first then_lines : Map → List (List ℕ)) (e : VerifyError) (A : List Event) {old mid new : World} → Looks A → Went (Here d) (Exactly A) old mid
    → ((m : Map) (L : List Event) → Honest mid d m L → K (reads m L d) → said A ≡ first (reads m L d)) → LinesStopped d K then_lines e mid new → LinesStopped d K (λ m. first m ++ then_lines m) e old new
lines_after d K first then_lines e A looks went says s = record {
  stopped = stopped_after d (stopped_at_device d e) A looks went s.stopped;
  failed = s.failed;
  honest = λ m L h known.
      let b = stopped_before d (stopped_at_device d e) m L s.stopped h in
      let here : said A ≡ first (reads m L d) = says m b.0 b.1 (subst K b.2 known) ∙ ap first (sym b.2) in
      went_such (λ X t. subst (Begun (first (reads m L d) ++ then_lines (reads m L d))) (sym t.is) (begun_then _ _ t.first t.second (ap said t.here ∙ here) t.there)) (went_then went (s.honest m L h known));
}

-- more lines would have been said
pub lines_more : (d : ℕ) (K : Map → Type 0) (lines more : Map → List (List ℕ)) (e : VerifyError) {old new : World} → LinesStopped d K lines e old new → LinesStopped d K (λ m. lines m ++ more m) e old new
lines_more d K lines more e s = record {
  stopped = s.stopped;
  failed = s.failed;
  honest = λ m L h known. went_such (λ X b. begun_more (lines (reads m L d)) (more (reads m L d)) X b) (s.honest m L h known);
}

-- the same lines, otherwise written, where more is known
pub lines_as : (d : ℕ) (J K : Map → Type 0) (lines same : Map → List (List ℕ)) (e : VerifyError) {old new : World} → ((m : Map) → K m → J m) → ((m : Map) → K m → lines m ≡ same m) → LinesStopped d J lines e old new
    → LinesStopped d K same e old new
lines_as d J K lines same e so is s = record {
  stopped = s.stopped;
  failed = s.failed;
  honest = λ m L h known. went_such (λ X b. subst (λ (l : List (List ℕ)). Begun l X) (is (reads m L d) known) b) (s.honest m L h (so (reads m L d) known));
}
