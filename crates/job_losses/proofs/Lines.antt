-- Lines among calls, and that those with which a run ends are of no drive that is dropped.
use Rattle.std.proofs.Common.{◌≡◌, inl, inr, ℕ, ◌^◌, ◌<◌, Bool, true, false, List, [], ◌∷◌, ◌++◌, refl, sym, ap, ◌∙◌, subst}
use Rattle.std.specs.Prelude.{codes, decimal}
use Rattle.std.specs.List.{AllByRecursion}
use Rattle.std.proofs.lemmas.Bool.{false≢true}
use Rattle.bay_core.specs.declared.event.Event.{Event}
use Rattle.bay_core.specs.declared.event.Event.TheVariants.{Say}
use Rattle.bay_core.specs.Looks.{says}
use Rattle.bay_core.specs.Replay.{Drive}
use Rattle.bay_core.specs.Went.{AllOn, Only, MaySee}
use Rattle.report_text.specs.Fields.{fields, cause_fields}
use Rattle.report_text.specs.Losses.{dropped_fault_text}
use Rattle.card_inventory.specs.declared.error.InventoryError.{InventoryError}
use Rattle.card_inventory.specs.declared.error.InventoryError.TheVariants.{SourceFailed, EmptyCard, TooManyFiles, BadPath, BadDate, TooManyBytes, Control, TooBig, Clash as FilesClash, Memory as CardMemory}
use Rattle.fresh_opening.specs.declared.error.FreshError.{FreshError}
use Rattle.fresh_opening.specs.declared.error.FreshError.TheVariants.{Inventory, NotAJournal, AlreadyBegun, NoDrive, Clash, Occupied, OutFailed as LineFailed, Memory}
use Rattle.last_lines.specs.Ends.{End, EndCalls}
use Rattle.run_state.specs.Runs.{begins_with}
use Rattle.run_ends.specs.Losses.{ByFault}
use Rattle.run_ends.proofs.Lines.{NoLine, no_line, none_there, split_at, loss_of}
use Rattle.job_story.specs.Ends.{JobEnd, Sealed, Dropped, Refused, CardUnattached, DriveUnattached, CardFailed, CardChanged, OutFailed, NoMemory, listing_lines, refusal_lines, last_of}
use Rattle.job_story.specs.Run.{Run}
use Rattle.job_losses.specs.Drops.{Rises}

-- each line among these calls is such, said or not
abbrev pub Lines : (List ℕ → Type 0) → List Event → Type 0
Lines Q L = (front after : List Event) (line : List ℕ) (ok : Bool) → L ≡ front ++ Say line ok ∷ after → Q line

pub lines_none : (Q : List ℕ → Type 0) (L : List Event) → NoLine L → Lines Q L
lines_none Q L none front after line ok is = absurd (none front after line ok is)

pub lines_empty : (Q : List ℕ → Type 0) → Lines Q []
lines_empty Q front after line ok is = absurd (none_there front after (Say line ok) is)

pub lines_then : (Q : List ℕ → Type 0) (A B : List Event) → Lines Q A → Lines Q B → Lines Q (A ++ B)
lines_then Q A B one two front after line ok is = elim (split_at A B front after (Say line ok) is) [
  | inl found ↦ one front found.0 line ok found.1
  | inr found ↦ two found.0 after line ok found.2
]

pub lines_one : (Q : List ℕ → Type 0) (line : List ℕ) (ok : Bool) → Q line → Lines Q (Say line ok ∷ [])
lines_one Q line ok so [] after said how is = let same : line ≡ said = cc is in subst Q same so
lines_one Q line ok so (x ∷ front) after said how is = absurd (none_there front after (Say said how) (cc is))

-- calls on a drive have none
pub lines_of_drive : (Q : List ℕ → Type 0) (d : ℕ) (L : List Event) → AllOn (Only (Drive d)) L → Lines Q L
lines_of_drive Q d L on = lines_none Q L (no_line (Only (Drive d)) (λ y drive out. cc (drive, out)) L on)

pub lines_may : (Q : List ℕ → Type 0) (line : List ℕ) (L : List Event) → Q line → MaySee (Say line false) L → Lines Q L
lines_may Q line L so (inl is) = subst (Lines Q) (sym is) (lines_empty Q)
lines_may Q line L so (inr is) = subst (Lines Q) (sym is) (lines_one Q line false so)

-- ---- faults

-- a line `dropped` is that of a fault of a drive whose count rose
abbrev pub IsFaultLine : Run → List ℕ → Type 0
IsFaultLine run line = (d : ℕ) → d < 2 ^ 64 → begins_with (codes "dropped") d line ≡ true → (line ≡ dropped_fault_text d) × Rises run (Drive d)

pub fault_line : (run : Run) (n : ℕ) → n < 2 ^ 64 → Rises run (Drive n) → IsFaultLine run (dropped_fault_text n)
fault_line run n low rises d low_d begins =
    let same : n ≡ d = loss_of n d ByFault low low_d begins in
    (ap dropped_fault_text same, subst (λ (k : ℕ). Rises run (Drive k)) same rises)

-- another line is none
abbrev IsOther : List ℕ → Type 0
IsOther line = (d : ℕ) → begins_with (codes "dropped") d line ≡ false

other_fault : (run : Run) (line : List ℕ) → IsOther line → IsFaultLine run line
other_fault run line other d low begins = absurd (false≢true (sym (other d) ∙ begins))

-- ---- the last lines of a run

-- the fields of a line stand behind its first word
fields_behind : (b : ℕ) (word : List ℕ) (more : List (List ℕ)) → (rest : List ℕ) × (fields (b ∷ word) more ≡ b ∷ rest)
fields_behind b word [] = (word, refl)
fields_behind b word (field ∷ more) = fields_behind b (word ++ 32 ∷ field) more

refused_other : (word : List ℕ) (more : List (List ℕ)) → IsOther (fields (114 ∷ word) more)
refused_other word more d = ap (begins_with (codes "dropped") d) (fields_behind 114 word more).1

abbrev AreOther : List (List ℕ) → Type 0
AreOther lines = AllByRecursion IsOther lines

listing_other : (e : InventoryError) → AreOther (listing_lines e)
listing_other EmptyCard = (refused_other (codes "efused emptycard") [], tt)
listing_other (TooManyFiles count) = (refused_other (codes "efused toomanyfiles") (decimal count ∷ []), tt)
listing_other (BadPath index cause) = (refused_other (codes "efused badpath") (decimal index ∷ cause_fields cause), tt)
listing_other (BadDate path) = (refused_other (codes "efused baddate") (path ∷ []), tt)
listing_other (TooManyBytes sum) = (refused_other (codes "efused toomanybytes") (decimal sum ∷ []), tt)
listing_other (Control path) = (refused_other (codes "efused control") (path ∷ []), tt)
listing_other (TooBig path) = (refused_other (codes "efused toobig") (path ∷ []), tt)
listing_other (FilesClash first second) = (refused_other (codes "efused clash") (first ∷ []), ((λ d. refl), tt))
listing_other SourceFailed = tt
listing_other CardMemory = tt

refusal_other : (e : FreshError) → AreOther (refusal_lines e)
refusal_other (Inventory e) = listing_other e
refusal_other (NotAJournal d at) = (refused_other (codes "efused notajournal") (decimal d ∷ decimal at ∷ []), tt)
refusal_other (AlreadyBegun d) = (refused_other (codes "efused begun") (decimal d ∷ []), tt)
refusal_other (Clash list path) = (refused_other (codes "efused clash") (list ∷ []), ((λ d. refl), tt))
refusal_other (Occupied d path) = (refused_other (codes "efused occupied") (decimal d ∷ path ∷ []), tt)
refusal_other NoDrive = tt
refusal_other LineFailed = tt
refusal_other Memory = tt

last_other : (end : JobEnd) → AreOther (last_of end).lines
last_other Sealed = tt
last_other Dropped = tt
last_other (Refused e) = refusal_other e
last_other CardUnattached = ((λ d. refl), tt)
last_other (DriveUnattached n) = ((λ d. refl), tt)
last_other CardFailed = ((λ d. refl), tt)
last_other (CardChanged listed read path) = ((λ d. refl), tt)
last_other OutFailed = tt
last_other NoMemory = ((λ d. refl), tt)

-- the calls that say them
said_lines : (Q : List ℕ → Type 0) (lines : List (List ℕ)) → AllByRecursion Q lines → Lines Q (says lines)
said_lines Q [] each = lines_empty Q
said_lines Q (line ∷ lines) each = lines_then Q (Say line true ∷ []) (says lines) (lines_one Q line true each.0) (said_lines Q lines each.1)

first_ones : (Q : List ℕ → Type 0) (first : List (List ℕ)) (next : List ℕ) (rest : List (List ℕ)) → AllByRecursion Q (first ++ next ∷ rest) → AllByRecursion Q first × Q next
first_ones Q [] next rest each = (tt, each.0)
first_ones Q (line ∷ first) next rest each = let more = first_ones Q first next rest each.1 in ((each.0, more.0), more.1)

end_lines : (Q : List ℕ → Type 0) (end : End) (result : ℕ) (L : List Event) → AllByRecursion Q end.lines → EndCalls end result L → Lines Q L
end_lines Q end result L each (inl said) = subst (Lines Q) (sym said.0) (said_lines Q end.lines each)
end_lines Q end result L each (inr broke) =
    let b = broke.0 in
    let parts = first_ones Q b.first b.next b.rest (subst (AllByRecursion Q) b.lines_are each) in
    subst (Lines Q) (sym b.calls_are) (lines_then Q (says b.first) b.last (said_lines Q b.first parts.0) (lines_may Q b.next b.last parts.1 b.failed))

each_fault : (run : Run) (lines : List (List ℕ)) → AreOther lines → AllByRecursion (IsFaultLine run) lines
each_fault run [] each = tt
each_fault run (line ∷ lines) each = (other_fault run line each.0, each_fault run lines each.1)

pub last_lines : (run : Run) (end : JobEnd) (result : ℕ) (L : List Event) → EndCalls (last_of end) result L → Lines (IsFaultLine run) L
last_lines run end result L calls = end_lines (IsFaultLine run) (last_of end) result L (each_fault run (last_of end).lines (last_other end)) calls
