-- The calls of a run outside its turns: its attaches, its opening and its last lines. They read no file of a card, change no drive, and say no line `done` or `sealed`.
use Rattle.std.proofs.Common.{◌≡◌, inl, inr, ℕ, zero, suc, ◌+◌, true, false, cond, List, [], ◌∷◌, ◌++◌, length, take, refl, sym, ap, ◌∙◌, subst}
use Rattle.std.specs.Prelude.{codes, decimal, Result, Ok, Err}
use Rattle.std.specs.List.{AllByRecursion}
use Rattle.std.proofs.lemmas.Bool.{false≢true}
use Rattle.bay_core.specs.declared.event.Event.{Event}
use Rattle.bay_core.specs.declared.event.Event.TheVariants.{AttachFailed, SourceRead, Write, Sync, Rename, Remove, Say}
use Rattle.bay_core.specs.Looks.{is_effect, IsUntouched, says}
use Rattle.bay_core.specs.Replay.{Output, device_of}
use Rattle.bay_core.specs.Went.{AllOn, Only, MaySee}
use Rattle.bay_core.specs.World.{World}
use Rattle.bay_core.proofs.Looking.{untouched_append}
use Rattle.card_inventory.specs.declared.error.InventoryError.{InventoryError}
use Rattle.card_inventory.specs.declared.error.InventoryError.TheVariants.{SourceFailed, EmptyCard, TooManyFiles, BadPath, BadDate, TooManyBytes, Control, TooBig, Clash as FilesClash, Memory as CardMemory}
use Rattle.drive_journal.specs.declared.order.Order.{Order}
use Rattle.fresh_opening.specs.declared.error.FreshError.{FreshError}
use Rattle.fresh_opening.specs.declared.error.FreshError.TheVariants.{Inventory, NotAJournal, AlreadyBegun, NoDrive, Clash, Occupied, OutFailed as LineFailed, Memory}
use Rattle.fresh_opening.specs.Openings.{Asked, FreshLooks, FreshOpens}
use Rattle.report_text.specs.Fields.{fields, cause_fields}
use Rattle.run_state.specs.Runs.{begins_with}
use Rattle.run_reads.specs.Reads.{is_read, reads_of}
use Rattle.run_reads.proofs.Lines.{IsOther, fault_other}
use Rattle.run_reads.proofs.Since.{Since}
use Rattle.last_lines.specs.Ends.{End, EndCalls}
use Rattle.command_words.specs.Jobs.{Job}
use Rattle.job_story.specs.Ends.{JobEnd, Sealed, Dropped, Refused, CardUnattached, DriveUnattached, CardFailed, CardChanged, OutFailed, NoMemory, listing_lines, refusal_lines, last_of}
use Rattle.job_calls.specs.Calls.{is_attach, drive_attaches, job_attaches, StopsAttaching}
use Rattle.job_calls.proofs.Ending.{Lasts, lasts_of}
use Rattle.job_calls.proofs.Failing.{is_card_read, IsNoRead, NoRead, lines_unread}
use Rattle.job_calls.proofs.Follows.{each_at, each_then}
use Rattle.job_losses.proofs.Lines.{Lines, lines_empty, lines_then, lines_one, lines_may}
use Rattle.job_losses.proofs.Opened.{looked_lines, unlisted_lines}

pub record Outside (L : List Event) : Type 0 where
  pub unread : NoRead L
  pub untouched : IsUntouched L
  pub lines : Lines IsOther L

pub outside_then : (A B : List Event) → Outside A → Outside B → Outside (A ++ B)
outside_then A B one two = record { unread = each_then IsNoRead A B one.unread two.unread; untouched = untouched_append A B one.untouched two.untouched; lines = lines_then IsOther A B one.lines two.lines }

-- ---- no file is read

not_read : (s : ℕ) (q : List ℕ) (e : Event) → is_card_read e ≡ false → is_read s q e ≡ false
not_read s q (SourceRead k path at want got) off = absurd (false≢true (sym off))
not_read s q e off = refl

pub none_read : (s : ℕ) (q : List ℕ) (L : List Event) → NoRead L → reads_of s q L ≡ []
none_read s q [] none = refl
none_read s q (e ∷ L) none = ap (λ b. cond b (e ∷ reads_of s q L) (reads_of s q L)) (not_read s q e none.0) ∙ none_read s q L none.1

-- ---- attaches

abbrev IsAttach : Event → Type 0
IsAttach e = is_attach e ≡ true

abbrev pub AreAttaches : List Event → Type 0
AreAttaches L = AllByRecursion IsAttach L

drives_attach : (d : ℕ) (places : List (List ℕ)) → AreAttaches (drive_attaches d places)
drives_attach d [] = tt
drives_attach d (place ∷ places) = (refl, drives_attach (suc d) places)

pub all_attach : (job : Job) → AreAttaches (job_attaches job)
all_attach job = (refl, drives_attach 0 job.drives)

each_take : (P : Event → Type 0) (n : ℕ) (L : List Event) → AllByRecursion P L → AllByRecursion P (take n L)
each_take P zero L all = tt
each_take P (suc n) [] all = tt
each_take P (suc n) (e ∷ L) all = (all.0, each_take P n L all.1)

attach_unread : (e : Event) → is_attach e ≡ true → is_card_read e ≡ false
attach_unread (SourceRead s path at want got) is = absurd (false≢true is)
attach_unread e is = refl

attach_keeps : (e : Event) → is_attach e ≡ true → is_effect e ≡ false
attach_keeps (Write d path at bytes ok) is = absurd (false≢true is)
attach_keeps (Sync d ok) is = absurd (false≢true is)
attach_keeps (Rename d from to ok) is = absurd (false≢true is)
attach_keeps (Remove d path ok) is = absurd (false≢true is)
attach_keeps e is = refl

attach_no_reads : (L : List Event) → AreAttaches L → NoRead L
attach_no_reads [] all = tt
attach_no_reads (e ∷ L) all = (attach_unread e all.0, attach_no_reads L all.1)

attach_untouched : (L : List Event) → AreAttaches L → IsUntouched L
unfolding IsUntouched
attach_untouched [] all = tt
attach_untouched (e ∷ L) all = (attach_keeps e all.0, attach_untouched L all.1)

attach_lines : (L : List Event) → AreAttaches L → Lines IsOther L
attach_lines L all front after line ok is = absurd (false≢true (each_at IsAttach front after (Say line ok) (subst AreAttaches is all)))

pub outside_attaches : (L : List Event) → AreAttaches L → Outside L
outside_attaches L all = record { unread = attach_no_reads L all; untouched = attach_untouched L all; lines = attach_lines L all }

-- ---- an opening

module _ (count copies : ℕ) (a : Asked) (mid late : World) where
  looked : (came : Result Order FreshError) → FreshLooks 0 count copies a came mid late → Since (Lines IsOther) mid late
  looked came l = looked_lines IsOther 0 count copies a came mid late l (λ place is. fault_other (l.scene.first + place)) (λ is. fault_other (l.scene.first + length l.scene.sights))

  -- its lines are those of drives that are dropped
  pub opening_lines : (came : Result Order FreshError) → FreshOpens 0 count copies a came mid late → Since (Lines IsOther) mid late
  opening_lines (Ok order) o = looked (Ok order) o
  opening_lines (Err (Inventory e)) o = unlisted_lines IsOther 0 e mid late o.1
  opening_lines (Err Memory) (inl o) = unlisted_lines IsOther 0 CardMemory mid late o
  opening_lines (Err Memory) (inr o) = looked (Err Memory) o
  opening_lines (Err (NotAJournal d at)) o = looked (Err (NotAJournal d at)) o
  opening_lines (Err (AlreadyBegun d)) o = looked (Err (AlreadyBegun d)) o
  opening_lines (Err NoDrive) o = looked (Err NoDrive) o
  opening_lines (Err (Clash list path)) o = looked (Err (Clash list path)) o
  opening_lines (Err (Occupied d path)) o = looked (Err (Occupied d path)) o
  opening_lines (Err LineFailed) o = looked (Err LineFailed) o

-- ---- the last lines

-- the fields of a line stand behind its first word
fields_behind : (b : ℕ) (word : List ℕ) (more : List (List ℕ)) → (rest : List ℕ) × (fields (b ∷ word) more ≡ b ∷ rest)
fields_behind b word [] = (word, refl)
fields_behind b word (field ∷ more) = fields_behind b (word ++ 32 ∷ field) more

refused_other : (word : List ℕ) (more : List (List ℕ)) → IsOther (fields (114 ∷ word) more)
refused_other word more = record {
  not_done = λ d. ap (begins_with (codes "done") d) (fields_behind 114 word more).1;
  not_sealed = λ d. ap (begins_with (codes "sealed") d) (fields_behind 114 word more).1;
}

abbrev AreOther : List (List ℕ) → Type 0
AreOther lines = AllByRecursion IsOther lines

listing_other : (e : InventoryError) → AreOther (listing_lines e)
listing_other EmptyCard = (refused_other (codes "efused emptycard") [], tt)
listing_other (TooManyFiles count) = (refused_other (codes "efused toomanyfiles") (decimal count ∷ []), tt)
listing_other (BadPath index cause) = (refused_other (codes "efused badpath") (decimal index ∷ cause_fields cause), tt)
listing_other (BadDate path) = (refused_other (codes "efused baddate") (path ∷ []), tt)
listing_other (TooManyBytes sum) = (refused_other (codes "efused toomanybytes") (decimal sum ∷ []), tt)
listing_other (Control path) = (refused_other (codes "efused control") (path ∷ []), tt)
listing_other (TooBig path) = (refused_other (codes "efused toobig") (path ∷ []), tt)
listing_other (FilesClash first second) = (refused_other (codes "efused clash") (first ∷ []), (record { not_done = λ d. refl; not_sealed = λ d. refl }, tt))
listing_other SourceFailed = tt
listing_other CardMemory = tt

refusal_other : (e : FreshError) → AreOther (refusal_lines e)
refusal_other (Inventory e) = listing_other e
refusal_other (NotAJournal d at) = (refused_other (codes "efused notajournal") (decimal d ∷ decimal at ∷ []), tt)
refusal_other (AlreadyBegun d) = (refused_other (codes "efused begun") (decimal d ∷ []), tt)
refusal_other (Clash list path) = (refused_other (codes "efused clash") (list ∷ []), (record { not_done = λ d. refl; not_sealed = λ d. refl }, tt))
refusal_other (Occupied d path) = (refused_other (codes "efused occupied") (decimal d ∷ path ∷ []), tt)
refusal_other NoDrive = tt
refusal_other LineFailed = tt
refusal_other Memory = tt

last_other : (end : JobEnd) → AreOther (last_of end).lines
last_other Sealed = tt
last_other Dropped = tt
last_other (Refused e) = refusal_other e
last_other CardUnattached = (record { not_done = λ d. refl; not_sealed = λ d. refl }, tt)
last_other (DriveUnattached n) = (record { not_done = λ d. refl; not_sealed = λ d. refl }, tt)
last_other CardFailed = (record { not_done = λ d. refl; not_sealed = λ d. refl }, tt)
last_other (CardChanged listed read path) = (record { not_done = λ d. refl; not_sealed = λ d. refl }, tt)
last_other OutFailed = tt
last_other NoMemory = (record { not_done = λ d. refl; not_sealed = λ d. refl }, tt)

-- the calls that say them
said_lines : (lines : List (List ℕ)) → AreOther lines → Lines IsOther (says lines)
said_lines [] each = lines_empty IsOther
said_lines (line ∷ lines) each = lines_then IsOther (Say line true ∷ []) (says lines) (lines_one IsOther line true each.0) (said_lines lines each.1)

first_ones : (first : List (List ℕ)) (next : List ℕ) (rest : List (List ℕ)) → AreOther (first ++ next ∷ rest) → AreOther first × IsOther next
first_ones [] next rest each = (tt, each.0)
first_ones (line ∷ first) next rest each = let more = first_ones first next rest each.1 in ((each.0, more.0), more.1)

end_lines : (end : End) (result : ℕ) (L : List Event) → AreOther end.lines → EndCalls end result L → Lines IsOther L
end_lines end result L each (inl said) = subst (Lines IsOther) (sym said.0) (said_lines end.lines each)
end_lines end result L each (inr broke) =
    let b = broke.0 in
    let parts = first_ones b.first b.next b.rest (subst AreOther b.lines_are each) in
    subst (Lines IsOther) (sym b.calls_are) (lines_then IsOther (says b.first) b.last (said_lines b.first parts.0) (lines_may IsOther b.next b.last parts.1 b.failed))

said_keeps : (e : Event) → device_of e ≡ Output → is_effect e ≡ false
said_keeps (Write d path at bytes ok) on = absurd (cc on)
said_keeps (Sync d ok) on = absurd (cc on)
said_keeps (Rename d from to ok) on = absurd (cc on)
said_keeps (Remove d path ok) on = absurd (cc on)
said_keeps e on = refl

lines_untouched : (L : List Event) → AllOn (Only Output) L → IsUntouched L
unfolding AllOn IsUntouched
lines_untouched [] on = tt
lines_untouched (e ∷ L) on = (said_keeps e on.0, lines_untouched L on.1)

pub outside_lasts : (end : JobEnd) (result : ℕ) (last : List Event) → Lasts end result last → Outside last
outside_lasts end result last s = record { unread = lines_unread last s.on; untouched = lines_untouched last s.on; lines = end_lines (last_of end) result last (last_other end) s.calls }

-- ---- a run that stopped at an attach

seen_attach : (place : List ℕ) (L : List Event) → MaySee (AttachFailed place) L → AreAttaches L
seen_attach place L (inl none) = subst AreAttaches (sym none) tt
seen_attach place L (inr one) = subst AreAttaches (sym one) (refl, tt)

pub outside_stopped : (job : Job) (end : JobEnd) (result : ℕ) (L : List Event) → StopsAttaching job end result L → Outside L
outside_stopped job end result L s =
    let attaches = outside_attaches (take s.n (job_attaches job)) (each_take IsAttach s.n (job_attaches job) (all_attach job)) in
    let failed = outside_attaches s.failed (seen_attach s.place s.failed s.seen) in
    subst Outside (sym s.is) (outside_then (take s.n (job_attaches job)) (s.failed ++ s.last) attaches (outside_then s.failed s.last failed (outside_lasts end result s.last (lasts_of end result s.last s.lines))))
