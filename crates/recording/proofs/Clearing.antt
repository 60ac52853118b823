-- What is left of the scratch files where an offload begins.
use Rattle.std.proofs.Common.{◌≡◌, ℕ, Bool, true, false, List, ◌++◌, sym, ap, ◌∙◌, subst}
use Rattle.std.specs.Prelude.{Some, None}
use Rattle.std.specs.FinMap.{get, insert, remove}
use Rattle.bay_core.specs.declared.event.Event.{Event}
use Rattle.bay_core.specs.Map.{Map, content, overwritten, moved}
use Rattle.bay_core.specs.Paths.{journal_path, new_path, part_path}
use Rattle.bay_core.specs.Replay.{reads, replayed}
use Rattle.bay_core.specs.World.{World}
use Rattle.bay_core.specs.Went.{Ran, Tried}
use Rattle.bay_core.proofs.Maps.{insert_other, remove_here, moved_other}
use Rattle.bay_core.proofs.Runs.{told_since, all_ran}
use Rattle.crash_law.proofs.Calls.{all_ok, reads_calls}
use Rattle.drive_journal.specs.Calls.{tidy_calls, publish_calls}
use Rattle.offload_law.proofs.Plans.{journal_not_new, journal_not_part}
use Rattle.recording.specs.Beginning.{Cleared}
use Rattle.recording.proofs.Acts.{gone_from}
use Rattle.recording.proofs.Leads.{new_not_part}

-- what a read gives after calls that were tried on the drive and answered Ok
tried_reads : (d : ℕ) (cs : List (Bool → Event)) {ok : Bool} {old new : World} → Tried d cs ok old new → ok ≡ true → (m : Map) (before all : List Event) → old.events ≡ Some before → new.events ≡ Some all →
    reads m all d ≡ replayed (reads m before d) (all_ok cs)
tried_reads d cs t well m before all was now =
    let s = told_since t.went before all was now in
    let whole : s.since ≡ all_ok cs = all_ran cs s.since (subst (λ b. Ran cs b s.since) well s.such) in
    ap (λ (K : List Event). reads m K d) s.is ∙ reads_calls d m before s.since s.on ∙ ap (replayed (reads m before d)) whole

module _ (R : Map) (journal : List ℕ) where
  abbrev tidy : Map
  tidy = remove (remove R new_path) part_path

  abbrev drafted : Map
  drafted = insert tidy new_path (overwritten (content tidy new_path) 0 journal)

  no_new_left : get (moved drafted new_path journal_path) new_path ≡ None
  no_new_left = gone_from drafted new_path journal_path (λ is. journal_not_new (sym is))

  no_part_left : get (moved drafted new_path journal_path) part_path ≡ None
  no_part_left =
      moved_other drafted new_path journal_path part_path (λ is. new_not_part (sym is)) (λ is. journal_not_part (sym is))
      ∙ insert_other tidy new_path (overwritten (content tidy new_path) 0 journal) part_path (λ is. new_not_part (sym is))
      ∙ remove_here (remove R new_path) part_path

pub begun_cleared : (d : ℕ) (journal : List ℕ) (ok : Bool) (old new : World) → Tried d (tidy_calls d None false ++ publish_calls d journal_path journal) ok old new → Cleared d ok old new
begun_cleared d journal ok old new t = record {
  no_new = λ well m before all was now. ap (λ (x : Map). get x new_path) (tried_reads d (tidy_calls d None false ++ publish_calls d journal_path journal) t well m before all was now) ∙ no_new_left (reads m before d) journal;
  no_part = λ well m before all was now. ap (λ (x : Map). get x part_path) (tried_reads d (tidy_calls d None false ++ publish_calls d journal_path journal) t well m before all was now) ∙ no_part_left (reads m before d) journal;
}
