-- The calls that publish a file leave it whole or as it was.
use Rattle.std.proofs.Common.{◌≡◌, ◌≢◌, inl, inr, ℕ, ◌+◌, Bool, true, false, List, [], ◌∷◌, ◌++◌, map, length, refl, sym, ◌∙◌, ap, subst, append-nil, arith}
use Rattle.std.proofs.lemmas.List.{drop_all}
use Rattle.std.specs.Prelude.{Some, None, unwrap_or}
use Rattle.std.specs.FinMap.{get, insert, remove}
use Rattle.bay_core.specs.declared.event.Event.{Event}
use Rattle.bay_core.specs.declared.event.Event.TheVariants.{Write, Rename}
use Rattle.bay_core.specs.Map.{Map, content, overwritten, moved, copied}
use Rattle.bay_core.specs.Paths.{new_path}
use Rattle.bay_core.specs.Replay.{Drive, changed, replayed, reads, calls_on}
use Rattle.bay_core.specs.Left.{LeftBy, LeftAfter, Left}
use Rattle.bay_core.specs.World.{World}
use Rattle.bay_core.specs.Crashes.{Leaves, Rests}
use Rattle.bay_core.specs.Went.{Only, Ran, Tried, sync_call, rename_call}
use Rattle.bay_core.proofs.Maps.{insert_here, insert_other, remove_here, remove_other, moved_file, copied_here, copied_other}
use Rattle.bay_core.proofs.Crash.{Goes, front_goes, left_any, calls_all}
use Rattle.bay_core.proofs.Readable.{reads_left}
use Rattle.bay_core.proofs.Replays.{reads-append}
use Rattle.bay_core.proofs.Runs.{since_made, told_since, all_ran, AllOn-front}
use Rattle.drive_journal.specs.Calls.{publish_calls}
use Rattle.drive_journal.specs.Steps.{NoScratch, IsWhole, IsThere}

-- bytes written at the start of nothing
written_new : (bytes : List ℕ) → overwritten [] 0 bytes ≡ bytes
written_new bytes = ap (λ (l : List ℕ). bytes ++ l) (drop_all (0 + length bytes) [] (omega arith)) ∙ append-nil bytes

module _ (d : ℕ) (to bytes : List ℕ) (differ : to ≢ new_path) (R : Map) (absent : get R new_path ≡ None) where
  -- what is read once the bytes are written, and once they have their name
  abbrev written : Map
  written = changed R (Write d new_path 0 bytes true)

  abbrev named : Map
  named = changed written (Rename d new_path to true)

  content_none : content R new_path ≡ []
  content_none = ap (λ o. unwrap_or o []) absent

  written_is : written ≡ insert R new_path bytes
  written_is = ap (insert R new_path) (ap (λ c. overwritten c 0 bytes) content_none ∙ written_new bytes)

  whole_written : IsWhole to bytes R written
  whole_written = subst (IsWhole to bytes R) (sym written_is) (record { at = inl (insert_other R new_path bytes to differ); others = λ q scratch other. insert_other R new_path bytes q scratch })

  written_scratch : get written new_path ≡ Some bytes
  written_scratch = ap (λ m. get m new_path) written_is ∙ insert_here R new_path bytes

  named_is : named ≡ insert (remove written new_path) to bytes
  named_is = moved_file written new_path to bytes written_scratch

  named_others : (q : List ℕ) → q ≢ new_path → q ≢ to → get named q ≡ get R q
  named_others q scratch other =
      ap (λ m. get m q) named_is ∙ insert_other _ to bytes q other ∙ remove_other written new_path q scratch
      ∙ ap (λ m. get m q) written_is ∙ insert_other R new_path bytes q scratch

  named_file : get named to ≡ Some bytes
  named_file = ap (λ m. get m to) named_is ∙ insert_here _ to bytes

  whole_named : IsWhole to bytes R named
  whole_named = record { at = inr named_file; others = named_others }

  there_named : IsThere to bytes R named
  there_named = record {
    file = named_file;
    no_scratch = ap (λ m. get m new_path) named_is ∙ insert_other _ to bytes new_path (λ e. differ (sym e)) ∙ remove_here written new_path;
    others = named_others;
  }

  -- the file under both names
  whole_both : IsWhole to bytes R (copied written new_path to)
  whole_both = record {
    at = inr (copied_here written new_path to bytes written_scratch);
    others = λ q scratch other. copied_other written new_path to q other ∙ ap (λ m. get m q) written_is ∙ insert_other R new_path bytes q scratch;
  }

  torn_rename : (ok : Bool) (I : Map) → LeftAfter (Rename d new_path to ok) written (λ J. J ≡ written) I → IsWhole to bytes R I
  torn_rename ok I (J, is, inl same) = subst (IsWhole to bytes R) (sym (same ∙ is)) whole_written
  torn_rename ok I (J, is, inr (inl done)) = subst (IsWhole to bytes R) (sym (done ∙ ap (λ m. moved m new_path to) is)) whole_named
  torn_rename ok I (J, is, inr (inr both)) = subst (IsWhole to bytes R) (sym (both ∙ ap (λ m. copied m new_path to) is)) whole_both

  -- from what was left before, of which what is read is one
  module _ (S : Map → Type 0) (s : S R) where
    abbrev Way : Map → Type 0
    Way I = (J : Map) × S J × IsWhole to bytes J I

    same : (J I : Map) → I ≡ J → IsWhole to bytes J I
    same J I is = record { at = inl (ap (λ m. get m to) is); others = λ q scratch other. ap (λ m. get m q) is }

    -- a write of the scratch file, done, torn or failed
    torn_write : (ok : Bool) (I : Map) → LeftAfter (Write d new_path 0 bytes ok) R S I → Way I
    torn_write ok I (J, l, inl is) = (J, l, same J I is)
    torn_write ok I (J, l, inr (c, torn, put)) = (
      J,
      l,
      record {
        at = inl (ap (λ m. get m to) put ∙ insert_other J new_path c to differ);
        others = λ q scratch other. ap (λ m. get m q) put ∙ insert_other J new_path c q scratch;
      },
    )

    abbrev AfterWrite : Map → Type 0
    AfterWrite = LeftAfter (Write d new_path 0 bytes true) R S

    abbrev AfterRename : Map → Type 0
    AfterRename = LeftAfter (Rename d new_path to true) written (λ J. J ≡ written)

    from_last_sync : (P : List Event) (I : Map) → Goes (sync_call d ∷ []) P → LeftBy P named AfterRename I → IsWhole to bytes R I
    from_last_sync P I (inl none) left = torn_rename true I (subst (λ K. LeftBy K named AfterRename I) none left)
    from_last_sync P I (inr (inl failed)) left = torn_rename true I (subst (λ K. LeftBy K named AfterRename I) failed left)
    from_last_sync P I (inr (inr (rest, is, none))) left =
        let at_rest : I ≡ named = subst (λ K. LeftBy K named (λ J. J ≡ named) I) none (subst (λ K. LeftBy K named AfterRename I) is left) in
        subst (IsWhole to bytes R) (sym at_rest) whole_named

    from_rename : (P : List Event) (I : Map) → Goes (rename_call d new_path to ∷ sync_call d ∷ []) P → LeftBy P written (λ J. J ≡ written) I → IsWhole to bytes R I
    from_rename P I (inl none) left = subst (IsWhole to bytes R) (sym (subst (λ K. LeftBy K written (λ J. J ≡ written) I) none left)) whole_written
    from_rename P I (inr (inl failed)) left = torn_rename false I (subst (λ K. LeftBy K written (λ J. J ≡ written) I) failed left)
    from_rename P I (inr (inr (rest, is, goes))) left = from_last_sync rest I goes (subst (λ K. LeftBy K written (λ J. J ≡ written) I) is left)

    from_first_sync : (P : List Event) (I : Map) → Goes (sync_call d ∷ rename_call d new_path to ∷ sync_call d ∷ []) P → LeftBy P written AfterWrite I → Way I
    from_first_sync P I (inl none) left = torn_write true I (subst (λ K. LeftBy K written AfterWrite I) none left)
    from_first_sync P I (inr (inl failed)) left = torn_write true I (subst (λ K. LeftBy K written AfterWrite I) failed left)
    from_first_sync P I (inr (inr (rest, is, goes))) left = (R, s, from_rename rest I goes (subst (λ K. LeftBy K written AfterWrite I) is left))

    pub way : (P : List Event) (I : Map) → Goes (publish_calls d to bytes) P → LeftBy P R S I → Way I
    way P I (inl none) left = (I, subst (λ K. LeftBy K R S I) none left, same I I refl)
    way P I (inr (inl failed)) left = torn_write false I (subst (λ K. LeftBy K R S I) failed left)
    way P I (inr (inr (rest, is, goes))) left = from_first_sync rest I goes (subst (λ K. LeftBy K R S I) is left)

pub publish_leaves : (d : ℕ) (to bytes : List ℕ) → to ≢ new_path → (ok : Bool) (old new : World) → Tried d (publish_calls d to bytes) ok old new → Leaves d NoScratch (IsWhole to bytes) old new
publish_leaves d to bytes differ ok old new t = record {
  any_moment = λ m before since rest honest absent now I left.
      let s = since_made t.went before (since ++ rest) honest.events now in
      let goes = front_goes (publish_calls d to bytes) ok (since ++ rest) since rest s.such refl in
      let mine = calls_all d since (AllOn-front (Only (Drive d)) since rest s.on) in
      let R = reads m before d in
      way d to bytes differ R absent (Left m before d) (reads_left m before d) since I goes (subst (λ K. LeftBy K R (Left m before d) I) mine (left_any m before since d I left));
}

pub publish_rests : (d : ℕ) (to bytes : List ℕ) → to ≢ new_path → (ok : Bool) (old new : World) → Tried d (publish_calls d to bytes) ok old new → Rests d NoScratch (IsThere to bytes) ok old new
publish_rests d to bytes differ ok old new t = record {
  done = λ y m before all honest absent now.
      let s = told_since t.went before all honest.events now in
      let R = reads m before d in
      let four : s.since ≡ map (λ c. c true) (publish_calls d to bytes) = all_ran (publish_calls d to bytes) s.since (subst (λ b. Ran (publish_calls d to bytes) b s.since) y s.such) in
      let mine : calls_on d s.since ≡ map (λ c. c true) (publish_calls d to bytes) = calls_all d s.since s.on ∙ four in
      let now_is : reads m all d ≡ named d to bytes differ R absent = ap (λ K. reads m K d) s.is ∙ reads-append m before s.since d ∙ ap (replayed R) mine in (
        λ I left.
            let at_rest : I ≡ named d to bytes differ R absent = subst (λ K. LeftBy K R (Left m before d) I) mine (left_any m before s.since d I (subst (λ K. Left m K d I) s.is left)) in
            at_rest ∙ sym now_is,
        subst (IsThere to bytes R) (sym now_is) (there_named d to bytes differ R absent),
      );
}
