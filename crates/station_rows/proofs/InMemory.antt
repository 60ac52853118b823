-- A verification in a bay in memory that was made with the files of one place.
use Rattle.std.proofs.Common.{◌≡◌, ℕ, true, List, [], ◌∷◌, refl, ap, subst}
use Rattle.std.specs.Prelude.{Some, codes}
use Rattle.bay_mem.specs.Files.{Files}
use Rattle.bay_mem.specs.Failing.{BayState, new_bay, seeing}
use Rattle.bay_mem.specs.State.{with_place, made_with, told_events, world_of}
use Rattle.station_run.specs.Verify.{IsOfVerdict, ReportOn}
use Rattle.station_run.specs.Station.{Ran}
use Rattle.station_run.proofs.Placed.{place_verified, verify_only, no_offload}

-- a new bay with these files at a place
abbrev pub made_of : List ℕ → Files → BayState
made_of place files = seeing new_bay (with_place new_bay.seen (record { name = place; files = files }))

verified_there : (files : Files) (list : List ℕ) (result : ℕ) (after : BayState) → Ran (codes "verify" ∷ list ∷ codes "D" ∷ []) result (world_of (made_of (codes "D") files).seen) (world_of after.seen)
    → after.seen.told ≡ true → IsOfVerdict result → ReportOn files.map list result (Some []) after.seen.events
verified_there files list result after ran told is =
    place_verified list (codes "D") result (world_of (made_of (codes "D") files).seen) (world_of after.seen) (made_with (made_of (codes "D") files).seen.fixed) files.map [] after.seen.events refl
    (ap (λ b. told_events b after.seen.events) told) refl refl tt refl (codes "verify" ∷ list ∷ codes "D" ∷ []) (verify_only list (codes "D")) (no_offload list (codes "D")) refl ran is

pub memory_verified : (files : Files) (list : List ℕ) (words : List (List ℕ)) (result : ℕ) (bay after : BayState) → bay ≡ made_of (codes "D") files → words ≡ codes "verify" ∷ list ∷ codes "D" ∷ []
    → Ran words result (world_of bay.seen) (world_of after.seen) → after.seen.told ≡ true → IsOfVerdict result → ReportOn files.map list result (Some []) after.seen.events
memory_verified files list words result bay after made asked ran =
    verified_there files list result after (subst (λ (w : List (List ℕ)). Ran w result (world_of (made_of (codes "D") files).seen) (world_of after.seen)) asked (subst (λ (b : BayState). Ran words result (world_of b.seen) (world_of after.seen)) made ran))
