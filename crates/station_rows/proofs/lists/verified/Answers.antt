use Rattle.std.proofs.Common.{◌∙◌, ap, List, ℕ, [], ◌∷◌, ◌++◌, codes}
use Rattle.bay_mem.specs.Failing.{BayState, seeing}
use Rattle.bay_mem.specs.State.{with_place}
use Rattle.station_rows.proofs.InMemory.{memory_verified}
use Rattle.station_rows.proofs.lists.verified.Goals as goal

pub returns : goal.returns
returns c =
    memory_verified c.args.files (codes "x.mhl") c.push-3.new.self c.station-status.result c.add_drive.new.self c.station-status.new.bay
    (c.in_ok-add_drive.ensures.ok ∙ ap (λ (b : BayState). seeing b (with_place b.seen (record { name = codes "D"; files = c.args.files }))) c.new-bay.ensures)
    (c.in_ok-push-3.ensures.ok ∙ ap (λ (l : List (List ℕ)). l ++ codes "D" ∷ []) (c.in_ok-push-2.ensures.ok ∙ ap (λ (l : List (List ℕ)). l ++ codes "x.mhl" ∷ []) (c.in_ok-push.ensures.ok ∙ ap (λ (l : List (List ℕ)). l ++ codes "verify" ∷ []) c.new-words.ensures)))
    c.station-status.ensures.ran
