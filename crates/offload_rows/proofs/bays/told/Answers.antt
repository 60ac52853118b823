use Rattle.offload_rows.proofs.bays.told.Goals as goal

pub returns : goal.returns
returns c = c.few_drives_are_attached.ensures _ _ _ _ c.station-status.ensures.ran c.requires.drives
