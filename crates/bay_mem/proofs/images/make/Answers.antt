use Rattle.std.proofs.Common.{◌∙◌}
use Rattle.bay_mem.proofs.Leaving.{write_done}
use Rattle.bay_mem.proofs.images.make.Goals as goal

pub returns-in_ok-text-in-Write : goal.returns-in_ok-text-in-Write
returns-in_ok-text-in-Write c =
    write_done c.write_file.result _ c.in-Write.d c.in-Write.at _ _ c.in-Write.ok _ _ _ _ c.in-Write.is (c.in_ok-text-in-Write.ensures ∙ c.as_slice.ensures) c.as_slice-in-Write.ensures c.write_file.ensures.ok
