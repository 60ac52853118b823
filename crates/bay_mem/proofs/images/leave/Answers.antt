use Rattle.std.proofs.Common.{◌∙◌, sym, subst, ap, length}
use Rattle.bay_core.specs.Torn.{Torn}
use Rattle.bay_mem.proofs.Leaving.{write_leaves, made_torn}
use Rattle.bay_mem.proofs.images.leave.Goals as goal

pub returns-in_ok-write_file-in-Write : goal.returns-in_ok-write_file-in-Write
returns-in_ok-write_file-in-Write c =
    subst (λ e. Torn e c.args.files.now.map c.write_file.new.now.map) (sym c.in-Write.is)
    (write_leaves c.in-Write.d _ c.in-Write.at _ _ c.in-Write.ok _ _ _ (c.in_ok-text-in-Write.ensures ∙ c.as_slice-in-Write.ensures) (ap length c.deref.ensures.value ∙ c.in_ok-bytes-in-Write.ensures ∙ ap length c.as_slice.ensures) (c.in_ok-write_file-in-Write.ensures.ok 0).map)

pub returns-in_ok-make-in_default : goal.returns-in_ok-make-in_default
returns-in_ok-make-in_default c = made_torn _ _ _ c.in_ok-make-in_default.ensures
