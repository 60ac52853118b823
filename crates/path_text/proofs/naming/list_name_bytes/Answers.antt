use Rattle.path_text.proofs.ListNames.{list_name_parts}
use Rattle.path_text.proofs.naming.list_name_bytes.Goals as goal

pub returns-clause-text : goal.returns-clause-text
returns-clause-text c =
    rw (c.in_ok-extend_from_slice-8.ensures.items, c.in_ok-extend_from_slice-7.ensures.items, c.in_ok-extend_from_slice-6.ensures.items, c.in_ok-extend_from_slice-5.ensures.items, c.in_ok-extend_from_slice-4.ensures.items, c.in_ok-extend_from_slice-3.ensures.items, c.in_ok-extend_from_slice-2.ensures.items, c.in_ok-extend_from_slice.ensures.items, c.in_ok-bytes.ensures.items, c.as_bytes-label.ensures.value, c.as_str.ensures.same, c.text-moment.ensures) (list_name_parts c.args.name.now c.args.started)
