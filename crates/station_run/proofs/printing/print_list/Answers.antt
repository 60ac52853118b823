use Rattle.std.proofs.Common.{[], ◌∷◌, map, length, sym, ◌∙◌, ap}
use Rattle.mhl_writer.specs.ListText.{values_of}
use Rattle.report_text.specs.Line.{entries_text}
use Rattle.station_run.specs.Table.{row_of}
use Rattle.last_lines.proofs.Said.{told_as, untold_as}
use Rattle.station_run.proofs.Tables.{told_table, untold_creator, untold_rows, untold_count}
use Rattle.station_run.proofs.printing.print_list.Goals as goal

pub returns-in-Err : goal.returns-in-Err
returns-in-Err g c = untold_creator (values_of c.args.list.now) (untold_as _ _ c.creator_rows.ensures.text c.in-Err.ensures)

pub returns-in-Err-say_entries : goal.returns-in-Err-say_entries
returns-in-Err-say_entries g c =
    untold_rows (values_of c.args.list.now) (told_as _ _ c.creator_rows.ensures.text c.in-Ok.ensures) (untold_as _ _ (ap (map row_of) c.deref.ensures.value) c.in-Err-say_entries.ensures)

pub returns-in-Ok-say : goal.returns-in-Ok-say
returns-in-Ok-say g c =
    told_table (values_of c.args.list.now) (told_as _ _ c.creator_rows.ensures.text c.in-Ok.ensures) (told_as _ _ (ap (map row_of) c.deref.ensures.value) c.in-Ok-say_entries.ensures)
    (told_as _ _ (ap (λ n. entries_text n ∷ []) (c.len.ensures ∙ sym c.deref.ensures.len ∙ ap length c.deref.ensures.value)) c.in-Ok-say.ensures)

pub returns-in-Err-say : goal.returns-in-Err-say
returns-in-Err-say g c =
    untold_count (values_of c.args.list.now) (told_as _ _ c.creator_rows.ensures.text c.in-Ok.ensures) (told_as _ _ (ap (map row_of) c.deref.ensures.value) c.in-Ok-say_entries.ensures)
    (untold_as _ _ (ap (λ n. entries_text n ∷ []) (c.len.ensures ∙ sym c.deref.ensures.len ∙ ap length c.deref.ensures.value)) c.in-Err-say.ensures)
