use Rattle.std.proofs.Common.{◌≡◌, ◌++◌, take}
use Rattle.std.specs.List.{flat_map}
use Rattle.mhl_writer.specs.ListText.{head_text, entry_text}
use Rattle.mhl_writer.proofs.writing.write_list.Given as goal

abbrev pub invariant-loop-entry : goal.invariant-loop-entry
invariant-loop-entry l = l.text.items ≡ head_text l.list.creator ++ flat_map entry_text (take l.entry-index l.list.entries.items)
