use Rattle.std.proofs.Common.{◌++◌, codes, ◌∙◌}
use Rattle.mhl_writer.specs.ListText.{part, first_lines, name_line, username_line, hostname_line, tool_line, started_line, finished_line, creator_text, creator_of, head_text}
use Rattle.mhl_writer.proofs.Texts.{begun, goes_on}
use Rattle.mhl_writer.proofs.parts.part_head.Goals as goal

pub returns-clause-text : goal.returns-clause-text
unfolding creator_text
returns-clause-text c =
    let h = creator_of c.args.head.now in
    let whole = head_text h in
    let end = codes "  </creatorinfo>\n" in
    let from_finished = part finished_line h.finished ++ end in
    let from_started = part started_line h.started ++ from_finished in
    let from_tool = part tool_line h.tool ++ from_started in
    let from_hostname = part hostname_line h.hostname ++ from_tool in
    let from_username = part username_line h.username ++ from_hostname in
    let from_name = part name_line h.name ++ from_username in
    let from_creator = codes "  <creatorinfo>\n" ++ from_name in
    c.push-3.ensures
    ∙ goes_on c.put_moment.new.out c.put_moment-2.new.out (part finished_line h.finished) end whole c.put_moment-2.ensures.text
    (goes_on c.put_note-4.new.out c.put_moment.new.out (part started_line h.started) from_finished whole c.put_moment.ensures.text
    (goes_on c.put_note-3.new.out c.put_note-4.new.out (part tool_line h.tool) from_started whole c.put_note-4.ensures.text
    (goes_on c.put_note-2.new.out c.put_note-3.new.out (part hostname_line h.hostname) from_tool whole c.put_note-3.ensures.text
    (goes_on c.put_note.new.out c.put_note-2.new.out (part username_line h.username) from_hostname whole c.put_note-2.ensures.text
    (goes_on c.push-2.new.self c.put_note.new.out (part name_line h.name) from_username whole c.put_note.ensures.text
    (goes_on c.push.new.self c.push-2.new.self (codes "  <creatorinfo>\n") from_name whole c.push-2.ensures
    (begun c.clear.new.self c.push.new.self first_lines from_creator c.clear.ensures c.push.ensures)))))))
