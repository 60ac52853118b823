use Rattle.std.proofs.Common.{◌≡◌, List, ℕ, ◌++◌, codes, ap, ◌∙◌}
use Rattle.mhl_writer.specs.ListText.{part, file_line, size_line, modified_line, md5_line, sha1_line, xxh_line, hashed_line, entry_text, entry_of}
use Rattle.mhl_writer.proofs.Texts.{begun, goes_on}
use Rattle.mhl_writer.proofs.parts.part_entry.Goals as goal

pub returns-clause-text : goal.returns-clause-text
unfolding entry_text
returns-clause-text c =
    let e = entry_of c.args.entry.now in
    let whole = entry_text e in
    let end = codes "  </hash>\n" in
    let from_hashed = part hashed_line e.hashed ++ end in
    let from_xxh = part xxh_line e.xxh ++ from_hashed in
    let from_sha1 = part sha1_line e.sha1 ++ from_xxh in
    let from_md5 = part md5_line e.md5 ++ from_sha1 in
    let from_modified = part modified_line e.modified ++ from_md5 in
    let from_size = part size_line e.size ++ from_modified in
    let from_file = file_line e.path ++ from_size in
    let file : c.put_escaped_line.new.out ≡ c.push.new.self ++ file_line e.path = c.put_escaped_line.ensures.text ∙ ap (λ (t : List ℕ). c.push.new.self ++ file_line t) (c.as_bytes.ensures.value ∙ c.as_str.ensures.same) in
    c.push-2.ensures
    ∙ goes_on c.put_digest_part-3.new.out c.put_moment-2.new.out (part hashed_line e.hashed) end whole c.put_moment-2.ensures.text
    (goes_on c.put_digest_part-2.new.out c.put_digest_part-3.new.out (part xxh_line e.xxh) from_hashed whole c.put_digest_part-3.ensures.text
    (goes_on c.put_digest_part.new.out c.put_digest_part-2.new.out (part sha1_line e.sha1) from_xxh whole c.put_digest_part-2.ensures.text
    (goes_on c.put_moment.new.out c.put_digest_part.new.out (part md5_line e.md5) from_sha1 whole c.put_digest_part.ensures.text
    (goes_on c.put_number.new.out c.put_moment.new.out (part modified_line e.modified) from_md5 whole c.put_moment.ensures.text
    (goes_on c.put_escaped_line.new.out c.put_number.new.out (part size_line e.size) from_modified whole c.put_number.ensures.text
    (goes_on c.push.new.self c.put_escaped_line.new.out (file_line e.path) from_size whole file
    (begun c.clear.new.self c.push.new.self (codes "  <hash>\n") from_file c.clear.ensures c.push.ensures)))))))
