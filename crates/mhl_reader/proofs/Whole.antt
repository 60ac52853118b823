-- The text of a canonical list is UTF-8 without a character that is not allowed.
use Rattle.std.proofs.Common.{◌≡◌, ℕ, ◌^◌, ◌<◌, true, List, [], ◌∷◌, ◌++◌, length, slice_index, Option, Some, None, refl, subst, arith, codes}
use Rattle.std.specs.Prelude.{decimal, IfSome}
use Rattle.std.specs.List.{flat_map, list_all, AllByRecursion}
use Rattle.std.proofs.lemmas.Bool.{and_parts}
use Rattle.std.proofs.lemmas.List.{append-nil}
use Rattle.hex.specs.Hex.{encode_lower}
use Rattle.path_text.specs.Moment.{moment_text}
use Rattle.mhl_writer.specs.Note.{is_note}
use Rattle.mhl_writer.specs.ListText.{escaped, part, line, size_line, modified_line, md5_line, sha1_line, xxh_line, hashed_line, name_line, username_line, hostname_line, tool_line, started_line, finished_line, entry_text, creator_text, first_lines, tail_text, list_text, Values, IsDigest, IsWholeEntry, IsWholeCreator, IsCanonical}
use Rattle.mhl_writer.specs.declared.values.HashEntry.{HashEntry}
use Rattle.mhl_writer.specs.declared.values.Creator.{Creator}
use Rattle.mhl_reader.proofs.Clean.{Sound, sound_nothing, sound_plain, sound_append, sound_escaped, sound_path, sound_note, is_plain, plain_small}
use Rattle.mhl_reader.proofs.Told.{IsMoment, IsNote, if_there, IsSigns, number_signs, digest_signs, moment_signs}

-- sound bytes that begin with a byte of ASCII, if there is one: they may stand behind sound ones
record Firm (bytes : List ℕ) : Type 0 where
  sound : Sound bytes
  begins : slice_index bytes 0 < 128

firm_append : (xs ys : List ℕ) → Firm xs → Firm ys → Firm (xs ++ ys)
firm_append [] ys h k = k
firm_append (x ∷ xs) ys h k = record { sound = sound_append (x ∷ xs) ys h.sound k.sound k.begins; begins = h.begins }

sound_all_plain : (xs : List ℕ) → list_all is_plain xs ≡ true → Sound xs
sound_all_plain xs h = subst Sound (append-nil xs) (sound_plain xs [] h sound_nothing)

firm_plain : (xs : List ℕ) → list_all is_plain xs ≡ true → Firm xs
firm_plain [] h = record { sound = sound_nothing; begins = omega arith }
firm_plain (x ∷ xs) h = record { sound = sound_all_plain (x ∷ xs) h; begins = plain_small x (and_parts (is_plain x) (list_all is_plain xs) h).0 }

-- a line, whose opening is not empty
firm_line : (opening text closing : List ℕ) → list_all is_plain opening ≡ true → 0 < length opening → list_all is_plain closing ≡ true → Sound text → Firm (line opening text closing)
firm_line [] text closing h l k s = absurd (omega arith)
firm_line (b ∷ opening) text closing h l k s =
    let close = firm_plain closing k in
    record {
      sound = sound_plain (b ∷ opening) (text ++ closing) h (sound_append text closing s close.sound close.begins);
      begins = plain_small b (and_parts (is_plain b) (list_all is_plain opening) h).0;
    }

firm_part : {A : Type 0} (Good : A → Type 0) (line_of : A → List ℕ) (o : Option A) → ((x : A) → Good x → Firm (line_of x)) → IfSome o Good → Firm (part line_of o)
firm_part IsNote line_of None lines h = firm_plain [] refl
firm_part IsNote line_of (Some x) lines h = lines x h

signs_sound : (t : List ℕ) → IsSigns t → Sound t
signs_sound t h = sound_all_plain t h.plain

-- ---- an entry

firm_entry : (e : HashEntry) → IsWholeEntry e → Firm (entry_text e)
unfolding entry_text
firm_entry e h =
    let file = firm_line (codes "    <file>") (escaped e.path) (codes "</file>\n") refl (omega arith) refl (sound_escaped e.path (sound_path e.path h.path)) in
    let size = firm_part (λ n. n < 2 ^ 64) size_line e.size (λ n l. firm_line (codes "    <size>") (decimal n) (codes "</size>\n") refl (omega arith) refl (signs_sound (decimal n) (number_signs n l))) (if_there (λ n. n < 2 ^ 64) e.size h.size) in
    let modified = firm_part IsMoment modified_line e.modified (λ t l. firm_line (codes "    <lastmodificationdate>") (moment_text t) (codes "</lastmodificationdate>\n") refl (omega arith) refl (signs_sound (moment_text t) (moment_signs t))) (if_there IsMoment e.modified h.modified) in
    let md5 = firm_part (IsDigest 16) md5_line e.md5 (λ d good. firm_line (codes "    <md5>") (encode_lower d) (codes "</md5>\n") refl (omega arith) refl (signs_sound (encode_lower d) (digest_signs 16 d good))) h.md5 in
    let sha1 = firm_part (IsDigest 20) sha1_line e.sha1 (λ d good. firm_line (codes "    <sha1>") (encode_lower d) (codes "</sha1>\n") refl (omega arith) refl (signs_sound (encode_lower d) (digest_signs 20 d good))) h.sha1 in
    let xxh = firm_part (IsDigest 8) xxh_line e.xxh (λ d good. firm_line (codes "    <xxhash64be>") (encode_lower d) (codes "</xxhash64be>\n") refl (omega arith) refl (signs_sound (encode_lower d) (digest_signs 8 d good))) h.xxh in
    let hashed = firm_part IsMoment hashed_line e.hashed (λ t l. firm_line (codes "    <hashdate>") (moment_text t) (codes "</hashdate>\n") refl (omega arith) refl (signs_sound (moment_text t) (moment_signs t))) (if_there IsMoment e.hashed h.hashed) in
    firm_append _ _ (firm_plain (codes "  <hash>\n") refl) (firm_append _ _ file (firm_append _ _ size (firm_append _ _ modified (firm_append _ _ md5 (firm_append _ _ sha1 (firm_append _ _ xxh (firm_append _ _ hashed (firm_plain (codes "  </hash>\n") refl))))))))

firm_entries : (es : List HashEntry) → AllByRecursion IsWholeEntry es → Firm (flat_map entry_text es)
firm_entries [] h = firm_plain [] refl
firm_entries (e ∷ es) h = firm_append (entry_text e) (flat_map entry_text es) (firm_entry e h.0) (firm_entries es h.1)

-- ---- the creator, and the whole

firm_creator : (c : Creator) → IsWholeCreator c → Firm (creator_text c)
unfolding creator_text
firm_creator c h =
    let note = λ (t : List ℕ) (good : is_note t ≡ true). sound_escaped t (sound_note t good) in
    let name = firm_part IsNote name_line c.name (λ t good. firm_line (codes "    <name>") (escaped t) (codes "</name>\n") refl (omega arith) refl (note t good)) (if_there IsNote c.name h.name) in
    let username = firm_part IsNote username_line c.username (λ t good. firm_line (codes "    <username>") (escaped t) (codes "</username>\n") refl (omega arith) refl (note t good)) (if_there IsNote c.username h.username) in
    let hostname = firm_part IsNote hostname_line c.hostname (λ t good. firm_line (codes "    <hostname>") (escaped t) (codes "</hostname>\n") refl (omega arith) refl (note t good)) (if_there IsNote c.hostname h.hostname) in
    let tool = firm_part IsNote tool_line c.tool (λ t good. firm_line (codes "    <tool>") (escaped t) (codes "</tool>\n") refl (omega arith) refl (note t good)) (if_there IsNote c.tool h.tool) in
    let started = firm_part IsMoment started_line c.started (λ t l. firm_line (codes "    <startdate>") (moment_text t) (codes "</startdate>\n") refl (omega arith) refl (signs_sound (moment_text t) (moment_signs t))) (if_there IsMoment c.started h.started) in
    let finished = firm_part IsMoment finished_line c.finished (λ t l. firm_line (codes "    <finishdate>") (moment_text t) (codes "</finishdate>\n") refl (omega arith) refl (signs_sound (moment_text t) (moment_signs t))) (if_there IsMoment c.finished h.finished) in
    firm_append _ _ (firm_plain (codes "  <creatorinfo>\n") refl) (firm_append _ _ name (firm_append _ _ username (firm_append _ _ hostname (firm_append _ _ tool (firm_append _ _ started (firm_append _ _ finished (firm_plain (codes "  </creatorinfo>\n") refl)))))))

pub sound_list : (l : Values) → IsCanonical l → Sound (list_text l)
sound_list l h =
    let head = firm_append first_lines (creator_text l.creator) (firm_plain first_lines refl) (firm_creator l.creator h.creator) in
    let rest = firm_append (flat_map entry_text l.entries) tail_text (firm_entries l.entries h.entries) (firm_plain tail_text refl) in
    (firm_append (first_lines ++ creator_text l.creator) (flat_map entry_text l.entries ++ tail_text) head rest).sound
