-- The text of a creator spells that creator.
use Rattle.std.proofs.Common.{◌≡◌, inl, inr, ℕ, List, [], ◌∷◌, ◌++◌, Option, Some, None, refl, sym, ap, subst, append_assoc, codes}
use Rattle.std.specs.Prelude.{IfSome}
use Rattle.path_text.specs.Moment.{moment_text}
use Rattle.mhl_writer.specs.ListText.{escaped, part, name_line, username_line, hostname_line, tool_line, started_line, finished_line, creator_text, IsWholeCreator}
use Rattle.mhl_writer.specs.declared.values.Creator.{Creator}
use Rattle.mhl_reader.specs.declared.found.CreatorLeaf.TheVariants.{Name, Username, Hostname, Tool, Started, Finished}
use Rattle.mhl_reader.specs.declared.found.CreatorLeaves.{CreatorLeaves}
use Rattle.mhl_reader.specs.Leaves.{the_creator, no_creator_leaves, creator_of}
use Rattle.mhl_reader.specs.Grammar.{Found, nothing_found, with_creator}
use Rattle.mhl_reader.proofs.Spelt.{Spells, tag, end_of, spells_nothing, spells_blank, spells_blanks, spells_element}
use Rattle.mhl_reader.proofs.Told.{IsMoment, IsNote, met, kept_met, if_there, date_told, moment_signs, note_told}
use Rattle.mhl_reader.proofs.Lines.{Makes, creator_blank, spells_creator_part}
use Rattle.mhl_reader.proofs.EntryRows.{Lists, list_blank}

-- ---- each line

spells_name : (out k : CreatorLeaves) (o : Option (List ℕ)) (rest : List ℕ) → IfSome o IsNote → Spells (Makes out (record k { name = met o })) rest → Spells (Makes out (record k { name = None })) (part name_line o ++ rest)
spells_name out k o rest = spells_creator_part out Name IsNote (λ t. t) escaped (λ o. record k { name = met o }) o rest refl (λ x g. ap (λ (o : Option (List ℕ)). (let r : CreatorLeaves = record k { name = Some o } in r)) (note_told x g)) (λ x g. refl)

spells_username : (out k : CreatorLeaves) (o : Option (List ℕ)) (rest : List ℕ) → IfSome o IsNote → Spells (Makes out (record k { username = met o })) rest → Spells (Makes out (record k { username = None })) (part username_line o ++ rest)
spells_username out k o rest = spells_creator_part out Username IsNote (λ t. t) escaped (λ o. record k { username = met o }) o rest refl (λ x g. ap (λ (o : Option (List ℕ)). (let r : CreatorLeaves = record k { username = Some o } in r)) (note_told x g)) (λ x g. refl)

spells_hostname : (out k : CreatorLeaves) (o : Option (List ℕ)) (rest : List ℕ) → IfSome o IsNote → Spells (Makes out (record k { hostname = met o })) rest → Spells (Makes out (record k { hostname = None })) (part hostname_line o ++ rest)
spells_hostname out k o rest = spells_creator_part out Hostname IsNote (λ t. t) escaped (λ o. record k { hostname = met o }) o rest refl (λ x g. ap (λ (o : Option (List ℕ)). (let r : CreatorLeaves = record k { hostname = Some o } in r)) (note_told x g)) (λ x g. refl)

spells_tool : (out k : CreatorLeaves) (o : Option (List ℕ)) (rest : List ℕ) → IfSome o IsNote → Spells (Makes out (record k { tool = met o })) rest → Spells (Makes out (record k { tool = None })) (part tool_line o ++ rest)
spells_tool out k o rest = spells_creator_part out Tool IsNote (λ t. t) escaped (λ o. record k { tool = met o }) o rest refl (λ x g. ap (λ (o : Option (List ℕ)). (let r : CreatorLeaves = record k { tool = Some o } in r)) (note_told x g)) (λ x g. refl)

spells_started : (out k : CreatorLeaves) (o : Option ℕ) (rest : List ℕ) → IfSome o IsMoment → Spells (Makes out (record k { started = met o })) rest → Spells (Makes out (record k { started = None })) (part started_line o ++ rest)
spells_started out k o rest = spells_creator_part out Started IsMoment moment_text moment_text (λ o. record k { started = met o }) o rest refl (λ x g. ap (λ (o : Option ℕ). (let r : CreatorLeaves = record k { started = Some o } in r)) (date_told x g)) (λ x g. (moment_signs x).same)

spells_finished : (out k : CreatorLeaves) (o : Option ℕ) (rest : List ℕ) → IfSome o IsMoment → Spells (Makes out (record k { finished = met o })) rest → Spells (Makes out (record k { finished = None })) (part finished_line o ++ rest)
spells_finished out k o rest = spells_creator_part out Finished IsMoment moment_text moment_text (λ o. record k { finished = met o }) o rest refl (λ x g. ap (λ (o : Option ℕ). (let r : CreatorLeaves = record k { finished = Some o } in r)) (date_told x g)) (λ x g. (moment_signs x).same)

-- ---- a creator

-- the leaves with these values
abbrev leaves : Option (List ℕ) → Option (List ℕ) → Option (List ℕ) → Option (List ℕ) → Option ℕ → Option ℕ → CreatorLeaves
leaves name username hostname tool started finished = record { name = met name; username = met username; hostname = met hostname; tool = met tool; started = met started; finished = met finished }

-- the leaves of a creator
abbrev pub leaves_of : Creator → CreatorLeaves
leaves_of c = leaves c.name c.username c.hostname c.tool c.started c.finished

pub creator_again : (c : Creator) → creator_of (Some (leaves_of c)) ≡ c
creator_again c = rw (kept_met c.name, kept_met c.username, kept_met c.hostname, kept_met c.tool, kept_met c.started, kept_met c.finished) refl

-- the lines between the tags
abbrev lines : Creator → List ℕ
lines c = part name_line c.name ++ (part username_line c.username ++ (part hostname_line c.hostname ++ (part tool_line c.tool ++ (part started_line c.started ++ (part finished_line c.finished ++ codes "  ")))))

spells_lines : (c : Creator) → IsWholeCreator c → Spells (Makes (leaves_of c) no_creator_leaves) (lines c)
spells_lines c whole =
    let out = leaves_of c in
    let end = codes "  " in
    let from_finished = part finished_line c.finished ++ end in
    let from_started = part started_line c.started ++ from_finished in
    let from_tool = part tool_line c.tool ++ from_started in
    let from_hostname = part hostname_line c.hostname ++ from_tool in
    let from_username = part username_line c.username ++ from_hostname in
    spells_name out no_creator_leaves c.name from_username (if_there IsNote c.name whole.name)
    (spells_username out (leaves c.name None None None None None) c.username from_hostname (if_there IsNote c.username whole.username)
    (spells_hostname out (leaves c.name c.username None None None None) c.hostname from_tool (if_there IsNote c.hostname whole.hostname)
    (spells_tool out (leaves c.name c.username c.hostname None None None) c.tool from_started (if_there IsNote c.tool whole.tool)
    (spells_started out (leaves c.name c.username c.hostname c.tool None None) c.started from_finished (if_there IsMoment c.started whole.started)
    (spells_finished out (leaves c.name c.username c.hostname c.tool c.started None) c.finished end (if_there IsMoment c.finished whole.finished)
    (spells_blanks (Makes out out) end [] (creator_blank out out) refl (spells_nothing (Makes out out) refl)))))))

regroup : (a b c d e f x y rest : List ℕ) → (a ++ (b ++ (c ++ (d ++ (e ++ (f ++ (x ++ y))))))) ++ rest ≡ (a ++ (b ++ (c ++ (d ++ (e ++ (f ++ x)))))) ++ (y ++ rest)
regroup a b c d e f x y rest = simp append_assoc

creator_layout : (c : Creator) (rest : List ℕ) → creator_text c ++ rest ≡ codes "  " ++ (tag the_creator [] ++ ((10 ∷ lines c) ++ (end_of the_creator ++ 10 ∷ rest)))
unfolding creator_text
creator_layout c rest =
    ap (λ (r : List ℕ). codes "  <creatorinfo>\n" ++ r)
    (regroup (part name_line c.name) (part username_line c.username) (part hostname_line c.hostname) (part tool_line c.tool) (part started_line c.started) (part finished_line c.finished) (codes "  ") (codes "</creatorinfo>\n") rest)

pub spells_creator : (out : Found) (c : Creator) (rest : List ℕ) → IsWholeCreator c → Spells (Lists out (with_creator (leaves_of c) nothing_found)) rest → Spells (Lists out nothing_found) (creator_text c ++ rest)
spells_creator out c rest whole more =
    let P = Makes (leaves_of c) no_creator_leaves in
    let inside : Spells P (10 ∷ lines c) = spells_blank P 10 (lines c) (creator_blank (leaves_of c) no_creator_leaves) refl (spells_lines c whole) in
    let next = with_creator (leaves_of c) nothing_found in
    let Q = Lists out next in
    let after : Spells Q (10 ∷ rest) = spells_blank Q 10 rest (list_blank out next) refl more in
    let R = Lists out nothing_found in
    let whole = spells_element P Q R the_creator [] (10 ∷ lines c) (10 ∷ rest) ((refl, refl), tt, refl) (λ place end c d p q. inr (inl (leaves_of _, refl, p, q))) inside after in
    subst (Spells R) (sym (creator_layout c rest)) (spells_blanks R (codes "  ") (tag the_creator [] ++ ((10 ∷ lines c) ++ (end_of the_creator ++ 10 ∷ rest))) (list_blank out nothing_found) refl whole)
