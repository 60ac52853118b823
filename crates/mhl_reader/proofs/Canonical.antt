-- The text of a canonical list reads as that list.
use Rattle.std.proofs.Common.{◌≡◌, ℕ, true, not, eqb, List, [], ◌∷◌, ◌++◌, Some, refl, sym, ap, subst, append_assoc, codes}
use Rattle.std.specs.List.{flat_map, list_all}
use Rattle.std.proofs.lemmas.Bool.{and_parts}
use Rattle.markup.specs.Piece.{Attribute, IsAttribute, EndsFirst}
use Rattle.mhl_writer.specs.ListText.{entry_text, creator_text, first_lines, tail_text, list_text, Values, IsCanonical}
use Rattle.mhl_writer.specs.declared.values.Creator.{Creator}
use Rattle.mhl_reader.specs.Leaves.{the_list}
use Rattle.mhl_reader.specs.Grammar.{Content, Filler, Found, nothing_found, with_creator, Document, values_found}
use Rattle.mhl_reader.specs.Reading.{Reading}
use Rattle.mhl_reader.proofs.Clean.{sound_text}
use Rattle.mhl_reader.proofs.Spelt.{Spells, TakesBlank, tag, end_of, spells_nothing, spells_blank, spells_instruction, spells_element}
use Rattle.mhl_reader.proofs.Whole.{sound_list}
use Rattle.mhl_reader.proofs.EntryRows.{Lists, list_blank, spells_entries}
use Rattle.mhl_reader.proofs.Creators.{leaves_of, creator_again, spells_creator}

-- ---- the document

-- what is found in the text of a list
abbrev found_in : Values → Found
found_in l = record { creator = Some (leaves_of l.creator); entries = l.entries }

found_again : (l : Values) → values_found (found_in l) ≡ l
found_again l = ap (λ (c : Creator). (let v : Values = record { creator = c; entries = l.entries } in v)) (creator_again l.creator)

-- the attribute of the first tag
abbrev the_version : Attribute
the_version = record { first_space = 32; space = []; name = codes "version"; left = []; right = []; quote = 34; value = codes "1.1" }

-- the text of the first instruction
abbrev the_xml : List ℕ
the_xml = codes "xml version=\"1.0\" encoding=\"UTF-8\""

question_apart : (b : ℕ) (bs rest : List ℕ) → not (eqb b 63) ≡ true → (b ∷ bs) ++ codes "?>" ≡ codes "?>" ++ rest → ⊥
question_apart b bs rest h e = cc

no_question : (t : List ℕ) → list_all (λ b. not (eqb b 63)) t ≡ true → EndsFirst (codes "?>") t
no_question [] h = tt
no_question (b ∷ t) h =
    let g = and_parts (not (eqb b 63)) (list_all (λ b. not (eqb b 63)) t) h in
    (λ rest e. question_apart b t rest g.0 e, no_question t g.1)

-- the text between the tags of the list
abbrev inside_list : Values → List ℕ
inside_list l = 10 ∷ (creator_text l.creator ++ flat_map entry_text l.entries)

spells_inside : (l : Values) → IsCanonical l → Spells (Lists (found_in l) nothing_found) (inside_list l)
spells_inside l h =
    let out = found_in l in
    let next = with_creator (leaves_of l.creator) nothing_found in
    let entries = spells_entries l.entries out next refl refl h.entries h.distinct h.few in
    spells_blank (Lists out nothing_found) 10 (creator_text l.creator ++ flat_map entry_text l.entries) (list_blank out nothing_found) refl (spells_creator out l.creator (flat_map entry_text l.entries) h.creator entries)

-- a document in which this was found
abbrev Documents : Found → Content → Type 0
Documents out c = Document c out

parted : (a c e z : List ℕ) → (a ++ c) ++ (e ++ z) ≡ a ++ ((c ++ e) ++ z)
parted a c e z = simp append_assoc

spells_document : (l : Values) → IsCanonical l → Spells (Documents (found_in l)) (list_text l)
spells_document l h =
    let out = found_in l in
    let D = Documents out in
    let blank : TakesBlank D = λ place bytes c b p. (b, p) in
    let filler : TakesBlank Filler = λ place bytes c b p. (b, p) in
    let after : Spells Filler (10 ∷ []) = spells_blank Filler 10 [] filler refl (spells_nothing Filler tt) in
    let version : IsAttribute the_version = record { first_space = refl; space = refl; name = (refl, refl); left = refl; right = refl; quote = refl; value = refl } in
    let list = spells_element (Lists out nothing_found) Filler D the_list (the_version ∷ []) (inside_list l) (10 ∷ []) ((refl, refl), (version, tt), refl) (λ place end c d p q. (refl, refl, p, q)) (spells_inside l h) after in
    let all = tag the_list (the_version ∷ []) ++ (inside_list l ++ (end_of the_list ++ 10 ∷ [])) in
    let whole = spells_instruction D D the_xml (10 ∷ all) (no_question the_xml refl) (λ place c p. p) (spells_blank D 10 all blank refl list) in
    subst (Spells D) (sym (parted first_lines (creator_text l.creator) (flat_map entry_text l.entries) tail_text)) whole

-- the text of a canonical list reads as that list
pub canonical_reads : (l : Values) → IsCanonical l → Reading (list_text l) l
canonical_reads l h =
    let (content, spelt, document) = spells_document l h 0 in
    record {
      is_text = sound_text (list_text l) (sound_list l h);
      pieces = spelt.pieces;
      each = spelt.each;
      whole = spelt.whole;
      content = content;
      nested = spelt.nested;
      found = found_in l;
      document = document;
      meaning = found_again l;
    }
