-- The parts of a list, and where each stands in its text.
use Rattle.std.proofs.Common.{◌≡◌, inl, inr, ℕ, zero, suc, ◌+◌, ◌<◌, List, [], ◌∷◌, ◌++◌, length, map, take, drop, refl, sym, ap, ◌∙◌, arith, append_assoc, append-nil, length-append, add-one}
use Rattle.std.specs.Prelude.{slice_index_or, Some}
use Rattle.std.proofs.lemmas.Bool.{cases_eq}
use Rattle.std.specs.List.{flat_map, slice_get}
use Rattle.std.proofs.lemmas.List.{length-map, take_all}
use Rattle.mhl_writer.specs.declared.values.HashEntry.{HashEntry}
use Rattle.mhl_writer.specs.ListText.{entry_text, tail_text, head_text}
use Rattle.path_text.specs.declared.kinds.Kinds.{Kinds}
use Rattle.copy_plan.specs.declared.file.PlannedFile.{PlannedFile}
use Rattle.copy_plan.specs.Plan.{PlanValue}
use Rattle.drive_journal.specs.declared.record.Rec.{Rec}
use Rattle.offload_law.specs.Sealing.{sealed_entry, sealed_entries, sealed_creator, plan_list_text}
use Rattle.seal_step.specs.Parts.{list_parts, joined}

joined_entries : (es : List HashEntry) (tail : List ℕ) → joined (map entry_text es ++ tail ∷ []) ≡ flat_map entry_text es ++ tail
joined_entries [] tail = append-nil tail
joined_entries (e ∷ es) tail = ap (λ (t : List ℕ). entry_text e ++ t) (joined_entries es tail) ∙ sym (append_assoc (entry_text e) (flat_map entry_text es) tail)

-- the parts are those of the one text
pub joined_is_text : (p : PlanValue) (recs : List Rec) (finish : ℕ) → joined (list_parts p recs finish) ≡ plan_list_text p recs finish
unfolding list_parts plan_list_text
joined_is_text p recs finish = ap (λ (t : List ℕ). head_text (sealed_creator p finish) ++ t) (joined_entries (sealed_entries p.kinds p.files recs) tail_text)

-- there is a text
pub some_text : (p : PlanValue) (recs : List Rec) (finish : ℕ) → 0 < length (joined (list_parts p recs finish))
unfolding list_parts
some_text p recs finish = omega arith

length_entries : (kinds : Kinds) (files : List PlannedFile) (recs : List Rec) → length recs ≡ length files → length (sealed_entries kinds files recs) ≡ length files
unfolding sealed_entries
length_entries kinds [] recs same = refl
length_entries kinds (f ∷ files) [] same = absurd (omega (arith, same))
length_entries kinds (f ∷ files) (r ∷ recs) same = ap suc (length_entries kinds files recs (omega (arith, same)))

-- how many parts there are
pub length-list_parts : (p : PlanValue) (recs : List Rec) (finish : ℕ) → length recs ≡ length p.files → length (list_parts p recs finish) ≡ length p.files + 2
unfolding list_parts
length-list_parts p recs finish same =
    let entries = sealed_entries p.kinds p.files recs in
    omega (arith, length-append (map entry_text entries) (tail_text ∷ []), length-map entries entry_text, length_entries p.kinds p.files recs same)

-- the first is the head
pub part_first : (p : PlanValue) (recs : List Rec) (finish : ℕ) → slice_index_or (list_parts p recs finish) 0 [] ≡ head_text (sealed_creator p finish)
unfolding list_parts
part_first p recs finish = refl

entry_at : (kinds : Kinds) (files : List PlannedFile) (recs : List Rec) (rest : List (List ℕ)) (k : ℕ) (f : PlannedFile) (r : Rec) → slice_get files k ≡ Some f → slice_get recs k ≡ Some r
    → slice_index_or (map entry_text (sealed_entries kinds files recs) ++ rest) k [] ≡ entry_text (sealed_entry kinds f r)
unfolding sealed_entries
entry_at kinds [] recs rest k f r file rec = absurd (cc file)
entry_at kinds (g ∷ files) [] rest k f r file rec = absurd (cc rec)
entry_at kinds (g ∷ files) (s ∷ recs) rest zero f r file rec =
    let same : g ≡ f = cc file in
    let mate : s ≡ r = cc rec in
    λ i. entry_text (sealed_entry kinds (same i) (mate i))
entry_at kinds (g ∷ files) (s ∷ recs) rest (suc k) f r file rec = entry_at kinds files recs rest k f r file rec

-- then comes the entry of each file
pub part_entry_at : (p : PlanValue) (recs : List Rec) (finish k : ℕ) (f : PlannedFile) (r : Rec) → slice_get p.files k ≡ Some f → slice_get recs k ≡ Some r → slice_index_or (list_parts p recs finish) (suc k) [] ≡ entry_text (sealed_entry p.kinds f r)
unfolding list_parts
part_entry_at p recs finish k f r file rec = entry_at p.kinds p.files recs (tail_text ∷ []) k f r file rec

tail_at : (kinds : Kinds) (files : List PlannedFile) (recs : List Rec) → length recs ≡ length files → slice_index_or (map entry_text (sealed_entries kinds files recs) ++ tail_text ∷ []) (length files) [] ≡ tail_text
unfolding sealed_entries
tail_at kinds [] recs same = refl
tail_at kinds (f ∷ files) [] same = absurd (omega (arith, same))
tail_at kinds (f ∷ files) (r ∷ recs) same = tail_at kinds files recs (omega (arith, same))

-- and the tail
pub part_last : (p : PlanValue) (recs : List Rec) (finish : ℕ) → length recs ≡ length p.files → slice_index_or (list_parts p recs finish) (suc (length p.files)) [] ≡ tail_text
unfolding list_parts
part_last p recs finish same = tail_at p.kinds p.files recs same

-- ---- parts one behind another

pub joined-append : (A B : List (List ℕ)) → joined (A ++ B) ≡ joined A ++ joined B
joined-append [] B = refl
joined-append (x ∷ A) B = ap (λ (t : List ℕ). x ++ t) (joined-append A B) ∙ sym (append_assoc x (joined A) (joined B))

-- a part behind those before it
pub joined_more : (A : List (List ℕ)) (part : List ℕ) → joined (A ++ part ∷ []) ≡ joined A ++ part
joined_more A part = joined-append A (part ∷ []) ∙ ap (λ (t : List ℕ). joined A ++ t) (append-nil part)

take_front : (front rest : List ℕ) → take (length front) (front ++ rest) ≡ front
take_front [] rest = refl
take_front (x ∷ front) rest = ap (λ (t : List ℕ). x ∷ t) (take_front front rest)

drop_front : (front rest : List ℕ) → drop (length front) (front ++ rest) ≡ rest
drop_front [] rest = refl
drop_front (x ∷ front) rest = drop_front front rest

-- the part with a number stands behind those before it
pub split_at : (ps : List (List ℕ)) (k : ℕ) → k < length ps → joined ps ≡ joined (take k ps) ++ (slice_index_or ps k [] ++ joined (drop (suc k) ps))
split_at [] k in_it = absurd (omega (arith, in_it))
split_at (p ∷ ps) zero in_it = refl
split_at (p ∷ ps) (suc k) in_it = ap (λ (t : List ℕ). p ++ t) (split_at ps k (omega (arith, in_it))) ∙ sym (append_assoc p (joined (take k ps)) (slice_index_or ps k [] ++ joined (drop (suc k) ps)))

pub part_stands : (ps : List (List ℕ)) (k : ℕ) → k < length ps → slice_index_or ps k [] ≡ take (length (slice_index_or ps k [])) (drop (length (joined (take k ps))) (joined ps))
part_stands ps k in_it =
    let front = joined (take k ps) in
    let part = slice_index_or ps k [] in
    let rest = joined (drop (suc k) ps) in
    sym (ap (λ (t : List ℕ). take (length part) (drop (length front) t)) (split_at ps k in_it) ∙ ap (take (length part)) (drop_front front (part ++ rest)) ∙ take_front part rest)

-- the same of a part that is known by its place
pub stands_here : (ps : List (List ℕ)) (k at : ℕ) (part : List ℕ) → k < length ps → at ≡ length (joined (take k ps)) → part ≡ slice_index_or ps k [] → part ≡ take (length part) (drop at (joined ps))
stands_here ps k at part in_it here is = is ∙ part_stands ps k in_it ∙ sym (λ i. take (length (is i)) (drop (here i) (joined ps)))

-- one part more
pub take_more : (ps : List (List ℕ)) (k : ℕ) → k < length ps → take (suc k) ps ≡ take k ps ++ slice_index_or ps k [] ∷ []
take_more [] k in_it = absurd (omega (arith, in_it))
take_more (p ∷ ps) zero in_it = refl
take_more (p ∷ ps) (suc k) in_it = ap (λ (t : List (List ℕ)). p ∷ t) (take_more ps k (omega (arith, in_it)))

pub joined_next : (ps : List (List ℕ)) (k : ℕ) → k < length ps → length (joined (take (k + 1) ps)) ≡ length (joined (take k ps)) + length (slice_index_or ps k [])
joined_next ps k in_it =
    ap (λ n. length (joined (take n ps))) (add-one k) ∙ ap (λ (t : List (List ℕ)). length (joined t)) (take_more ps k in_it) ∙ ap (λ (t : List ℕ). length t) (joined_more (take k ps) (slice_index_or ps k [])) ∙ length-append (joined (take k ps)) (slice_index_or ps k [])

-- ---- no part is empty

some_at : (es : List HashEntry) (k : ℕ) → k < length (map entry_text es ++ tail_text ∷ []) → 0 < length (slice_index_or (map entry_text es ++ tail_text ∷ []) k [])
unfolding entry_text
some_at [] zero in_it = omega arith
some_at [] (suc k) in_it = absurd (omega (arith, in_it))
some_at (e ∷ es) zero in_it = omega arith
some_at (e ∷ es) (suc k) in_it = some_at es k (omega (arith, in_it))

pub some_part : (p : PlanValue) (recs : List Rec) (finish k : ℕ) → k < length (list_parts p recs finish) → 0 < length (slice_index_or (list_parts p recs finish) k [])
unfolding list_parts
some_part p recs finish zero in_it = omega arith
some_part p recs finish (suc k) in_it = some_at (sealed_entries p.kinds p.files recs) k (omega (arith, in_it))

-- behind a part that does not end the text there is another
pub part_behind : (ps : List (List ℕ)) (k : ℕ) → k < length ps → length (joined (take k ps)) + length (slice_index_or ps k []) < length (joined ps) → k + 1 < length ps
part_behind ps k in_it more =
    let next = joined_next ps k in_it in
    elim (cases_eq (k + 1) (length ps)) [
      | inl last ↦ let end = ap (λ (l : List (List ℕ)). length (joined l)) (take_all (k + 1) ps (omega (arith, last))) in absurd (omega (arith, next, end, more))
      | inr differ ↦ omega (arith, differ, in_it)
    ]
