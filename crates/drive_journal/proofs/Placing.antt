-- What is left and what is read where a file is placed with its record.
use Rattle.std.proofs.Common.{◌≡◌, ◌≢◌, ◌⊎◌, inl, inr, ℕ, suc, ◌+◌, Bool, true, false, List, [], ◌∷◌, ◌++◌, length, drop, refl, sym, ap, ◌∙◌, subst, arith, append_assoc, length-append}
use Rattle.std.specs.Prelude.{Some, is_some}
use Rattle.std.specs.FinMap.{get, insert, remove}
use Rattle.bay_core.specs.declared.event.Event.{Event}
use Rattle.bay_core.specs.declared.event.Event.TheVariants.{Write, Rename}
use Rattle.bay_core.specs.Map.{Map, content, overwritten, moved}
use Rattle.bay_core.specs.Paths.{journal_path, part_path}
use Rattle.bay_core.specs.Torn.{Torn, TornFile}
use Rattle.bay_core.proofs.Changes.{torn_other}
use Rattle.bay_core.proofs.Crashing.{IsOneOf}
use Rattle.bay_core.proofs.Files.{torn_behind}
use Rattle.bay_core.proofs.Maps.{insert_here, insert_other, remove_here, moved_file, moved_here, moved_other, there_or_none}
use Rattle.drive_journal.specs.declared.record.Rec.{Rec}
use Rattle.drive_journal.specs.Calls.{place_calls}
use Rattle.drive_journal.specs.Record.{record_code, closed_record}
use Rattle.drive_journal.specs.Steps.{HasPart, IsPlacing, IsPlaced}
use Rattle.drive_journal.proofs.Keeping.{content_there, journal_not_part}
use Rattle.drive_journal.proofs.Opening.{written_over}

pub placing_same : (gate : ℕ) (path : List ℕ) (J : Map) → IsPlacing gate path J J
placing_same gate path J = record { journal = λ front b rest is long. (rest, is); others = λ q a b c. refl }

-- the rename of the part, done, torn or failed
part_torn : (gate d : ℕ) (path : List ℕ) (ok : Bool) → path ≢ journal_path → (J K M : Map) → IsPlacing gate path J K → Torn (Rename d part_path path ok) K M → IsPlacing gate path J M
part_torn gate d path ok differ J K M h torn = record {
  journal = λ front b rest is long.
      let was = h.journal front b rest is long in
      (was.0, torn_other (Rename d part_path path ok) K M torn journal_path off ∙ was.1);
  others = λ q part other journal. torn_other (Rename d part_path path ok) K M torn q (λ c. neither q part other c) ∙ h.others q part other journal;
}
  where
    neither : (q : List ℕ) → q ≢ part_path → q ≢ path → (q ≡ part_path) ⊎ (q ≡ path) → ⊥
    neither q part other (inl e) = part e
    neither q part other (inr e) = other e

    off : (journal_path ≡ part_path) ⊎ (journal_path ≡ path) → ⊥
    off (inl e) = journal_not_part e
    off (inr e) = differ (sym e)

-- the write behind the gate, done, torn or failed
behind_torn : (gate d : ℕ) (path piece : List ℕ) (ok : Bool) (J K M : Map) → IsPlacing gate path J K → Torn (Write d journal_path (gate + 1) piece ok) K M → IsPlacing gate path J M
behind_torn gate d path piece ok J K M h (inl same) = subst (IsPlacing gate path J) (sym same) h
behind_torn gate d path piece ok J K M h (inr (c, torn, put)) = record {
  journal = λ front b rest is long.
      let was = h.journal front b rest is long in
      let here = subst (λ (l : List ℕ). TornFile (gate + 1) (length piece) l c) (content_there K _ was.1) torn in
      (drop (suc (length front)) c, ap (λ (m : Map). get m journal_path) put ∙ insert_here K journal_path c ∙ ap Some (torn_behind front b was.0 here (omega (arith, long))));
  others = λ q part other journal. ap (λ (m : Map). get m q) put ∙ insert_other K journal_path c q journal ∙ h.others q part other journal;
}

pub placing_keeps : (d gate : ℕ) (path piece : List ℕ) → path ≢ journal_path → (e : Event) (J K M : Map) → IsOneOf e (place_calls d gate path piece) → IsPlacing gate path J K → Torn e K M → IsPlacing gate path J M
placing_keeps d gate path piece differ e J K M (inl is) h torn = part_torn gate d path true differ J K M h (subst (λ (f : Event). Torn f K M) is torn)
placing_keeps d gate path piece differ e J K M (inr (inl is)) h torn = part_torn gate d path false differ J K M h (subst (λ (f : Event). Torn f K M) is torn)
placing_keeps d gate path piece differ e J K M (inr (inr (inl is))) h torn = behind_torn gate d path piece true J K M h (subst (λ (f : Event). Torn f K M) is torn)
placing_keeps d gate path piece differ e J K M (inr (inr (inr (inl is)))) h torn = behind_torn gate d path piece false J K M h (subst (λ (f : Event). Torn f K M) is torn)
placing_keeps d gate path piece differ e J K M (inr (inr (inr (inr (inl is))))) h torn = subst (IsPlacing gate path J) (sym (subst (λ (f : Event). Torn f K M) is torn)) h
placing_keeps d gate path piece differ e J K M (inr (inr (inr (inr (inr (inl is)))))) h torn = subst (IsPlacing gate path J) (sym (subst (λ (f : Event). Torn f K M) is torn)) h
placing_keeps d gate path piece differ e J K M (inr (inr (inr (inr (inr (inr none)))))) h torn = absurd none

-- a record and a closed gate right behind a gate
record_behind : (front : List ℕ) (b : ℕ) (rest : List ℕ) (rec : Rec) → length (record_code rec) ≡ 64 →
    overwritten (front ++ b ∷ rest) (length front + 1) (closed_record rec) ≡ front ++ b ∷ (record_code rec ++ 0 ∷ drop 65 rest)
record_behind front b rest rec size =
    let head = front ++ b ∷ [] in
    let code = record_code rec in
    let long : length (closed_record rec) ≡ 65 = length-append code (0 ∷ []) ∙ ap (λ (n : ℕ). n + 1) size in
    ap (λ (l : List ℕ). overwritten l (length front + 1) (closed_record rec)) (sym (append_assoc front (b ∷ []) rest))
    ∙ ap (λ (n : ℕ). overwritten (head ++ rest) n (closed_record rec)) (sym (length-append front (b ∷ [])))
    ∙ written_over head rest (closed_record rec)
    ∙ ap (λ (n : ℕ). head ++ (closed_record rec ++ drop n rest)) long
    ∙ ap (λ (l : List ℕ). head ++ l) (append_assoc code (0 ∷ []) (drop 65 rest))
    ∙ append_assoc front (b ∷ []) (code ++ 0 ∷ drop 65 rest)

-- what the calls of a placing make of a drive that has the part
pub placed : (gate : ℕ) (path : List ℕ) (rec : Rec) → path ≢ journal_path → path ≢ part_path → length (record_code rec) ≡ 64 → (R T : Map) → HasPart R →
    T ≡ insert (moved R part_path path) journal_path (overwritten (content (moved R part_path path) journal_path) (gate + 1) (closed_record rec)) → IsPlaced gate path rec R T
placed gate path rec differ other size R T has is = elim (there_or_none (get R part_path)) [
  | inl part ↦ with_part part.0 part.1
  | inr none ↦ absurd (cc (sym (ap is_some none) ∙ has))
]
  where
    between : Map
    between = moved R part_path path

    bytes : List ℕ
    bytes = overwritten (content between journal_path) (gate + 1) (closed_record rec)

    at : (q : List ℕ) → q ≢ journal_path → get T q ≡ get between q
    at q off = ap (λ (m : Map). get m q) is ∙ insert_other between journal_path bytes q off

    journal_kept : get between journal_path ≡ get R journal_path
    journal_kept = moved_other R part_path path journal_path journal_not_part (λ e. differ (sym e))

    with_part : (c : List ℕ) → get R part_path ≡ Some c → IsPlaced gate path rec R T
    with_part c part = record {
      file = at path differ ∙ moved_here R part_path path c part ∙ sym part;
      no_part =
          at part_path (λ e. journal_not_part (sym e)) ∙ ap (λ (m : Map). get m part_path) (moved_file R part_path path c part)
          ∙ insert_other (remove R part_path) path c part_path (λ e. other (sym e)) ∙ remove_here R part_path;
      journal = λ front b rest there long.
          ap (λ (m : Map). get m journal_path) is ∙ insert_here between journal_path bytes
          ∙ ap (λ (l : List ℕ). Some (overwritten l (gate + 1) (closed_record rec))) (content_there between _ (journal_kept ∙ there))
          ∙ ap (λ (n : ℕ). Some (overwritten (front ++ b ∷ rest) (n + 1) (closed_record rec))) (sym long)
          ∙ ap Some (record_behind front b rest rec size);
      others = λ q a b c. at q c ∙ moved_other R part_path path q a b;
    }
