-- What is left and what is read where a gate is opened.
use Rattle.std.proofs.Common.{◌≡◌, inl, inr, ℕ, ◌+◌, ◌-◌, Bool, true, false, List, [], ◌∷◌, ◌++◌, length, get_or, drop, replicate, refl, sym, ap, ◌∙◌, subst, arith, append_assoc, append-nil, length-append}
use Rattle.std.specs.Prelude.{Some}
use Rattle.std.specs.FinMap.{get, insert}
use Rattle.std.proofs.lemmas.List.{take_at}
use Rattle.std.proofs.Math.Seq.{drop-append-add}
use Rattle.bay_core.specs.declared.event.Event.{Event}
use Rattle.bay_core.specs.declared.event.Event.TheVariants.{Write}
use Rattle.bay_core.specs.Map.{Map, content, overwritten}
use Rattle.bay_core.specs.Paths.{journal_path}
use Rattle.bay_core.specs.Torn.{Torn, TornFile}
use Rattle.bay_core.proofs.Crashing.{IsOneOf}
use Rattle.bay_core.proofs.Files.{overwritten_is, torn_byte}
use Rattle.bay_core.proofs.Maps.{insert_here, insert_other}
use Rattle.drive_journal.specs.Calls.{open_calls}
use Rattle.drive_journal.specs.Steps.{IsOpening, IsOpened}
use Rattle.drive_journal.proofs.Keeping.{content_there}

pub opening_same : (gate : ℕ) (J : Map) → IsOpening gate J J
opening_same gate J = record { journal = λ front b rest is long. (b, is); others = λ q off. refl }

-- the write of the gate's byte, done, torn or failed
gate_torn : (gate d : ℕ) (ok : Bool) (J K M : Map) → IsOpening gate J K → Torn (Write d journal_path gate (1 ∷ []) ok) K M → IsOpening gate J M
gate_torn gate d ok J K M h (inl same) = subst (IsOpening gate J) (sym same) h
gate_torn gate d ok J K M h (inr (c, torn, put)) = record {
  journal = λ front b rest is long.
      let was = h.journal front b rest is long in
      let here : TornFile (length front) 1 (front ++ was.0 ∷ rest) c = subst (λ (n : ℕ). TornFile n 1 (front ++ was.0 ∷ rest) c) (sym long) (subst (λ (l : List ℕ). TornFile gate 1 l c) (content_there K _ was.1) torn) in
      (get_or c (length front) 0, ap (λ (m : Map). get m journal_path) put ∙ insert_here K journal_path c ∙ ap Some (torn_byte front was.0 rest here));
  others = λ q off. ap (λ (m : Map). get m q) put ∙ insert_other K journal_path c q off ∙ h.others q off;
}

pub opening_keeps : (d gate : ℕ) (e : Event) (J K M : Map) → IsOneOf e (open_calls d gate) → IsOpening gate J K → Torn e K M → IsOpening gate J M
opening_keeps d gate e J K M (inl is) h torn = gate_torn gate d true J K M h (subst (λ (f : Event). Torn f K M) is torn)
opening_keeps d gate e J K M (inr (inl is)) h torn = gate_torn gate d false J K M h (subst (λ (f : Event). Torn f K M) is torn)
opening_keeps d gate e J K M (inr (inr (inl is))) h torn = subst (IsOpening gate J) (sym (subst (λ (f : Event). Torn f K M) is torn)) h
opening_keeps d gate e J K M (inr (inr (inr (inl is)))) h torn = subst (IsOpening gate J) (sym (subst (λ (f : Event). Torn f K M) is torn)) h
opening_keeps d gate e J K M (inr (inr (inr (inr none)))) h torn = absurd none

-- a piece over the bytes behind a front
pub written_over : (front rest piece : List ℕ) → overwritten (front ++ rest) (length front) piece ≡ front ++ (piece ++ drop (length piece) rest)
written_over front rest piece =
    let old = front ++ rest in
    let at = length front in
    let tail = drop (at + length piece) old in
    let gap : at - length old ≡ 0 = omega (arith, length-append front rest) in
    overwritten_is old at piece
    ∙ ap (λ (l : List ℕ). l ++ replicate (at - length old) 0 ++ piece ++ tail) (take_at front rest at refl)
    ∙ ap (λ (n : ℕ). front ++ replicate n 0 ++ piece ++ tail) gap
    ∙ ap (λ (l : List ℕ). l ++ piece ++ tail) (append-nil front)
    ∙ append_assoc front piece tail
    ∙ ap (λ (l : List ℕ). front ++ (piece ++ l)) (drop-append-add front rest (length piece))

pub opened : (gate : ℕ) (R T : Map) → T ≡ insert R journal_path (overwritten (content R journal_path) gate (1 ∷ [])) → IsOpened gate R T
opened gate R T is = record {
  journal = λ front b rest there long.
      ap (λ (m : Map). get m journal_path) is ∙ insert_here R journal_path _
      ∙ ap (λ (l : List ℕ). Some (overwritten l gate (1 ∷ []))) (content_there R _ there)
      ∙ ap (λ (n : ℕ). Some (overwritten (front ++ b ∷ rest) n (1 ∷ []))) (sym long)
      ∙ ap Some (written_over front (b ∷ rest) (1 ∷ []));
  others = λ q off. ap (λ (m : Map). get m q) is ∙ insert_other R journal_path _ q off;
}
