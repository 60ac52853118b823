-- The cause of a name that is no path has a text: it is not want of memory.
use Rattle.std.proofs.Common.{◌≡◌, ℕ, zero, suc, ◌+◌, Bool, true, false, cond, List, length}
use Rattle.std.specs.Prelude.{◌==◌, Option, Some, None, Err, slice_index, nat_lt}
use Rattle.std.specs.Option.{option_or}
use Rattle.bay_core.specs.World.{World}
use Rattle.path_text.specs.declared.path.PathError.{PathError}
use Rattle.path_text.specs.declared.path.PathError.TheVariants.{Empty, TooLong, Absolute, BadChar, EmptyPart, DotPart, Memory as NoText}
use Rattle.path_text.specs.Path.{is_empty_part, is_dot_part, offence_at, refusal_of}
use Rattle.path_text.specs.Places.{first_below, is_refused}
use Rattle.report_text.specs.Fields.{IsCause}
use Rattle.card_inventory.specs.Card.{CardGives}
use Rattle.card_inventory.specs.declared.error.InventoryError.{InventoryError}
use Rattle.card_inventory.specs.declared.error.InventoryError.TheVariants.{SourceFailed, EmptyCard, TooManyFiles, BadPath, BadDate, TooManyBytes, Control, TooBig, Clash as FilesClash, Memory as CardMemory}
use Rattle.fresh_opening.specs.declared.error.FreshError.{FreshError}
use Rattle.fresh_opening.specs.declared.error.FreshError.TheVariants.{Inventory, NotAJournal, AlreadyBegun, NoDrive, Clash, Occupied, OutFailed, Memory}
use Rattle.fresh_opening.specs.Openings.{Asked, FreshOpens}
use Rattle.job_run.specs.Asked.{HasText, CanBeSaid}

-- an offence in a text is never want of memory
not_at : (text : List ℕ) (k : ℕ) → offence_at text k ≡ Some NoText → ⊥
not_at text k is = by (is_refused text k) (is_empty_part text k) (is_dot_part text k) is
  where
    by : (a b c : Bool) → cond a (Some (BadChar k)) (cond b (Some (EmptyPart k)) (cond c (Some (DotPart k)) None)) ≡ Some NoText → ⊥
    by true b c e = cc e
    by false true c e = cc e
    by false false true e = cc e
    by false false false e = cc e

not_after : (o p : Option PathError) → (o ≡ Some NoText → ⊥) → (p ≡ Some NoText → ⊥) → option_or o p ≡ Some NoText → ⊥
not_after None p first next e = next e
not_after (Some x) p first next e = first e

not_below : (f : ℕ → Option PathError) → ((k : ℕ) → f k ≡ Some NoText → ⊥) → (n : ℕ) → first_below f n ≡ Some NoText → ⊥
unfolding first_below
not_below f none zero is = cc is
not_below f none (suc n) is = not_after (first_below f n) (f n) (not_below f none n) (none n) is

not_of : (text : List ℕ) → refusal_of text ≡ Some NoText → ⊥
unfolding refusal_of
not_of text is = by (length text == 0) (nat_lt 1024 (length text)) (slice_index text 0 == 47) is
  where
    by : (a b c : Bool) → cond a (Some Empty) (cond b (Some (TooLong (length text))) (cond c (Some Absolute) (first_below (offence_at text) (length text + 1)))) ≡ Some NoText → ⊥
    by true b c e = cc e
    by false true c e = cc e
    by false false true e = cc e
    by false false false e = not_below (offence_at text) (not_at text) (length text + 1) e

is_cause : (text : List ℕ) (cause : PathError) → refusal_of text ≡ Some cause → IsCause cause
is_cause text Empty is = tt
is_cause text (TooLong len) is = tt
is_cause text Absolute is = tt
is_cause text (BadChar at) is = tt
is_cause text (EmptyPart at) is = tt
is_cause text (DotPart at) is = tt
is_cause text NoText is = not_of text is

-- what a card gives in place of its inventory has a text
has_text : (source : ℕ) (e : InventoryError) (old new : World) → CardGives source (Err e) old new → HasText e
has_text source SourceFailed old new gives = tt
has_text source EmptyCard old new gives = tt
has_text source (TooManyFiles count) old new gives = tt
has_text source (BadPath index cause) old new gives = let first = gives.2.1 in is_cause first.file.path cause first.fault.1
has_text source (BadDate path) old new gives = tt
has_text source (TooManyBytes sum) old new gives = tt
has_text source (Control path) old new gives = tt
has_text source (TooBig path) old new gives = tt
has_text source (FilesClash first second) old new gives = tt
has_text source CardMemory old new gives = tt

-- and so has what an opening gives in place of an order
pub can_be_said : (source count copies : ℕ) (a : Asked) (e : FreshError) (old new : World) → FreshOpens source count copies a (Err e) old new → CanBeSaid e
can_be_said source count copies a (Inventory e) old new opens = has_text source e old new opens.1
can_be_said source count copies a (NotAJournal d at) old new opens = tt
can_be_said source count copies a (AlreadyBegun d) old new opens = tt
can_be_said source count copies a NoDrive old new opens = tt
can_be_said source count copies a (Clash list path) old new opens = tt
can_be_said source count copies a (Occupied d path) old new opens = tt
can_be_said source count copies a OutFailed old new opens = tt
can_be_said source count copies a Memory old new opens = tt
