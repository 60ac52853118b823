-- The last lines of a run: they announce nothing, and no call on a drive is among them.
use Rattle.std.proofs.Common.{◌≡◌, inl, inr, ℕ, Bool, false, List, [], ◌∷◌, ◌++◌, refl, sym, ap, subst}
use Rattle.std.specs.Prelude.{codes, decimal}
use Rattle.std.specs.List.{AllByRecursion}
use Rattle.bay_core.specs.declared.event.Event.{Event}
use Rattle.bay_core.specs.declared.event.Event.TheVariants.{Say}
use Rattle.bay_core.specs.Looks.{says}
use Rattle.bay_core.specs.Replay.{Output}
use Rattle.bay_core.specs.Went.{AllOn, Only, MaySee}
use Rattle.bay_core.specs.World.{World}
use Rattle.crash_law.specs.Lines.{AllLines}
use Rattle.crash_law.proofs.Lines.{AllLines-append}
use Rattle.report_text.specs.Fields.{cause_fields}
use Rattle.card_inventory.specs.declared.error.InventoryError.{InventoryError}
use Rattle.card_inventory.specs.declared.error.InventoryError.TheVariants.{SourceFailed, EmptyCard, TooManyFiles, BadPath, BadDate, TooManyBytes, Control, TooBig, Clash as FilesClash, Memory as CardMemory}
use Rattle.fresh_opening.specs.declared.error.FreshError.{FreshError}
use Rattle.fresh_opening.specs.declared.error.FreshError.TheVariants.{Inventory, NotAJournal, AlreadyBegun, NoDrive, Clash, Occupied, OutFailed as LineFailed, Memory}
use Rattle.last_lines.specs.Ends.{EndCalls, Ended}
use Rattle.last_lines.specs.Said.{BrokeOff}
use Rattle.job_story.specs.Ends.{JobEnd, Sealed, Dropped, Refused, CardUnattached, DriveUnattached, CardFailed, CardChanged, OutFailed, NoMemory, listing_lines, refusal_lines, last_of}
use Rattle.job_steps.proofs.Plain.{IsPlain, OtherWord, plain_word, f_apart, m_apart, r_apart, w_apart}
use Rattle.job_steps.proofs.Quiet.{IsQuiet, output_untouched}
use Rattle.job_steps.proofs.Told.{Tells, tells_such, tells_went}

module _ (other : OtherWord) where
  abbrev ArePlain : List (List ℕ) → Type 0
  ArePlain lines = AllByRecursion IsPlain lines

  listing_plain : (e : InventoryError) → ArePlain (listing_lines e)
  listing_plain EmptyCard = (plain_word other (codes "refused emptycard") [] r_apart, tt)
  listing_plain (TooManyFiles count) = (plain_word other (codes "refused toomanyfiles") (decimal count ∷ []) r_apart, tt)
  listing_plain (BadPath index cause) = (plain_word other (codes "refused badpath") (decimal index ∷ cause_fields cause) r_apart, tt)
  listing_plain (BadDate path) = (plain_word other (codes "refused baddate") (path ∷ []) r_apart, tt)
  listing_plain (TooManyBytes sum) = (plain_word other (codes "refused toomanybytes") (decimal sum ∷ []) r_apart, tt)
  listing_plain (Control path) = (plain_word other (codes "refused control") (path ∷ []) r_apart, tt)
  listing_plain (TooBig path) = (plain_word other (codes "refused toobig") (path ∷ []) r_apart, tt)
  listing_plain (FilesClash first second) = (plain_word other (codes "refused clash") (first ∷ []) r_apart, (plain_word other (codes "with") (second ∷ []) w_apart, tt))
  listing_plain SourceFailed = tt
  listing_plain CardMemory = tt

  refusal_plain : (e : FreshError) → ArePlain (refusal_lines e)
  refusal_plain (Inventory e) = listing_plain e
  refusal_plain (NotAJournal d at) = (plain_word other (codes "refused notajournal") (decimal d ∷ decimal at ∷ []) r_apart, tt)
  refusal_plain (AlreadyBegun d) = (plain_word other (codes "refused begun") (decimal d ∷ []) r_apart, tt)
  refusal_plain (Clash list path) = (plain_word other (codes "refused clash") (list ∷ []) r_apart, (plain_word other (codes "with") (path ∷ []) w_apart, tt))
  refusal_plain (Occupied d path) = (plain_word other (codes "refused occupied") (decimal d ∷ path ∷ []) r_apart, tt)
  refusal_plain NoDrive = tt
  refusal_plain LineFailed = tt
  refusal_plain Memory = tt

  last_plain : (end : JobEnd) → ArePlain (last_of end).lines
  last_plain Sealed = tt
  last_plain Dropped = tt
  last_plain (Refused e) = refusal_plain e
  last_plain CardUnattached = (plain_word other (codes "failed attach card") [] f_apart, tt)
  last_plain (DriveUnattached d) = (plain_word other (codes "failed attach drive") (decimal d ∷ []) f_apart, tt)
  last_plain CardFailed = (plain_word other (codes "failed card") [] f_apart, tt)
  last_plain (CardChanged listed read path) = (plain_word other (codes "failed card changed") (decimal listed ∷ decimal read ∷ path ∷ []) f_apart, tt)
  last_plain OutFailed = tt
  last_plain NoMemory = (plain_word other (codes "memory") [] m_apart, tt)

  -- ---- the calls that say them

  said_plain : (lines : List (List ℕ)) → ArePlain lines → AllLines IsPlain (says lines)
  unfolding AllLines
  said_plain [] each = tt
  said_plain (line ∷ lines) each = (each.0, said_plain lines each.1)

  first_lines : (first : List (List ℕ)) (next : List ℕ) (rest : List (List ℕ)) → ArePlain (first ++ next ∷ rest) → ArePlain first × IsPlain next
  first_lines [] next rest each = (tt, each.0)
  first_lines (line ∷ first) next rest each = let more = first_lines first next rest each.1 in ((each.0, more.0), more.1)

  unsaid_plain : (line : List ℕ) (L : List Event) → IsPlain line → MaySee (Say line false) L → AllLines IsPlain L
  unfolding AllLines
  unsaid_plain line L plain (inl is) = subst (AllLines IsPlain) (sym is) tt
  unsaid_plain line L plain (inr is) = subst (AllLines IsPlain) (sym is) (plain, tt)

  broke_plain : (lines : List (List ℕ)) (L : List Event) → ArePlain lines → BrokeOff lines L → AllLines IsPlain L
  broke_plain lines L each b =
      let parts = first_lines b.first b.next b.rest (subst ArePlain b.lines_are each) in
      subst (AllLines IsPlain) (sym b.calls_are) (AllLines-append IsPlain (says b.first) b.last (said_plain b.first parts.0) (unsaid_plain b.next b.last parts.1 b.failed))

  end_plain : (end : JobEnd) (result : ℕ) (L : List Event) → EndCalls (last_of end) result L → AllLines IsPlain L
  end_plain end result L (inl said) = subst (AllLines IsPlain) (sym said.0) (said_plain (last_of end).lines (last_plain end))
  end_plain end result L (inr broke) = broke_plain (last_of end).lines L (last_plain end) broke.0

  -- the last lines of a run
  pub last_calls : (end : JobEnd) (result : ℕ) (old new : World) → Ended (last_of end) result old new → Tells (λ L. IsQuiet L × AllOn (Only Output) L) old new
  last_calls end result old new e = tells_such (λ L both. (record { untouched = output_untouched L both.0; plain = end_plain end result L both.1 }, both.0)) (tells_went e.went)
