-- What a steady card listed in a run are its files.
use Rattle.std.proofs.Common.{◌≡◌, ◌≢◌, inl, inr, ℕ, List, [], ◌∷◌, ◌++◌, length, refl, sym, ap, ◌∙◌, subst}
use Rattle.std.specs.Prelude.{Some, None, Result, Ok, Err}
use Rattle.bay_core.specs.declared.event.Event.{Event}
use Rattle.bay_core.specs.declared.event.Event.TheVariants.{SourceList}
use Rattle.bay_core.specs.declared.event.FileInfo.{FileInfo}
use Rattle.bay_core.specs.Map.{Map, Dates, Lists}
use Rattle.bay_core.specs.Went.{MaySee}
use Rattle.bay_core.specs.World.{World, Attached}
use Rattle.card_inventory.specs.declared.error.InventoryError.{InventoryError}
use Rattle.card_inventory.specs.declared.error.InventoryError.TheVariants.{SourceFailed, EmptyCard, TooManyFiles, BadPath, BadDate, TooManyBytes, Control, TooBig, Clash as FilesClash, Memory as CardMemory}
use Rattle.card_inventory.specs.Card.{IsListed as CardListed, CardGives}
use Rattle.drive_journal.specs.declared.order.Order.{Order}
use Rattle.fresh_opening.specs.declared.error.FreshError.{FreshError}
use Rattle.fresh_opening.specs.declared.error.FreshError.TheVariants.{Inventory, NotAJournal, AlreadyBegun, NoDrive, Clash, Occupied, OutFailed as LineFailed, Memory}
use Rattle.fresh_opening.specs.Openings.{FreshOpens, FreshLooks}
use Rattle.command_words.specs.Jobs.{Job}
use Rattle.job_story.specs.Ends.{JobEnd, NoMemory, opening_end}
use Rattle.job_story.specs.Plans.{IsCardListing, IsListed}
use Rattle.job_story.specs.Run.{Run, IsSteady, run_with}
use Rattle.job_story.specs.Story.{asked_by}
use Rattle.job_calls.specs.Calls.{job_attaches}
use Rattle.job_calls.proofs.Parts.{Parts, halted, opened, ran}
use Rattle.job_calls.proofs.Told.{tells_went, tells_such, since_then}
use Rattle.job_refusals.specs.Sighted.{ListsItsFiles}
use Rattle.job_refusals.proofs.Firsts.{attaches_quiet, lines_quiet, halted_quiet, quiet_unlisted, each_append, AreUnlisted, none_such, first_one}
use Rattle.job_refusals.proofs.Refusing.{card_refused}
use Rattle.job_refusals.proofs.Scenes.{looked_told}

-- behind the attaches of a run its card was listed
pub record CardSaid (job : Job) (since : List Event) (mid : World) : Type 0 where
  pub listed : List FileInfo
  pub behind : List Event
  pub is : since ≡ job_attaches job ++ (SourceList 0 (Some listed) ∷ behind)
  pub late : World
  pub said : CardListed 0 listed mid late

unseen_unlisted : (L : List Event) → MaySee (SourceList 0 None) L → AreUnlisted L
unseen_unlisted L (inl none) = subst AreUnlisted (sym none) tt
unseen_unlisted L (inr one) = subst AreUnlisted (sym one) ((λ is. is), tt)

module _ (job : Job) (end : JobEnd) (result : ℕ) (past since : List Event) (old new : World) where
  abbrev run : Run
  run = run_with job old new since

  -- ---- where it was listed

  module _ (mid late : World) (opening more : List Event) (was : mid.events ≡ Some (past ++ job_attaches job)) (now : late.events ≡ Some ((past ++ job_attaches job) ++ opening)) (is : since ≡ job_attaches job ++ (opening ++ more)) where
    pub looked_said : (came : Result Order FreshError) → FreshLooks 0 (length job.drives) job.copies (asked_by job.task) came mid late → CardSaid job since mid
    looked_said came l =
        let t = since_then (looked_told job came mid late l) (past ++ job_attaches job) opening was now in
        record { listed = l.card.0; behind = (t.looks ++ (t.asked ++ t.ends)) ++ more; is = is ∙ ap (λ (k : List Event). job_attaches job ++ (k ++ more)) t.is; late = l.listed; said = l.card.1 }

    pub unlisted_said : (e : InventoryError) → e ≢ SourceFailed → e ≢ CardMemory → CardGives 0 (Err e) mid late → CardSaid job since mid
    unlisted_said e there known g =
        let r = card_refused e mid late there known g in
        let one : opening ≡ SourceList 0 (Some r.listed) ∷ [] = since_then (tells_such (λ L both. both.1) (tells_went r.is.called.went)) (past ++ job_attaches job) opening was now in
        record { listed = r.listed; behind = more; is = is ∙ ap (λ (k : List Event). job_attaches job ++ (k ++ more)) one; late = late; said = r.is }

    pub failed_unlisted : AreUnlisted more → CardGives 0 (Err SourceFailed) mid late → AreUnlisted since
    failed_unlisted rest g =
        let seen : MaySee (SourceList 0 None) opening = since_then (tells_such (λ L both. both.1) (tells_went g.went)) (past ++ job_attaches job) opening was now in
        subst AreUnlisted (sym is)
        (each_append (λ e. IsCardListing e → ⊥) (job_attaches job) (opening ++ more) (quiet_unlisted (job_attaches job) (attaches_quiet job))
        (each_append (λ e. IsCardListing e → ⊥) opening more (unseen_unlisted opening seen) rest))

  -- ---- and what it listed

  module _ (card : Map) (dates : Dates) (steady : IsSteady run card dates) (listed : List FileInfo) (listing : IsListed since listed) where
    never : AreUnlisted since → Lists card dates listed
    never none = absurd (none_such IsCardListing since listing.before listing.after (SourceList 0 (Some listed)) none listing.is listing.such)

    pub said_true : (mid : World) → new.attached ≡ mid.attached → CardSaid job since mid → Lists card dates listed
    said_true mid same s =
        let first = first_one IsCardListing (job_attaches job) s.behind listing.before listing.after (SourceList 0 (Some s.listed)) (SourceList 0 (Some listed)) (sym s.is ∙ listing.is)
        (quiet_unlisted (job_attaches job) (attaches_quiet job)) listing.none tt listing.such in
        let call : SourceList 0 (Some s.listed) ≡ SourceList 0 (Some listed) = first.0 in
        let one : s.listed ≡ listed = cc call in
        subst (λ (k : List FileInfo). Lists card dates k) one
        (subst (λ (t : Dates). Lists card t s.listed) (ap (λ (x : Attached). x.card_dates 0) (sym same) ∙ steady.dated)
        (s.said.steady card (record { steady = ap (λ (x : Attached). x.steady 0) (sym same) ∙ steady.steady; card = ap (λ (x : Attached). x.card 0) (sym same) ∙ steady.has })))

    opened_true : (f : FreshError) (mid late : World) (opening last : List Event) → mid.events ≡ Some (past ++ job_attaches job) → late.events ≡ Some ((past ++ job_attaches job) ++ opening) → since ≡ job_attaches job ++ (opening ++ last)
        → opening_end f ≢ NoMemory → AreUnlisted last → new.attached ≡ mid.attached → FreshOpens 0 (length job.drives) job.copies (asked_by job.task) (Err f) mid late → Lists card dates listed
    opened_true (Inventory SourceFailed) mid late opening last was now is known rest same o = never (failed_unlisted mid late opening last was now is rest o.1)
    opened_true (Inventory CardMemory) mid late opening last was now is known rest same o = absurd (known refl)
    opened_true (Inventory EmptyCard) mid late opening last was now is known rest same o = said_true mid same (unlisted_said mid late opening last was now is EmptyCard (λ e. absurd (cc e)) o.0 o.1)
    opened_true (Inventory (TooManyFiles n)) mid late opening last was now is known rest same o = said_true mid same (unlisted_said mid late opening last was now is (TooManyFiles n) (λ e. absurd (cc e)) o.0 o.1)
    opened_true (Inventory (BadPath n cause)) mid late opening last was now is known rest same o = said_true mid same (unlisted_said mid late opening last was now is (BadPath n cause) (λ e. absurd (cc e)) o.0 o.1)
    opened_true (Inventory (BadDate path)) mid late opening last was now is known rest same o = said_true mid same (unlisted_said mid late opening last was now is (BadDate path) (λ e. absurd (cc e)) o.0 o.1)
    opened_true (Inventory (TooManyBytes n)) mid late opening last was now is known rest same o = said_true mid same (unlisted_said mid late opening last was now is (TooManyBytes n) (λ e. absurd (cc e)) o.0 o.1)
    opened_true (Inventory (Control path)) mid late opening last was now is known rest same o = said_true mid same (unlisted_said mid late opening last was now is (Control path) (λ e. absurd (cc e)) o.0 o.1)
    opened_true (Inventory (TooBig path)) mid late opening last was now is known rest same o = said_true mid same (unlisted_said mid late opening last was now is (TooBig path) (λ e. absurd (cc e)) o.0 o.1)
    opened_true (Inventory (FilesClash a b)) mid late opening last was now is known rest same o = said_true mid same (unlisted_said mid late opening last was now is (FilesClash a b) (λ e. absurd (cc e)) o.0 o.1)
    opened_true (NotAJournal d at) mid late opening last was now is known rest same o = said_true mid same (looked_said mid late opening last was now is (Err (NotAJournal d at)) o)
    opened_true (AlreadyBegun d) mid late opening last was now is known rest same o = said_true mid same (looked_said mid late opening last was now is (Err (AlreadyBegun d)) o)
    opened_true (Clash list path) mid late opening last was now is known rest same o = said_true mid same (looked_said mid late opening last was now is (Err (Clash list path)) o)
    opened_true (Occupied d path) mid late opening last was now is known rest same o = said_true mid same (looked_said mid late opening last was now is (Err (Occupied d path)) o)
    opened_true NoDrive mid late opening last was now is known rest same o = said_true mid same (looked_said mid late opening last was now is (Err NoDrive) o)
    opened_true LineFailed mid late opening last was now is known rest same o = said_true mid same (looked_said mid late opening last was now is (Err LineFailed) o)
    opened_true Memory mid late opening last was now is known rest same o = absurd (known refl)

    listed_true : end ≢ NoMemory → Parts job end result past since old new → Lists card dates listed
    listed_true known (halted s there) = never (quiet_unlisted since (halted_quiet job end result since s))
    listed_true known (opened (Ok order) mid late opening last ends b o lasts same is) = absurd (known ends)
    listed_true known (opened (Err f) mid late opening last ends b o lasts same is) =
        opened_true f mid late opening last o.was o.now is (λ wanting. known (ends ∙ wanting)) (quiet_unlisted last (lines_quiet last lasts.on)) (same ∙ o.opens.untouched.attached) o.opens.opens
    listed_true known (ran order mid late done opening turning last b o t lasts same is) =
        said_true mid (same ∙ t.same ∙ o.opens.untouched.attached) (looked_said mid late opening (turning ++ last) o.was o.now is (Ok order) o.opens.opens)

  pub lists_its_files : Parts job end result past since old new → ListsItsFiles run end
  lists_its_files parts card dates steady known listed listing = listed_true card dates steady listed listing known parts
